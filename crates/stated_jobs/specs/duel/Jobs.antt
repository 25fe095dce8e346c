-- The jobs of a duel: links, each with small jobs beside it.
use Rattle.std.specs.Prelude.{ℕ, zero, suc, ◌+◌, ◌-◌, ◌*◌, ◌/◌, List, [], ◌∷◌, ◌++◌, min, max, Bool, true, false}
use Rattle.std.specs.Prelude.{nat_lt}
use Rattle.dover_model.specs.Common.{most_jobs, Fraction, JobFacts, tight_job}
use Rattle.dover_model.specs.declared.events.Version.TheVariants.{One}
use Rattle.stated_jobs.specs.duel.Links.{next_link, staying, leaving}

-- small jobs one behind the other from a tick on, of these works
abbrev pub smalls : (p t : ℕ) → List ℕ → List JobFacts
smalls p t [] = []
smalls p t (g ∷ gs) = tight_job t g p ∷ smalls p (t + g) gs

-- so many ticks in pieces of this size, of which the last may be smaller
abbrev pub pieces_for : (fuel size ticks : ℕ) → List ℕ
pieces_for zero size ticks = []
pieces_for (suc fuel) size zero = []
pieces_for (suc fuel) size (suc ticks) =
    min size (suc ticks) ∷ pieces_for fuel size (suc ticks - min size (suc ticks))

abbrev pub pieces : (size ticks : ℕ) → List ℕ
pieces size ticks = pieces_for ticks size ticks

-- the work of a small job beside a link: the most that doesn't pay against leaving the link, but at least one tick
abbrev pub small_work : Fraction → (whole part : ℕ) → ℕ × ℕ → ℕ
small_work k whole part l = max 1 ((leaving k part l - 1) / (whole * k.p))

-- staying with this link is a loss without a further one
abbrev pub is_last : Fraction → (whole part : ℕ) → ℕ × ℕ → Bool
is_last k whole part l = nat_lt (staying k whole l) (leaving k part l)

-- A link, and unless it is the last one its small jobs, up to its last tick, in which the next link comes; at most so
-- many links more.
unfoldable pub jobs_of_links : Fraction → (whole part : ℕ) → (more : ℕ) → ℕ × ℕ → List JobFacts
jobs_of_links k whole part zero l = tight_job l.0 l.1 k.q ∷ []
jobs_of_links k whole part (suc more) l = tight_job l.0 l.1 k.q ∷ elim (is_last k whole part l) [
  | true ↦ []
  | false ↦ smalls k.p l.0 (pieces (small_work k whole part l) (l.1 - 1))
      ++ jobs_of_links k whole part more (next_link k whole part l)
]

-- the first link, beside which one tick of a small job doesn't pay
abbrev pub first_link : Fraction → (whole part : ℕ) → ℕ × ℕ
first_link k whole part = (0, whole * k.p / (part * k.q) + 1)

-- The jobs of the duel for a share part/whole. Where the links don't end soon enough these are more jobs than a feed
-- of version One may have.
abbrev pub duel_jobs : Fraction → (whole part : ℕ) → List JobFacts
duel_jobs k whole part = jobs_of_links k whole part (most_jobs One) (first_link k whole part)
