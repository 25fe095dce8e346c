-- The jobs that are still to come, one by one: a link of the tick, else the tick's unit job, else the bait.
use Rattle.std.proofs.Common.{◌≡◌, ℕ, zero, suc, ◌+◌, ◌-◌, ◌≤◌, ◌<◌, List, [], ◌∷◌, ◌++◌, cond, eqb, refl, ap, ◌∙◌}
use Rattle.std.proofs.Common.{arith, filter, flat_map, sum, eq-eqb, ne_eqb}
use Rattle.std.specs.List.{range_with_len, AllByRecursion}
use Rattle.std.proofs.lemmas.List.Sums.{sum_by-cons}
use Rattle.dover_model.specs.Common.{Fraction, JobFacts, chain_from, tight_job, chain_jobs_from, most_light}
use Rattle.stated_jobs.specs.bait.Baiting.{jobs_from}

-- the jobs of a list that are released at a tick
abbrev pub at : List JobFacts → ℕ → List JobFacts
at xs t = filter (λ j. eqb j.release t) xs

-- the jobs of a tick before the bait's
abbrev pub of_tick : ℕ → List JobFacts → ℕ → List JobFacts
of_tick unit xs t = at xs t ++ tight_job t 1 unit ∷ []

-- all are released after the tick
abbrev pub AreAfter : ℕ → List JobFacts → Type 0
AreAfter t xs = AllByRecursion (λ j. t < j.release) xs

-- none is released at a tick before all
none_at : (t : ℕ) (xs : List JobFacts) → AreAfter t xs → at xs t ≡ []
none_at t [] later = refl
none_at t (j ∷ xs) later = ap (λ b. cond b (j ∷ at xs t) (at xs t)) (ne_eqb j.release t (other j.release later.0))
    ∙ none_at t xs later.1 where
      other : (r : ℕ) → t < r → r ≡ t → ⊥
      other r less same = omega arith

-- one that is released at the tick is the first
pub one_at : (t : ℕ) (j : JobFacts) (xs : List JobFacts) → j.release ≡ t → at (j ∷ xs) t ≡ j ∷ at xs t
one_at t j xs same = ap (λ b. cond b (j ∷ at xs t) (at xs t)) (eq-eqb j.release t same)

-- and at a later tick it isn't
pub not_at : (t : ℕ) (j : JobFacts) (xs : List JobFacts) → j.release < t → at (j ∷ xs) t ≡ at xs t
not_at t j xs before = ap (λ b. cond b (j ∷ at xs t) (at xs t)) (ne_eqb j.release t (other j.release before)) where
  other : (r : ℕ) → r < t → r ≡ t → ⊥
  other r less same = omega arith

-- nor at many later ticks
not_later : (unit : ℕ) (j : JobFacts) (xs : List JobFacts) (t n : ℕ) → j.release < t
    → flat_map (of_tick unit (j ∷ xs)) (range_with_len t n) ≡ flat_map (of_tick unit xs) (range_with_len t n)
not_later unit j xs t zero before = refl
not_later unit j xs t (suc n) before = cc (not_at t j xs before, not_later unit j xs (t + 1) n (omega arith))

-- a link of the present tick comes first
pub link_first : (unit bait b : ℕ) (j : JobFacts) (xs : List JobFacts) (t n : ℕ) → j.release ≡ t → t + n ≡ b
    → jobs_from unit bait b (j ∷ xs) t n ≡ j ∷ jobs_from unit bait b xs t n
link_first unit bait b j xs t zero here end = ap (λ ys. ys ++ tight_job b bait 1 ∷ []) (one_at b j xs (omega arith))
link_first unit bait b j xs t (suc n) here end = cc
    (one_at t j xs here, not_later unit j xs (t + 1) n (omega arith), not_at b j xs (omega arith))

-- where no link is left in the tick, the unit job is next
pub unit_next : (unit bait b : ℕ) (xs : List JobFacts) (t n : ℕ) → AreAfter t xs
    → jobs_from unit bait b xs t (suc n) ≡ tight_job t 1 unit ∷ jobs_from unit bait b xs (t + 1) n
unit_next unit bait b xs t n later =
    ap (λ ys. (((ys ++ tight_job t 1 unit ∷ []) ++ flat_map (of_tick unit xs) (range_with_len (t + 1) n)) ++ at xs b)
    ++ tight_job b bait 1 ∷ []) (none_at t xs later)

-- and at the bait's tick the bait is
pub bait_last : (unit bait b : ℕ) (xs : List JobFacts) → AreAfter b xs
    → jobs_from unit bait b xs b 0 ≡ tight_job b bait 1 ∷ []
bait_last unit bait b xs later = ap (λ ys. ys ++ tight_job b bait 1 ∷ []) (none_at b xs later)

-- ---- the links

-- each link is worth something
abbrev pub AreSome : List ℕ → Type 0
AreSome ws = AllByRecursion (λ w. 1 ≤ w) ws

pub are_some : (k : Fraction) (links w : ℕ) → 1 ≤ w → AreSome (chain_from k links w)
are_some k zero w some = tt
are_some k (suc links) w some = (some, are_some k links (suc (most_light k w)) (omega arith))

-- a link whose next is not in this tick has all others after it
pub are_after : (t r : ℕ) (ws : List ℕ) → AreSome ws → t < r → AreAfter t (chain_jobs_from r ws)
are_after t r [] some later = tt
are_after t r (w ∷ ws) some later = (later, are_after t (r + w - 1) ws some.1 (up w some.0)) where
  up : (w : ℕ) → 1 ≤ w → t < r + w - 1
  up w some = omega arith

-- links of at least one sum to at least their number
pub sum_least : (k : Fraction) (links w : ℕ) → 1 ≤ w → links ≤ sum (chain_from k links w)
sum_least k zero w some = omega arith
sum_least k (suc links) w some =
    rise w (sum (chain_from k links (suc (most_light k w)))) (sum (chain_from k (suc links) w)) some
    (sum_least k links (suc (most_light k w)) (omega arith))
    (sum_by-cons (λ x. x) w (chain_from k links (suc (most_light k w)))) where
      rise : (w rest all : ℕ) → 1 ≤ w → links ≤ rest → all ≡ w + rest → suc links ≤ all
      rise w rest all some low is = omega arith
