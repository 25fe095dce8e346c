-- The jobs that are given, one by one.
use Rattle.std.proofs.Common.{◌≡◌, ℕ, zero, suc, ◌+◌, ◌-◌, ◌*◌, ◌/◌, ◌≤◌, ◌<◌, List, [], ◌∷◌, ◌++◌, cond, refl, ap}
use Rattle.std.proofs.Common.{subst, ◌∙◌, arith, Bool, true, false, Fits, min}
use Rattle.std.specs.Int.{w128}
use Rattle.std.proofs.lemmas.Nat.{mul-le, div_below}
use Rattle.dover_model.specs.Common.{Fraction, IsRatio, JobFacts, IsJob, tight_job, last_tick}
use Rattle.dover_model.proofs.valid.JobLimits.{job_limits, ratio_limits}
use Rattle.stated_jobs.specs.duel.Links.{next_link}
use Rattle.stated_jobs.specs.duel.Jobs.{smalls, pieces, small_work, is_last, jobs_of_links, first_link}
use Rattle.stated_jobs.specs.duel.Kept.{GoesOn, IsModest}
use Rattle.stated_jobs.proofs.duel.Chain.{piece, piece_by_piece}

module _ (k : Fraction) (a b : ℕ) where
  -- the last one
  pub none_more : (more : ℕ) (l : ℕ × ℕ) → more ≡ 0 → jobs_of_links k a b more l ≡ tight_job l.0 l.1 k.q ∷ []
  unfolding jobs_of_links
  none_more zero l none = refl
  none_more (suc more) l none = absurd (omega (arith, none))

  pub one_last : (more : ℕ) (l : ℕ × ℕ) → is_last k a b l ≡ true
      → jobs_of_links k a b more l ≡ tight_job l.0 l.1 k.q ∷ []
  unfolding jobs_of_links
  one_last zero l last = refl
  one_last (suc more) l last = ap (λ c. tight_job l.0 l.1 k.q ∷ elim c [
    | true ↦ []
    | false ↦ smalls k.p l.0 (pieces (small_work k a b l) (l.1 - 1)) ++ jobs_of_links k a b more (next_link k a b l)
  ]) last

  -- or one that goes on
  pub goes_on : (more : ℕ) (l : ℕ × ℕ) → (more ≡ 0 → ⊥) → is_last k a b l ≡ false → GoesOn k a b more l
  unfolding jobs_of_links
  goes_on zero l some on = absurd (some refl)
  goes_on (suc more) l some on = record {
    some = omega arith;
    jobs = ap (λ c. tight_job l.0 l.1 k.q ∷ elim c [
      | true ↦ []
      | false ↦ smalls k.p l.0 (pieces (small_work k a b l) (l.1 - 1))
          ++ jobs_of_links k a b more (next_link k a b l)
    ]) on
        ∙ ap (λ m. tight_job l.0 l.1 k.q ∷ (smalls k.p l.0 (pieces (small_work k a b l) (l.1 - 1))
        ++ jobs_of_links k a b m (next_link k a b l))) less;
  } where
    less : more ≡ suc more - 1
    less = omega arith

  -- whatever link is next, it is the first
  pub some_link : (more : ℕ) (l : ℕ × ℕ) → (rest : List JobFacts)
      × (jobs_of_links k a b more l ≡ tight_job l.0 l.1 k.q ∷ rest)
  unfolding jobs_of_links
  some_link zero l = ([], refl)
  some_link (suc more) l = (
    elim (is_last k a b l) [
      | true ↦ []
      | false ↦ smalls k.p l.0 (pieces (small_work k a b l) (l.1 - 1)) ++ jobs_of_links k a b more (next_link k a b l)
    ],
    refl,
  )

  -- ---- what is to come

  abbrev to_come : (more tick left size work : ℕ) → List JobFacts
  to_come more tick left size work = smalls k.p tick (pieces size left) ++ jobs_of_links k a b more (tick + left, work)

  -- at first
  pub all_to_come : (more size work : ℕ) → work ≡ (first_link k a b).1
      → to_come more 0 0 size work ≡ jobs_of_links k a b more (first_link k a b)
  all_to_come more size work is = ap (λ w. jobs_of_links k a b more (0, w)) is

  module _ (now : List JobFacts) (over : Bool) (more tick left size work : ℕ)
      (is : now ≡ cond over [] (to_come more tick left size work)) where
    comes : over ≡ false → now ≡ to_come more tick left size work
    comes on = is ∙ ap (λ c. cond c [] (to_come more tick left size work)) on

    -- a small job
    small_comes : over ≡ false → 1 ≤ size → 1 ≤ left
        → now ≡ tight_job tick (min size left) k.p ∷ to_come more (tick + min size left)
        (left - min size left) size work
    small_comes on some left_some = comes on ∙ ap (λ gs. smalls k.p tick gs
        ++ jobs_of_links k a b more (tick + left, work))
        (piece_by_piece size left some left_some)
        ∙ ap (λ t. tight_job tick (min size left) k.p
        ∷ (smalls k.p (tick + min size left) (pieces size (left - min size left))
        ++ jobs_of_links k a b more (t, work)))
        (level (min size left) (piece size left some left_some).within) where
          level : (m : ℕ) → m ≤ left → tick + left ≡ tick + m + (left - m)
          level m within = omega (arith, within)

    pub small_given : (m : ℕ) (job : JobFacts) → over ≡ false → 1 ≤ size → 1 ≤ left → m ≡ min size left
        → job ≡ tight_job tick m k.p → now ≡ job ∷ cond over [] (to_come more (tick + m) (left - m) size work)
    small_given m job on some left_some least job_is = cc (small_comes on some left_some)

    -- one that breaks a limit
    pub small_too_large : (m : ℕ) → over ≡ false → 1 ≤ size → 1 ≤ left → m ≡ min size left
        → (IsJob (tight_job tick m k.p) → ⊥)
        → (j : JobFacts) × (rest : List JobFacts) × (now ≡ j ∷ rest) × (IsJob j → ⊥)
    small_too_large m on some left_some least large =
        (tight_job tick m k.p, to_come more (tick + m) (left - m) size work, cc (small_comes on some left_some), large)

    -- a link
    link_comes : over ≡ false → left ≡ 0 → now ≡ jobs_of_links k a b more (tick, work)
    link_comes on none = comes on ∙ ap (λ m. smalls k.p tick (pieces size m)
        ++ jobs_of_links k a b more (tick + m, work)) none
        ∙ ap (λ t. jobs_of_links k a b more (t, work)) same where
          same : tick + 0 ≡ tick
          same = omega arith

    pub link_too_large : over ≡ false → left ≡ 0 → (IsJob (tight_job tick work k.q) → ⊥)
        → (j : JobFacts) × (rest : List JobFacts) × (now ≡ j ∷ rest) × (IsJob j → ⊥)
    link_too_large on none large = let it = some_link more (tick, work) in
        (tight_job tick work k.q, it.0, link_comes on none ∙ it.1, large)

    module _ (on : over ≡ false) (none : left ≡ 0) (job : JobFacts) (job_is : job ≡ tight_job tick work k.q)
        (ended : Bool) where
      -- the last one
      pub link_last : ended ≡ true
          → jobs_of_links k a b more (tick, work) ≡ tight_job tick work k.q ∷ []
          → (rest : List JobFacts) → now ≡ job ∷ cond ended [] rest
      link_last is last rest = rw (is, job_is) (link_comes on none ∙ last)

      -- one that others come behind
      pub link_given : ended ≡ false → GoesOn k a b more (tick, work) → 1 ≤ work → (small next : ℕ)
          → small ≡ small_work k a b (tick, work) → next ≡ (next_link k a b (tick, work)).1
          → now ≡ job ∷ cond ended [] (to_come (more - 1) tick (work - 1) small next)
      link_given is goes some small next small_is next_is =
          let soon : tick + (work - 1) ≡ tick + work - 1 = omega (arith, some) in
          rw (is, job_is, small_is, next_is, soon) (link_comes on none ∙ goes.jobs)

-- a link whose job is within its limits is modest
pub link_modest : (k : Fraction) (release work density : ℕ) (job : JobFacts) → IsRatio k → density ≡ k.q
    → job ≡ tight_job release work density → IsJob job → IsModest (record { release = release; work = work })
link_modest k release work density job ratio same is valid =
    let limits = job_limits (subst IsJob is valid) in
    let least = (ratio_limits ratio).least in
    let worth : 1 * work ≤ density * work = mul-le 1 work density work (omega (arith, same, least)) (omega arith) in
    record { some = limits.work; modest = omega (arith, worth, limits.modest); early = limits.due }

-- what the next link is missing is at most what it is worth, and its work is small
pub next_small : (whole q work part other x : ℕ) → whole ≤ 1_000_000 → work ≤ 1_000_000_000 → 1 ≤ part → 1 ≤ q
    → x ≡ whole * q * work - other → x / (part * q) < 1_000_000_000_000_001
next_small whole q work part other x few modest some_part some_q is =
    let least : 1 * 1 ≤ part * q = mul-le 1 1 part q some_part some_q in
    let more : 1 * q ≤ part * q = mul-le 1 q part q some_part (omega arith) in
    let product : whole * work ≤ 1_000_000 * 1_000_000_000 = mul-le whole work 1_000_000 1_000_000_000 few modest in
    let all : q * (whole * work) ≤ q * (1_000_000 * 1_000_000_000) =
    mul-le q (whole * work) q (1_000_000 * 1_000_000_000) (omega arith) product in
    div_below x (part * q) 1_000_000_000_000_001 (omega (arith, least)) (omega (arith, is, all, more, least))

-- products that fit
pub leaving_fits : (part p r q w : ℕ) → part ≤ 1_000_000 → p ≤ 1_000_000 → q ≤ 1_000 → r + w ≤ last_tick
    → Fits w128 (part * (p * r + q * w))
leaving_fits part p r q w few small_p small_q early =
    let pr : p * r ≤ 1_000_000 * last_tick = mul-le p r 1_000_000 last_tick small_p (omega (arith, early)) in
    let qw : q * w ≤ 1_000 * last_tick = mul-le q w 1_000 last_tick small_q (omega (arith, early)) in
    let all : part * (p * r + q * w) ≤ 1_000_000 * (1_001_000 * last_tick) =
    mul-le part (p * r + q * w) 1_000_000 (1_001_000 * last_tick) few (omega (arith, pr, qw)) in
    omega (arith, all)

pub root_small : (p q part : ℕ) → p ≤ 1_000_000 → q ≤ 1_000 → part ≤ 1_000_000
    → 4 * p * q * part * part ≤ 4_000_000_000_000_000_000_000
root_small p q part small_p small_q small =
    let pq : p * q ≤ 1_000_000 * 1_000 = mul-le p q 1_000_000 1_000 small_p small_q in
    let square : part * part ≤ 1_000_000 * 1_000_000 = mul-le part part 1_000_000 1_000_000 small small in
    let all : (p * q) * (part * part) ≤ (1_000_000 * 1_000) * (1_000_000 * 1_000_000) =
    mul-le (p * q) (part * part) (1_000_000 * 1_000) (1_000_000 * 1_000_000) pq square in
    omega (arith, all)
