-- What is true of a feed that streams: how many jobs it has, what they are worth, that each is within limits, and that
-- they are in order.
use Rattle.std.proofs.Common.{◌≡◌, ℕ, zero, suc, ◌+◌, ◌-◌, ◌*◌, ◌≤◌, ◌<◌, inl, inr, List, [], ◌∷◌, length, refl, ap}
use Rattle.std.proofs.Common.{◌∙◌, subst, arith}
use Rattle.std.specs.List.{sum, AllByRecursion}
use Rattle.std.proofs.lemmas.List.Sums.{sum_by-cons}
use Rattle.std.proofs.Math.Nat.{div-le_self, le-div_iff_mul-le}
use Rattle.dover_model.specs.declared.events.Version.TheVariants.{Two}
use Rattle.dover_model.specs.Common.{most_jobs, most_value, Fraction, IsRatio, JobFacts, total_value, IsMember}
use Rattle.dover_model.specs.Common.{unit_value, first_link, most_light, chain_from, chain, bait_value, tight_job}
use Rattle.dover_model.specs.Common.{chain_jobs, bait_tick, bait_jobs}
use Rattle.dover_model.proofs.lists.Members.{all_member}
use Rattle.stated_jobs.specs.bait.Baiting.{FitsLimits}
use Rattle.stated_jobs.proofs.bait.Coming.{are_some, sum_least}
use Rattle.stated_jobs.proofs.bait.Streaming.{Streams, gives_link, gives_unit, gives_bait, LeadsTo, plan_from, streams}
use Rattle.dover_model.proofs.valid.ValidParts.{ReleasesInOrder}
use Rattle.dover_model.proofs.valid.JobLimits.{ratio_limits}

module _ (unit bait : ℕ) where
  -- how many jobs there are
  pub how_many : (n t ticks r : ℕ) (ws : List ℕ) (jobs : List JobFacts) (plan : List ℕ)
      → Streams unit bait n t ticks r ws jobs plan
      → length jobs ≡ ticks + length ws + 1
  how_many n t ticks r (w ∷ ws) (j ∷ jobs) plan (gives_link now some more) =
      ap suc (how_many (suc n) t ticks (r + w - 1) ws jobs plan more)
      ∙ omega arith
  how_many n t (suc ticks) r ws (j ∷ jobs) (m ∷ plan) (gives_unit early later more) =
      ap suc (how_many (suc n) (t + 1) ticks r ws jobs plan more)
      ∙ omega arith
  how_many n t zero r [] jobs plan gives_bait = refl

  -- what they are worth
  pub how_much : (n t ticks r : ℕ) (ws : List ℕ) (jobs : List JobFacts) (plan : List ℕ)
      → Streams unit bait n t ticks r ws jobs plan
      → total_value jobs ≡ sum ws + unit * ticks + bait
  how_much n t ticks r (w ∷ ws) (j ∷ jobs) plan (gives_link now some more) = omega (
    arith,
    how_much (suc n) t ticks (r + w - 1) ws jobs plan more,
    sum_by-cons (λ i. i.value) (tight_job r w 1) jobs,
    sum_by-cons (λ x. x) w ws,
  )
  how_much n t (suc ticks) r ws (j ∷ jobs) (m ∷ plan) (gives_unit early later more) = omega (
    arith,
    how_much (suc n) (t + 1) ticks r ws jobs plan more,
    sum_by-cons (λ i. i.value) (tight_job t 1 unit) jobs,
  )
  how_much n t zero r [] jobs plan gives_bait = omega (arith, sum_by-cons (λ i. i.value) (tight_job t bait 1) [])

  -- what holds of each link, of each unit job and of the bait holds of each job
  pub all_given : (P : JobFacts → Type 0) (last most : ℕ)
      → ((s w : ℕ) → s ≤ last → 1 ≤ w → w ≤ most → P (tight_job s w 1))
      → ((s : ℕ) → s ≤ last → P (tight_job s 1 unit)) → ((s : ℕ) → s ≤ last → P (tight_job s bait 1))
      → (n t ticks r : ℕ) (ws : List ℕ) (jobs : List JobFacts) (plan : List ℕ)
      → Streams unit bait n t ticks r ws jobs plan
      → t + ticks ≤ last → AllByRecursion (λ w. w ≤ most) ws → AllByRecursion P jobs
  all_given P last most link unit_job bait_job n t ticks r (w ∷ ws) (j ∷ jobs) plan
      (gives_link now some more) within modest = (
        link r w (omega (arith, within, now)) some modest.0,
        all_given P last most link unit_job bait_job (suc n) t ticks (r + w - 1) ws jobs plan more within modest.1,
      )
  all_given P last most link unit_job bait_job n t (suc ticks) r ws (j ∷ jobs) (m ∷ plan)
      (gives_unit early later more) within modest = (
        unit_job t (omega (arith, within)),
        all_given P last most link unit_job bait_job (suc n) (t + 1) ticks r ws jobs plan more
            (omega (arith, within)) modest,
      )
  all_given P last most link unit_job bait_job n t zero r [] jobs plan gives_bait within modest =
      (bait_job t (omega (arith, within)), tt)

  -- no release comes before the present tick
  all_later : (low n t ticks r : ℕ) (ws : List ℕ) (jobs : List JobFacts) (plan : List ℕ)
      → Streams unit bait n t ticks r ws jobs plan
      → low ≤ t → AllByRecursion (λ j. low ≤ j.release) jobs
  all_later low n t ticks r (w ∷ ws) (j ∷ jobs) plan (gives_link now some more) early =
      (omega (arith, early, now), all_later low (suc n) t ticks (r + w - 1) ws jobs plan more early)
  all_later low n t (suc ticks) r ws (j ∷ jobs) (m ∷ plan) (gives_unit ahead later more) early =
      (early, all_later low (suc n) (t + 1) ticks r ws jobs plan more (omega (arith, early)))
  all_later low n t zero r [] jobs plan gives_bait early = (early, tt)

  -- the jobs are in the order of their releases
  pub in_order : (n t ticks r : ℕ) (ws : List ℕ) (jobs : List JobFacts) (plan : List ℕ)
      → Streams unit bait n t ticks r ws jobs plan
      → ReleasesInOrder jobs
  in_order n t ticks r (w ∷ ws) (j ∷ jobs) plan (gives_link now some more) = (
    all_later r (suc n) t ticks (r + w - 1) ws jobs plan more (omega (arith, now)),
    in_order (suc n) t ticks (r + w - 1) ws jobs plan more,
  )
  in_order n t (suc ticks) r ws (j ∷ jobs) (m ∷ plan) (gives_unit early later more) = (
    all_later t (suc n) (t + 1) ticks r ws jobs plan more (omega arith),
    in_order (suc n) (t + 1) ticks r ws jobs plan more,
  )
  in_order n t zero r [] jobs plan gives_bait = (tt, tt)

  -- the bait is one of the jobs
  pub has_bait : (n t ticks r : ℕ) (ws : List ℕ) (jobs : List JobFacts) (plan : List ℕ)
      → Streams unit bait n t ticks r ws jobs plan
      → IsMember (tight_job (t + ticks) bait 1) jobs
  has_bait n t ticks r (w ∷ ws) (j ∷ jobs) plan (gives_link now some more) =
      inr (has_bait (suc n) t ticks (r + w - 1) ws jobs plan more)
  has_bait n t (suc ticks) r ws (j ∷ jobs) (m ∷ plan) (gives_unit early later more) =
      inr (subst (λ s. IsMember (tight_job s bait 1) jobs) same
      (has_bait (suc n) (t + 1) ticks r ws jobs plan more)) where
        same : t + 1 + ticks ≡ t + suc ticks
        same = omega arith
  has_bait n t zero r [] jobs plan gives_bait = inl (ap (λ s. tight_job s bait 1) same) where
    same : t + zero ≡ t
    same = omega arith

-- ---- the feed of a ratio and a number of rounds

-- a chain has as many links as there are rounds
pub length_chain : (k : Fraction) (rounds w : ℕ) → length (chain_from k rounds w) ≡ rounds
length_chain k zero w = refl
length_chain k (suc rounds) w = ap suc (length_chain k rounds (suc (most_light k w)))

-- no link is worth more than all
links_low : (most : ℕ) (ws : List ℕ) → sum ws ≤ most → AllByRecursion (λ w. w ≤ most) ws
links_low most [] low = tt
links_low most (w ∷ ws) low = (
  part (sum ws) (sum (w ∷ ws)) (sum_by-cons (λ x. x) w ws) low,
  links_low most ws
      (rest (sum ws) (sum (w ∷ ws)) (sum_by-cons (λ x. x) w ws) low),
) where
  part : (less all : ℕ) → all ≡ w + less → all ≤ most → w ≤ most
  part less all is low = omega arith

  rest : (less all : ℕ) → all ≡ w + less → all ≤ most → less ≤ most
  rest less all is low = omega arith

module _ (k : Fraction) (rounds : ℕ) where
  -- the links lead to the bait's tick
  pub leads : LeadsTo (bait_tick k rounds) 0 (bait_tick k rounds) 0 (chain k rounds)
  leads = record {
    some = are_some k rounds (first_link k) (omega arith);
    early = omega arith;
    here = omega arith;
    left = level (sum (chain k rounds)) (length (chain k rounds)) (length_chain k rounds (first_link k))
        (sum_least k rounds (first_link k) (omega arith));
  } where
    level : (all many : ℕ) → many ≡ rounds → rounds ≤ all → 0 + all ≡ all - rounds + many
    level all many is low = omega arith

  -- the whole feed streams
  pub whole : Streams (unit_value k) (bait_value k rounds) 0 0 (bait_tick k rounds) 0 (chain k rounds)
      (bait_jobs k rounds)
      (plan_from (bait_value k rounds) 0 (chain_jobs k rounds) 0 (bait_tick k rounds))
  whole = streams (unit_value k) (bait_value k rounds) (bait_tick k rounds)
      (bait_tick k rounds + length (chain k rounds)) 0 0
      (bait_tick k rounds) 0
      (chain k rounds) (omega arith) leads

  -- it has a job more than its links are worth
  pub count : length (bait_jobs k rounds) ≡ sum (chain k rounds) + 1
  count = how_many _ _ _ _ _ _ _ _ _ whole
      ∙ level (sum (chain k rounds)) (length (chain k rounds)) (length_chain k rounds (first_link k))
      (sum_least k rounds (first_link k) (omega arith)) where
        level : (all many : ℕ) → many ≡ rounds → rounds ≤ all → all - rounds + many + 1 ≡ all + 1
        level all many is low = omega arith

  -- what holds of each link, of each unit job and of the bait of a small feed holds of each job
  pub all_jobs : (P : JobFacts → Type 0) → sum (chain k rounds) < most_jobs Two
      → ((s w : ℕ) → s < most_jobs Two → 1 ≤ w → w < most_jobs Two → P (tight_job s w 1))
      → ((s : ℕ) → s < most_jobs Two → P (tight_job s 1 (unit_value k)))
      → ((s : ℕ) → s < most_jobs Two → P (tight_job s (bait_value k rounds) 1))
      → AllByRecursion P (bait_jobs k rounds)
  all_jobs P small link unit_job bait_job = all_given (unit_value k) (bait_value k rounds) P 999_999 999_999
      (λ s w early some low. link s w (omega arith) some (omega arith)) (λ s early. unit_job s (omega arith))
      (λ s early. bait_job s (omega arith))
      0 0 (bait_tick k rounds) 0 (chain k rounds) (bait_jobs k rounds)
      (plan_from (bait_value k rounds) 0 (chain_jobs k rounds) 0
      (bait_tick k rounds)) whole
      (level (sum (chain k rounds)) small)
      (links_low 999_999 (chain k rounds) (below (sum (chain k rounds)) small)) where
        level : (all : ℕ) → all < most_jobs Two → 0 + (all - rounds) ≤ 999_999
        level all low = omega arith

        below : (all : ℕ) → all < most_jobs Two → all ≤ 999_999
        below all low = omega arith

  -- a feed within the limits has a small chain
  pub small : FitsLimits k rounds → sum (chain k rounds) < most_jobs Two
  small fits = level (sum (chain k rounds)) (length (bait_jobs k rounds)) count fits.few where
    level : (all many : ℕ) → many ≡ all + 1 → many ≤ most_jobs Two → all < most_jobs Two
    level all many is few = omega arith

  -- and a bait of a value that a job may have
  pub modest : FitsLimits k rounds → bait_value k rounds ≤ most_value
  modest fits = once (bait_value k rounds) (fits.modest (tight_job (0 + bait_tick k rounds) (bait_value k rounds) 1)
      (has_bait (unit_value k) (bait_value k rounds) 0 0 (bait_tick k rounds) 0 (chain k rounds) (bait_jobs k rounds)
      (plan_from (bait_value k rounds) 0 (chain_jobs k rounds) 0 (bait_tick k rounds)) whole)) where
        once : (v : ℕ) → 1 * v ≤ most_value → v ≤ most_value
        once v low = omega arith

-- a unit job is worth at most a million
pub unit_low : (k : Fraction) → IsRatio k → unit_value k ≤ 1_000_000
unit_low k ratio = omega (arith, div-le_self k.p k.q, (ratio_limits ratio).small_p)

-- and at least one
pub unit_some : (k : Fraction) → IsRatio k → 1 ≤ unit_value k
unit_some k ratio = (le-div_iff_mul-le {k = k.q} {x = 1} {y = k.p} (omega (arith, (ratio_limits ratio).least))).1
    (omega (arith, (ratio_limits ratio).above_one))

-- a small chain with a modest bait is within the limits
pub fits : (k : Fraction) (rounds : ℕ) → IsRatio k → sum (chain k rounds) < most_jobs Two
    → bait_value k rounds ≤ most_value
    → FitsLimits k rounds
fits k rounds ratio low modest = record {
  few = level (sum (chain k rounds)) (length (bait_jobs k rounds)) (count k rounds) low;
  modest = all_member (λ j. j.value ≤ most_value) (bait_jobs k rounds)
      (all_jobs k rounds (λ j. j.value ≤ most_value) low
      (λ s w early some below. omega arith) (λ s early. unit_of (unit_value k) (unit_low k ratio))
      (λ s early. bait_of (bait_value k rounds) modest));
} where
  level : (all many : ℕ) → many ≡ all + 1 → all < most_jobs Two → many ≤ most_jobs Two
  level all many is small = omega arith

  unit_of : (v : ℕ) → v ≤ 1_000_000 → v * 1 ≤ most_value
  unit_of v small = omega arith

  bait_of : (v : ℕ) → v ≤ most_value → 1 * v ≤ most_value
  bait_of v small = omega arith
