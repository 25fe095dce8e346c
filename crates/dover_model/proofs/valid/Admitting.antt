-- A job that is admitted keeps the jobs valid.
use Rattle.std.proofs.Common.{◌≡◌, ℕ, ◌+◌, ◌≤◌, ◌<◌, List, [], ◌∷◌, ◌++◌, length, length-append, refl, Bool, true}
use Rattle.std.proofs.Common.{false, cond, not, ◌&&◌, arith, Option, Some, None, ap, ◌∙◌, suc, nat_le, nat_lt}
use Rattle.std.proofs.Common.{leb-false}
use Rattle.std.proofs.Common.{ltb-false, le-leb, leb-true}
use Rattle.std.specs.List.{AllByRecursion, list_all}
use Rattle.std.proofs.Math.Nat.{mul-le-mul_right}
use Rattle.std.proofs.lemmas.Bool.{not-false, lt-leb, and_parts, and_from}
use Rattle.std.proofs.lemmas.List.Sums.{sum_by-append, sum_by-cons}
use Rattle.dover_model.specs.Common.{last_deadline, last_tick_in, most_jobs, most_total, Refusal, BadJob, Count, Total}
use Rattle.dover_model.specs.Common.{Ratio, JobFacts, IsJob}
use Rattle.dover_model.specs.Common.{is_job, Fraction, Declaration, declared_by, IsValid, with_jobs, Instance}
use Rattle.dover_model.specs.Common.{total_value, is_within_ratio_both_ways, refusal_of}
use Rattle.dover_model.proofs.lists.Tests.{both, each}
use Rattle.dover_model.proofs.sessions.Growing.{all_behind, instance_with}
use Rattle.dover_model.proofs.lists.Members.{all_both, all_last}
use Rattle.dover_model.proofs.valid.Dues.{dues_most, last_within}
use Rattle.dover_model.proofs.valid.Valid.{all_from, all_front}
use Rattle.dover_model.proofs.valid.ValidParts.{valid_from, IsWithinRatio, is_within_ratio-agrees, ReleasesInOrder}
use Rattle.dover_model.proofs.valid.ValidParts.{ValidParts, valid_parts}
use Rattle.dover_model.proofs.valid.JobLimits.{ratio_limits}

-- no cause holds
none_first : (holds : Bool) (cause : Refusal) (more : Option Refusal) → cond holds (Some cause) more ≡ None
    → (holds ≡ false) × (more ≡ None)
none_first true cause more none = absurd (let e : Some cause ≡ None = none in cc)
none_first false cause more none = (refl, none)

-- a job behind all others in order
order_behind : (jobs : List JobFacts) (j : JobFacts) → ReleasesInOrder jobs
    → AllByRecursion (λ i. i.release ≤ j.release) jobs
    → ReleasesInOrder (jobs ++ j ∷ [])
order_behind [] j order known = (tt, tt)
order_behind (i ∷ jobs) j order known =
    (all_behind (λ later. i.release ≤ later.release) jobs j order.0 known.0, order_behind jobs j order.1 known.1)

-- both densities are within the ratio of each other
abbrev AreWithin : Fraction → JobFacts → JobFacts → Type 0
AreWithin k i j = IsWithinRatio k i j × IsWithinRatio k j i

-- the test says so
both_ways : (k : Fraction) (j : JobFacts) (jobs : List JobFacts)
    → list_all (λ i. is_within_ratio_both_ways k i j) jobs ≡ true
    → AllByRecursion (λ i. AreWithin k i j) jobs
both_ways k j jobs passes = (each (λ i. is_within_ratio_both_ways k i j) (λ i. AreWithin k i j)
    (λ i. both _ _ (is_within_ratio-agrees k i j) (is_within_ratio-agrees k j i)) jobs).0 passes

-- each ratio is at least one
within_itself : (k : Fraction) (j : JobFacts) → k.q ≤ k.p → IsWithinRatio k j j
within_itself k j above = mul-le-mul_right j.work (mul-le-mul_right j.value above)

-- why a job is admitted
pub record Admitted (rules : Declaration) (jobs : List JobFacts) (j : JobFacts) : Type 0 where
  pub job : IsJob j
  pub due : j.deadline ≤ last_tick_in rules.version
  pub count : length jobs < most_jobs rules.version
  pub total : total_value jobs + j.value ≤ most_total rules.version
  pub densities : AllByRecursion (λ i. AreWithin rules.ratio i j) jobs

-- a job that isn't refused is admitted
pub not_refused : (rules : Declaration) (jobs : List JobFacts) (j : JobFacts) → refusal_of rules jobs j ≡ None
    → Admitted rules jobs j
not_refused rules jobs j none =
    let k : Fraction = rules.ratio in
    let most : ℕ = most_jobs rules.version in
    let sum : ℕ = most_total rules.version in
    let ratio : Option Refusal = cond (not (list_all (λ i. is_within_ratio_both_ways k i j) jobs)) (Some Ratio) None in
    let total : Option Refusal = cond (nat_lt sum (total_value jobs + j.value)) (Some Total) ratio in
    let count : Option Refusal = cond (nat_le most (length jobs)) (Some Count) total in
    let tests : Bool = is_job j && nat_le j.deadline (last_tick_in rules.version) in
    let one : (not tests ≡ false) × (count ≡ None) = none_first (not tests) BadJob count none in
    let both_pass = and_parts (is_job j) (nat_le j.deadline (last_tick_in rules.version)) (not-false tests one.0) in
    let two : (nat_le most (length jobs) ≡ false) × (total ≡ None) =
    none_first (nat_le most (length jobs)) Count total one.1 in
    let three : (nat_lt sum (total_value jobs + j.value) ≡ false) × (ratio ≡ None) =
    none_first (nat_lt sum (total_value jobs + j.value)) Total ratio two.1 in
    let four : (not (list_all (λ i. is_within_ratio_both_ways k i j) jobs) ≡ false) × (None ≡ None) =
    none_first (not (list_all (λ i. is_within_ratio_both_ways k i j) jobs)) Ratio None three.1 in
    record {
      job = record { passes = both_pass.0 };
      due = leb-true _ _ both_pass.1;
      count = leb-false _ _ two.0;
      total = ltb-false _ _ three.0;
      densities = both_ways k j jobs (not-false _ four.0);
    }

-- jobs stay valid with an admitted one that is released last
pub admits : (rules : Declaration) (jobs : List JobFacts) (j : JobFacts) → IsValid (instance_with rules jobs)
    → AllByRecursion (λ i. i.release ≤ j.release) jobs → refusal_of rules jobs j ≡ None
    → IsValid (with_jobs (instance_with rules jobs) (j ∷ []))
admits rules jobs j valid known none =
    let it : Admitted rules jobs j = not_refused rules jobs j none in
    let parts : ValidParts (instance_with rules jobs) = valid_parts valid in
    let above : rules.ratio.q ≤ rules.ratio.p = (ratio_limits parts.ratio).above_one in
    valid_from (record {
      ratio = parts.ratio;
      each = all_behind IsJob jobs j parts.each it.job;
      due = last_within _ (jobs ++ j ∷ []) (all_behind (λ i. i.deadline ≤ last_tick_in rules.version) jobs j
          (all_from (λ i. i.deadline ≤ last_deadline jobs) (λ i. i.deadline ≤ last_tick_in rules.version) jobs
          (λ i low. let last : last_deadline jobs ≤ last_tick_in rules.version = parts.due in omega arith)
          (dues_most jobs 0)) it.due);
      in_order = order_behind jobs j parts.in_order known;
      count = omega (arith, length-append jobs (j ∷ []), it.count);
      total = let sums : total_value (jobs ++ j ∷ []) ≡ total_value jobs + total_value (j ∷ []) =
          sum_by-append (λ (i : JobFacts). i.value) jobs (j ∷ []) in
          let last : total_value (j ∷ []) ≡ j.value + total_value [] = sum_by-cons (λ (i : JobFacts). i.value) j [] in
          omega (arith, it.total);
      densities = all_behind (λ i. AllByRecursion (IsWithinRatio rules.ratio i) (jobs ++ j ∷ [])) jobs j
          (all_both (λ i. AllByRecursion (IsWithinRatio rules.ratio i) jobs) (λ i. AreWithin rules.ratio i j)
          (λ i. AllByRecursion (IsWithinRatio rules.ratio i) (jobs ++ j ∷ [])) jobs
          (λ i row with_j. all_behind (IsWithinRatio rules.ratio i) jobs j row with_j.0) parts.densities it.densities)
          (all_behind (IsWithinRatio rules.ratio j) jobs j
          (all_both (λ i. AreWithin rules.ratio i j) (λ i. AreWithin rules.ratio i j) (IsWithinRatio rules.ratio j) jobs
          (λ i x y. x.1) it.densities it.densities) (within_itself rules.ratio j above));
    })

-- ---- a valid job is admitted

-- what holds of each with the last, and of the last with each
all_pairs : {X : Type 0} (R : X → X → Type 0) (xs : List X) (y : X)
    → AllByRecursion (λ x. AllByRecursion (R x) (xs ++ y ∷ [])) (xs ++ y ∷ [])
    → AllByRecursion (λ x. R x y × R y x) xs
all_pairs R xs y all = pairs xs (all_front (λ x. AllByRecursion (R x) (xs ++ y ∷ [])) xs (y ∷ []) all)
    (all_front (R y) xs (y ∷ []) (all_last (λ x. AllByRecursion (R x) (xs ++ y ∷ [])) xs y all)) where
      pairs : (us : List _) → AllByRecursion (λ x. AllByRecursion (R x) (xs ++ y ∷ [])) us → AllByRecursion (R y) us
          → AllByRecursion (λ x. R x y × R y x) us
      pairs [] one other = tt
      pairs (u ∷ us) one other = ((all_last (R u) xs y one.0, other.0), pairs us one.1 other.1)

-- no cause holds
none_holds : (a b c d : Bool) → a ≡ false → b ≡ false → c ≡ false → d ≡ false
    → cond a (Some BadJob) (cond b (Some Count) (cond c (Some Total) (cond d (Some Ratio) None))) ≡ None
none_holds a b c d ea eb ec ed =
    ap (λ x. cond x (Some BadJob) (cond b (Some Count) (cond c (Some Total) (cond d (Some Ratio) None)))) ea
    ∙ ap (λ x. cond x (Some Count) (cond c (Some Total) (cond d (Some Ratio) None))) eb
    ∙ ap (λ x. cond x (Some Total) (cond d (Some Ratio) None)) ec ∙ ap (λ x. cond x (Some Ratio) None) ed

-- a job that is valid behind others is admitted
pub valid_admitted : (J : Instance) (j : JobFacts) → IsValid (with_jobs J (j ∷ []))
    → refusal_of (declared_by J.rules) J.jobs j ≡ None
valid_admitted J j valid = none_holds _ _ _ _ (ap not (and_from (is_job j)
    (nat_le j.deadline (last_tick_in J.rules.version)) (all_last IsJob J.jobs j (valid_parts valid).each).passes
    (le-leb j.deadline (last_tick_in J.rules.version) (omega (
      arith,
      (valid_parts valid).due,
      all_last (λ i. i.deadline ≤ last_deadline (J.jobs ++ j ∷ [])) J.jobs j (dues_most (J.jobs ++ j ∷ []) 0),
    )))))
    (lt-leb (most_jobs J.rules.version) (length J.jobs) (omega
    (arith, (valid_parts valid).count, length-append J.jobs (j ∷ []))))
    (lt-leb (suc (most_total J.rules.version)) (total_value J.jobs + j.value)
    (omega (
      arith,
      (valid_parts valid).total,
      sum_by-append (λ (i : JobFacts). i.value) J.jobs (j ∷ []),
      sum_by-cons (λ (i : JobFacts). i.value) j [],
    )))
    (ap not ((each (λ i. is_within_ratio_both_ways J.rules.ratio i j)
    (λ i. IsWithinRatio J.rules.ratio i j × IsWithinRatio J.rules.ratio j i)
    (λ i. both _ _ (is_within_ratio-agrees J.rules.ratio i j) (is_within_ratio-agrees J.rules.ratio j i)) J.jobs).1
    (all_pairs (IsWithinRatio J.rules.ratio) J.jobs j (valid_parts valid).densities)))
