-- The values of sets of jobs, and what schedules are worth.
use Rattle.std.proofs.Common.{◌≡◌, ℕ, suc, zero, ◌+◌, ◌*◌, ◌≤◌, ◌<◌, inl, inr, List, [], ◌∷◌, ◌++◌, length, drop}
use Rattle.std.proofs.Common.{get_or, refl, sym, ap, ◌∙◌, subst, arith, add-one, cond, eqb, Bool, true, false, IsTrue}
use Rattle.std.proofs.Common.{Some, slice_get, IfSome, sum_by, length-drop}
use Rattle.std.specs.List.{enumerate_from}
use Rattle.std.specs.Option.{option_map_or}
use Rattle.std.proofs.lemmas.List.Sums.{sum_by-cons, sum_by-append}
use Rattle.dover_model.specs.Common.{JobFacts, IsJob, Rules, total_value, is_served, worth, IsMember, Each}
use Rattle.clairvoyant.specs.best.BestSet.{RiseWithin, Serves, IsGood, value_at, value_of}
use Rattle.clairvoyant.proofs.best.Rising.{rise_wider}
use Rattle.dover_model.proofs.valid.JobLimits.{job_limits}

-- the job of a number
pub record Has (jobs : List JobFacts) (n : ℕ) : Type 0 where
  pub job : JobFacts
  pub at : slice_get jobs n ≡ Some job
  pub rest : drop n jobs ≡ job ∷ drop (suc n) jobs
  pub member : IsMember job jobs

pub has : (jobs : List JobFacts) (n : ℕ) → n < length jobs → Has jobs n
has [] n short = absurd (omega arith)
has (j ∷ jobs) zero short = record { job = j; at = refl; rest = refl; member = inl refl }
has (j ∷ jobs) (suc n) short = deeper (has jobs n (omega arith)) where
  deeper : Has jobs n → Has (j ∷ jobs) (suc n)
  deeper it = record { job = it.job; at = it.at; rest = it.rest; member = inr it.member }

-- the job that is read at a place
pub get_is : (jobs : List JobFacts) (n : ℕ) (j : JobFacts) → n < length jobs → j ≡ get_or jobs n j
    → slice_get jobs n ≡ Some j
get_is [] n j short is = absurd (omega arith)
get_is (k ∷ jobs) zero j short is = ap Some (sym is)
get_is (k ∷ jobs) (suc n) j short is = get_is jobs n j (omega arith) is

pub value_is : (jobs : List JobFacts) (n : ℕ) (j : JobFacts) → slice_get jobs n ≡ Some j → value_at jobs n ≡ j.value
value_is jobs n j at = ap (λ o. option_map_or (λ (i : JobFacts). i.value) o 0) at

-- ---- the value of numbers from one on

drop_none : (n : ℕ) → drop {A = JobFacts} n [] ≡ []
drop_none zero = refl
drop_none (suc n) = refl

-- less is left behind
total_drop : (next n : ℕ) (jobs : List JobFacts) → next ≤ n → total_value (drop n jobs) ≤ total_value (drop next jobs)
total_drop next n [] below = let none : total_value (drop n []) ≡ 0 = ap total_value (drop_none n) in omega arith
total_drop zero zero (j ∷ jobs) below = omega arith
total_drop zero (suc n) (j ∷ jobs) below =
    let less : total_value (drop n jobs) ≤ total_value jobs = total_drop 0 n jobs (omega arith) in
    omega (arith, sum_by-cons (λ (i : JobFacts). i.value) j jobs)
total_drop (suc next) zero (j ∷ jobs) below = absurd (omega arith)
total_drop (suc next) (suc n) (j ∷ jobs) below = total_drop next n jobs (omega arith)

-- numbers from one on are worth no more than all of them
pub most_more : (jobs : List JobFacts) (next : ℕ) (more : List ℕ) → RiseWithin next (length jobs) more
    → value_of jobs more ≤ total_value (drop next jobs)
most_more jobs next [] rise = omega arith
most_more jobs next (n ∷ more) rise =
    with_job (has jobs n rise.1) (most_more jobs (suc n) more rise.2) where
      with_job : Has jobs n → value_of jobs more ≤ total_value (drop (suc n) jobs)
          → value_of jobs (n ∷ more) ≤ total_value (drop next jobs)
      with_job it rest =
          let here : value_at jobs n ≡ it.job.value = value_is jobs n it.job it.at in
          let all : total_value (drop n jobs) ≡ it.job.value + total_value (drop (suc n) jobs) =
          ap total_value it.rest ∙ sum_by-cons (λ (i : JobFacts). i.value) it.job (drop (suc n) jobs) in
          omega (arith, sum_by-cons (value_at jobs) n more, total_drop next n jobs rise.0)

-- a few jobs are worth little
pub total_few : (jobs : List JobFacts) → Each IsJob jobs → total_value jobs ≤ 1_000_000_000 * length jobs
total_few [] all = omega arith
total_few (j ∷ jobs) all =
    let here : j.value ≤ 1_000_000_000 = (job_limits (all j (inl refl))).modest in
    let rest : total_value jobs ≤ 1_000_000_000 * length jobs = total_few jobs (λ i m. all i (inr m)) in
    omega (arith, sum_by-cons (λ (i : JobFacts). i.value) j jobs)

-- so is a set of them
pub value_few : (jobs : List JobFacts) (chosen : List ℕ) → Each IsJob jobs → length jobs ≤ 20
    → RiseWithin 0 (length jobs) chosen
    → value_of jobs chosen ≤ 20_000_000_000
value_few jobs chosen all few rise =
    let some : value_of jobs chosen ≤ total_value jobs = most_more jobs 0 chosen rise in
    let most : total_value jobs ≤ 1_000_000_000 * length jobs = total_few jobs all in omega arith

-- and what is left of them
pub left_few : (jobs : List JobFacts) (next : ℕ) → Each IsJob jobs → length jobs ≤ 20
    → total_value (drop next jobs) ≤ 20_000_000_000
left_few jobs next all few =
    let some : total_value (drop next jobs) ≤ total_value jobs = total_drop 0 next jobs (omega arith) in
    let most : total_value jobs ≤ 1_000_000_000 * length jobs = total_few jobs all in omega arith

-- one set behind another
pub value_append : (jobs : List JobFacts) (taken more : List ℕ)
    → value_of jobs (taken ++ more) ≡ value_of jobs taken + value_of jobs more
value_append jobs taken more = sum_by-append (value_at jobs) taken more

-- ---- the jobs that a schedule serves

-- the numbers of those that it serves, from number i on
abbrev pub served_from : List ℕ → ℕ → List JobFacts → List ℕ
served_from s i [] = []
served_from s i (j ∷ jobs) = cond (is_served s (i, j)) (i ∷ served_from s (i + 1) jobs) (served_from s (i + 1) jobs)

-- what it gets of them
abbrev worth_from : List ℕ → ℕ → List JobFacts → ℕ
worth_from s i jobs = sum_by (λ n_j. cond (is_served s n_j) n_j.1.value 0) (enumerate_from i jobs)

served_rise : (s : List ℕ) (i end : ℕ) (jobs : List JobFacts) → i + length jobs ≡ end
    → RiseWithin i end (served_from s i jobs)
served_rise s i end [] long = tt
served_rise s i end (j ∷ jobs) long = by_test (is_served s (i, j)) (served_rise s (i + 1) end jobs (omega arith)) where
  by_test : (b : Bool) → RiseWithin (i + 1) end (served_from s (i + 1) jobs)
      → RiseWithin i end (cond b (i ∷ served_from s (i + 1) jobs) (served_from s (i + 1) jobs))
  by_test true rest = (
    omega arith,
    omega arith,
    subst (λ k. RiseWithin k end (served_from s (i + 1) jobs)) (add-one i) rest,
  )
  by_test false rest = rise_wider i (i + 1) end end (served_from s (i + 1) jobs) (omega arith) (omega arith) rest

-- the next job of the rest
next_of : (jobs : List JobFacts) (i : ℕ) (j : JobFacts) (rest : List JobFacts) → j ∷ rest ≡ drop i jobs
    → (slice_get jobs i ≡ Some j) × (rest ≡ drop (suc i) jobs)
next_of [] i j rest e = absurd (let f : j ∷ rest ≡ [] = e ∙ drop_none i in cc)
next_of (k ∷ jobs) zero j rest e = (let f : k ≡ j = cc in ap Some f, let g : rest ≡ jobs = cc in g)
next_of (k ∷ jobs) (suc i) j rest e = next_of jobs i j rest e

served_value : (jobs : List JobFacts) (s : List ℕ) (i : ℕ) (rest : List JobFacts) → rest ≡ drop i jobs
    → value_of jobs (served_from s i rest) ≡ worth_from s i rest
served_value jobs s i [] e = refl
served_value jobs s i (j ∷ rest) e =
    by_test (is_served s (i, j)) (next_of jobs i j rest e).0
    (served_value jobs s (i + 1) rest ((next_of jobs i j rest e).1 ∙ ap (λ k. drop k jobs) (sym (add-one i))))
    ∙ sym (sum_by-cons (λ n_j. cond (is_served s n_j) n_j.1.value 0) (i, j) (enumerate_from (i + 1) rest)) where
      by_test : (b : Bool) → slice_get jobs i ≡ Some j
          → value_of jobs (served_from s (i + 1) rest) ≡ worth_from s (i + 1) rest
          → value_of jobs (cond b (i ∷ served_from s (i + 1) rest) (served_from s (i + 1) rest)) ≡ cond b j.value 0
          + worth_from s (i + 1) rest
      by_test true at same = omega
          (arith, same, sum_by-cons (value_at jobs) i (served_from s (i + 1) rest), value_is jobs i j at)
      by_test false at same = omega (arith, same)

served_each : (jobs : List JobFacts) (s : List ℕ) (i : ℕ) (rest : List JobFacts) → rest ≡ drop i jobs
    → Each (Serves jobs s) (served_from s i rest)
served_each jobs s i [] e n member = absurd member
served_each jobs s i (j ∷ rest) e n member =
    by_test (is_served s (i, j)) refl (next_of jobs i j rest e).0
    (served_each jobs s (i + 1) rest ((next_of jobs i j rest e).1 ∙ ap (λ k. drop k jobs) (sym (add-one i))))
    member where
      by_test : (b : Bool) → is_served s (i, j) ≡ b → slice_get jobs i ≡ Some j
          → Each (Serves jobs s) (served_from s (i + 1) rest)
          → IsMember n (cond b (i ∷ served_from s (i + 1) rest) (served_from s (i + 1) rest)) → Serves jobs s n
      by_test true h at all (inl same) = subst (Serves jobs s) (sym same)
          (subst (λ o. IfSome o (λ k. IsTrue (is_served s (i, k)))) (sym at) h)
      by_test true h at all (inr later) = all n later
      by_test false h at all later = all n later

-- the set that a schedule serves is good, and is worth what the schedule is
pub served_good : (jobs : List JobFacts) (s : List ℕ) → IsGood jobs (served_from s 0 jobs)
served_good jobs s = record {
  numbers = served_rise s 0 (length jobs) jobs (omega arith);
  schedule = s;
  served =
      served_each jobs s 0 jobs refl;
}

pub worth_served : (rules : Rules) (jobs : List JobFacts) (s : List ℕ)
    → worth (record { rules = rules; jobs = jobs }) s ≡ value_of jobs (served_from s 0 jobs)
worth_served rules jobs s = sym (served_value jobs s 0 jobs refl)

-- ---- a schedule is worth what any set is that it serves

value_served : (jobs : List JobFacts) (s : List ℕ) (i : ℕ) (rest : List JobFacts) (chosen : List ℕ) → rest ≡ drop i jobs
    → RiseWithin i (length jobs) chosen
    → Each (Serves jobs s) chosen → value_of jobs chosen ≤ worth_from s i rest
value_served jobs s i [] [] e rise all = omega arith
value_served jobs s i [] (n ∷ chosen) e rise all = absurd (
    let from : i ≤ n = rise.0 in let until : n < length jobs = rise.1 in
    omega (arith, length-drop i jobs, ap length e))
value_served jobs s i (j ∷ rest) [] e rise all = omega arith
value_served jobs s i (j ∷ rest) (n ∷ chosen) e rise all = by_test (eqb n i) refl
    (λ later. value_served jobs s (i + 1) rest (n ∷ chosen) next later all)
    (λ later. value_served jobs s (i + 1) rest chosen next later (λ m member. all m (inr member))) where
      at : slice_get jobs i ≡ Some j
      at = (next_of jobs i j rest e).0

      next : rest ≡ drop (i + 1) jobs
      next = (next_of jobs i j rest e).1 ∙ ap (λ k. drop k jobs) (sym (add-one i))

      by_test : (b : Bool) → eqb n i ≡ b
          → (RiseWithin (i + 1) (length jobs) (n ∷ chosen) → value_of jobs (n ∷ chosen) ≤ worth_from s (i + 1) rest)
          → (RiseWithin (i + 1) (length jobs) chosen → value_of jobs chosen ≤ worth_from s (i + 1) rest)
          → value_of jobs (n ∷ chosen) ≤ worth_from s i (j ∷ rest)
      by_test true same other more =
          let is : n ≡ i = grind arith in
          let later : value_of jobs chosen ≤ worth_from s (i + 1) rest =
          more (subst (λ k. RiseWithin k (length jobs) chosen) (ap suc is ∙ sym (add-one i)) rise.2) in
          let served : is_served s (i, j) ≡ true =
          subst (λ o. IfSome o (λ k. IsTrue (is_served s (i, k)))) at (subst (Serves jobs s) is (all n (inl refl))) in
          let gets : cond (is_served s (i, j)) j.value 0 ≡ j.value = ap (λ b. cond b j.value 0) served in
          let value : value_at jobs n ≡ j.value = ap (value_at jobs) is ∙ value_is jobs i j at in
          omega (
            arith,
            sum_by-cons (value_at jobs) n chosen,
            sum_by-cons (λ n_j. cond (is_served s n_j) n_j.1.value 0) (i, j) (enumerate_from (i + 1) rest),
          )
      by_test false apart other more =
          let from : i ≤ n = rise.0 in let above : i + 1 ≤ n = grind arith in
          let later : value_of jobs (n ∷ chosen) ≤ worth_from s (i + 1) rest = other (above, rise.1, rise.2) in
          omega (arith, sum_by-cons (λ n_j. cond (is_served s n_j) n_j.1.value 0) (i, j) (enumerate_from (i + 1) rest))

pub value_worth : (rules : Rules) (jobs : List JobFacts) (s chosen : List ℕ) → RiseWithin 0 (length jobs) chosen
    → Each (Serves jobs s) chosen
    → value_of jobs chosen ≤ worth (record { rules = rules; jobs = jobs }) s
value_worth rules jobs s chosen rise all = value_served jobs s 0 jobs chosen refl rise all
