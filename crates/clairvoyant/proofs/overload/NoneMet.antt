-- Stretches, and whether all jobs can be served.
use Rattle.dover_model.specs.Common.{fraction, Rules, JobFacts, IsJob, Each, IsOverfull, is_inside, work_inside}
use Rattle.dover_model.specs.Common.{total_value, is_served}
use Rattle.std.proofs.Common.{◌≡◌, ℕ, ◌≤◌, ◌<◌, List, [], ◌∷◌, inl, inr, refl, ap, subst, cond, Bool, true, false}
use Rattle.std.proofs.Common.{arith, ◌&&◌, ◌+◌, nat_le, IsTrue, sum_by, leb-true, leb-false}
use Rattle.std.specs.List.{enumerate_from, AllByRecursion}
use Rattle.std.proofs.lemmas.List.Sums.{sum_by-cons}
use Rattle.std.proofs.lemmas.Bool.{lt-leb}
use Rattle.dover_model.specs.declared.events.Version.TheVariants.{One}
use Rattle.dover_model.proofs.lists.Members.{filter_none, cond_le, by_bool}
use Rattle.dover_model.proofs.rest.Parting.{worth_to}
use Rattle.clairvoyant.specs.declared.feasible.answer.Feasible.{Feasible}
use Rattle.clairvoyant.specs.declared.feasible.answer.Feasible.TheVariants.{Window}
use Rattle.clairvoyant.specs.feasible.Feasibility.{CanMeet, IsAnswer, ShowsWindow}
use Rattle.clairvoyant.proofs.feasible.Overfull.{overfull_excludes}
use Rattle.clairvoyant.specs.declared.overload.stretch.Stretch.{Stretch}
use Rattle.clairvoyant.specs.overload.Stretches.{IsStretch, IsWorth}
use Rattle.dover_model.proofs.valid.JobLimits.{job_limits}

-- no job is inside a window without ticks
pub empty_out : (a b : ℕ) (j : JobFacts) → IsJob j → b ≤ a → is_inside a b j ≡ false
empty_out a b j good less = by_test (nat_le a j.release) refl where
  by_test : (x : Bool) → nat_le a j.release ≡ x → (x && nat_le j.deadline b) ≡ false
  by_test false e = refl
  by_test true e = let late : a ≤ j.release = leb-true _ _ e in
      lt-leb _ _ (omega (arith, (job_limits good).work, (job_limits good).window, late, less))

module _ (jobs : List JobFacts) (good : Each IsJob jobs) where
  -- an overfull window has ticks
  pub overfull_some : (a b w : ℕ) → IsOverfull jobs a b w → a < b
  overfull_some a b w full = by_bool _ (nat_le b a)
      (λ e. let none : work_inside jobs a b ≡ 0 = ap (sum_by (λ (j : JobFacts). j.work))
      (filter_none (is_inside a b) jobs
      (λ j member. empty_out a b j (good j member) (leb-true _ _ e))) in
      absurd (omega (arith, none, full.work, full.too_much)))
      (λ e. leb-false _ _ e)

-- the answer of a window shows it
pub window_shown : (jobs : List JobFacts) (answer : Feasible) (a b work : ℕ) → answer ≡ Window a b work
    → IsAnswer jobs answer → ShowsWindow jobs a b work
window_shown jobs answer a b work is shown = subst (λ (given : Feasible). IsAnswer jobs given) is shown

-- some rules
abbrev pub some_rules : Rules
some_rules = record { ratio = fraction 1 1; version = One; finishes = [] }

-- where there is a stretch, no schedule serves all jobs
pub none_met : (jobs : List JobFacts) (xs : List Stretch) → Each (IsStretch jobs) xs → CanMeet jobs → xs ≡ []
none_met jobs [] each can = refl
none_met jobs (x ∷ xs) each can =
    let it : IsStretch jobs x = each x (inl refl) in
    absurd (overfull_excludes
    (record { rules = some_rules; jobs = jobs }) x.from x.until
    (work_inside jobs x.from x.until)
    (record { window = omega (arith, it.some); work = refl; too_much = it.overfull })
    (can some_rules))

-- ---- what is worth all serves all

module _ (s : List ℕ) where
  -- jobs are worth at most their values
  earned_most : (k : ℕ) (jobs : List JobFacts) → sum_by (worth_to s) (enumerate_from k jobs) ≤ total_value jobs
  earned_most k [] = omega arith
  earned_most k (j ∷ jobs) = omega (
    arith,
    sum_by-cons (worth_to s) (k, j) (enumerate_from (k + 1) jobs),
    sum_by-cons (λ (i : JobFacts). i.value) j jobs,
    cond_le (is_served s (k, j)) j.value,
    earned_most (k + 1) jobs,
  )

  -- where they are worth no less, each is served
  all_served : (k : ℕ) (jobs : List JobFacts) → Each IsJob jobs
      → total_value jobs ≤ sum_by (worth_to s) (enumerate_from k jobs)
      → AllByRecursion (λ n_j. IsTrue (is_served s n_j)) (enumerate_from k jobs)
  all_served k [] good all = tt
  all_served k (j ∷ jobs) good all = by_test (is_served s (k, j)) refl (all_served (k + 1) jobs
      (λ i member. good i (inr member))) where
        by_test : (c : Bool) → is_served s (k, j) ≡ c
            → (total_value jobs ≤ sum_by (worth_to s) (enumerate_from (k + 1) jobs)
            → AllByRecursion (λ n_j. IsTrue (is_served s n_j)) (enumerate_from (k + 1) jobs))
            → AllByRecursion (λ n_j. IsTrue (is_served s n_j)) (enumerate_from k (j ∷ jobs))
        by_test true e others = (
          e,
          others (omega (
            arith,
            all,
            sum_by-cons (worth_to s) (k, j) (enumerate_from (k + 1) jobs),
            sum_by-cons (λ (i : JobFacts). i.value) j jobs,
            cond_le (is_served s (k, j)) j.value,
          )),
        )
        by_test false e others =
            let nothing : worth_to s (k, j) ≡ 0 = ap (λ c. cond c j.value 0) e in
            absurd (omega (
              arith,
              all,
              nothing,
              (job_limits (good j (inl refl))).worth,
              sum_by-cons (worth_to s) (k, j) (enumerate_from (k + 1) jobs),
              sum_by-cons (λ (i : JobFacts). i.value) j jobs,
              earned_most (k + 1) jobs,
            ))

-- where some schedule is worth all, all can be served
pub all_met : (jobs : List JobFacts) → Each IsJob jobs → (value : ℕ) → IsWorth jobs value → total_value jobs ≤ value
    → CanMeet jobs
all_met jobs good value it all rules = (it.1, all_served it.1 0 jobs good (omega (arith, all, it.2)))
