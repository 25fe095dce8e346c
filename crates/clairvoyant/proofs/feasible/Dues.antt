-- The last deadline of some of the jobs is no later than that of all.
use Rattle.std.proofs.Common.{◌≡◌, ℕ, zero, suc, ◌≤◌, inl, inr, List, [], ◌∷◌, refl, sym, Bool, arith, Option}
use Rattle.std.proofs.Common.{Some, None, slice_get, filter}
use Rattle.std.specs.List.{AllByRecursion, cons_option}
use Rattle.std.proofs.lemmas.Option.{slice_get_within}
use Rattle.dover_model.specs.Common.{JobFacts, IsMember, Each, last_deadline}
use Rattle.dover_model.proofs.lists.Members.{all_member, each_all, member_filter, some_same}
use Rattle.dover_model.proofs.valid.Dues.{dues_most, last_within}
use Rattle.clairvoyant.specs.best.BestSet.{jobs_at}

-- no job is due after it
pub due_each : (jobs : List JobFacts) → Each (λ j. j.deadline ≤ last_deadline jobs) jobs
due_each jobs = all_member (λ (j : JobFacts). j.deadline ≤ last_deadline jobs) jobs (dues_most jobs 0)

-- the job of a number is among the jobs
found_among : (jobs : List JobFacts) (n : ℕ) (j : JobFacts) → slice_get jobs n ≡ Some j → IsMember j jobs
found_among [] n j at = absurd (omega (arith, slice_get_within {A = JobFacts} [] n j at))
found_among (i ∷ jobs) zero j at = inl (sym (some_same i j at))
found_among (i ∷ jobs) (suc n) j at = inr (found_among jobs n j at)

pub found_due : (jobs : List JobFacts) (n : ℕ) (j : JobFacts) → slice_get jobs n ≡ Some j
    → j.deadline ≤ last_deadline jobs
found_due jobs n j at = due_each jobs j (found_among jobs n j at)

-- of those that pass a test
pub filter_due : (p : JobFacts → Bool) (jobs : List JobFacts) → last_deadline (filter p jobs) ≤ last_deadline jobs
filter_due p jobs = last_within (last_deadline jobs) (filter p jobs)
    (each_all (λ j. j.deadline ≤ last_deadline jobs) (filter p jobs)
    (λ j member. due_each jobs j (member_filter p jobs j member).0))

-- of those of some numbers
pub chosen_due : (jobs : List JobFacts) (chosen : List ℕ) → last_deadline (jobs_at jobs chosen) ≤ last_deadline jobs
chosen_due jobs chosen = last_within (last_deadline jobs) (jobs_at jobs chosen) (each chosen) where
  each : (numbers : List ℕ) → AllByRecursion (λ j. j.deadline ≤ last_deadline jobs) (jobs_at jobs numbers)
  each [] = tt
  each (n ∷ numbers) = by_option (slice_get jobs n) refl (each numbers) where
    by_option : (o : Option JobFacts) → slice_get jobs n ≡ o
        → AllByRecursion (λ j. j.deadline ≤ last_deadline jobs) (jobs_at jobs numbers)
        → AllByRecursion (λ j. j.deadline ≤ last_deadline jobs) (cons_option o (jobs_at jobs numbers))
    by_option None at rest = rest
    by_option (Some j) at rest = (found_due jobs n j at, rest)
