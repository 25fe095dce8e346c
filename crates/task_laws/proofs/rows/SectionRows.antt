-- Worked rows: sections that are run to their end, and what they cost.
use Rattle.std.proofs.Common.{◌≡◌, ℕ, List, [], ◌∷◌, refl, Bool, true, false, ◌&&◌, fold}
use Rattle.std.proofs.lemmas.Bool.{and_parts, and_from}
use Rattle.std.specs.Prelude.{if◌then◌else◌, ◌==◌, ◌||◌}
use Rattle.dover_model.specs.Common.{Finish, Instance, finishing, Step, run, number_running, is_busy_tick, printed}
use Rattle.dover_model.specs.declared.events.Event.TheVariants.{Complete}
use Rattle.dover_model.specs.declared.events.Event.TheVariants.{Release, Run, Preempt, Take, Abandon, End}
use Rattle.task_laws.specs.Forward.{completes_next}
use Rattle.task_laws.specs.Sections.{Sections, Real, untouched, real_after, is_finished, is_done_early, SaysDone}
use Rattle.dover_model.proofs.rows.Written.{job, one}
use Rattle.dover_model.proofs.lists.Tests.{never}

-- ---- the rule as a test

abbrev implies : Bool → Bool → Bool
implies a b = if a then b else true

-- what it says
implied : (a b : Bool) → implies a b ≡ true → a ≡ true → b ≡ true
implied true b e on = e
implied false b e on = never on

-- the dispatcher's rule
abbrev is_kept : Sections → Real → List Step → Bool
is_kept k r [] = true
is_kept k r (x ∷ xs) =
    implies (is_done_early x) (is_finished k r (number_running x.before))
    && (implies (is_busy_tick x && is_finished k (real_after k r x) (number_running x.before))
    (completes_next (number_running x.before) xs) && is_kept k (real_after k r x) xs)

-- where the test passes, it is kept
kept : (k : Sections) (r : Real) (xs : List Step) → is_kept k r xs ≡ true → SaysDone k r xs
kept k r [] e = tt
kept k r (x ∷ xs) e =
    let parts : (implies (is_done_early x) (is_finished k r (number_running x.before)) ≡ true)
    × ((implies (is_busy_tick x && is_finished k (real_after k r x) (number_running x.before))
    (completes_next (number_running x.before) xs) && is_kept k (real_after k r x) xs) ≡ true) =
    and_parts _ _ e in
    let more : (implies (is_busy_tick x && is_finished k (real_after k r x) (number_running x.before))
    (completes_next (number_running x.before) xs) ≡ true) × (is_kept k (real_after k r x) xs ≡ true) =
    and_parts _ _ parts.1 in (
      implied _ _ parts.0,
      (λ busy over. implied _ _ more.0 (and_from _ _ busy over)),
      kept k (real_after k r x) xs more.1,
    )

-- ---- a job that loses a tick as it preempts, and one more as it takes

-- a finish
abbrev finish : ℕ → ℕ → Finish
finish n had = record { number = n; had = had }

-- jobs 0 and 3 are in a section behind their first tick; job 1 has so much work, and the others 2
abbrev locks : ℕ → Sections
locks work = record {
  own = λ n. if n == 1 then work else 2;
  inside = λ n had. if (n == 0 || n == 3) && (had == 1) then 1 else 0;
}

-- budgets of two ticks more for job 1, and enough for the others
abbrev paid : Instance
paid = finishing (one 1 1 (job 0 4 60 4 ∷ job 1 9 13 9 ∷ job 2 27 29 27 ∷ job 3 4 11 4 ∷ []))
    (finish 2 2 ∷ finish 0 2 ∷ [])

it_goes_so : printed paid ≡ Release 0 (job 0 4 60 4) ∷ Run 0 0 ∷ Release 1 (job 1 9 13 9) ∷ Preempt 1 0 1
    ∷ Release 2 (job 2 27 29 27) ∷ Take 2 1 2 ∷ Release 3 (job 3 4 11 4) ∷ Complete 4 2 ∷ Run 4 3 ∷ Take 5 3 1
    ∷ Abandon 8 3 ∷ Complete 13 1 ∷ Run 13 0 ∷ Complete 14 0 ∷ End 40 ∷ []
it_goes_so = refl

the_rule_is_kept : SaysDone (locks 7) untouched (run paid)
the_rule_is_kept = kept (locks 7) untouched (run paid) refl

-- what each job has had of its own at the end
abbrev had_of_its_own : Sections → Instance → ℕ → ℕ
had_of_its_own k J n = (fold (real_after k) untouched (run J)).got n

seven_of_seven : had_of_its_own (locks 7) paid 1 ≡ 7
seven_of_seven = refl

-- with one tick more alone it is out of budget with 5 of its 6 ticks
abbrev paid_once : Instance
paid_once = finishing (one 1 1 (job 0 2 60 2 ∷ job 1 7 11 7 ∷ job 2 19 21 19 ∷ job 3 3 10 3 ∷ []))
    (finish 2 2 ∷ [])

five_of_six : had_of_its_own (locks 6) paid_once 1 ≡ 5
five_of_six = refl
