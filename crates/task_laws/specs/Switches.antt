-- How often the processor changes hands, who causes it, and what a job gets done where each change costs ticks.
use Rattle.std.specs.Prelude.{◌≡◌, ℕ, ◌+◌, ◌≤◌, List, [], ◌∷◌, take, drop, map, Bool, true, false, not, ◌==◌, ◌&&◌}
use Rattle.std.specs.Prelude.{nat_lt, nat_le, if◌then◌else◌, count_by}
use Rattle.std.specs.List.{list_any}
use Rattle.dover_model.specs.declared.events.Event.TheVariants.{Run, Preempt, Take, Complete}
use Rattle.dover_model.specs.Fraction.{Fraction}
use Rattle.dover_model.specs.JobFacts.{JobFacts}
use Rattle.dover_model.specs.Orders.{is_heavy}
use Rattle.dover_model.specs.State.{State, is_fresh}
use Rattle.dover_model.specs.Step.{Move, Prints}
use Rattle.dover_model.specs.Run.{Step}
use Rattle.dover_model.specs.Processor.{gets}
use Rattle.dover_model.specs.Sound.{Each}

-- ---- who gets the processor, and from whom

-- the job of this number is preempted
abbrev pub is_preempted : ℕ → Move → Bool
is_preempted n (Prints (Preempt at stops starts)) = stops == n
is_preempted n _ = false

-- the job of this number runs, and another takes the processor
abbrev pub is_taken_from : ℕ → Move → Bool
is_taken_from n (Prints (Take at stops starts)) = stops == n
is_taken_from n _ = false

-- the job of this number is done
abbrev pub is_complete_of : ℕ → Move → Bool
is_complete_of n (Prints (Complete at m)) = m == n
is_complete_of n _ = false

-- the job of this number was released, and isn't decided on yet
abbrev pub is_fresh_in : State → ℕ → Bool
is_fresh_in s n = list_any (λ t. (t.number == n) && is_fresh t) s.tasks

-- the job of this number starts: it gets the processor as it is released
abbrev pub starts : ℕ → Step → Bool
starts n x = gets n x.move && is_fresh_in x.before n

-- a job that was released before gets the free processor
abbrev pub returns_by : State → Move → Bool
returns_by s (Prints (Run at n)) = not (is_fresh_in s n)
returns_by s _ = false

-- the same of a step
abbrev pub returns : Step → Bool
returns x = returns_by x.before x.move

-- each step of the second kind comes right behind one of the first; `behind` tells what the step before was
abbrev pub ComesBehind : (Step → Bool) → (Step → Bool) → Bool → List Step → Type 0
ComesBehind first second behind [] = Unit {0}
ComesBehind first second behind (x ∷ xs) = (second x ≡ true → behind ≡ true) × ComesBehind first second (first x) xs

-- ---- whom a job may lose it to

-- the second job may preempt the first: it is released no sooner, and due before it
abbrev pub may_preempt : JobFacts → ℕ × JobFacts → Bool
may_preempt i (m, j) = nat_le i.release j.release && nat_lt j.deadline i.deadline

-- the second job may take the processor from the first: it is heavy against it, and their windows have a tick in common
abbrev pub may_take : Fraction → JobFacts → ℕ × JobFacts → Bool
may_take k i (m, j) = is_heavy k j.value i.value && nat_lt j.release i.deadline && nat_lt i.release j.deadline

-- how often a job gets the processor at most, among these jobs
abbrev pub most_changes : Fraction → List (ℕ × JobFacts) → JobFacts → ℕ
most_changes k jobs i = 1 + count_by (may_preempt i) jobs + count_by (may_take k i) jobs

-- ---- what is left of a schedule where each change costs ticks

-- how many of these ticks go to number n behind `cost` others of its stretch, which has had so many before
abbrev pub useful_from : ℕ → ℕ → ℕ → List ℕ → ℕ
useful_from cost n before [] = 0
useful_from cost n before (m ∷ s) =
    if m == n then (if nat_le cost before then 1 else 0) + useful_from cost n (before + 1) s
    else useful_from cost n 0 s

-- how many ticks the job of number n gets on in its window, where the first ticks of each of its stretches, `cost` of
-- them, go to the change of hands
abbrev pub useful : ℕ → List ℕ → ℕ × JobFacts → ℕ
useful cost s (n, j) = useful_from cost n 0 (drop j.release (take j.deadline s))

-- ---- the same jobs, harder to serve

-- each job of the first list needs at least as much as that of the second, in a window inside of its window, and is
-- worth no more
abbrev pub NeedNoLess : List JobFacts → List JobFacts → Type 0
NeedNoLess [] [] = Unit {0}
NeedNoLess [] (j ∷ js) = ⊥
NeedNoLess (i ∷ is) [] = ⊥
NeedNoLess (i ∷ is) (j ∷ js) = (j.release ≤ i.release) × (i.deadline ≤ j.deadline) × (j.work ≤ i.work)
    × (i.value ≤ j.value) × NeedNoLess is js

-- ---- the jobs of one task

-- each of these ticks comes at least so much later than those before it
abbrev pub AreSpaced : ℕ → List ℕ → Type 0
AreSpaced distance [] = Unit {0}
AreSpaced distance (r ∷ rs) = Each (λ later. r + distance ≤ later) rs × AreSpaced distance rs

-- the jobs of one task: each is released at least so much later than those before it, and due as long after its release
-- as they are
pub record AreOfTask (distance due : ℕ) (jobs : List (ℕ × JobFacts)) : Type 0 where
  pub spaced : AreSpaced distance (map (λ n_j. n_j.1.release) jobs)
  pub ends : Each (λ n_j. n_j.1.deadline ≡ n_j.1.release + due) jobs
