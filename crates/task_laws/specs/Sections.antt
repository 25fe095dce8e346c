-- Sections: parts of a job's own work that are run to their end before the processor is given away, behind a run that
-- knows nothing of them.
use Rattle.std.specs.Prelude.{◌≡◌, ℕ, suc, ◌+◌, ◌≤◌, List, [], ◌∷◌, Bool, true, ◌==◌, ◌&&◌, nat_lt, nat_le}
use Rattle.std.specs.Prelude.{if◌then◌else◌, Option, Some, None}
use Rattle.dover_model.specs.declared.events.Task.{Task}
use Rattle.dover_model.specs.State.{State, running, left}
use Rattle.dover_model.specs.Step.{Prints, Waits, Ticks}
use Rattle.dover_model.specs.Run.{Step, number_running}
use Rattle.dover_model.specs.Books.{is_busy_tick}
use Rattle.dover_model.specs.Processor.{is_complete}
use Rattle.task_laws.specs.Forward.{completes_next}
use Rattle.task_laws.specs.Switches.{is_complete_of, may_preempt}
use Rattle.dover_model.specs.JobFacts.{JobFacts}
use Rattle.dover_model.specs.Instance.{Instance}
use Rattle.dover_model.specs.Schedules.{numbered}
use Rattle.dover_model.specs.Orders.{is_heavy}
use Rattle.dover_model.specs.Sound.{IsMember, Each}

-- What jobs do in reality, by their numbers: how many ticks of work each has of its own; and behind so many of them,
-- how many more it has to have before it may be stopped, which is 0 outside of its sections.
pub record Sections : Type 0 where
  pub own : ℕ → ℕ
  pub inside : ℕ → ℕ → ℕ

-- a job may be stopped before its first tick and behind its last one, and in a section it comes tick by tick to where
-- it may be again
pub record AreSections (k : Sections) : Type 0 where
  pub begins : (n : ℕ) → k.inside n 0 ≡ 0
  pub goes_on : (n had more : ℕ) → k.inside n had ≡ suc more → k.inside n (suc had) ≡ more
  pub ends : (n had : ℕ) → k.own n ≤ had → k.inside n had ≡ 0

-- The budgets pay for them: a job has its own work, what is left at most of the section of a job that it may preempt,
-- and the same of a job that it is heavy against.
pub record ArePaid (J : Instance) (k : Sections) (start take : ℕ → ℕ) : Type 0 where
  pub starts : (i n : ℕ × JobFacts) (had : ℕ) → IsMember i (numbered J) → IsMember n (numbered J)
      → may_preempt i.1 n ≡ true → k.inside i.0 had ≤ start n.0
  pub takes : (i n : ℕ × JobFacts) (had : ℕ) → IsMember i (numbered J) → IsMember n (numbered J)
      → is_heavy J.rules.ratio n.1.value i.1.value ≡ true → k.inside i.0 had ≤ take n.0
  pub budgets : Each (λ n_j. k.own n_j.0 + start n_j.0 + take n_j.0 ≤ n_j.1.work) (numbered J)

-- the real processor: the number of the job that worked last, and how much of its own work each job has had
pub record Real : Type 0 where
  pub last : ℕ
  pub got : ℕ → ℕ

-- no job has had anything
abbrev pub untouched : Real
untouched = record { last = 0; got = λ n. 0 }

-- how many ticks are left of the section that is under way
abbrev pub section_left : Sections → Real → ℕ
section_left k r = k.inside r.last (r.got r.last)

-- the job of this number works for a tick
abbrev pub works : ℕ → Real → Real
works n r = record { last = n; got = λ m. if m == n then suc (r.got m) else r.got m }

-- the job that has the processor works for a tick, if it isn't done
abbrev pub works_if_any : Sections → Option Task → Real → Real
works_if_any k None r = r
works_if_any k (Some t) r = if nat_lt (r.got t.number) (k.own t.number) then works t.number r else r

-- a tick: a section that is under way goes on, whoever has the processor by the run
abbrev pub real_tick : Sections → Option Task → Real → Real
real_tick k named r = if nat_lt 0 (section_left k r) then works r.last r else works_if_any k named r

-- the real processor behind a step
abbrev pub real_after : Sections → Real → Step → Real
real_after k r x = elim x.move [ Prints e ↦ r | Waits n ↦ r | Ticks ↦ real_tick k (running x.before) r ]

-- the job of this number has had all its own work, and no section is under way
abbrev pub is_finished : Sections → Real → ℕ → Bool
is_finished k r n = (section_left k r == 0) && nat_le (k.own n) (r.got n)

-- what is left of the job that runs
abbrev pub work_left : State → ℕ
work_left s = elim (running s) [ None ↦ 0 | Some t ↦ left t ]

-- a job is done before its budget is out
abbrev pub is_done_early : Step → Bool
is_done_early x = is_complete x.move && nat_lt 0 (work_left x.before)

-- The dispatcher's rule: it says that a job is done only where it is finished, and it does so behind the first tick by
-- which it is.
abbrev pub SaysDone : Sections → Real → List Step → Type 0
SaysDone k r [] = Unit {0}
SaysDone k r (x ∷ xs) =
    (is_done_early x ≡ true → is_finished k r (number_running x.before) ≡ true)
    × (is_busy_tick x ≡ true → is_finished k (real_after k r x) (number_running x.before) ≡ true
    → completes_next (number_running x.before) xs ≡ true)
    × SaysDone k (real_after k r x) xs

-- Each job that the run completes has had all its own work by then, and no section is under way; nor is one where no
-- job has the processor.
abbrev pub AreFinished : Sections → Real → List Step → Type 0
AreFinished k r [] = Unit {0}
AreFinished k r (x ∷ xs) =
    ((n : ℕ) → is_complete_of n x.move ≡ true → is_finished k r n ≡ true)
    × (running x.before ≡ None → section_left k r ≡ 0)
    × AreFinished k (real_after k r x) xs
