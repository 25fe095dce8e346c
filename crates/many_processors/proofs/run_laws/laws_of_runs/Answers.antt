use Rattle.many_processors.proofs.steps.Turns.{opening_kept, step_kept}
use Rattle.many_processors.proofs.runs.EachStep.{each_step, busy_where_one_waits, busy_where_one_is_held}
use Rattle.many_processors.proofs.runs.RunEnds.{run_ends, few_printed}
use Rattle.many_processors.proofs.runs.Balance.{as_many}
use Rattle.many_processors.proofs.runs.Once.{preempts_once, takes_once}
use Rattle.many_processors.proofs.runs.RanFor.{ran_for}
use Rattle.many_processors.proofs.runs.Honest.{ran_different, named_in_window, honest, done_finished, observed_all}
use Rattle.std.proofs.Common.{◌≡◌, ℕ, ◌<◌, ◌⊎◌, true, false, refl}
use Rattle.dover_model.specs.declared.events.Role.TheVariants.{Fresh, Waiting, Held}
use Rattle.dover_model.specs.Common.{Each, is_privileged}
use Rattle.dover_model.proofs.steps.Roles.{passes}
use Rattle.many_processors.specs.Step.{Ticks}
use Rattle.many_processors.specs.Ticks.{SomeRunsOn, takes_or_abandons}
use Rattle.many_processors.proofs.runs.OneProcessor.{one_prints}
use Rattle.many_processors.proofs.runs.Underload.{step_keeps_all, all_completed}
use Rattle.many_processors.proofs.run_laws.laws_of_runs.Goals as goal

pub returns-clause-sound_opening : goal.returns-clause-sound_opening
returns-clause-sound_opening c = opening_kept

pub returns-clause-sound_steps : goal.returns-clause-sound_steps
returns-clause-sound_steps c processors J s some valid keeps = step_kept processors J valid some J.rules s keeps

pub returns-clause-ends : goal.returns-clause-ends
returns-clause-ends c processors J some valid = run_ends processors J valid some

pub returns-clause-few_steps : goal.returns-clause-few_steps
returns-clause-few_steps c processors J some valid = few_printed processors J valid some

pub returns-clause-preempts_once : goal.returns-clause-preempts_once
returns-clause-preempts_once c processors J n some valid = preempts_once processors J valid some n

pub returns-clause-takes_once : goal.returns-clause-takes_once
returns-clause-takes_once c processors J n some valid = takes_once processors J valid some n

pub returns-clause-as_many_runs : goal.returns-clause-as_many_runs
returns-clause-as_many_runs c processors J some valid = as_many processors J valid some

pub returns-clause-few_at_once : goal.returns-clause-few_at_once
returns-clause-few_at_once c processors J some valid = ran_for processors J valid some

pub returns-clause-no_job_twice : goal.returns-clause-no_job_twice
returns-clause-no_job_twice c processors J some valid = ran_different processors J valid some

pub returns-clause-in_window : goal.returns-clause-in_window
returns-clause-in_window c processors J n τ j some valid = named_in_window processors J valid some n τ j

pub returns-clause-none_free : goal.returns-clause-none_free
returns-clause-none_free c processors J some valid = each_step processors J valid some
    (λ x. x.move ≡ Ticks → Each (λ p. (p.task.role ≡ Fresh) ⊎ (p.task.role ≡ Waiting) → (q : ℕ) → q < processors
    → SomeRunsOn q x.before) x.before.jobs)
    (λ s keeps ticks p member waits q low. busy_where_one_waits processors J valid some s keeps ticks q low p member
    waits)

pub returns-clause-none_holds : goal.returns-clause-none_holds
returns-clause-none_holds c processors J some valid = each_step processors J valid some
    (λ x. x.move ≡ Ticks → Each (λ p. p.task.role ≡ Held → SomeRunsOn p.owner x.before) x.before.jobs)
    (λ s keeps ticks p member held. busy_where_one_is_held processors J valid some s keeps ticks p.owner
    (keeps.placed.owners p member (passes is_privileged p.task Held true held refl)) p member held refl)

pub returns-clause-honest : goal.returns-clause-honest
returns-clause-honest c processors J some valid = honest processors J valid some

pub returns-clause-done : goal.returns-clause-done
returns-clause-done c processors J some valid = done_finished processors J valid some

pub returns-clause-as_declared : goal.returns-clause-as_declared
returns-clause-as_declared c processors J some valid = observed_all processors J valid some

pub returns-clause-none_lost : goal.returns-clause-none_lost
returns-clause-none_lost c processors J some valid few = each_step processors J valid some
    (λ x. takes_or_abandons x.move ≡ false) (λ s keeps. step_keeps_all processors J valid some few s keeps)

pub returns-clause-all_value : goal.returns-clause-all_value
returns-clause-all_value c processors J some valid few = all_completed processors J valid some few

pub returns-clause-one_processor : goal.returns-clause-one_processor
returns-clause-one_processor c = one_prints
