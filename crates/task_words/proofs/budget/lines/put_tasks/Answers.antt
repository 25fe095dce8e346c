use Rattle.std.proofs.Common.{◌∙◌, refl, subst}
use Rattle.dover_port.proofs.Through.{passes_nothing, passes_then}
use Rattle.dover_port.specs.Moves.{Passes, PutsThrough}
use Rattle.dialogue.proofs.Putting.{puts_behind, puts_cut}
use Rattle.task_words.specs.tasks.Merging.{blank_task}
use Rattle.task_words.specs.budget.Lines.{task_text}
use Rattle.task_words.proofs.budget.Texts.{more, all, whole}
use Rattle.task_words.proofs.budget.lines.put_tasks.Goals as goal

pub loop-number-preserved : goal.loop-number-preserved
loop-number-preserved g c = record {
  passes = subst (Passes _ _ _ _)
      (more task_text c.args.tasks.now blank_task c.loop-number.number c.loop-number-test.true)
      (passes_then _ _ _ _ _ _ _ _ c.loop-number.invariant.passes c.in-Ok.ensures.text.all);
  writes = c.in-Ok.ensures.cause.ok ∙ c.loop-number.invariant.writes;
  reads = c.in-Ok.ensures.cause.other ∙ c.loop-number.invariant.reads;
  calls = λ well. c.in-Ok.ensures.stops.well (c.loop-number.invariant.calls well);
}

pub returns-in-Err-clause-text : goal.returns-in-Err-clause-text
returns-in-Err-clause-text g c =
    subst (PutsThrough _ _ _ _ _)
    (all task_text c.args.tasks.now blank_task c.loop-number.number c.loop-number-test.true)
    (puts_behind _ _ _ _ _ _ _ _ _ c.loop-number.invariant.passes (puts_cut _ _ _ _ _ _ _ c.in-Err.ensures.text.part))

pub loop-number-init : goal.loop-number-init
loop-number-init g c = record {
  passes = passes_nothing _ _;
  writes = refl;
  reads = refl;
  calls = λ well. well;
}

pub returns-clause-text : goal.returns-clause-text
returns-clause-text g c = record {
  all = subst (Passes _ _ _ _)
      (whole task_text c.args.tasks.now blank_task c.loop-number.number c.loop-number-test.false)
      c.loop-number.invariant.passes;
  part = tt;
}
