use Rattle.std.proofs.Common.{refl, ◌++◌, ◌∷◌, []}
use Rattle.dover_model.specs.Due.{fault_text}
use Rattle.dover_model.proofs.lists.Tests.{never}
use Rattle.dover_port.specs.declared.status.Status.TheVariants.{Refused}
use Rattle.event_feed.specs.Kept.{cause_of_fault}
use Rattle.trace_words.proofs.judge.Talking.{closed_with}
use Rattle.task_report.specs.Behind.{behind}
use Rattle.task_report.proofs.Answering.{answered, refused}
use Rattle.task_report.proofs.Reading.{spent}
use Rattle.task_report.proofs.talker.ReportingTalker.answer.Goals as goal

pub close-requires : goal.close-requires
close-requires g c = (0, c.requires.ready.2.front, c.requires.ready.2.reads)

pub tell-requires-clause-closed : goal.tell-requires-clause-closed
tell-requires-clause-closed g c = let at = c.requires.ready.2 in (
  behind c.requires.ready.1,
  closed_with c.in-Ok-close.closed _ _ _ at.keeps_steps (c.in-Ok-close.ensures.tells _ at.judges)
      (c.in-Ok-close.ensures.steps _ at.judges) (λ S. c.in-Ok-close.ensures.refused _ S at.judges),
)

pub returns-in-Ok-close-clause-answers : goal.returns-in-Ok-close-clause-answers
returns-in-Ok-close-clause-answers g c = λ call x at over. answered call _ _ _ _ x at c.args._ended over c.in-Ok.listed
    (c.in-Ok.ensures.tasks 0 at.front at.reads) _ _ _ _ (rw c.deref.ensures.value at (c.tell.ensures.tells (behind x)
    (closed_with c.in-Ok-close.closed _ _ _ at.keeps_steps (c.in-Ok-close.ensures.tells _ at.judges)
    (c.in-Ok-close.ensures.steps _ at.judges) (λ S. c.in-Ok-close.ensures.refused _ S at.judges))))

pub returns-in-Ok-clause-answers : goal.returns-in-Ok-clause-answers
returns-in-Ok-clause-answers g c = λ call x at over. never (c.in-Err-close.ensures.ok (behind x) at.judges)

pub returns-in-Ok-put_fault-clause-answers : goal.returns-in-Ok-put_fault-clause-answers
returns-in-Ok-put_fault-clause-answers g c = λ call x at over. (
  tt,
  (
    fault_text c.in-Err.fault.line (cause_of_fault c.in-Err.fault.cause) ++ 10 ∷ [],
    refused call _ _ _ _ x at c.args._ended over c.in-Err.fault (c.in-Err.ensures.fault 0 at.front at.reads),
    rw c.requires.empty at c.in-Ok-put_fault.ensures.text.all,
  ),
)

pub returns-clause-answers : goal.returns-clause-answers
returns-clause-answers g c = λ call x at over. (
  Refused,
  fault_text c.in-Err.fault.line (cause_of_fault c.in-Err.fault.cause) ++ 10 ∷ [],
  refused call _ _ _ _ x at c.args._ended over c.in-Err.fault (c.in-Err.ensures.fault 0 at.front at.reads),
  rw c.requires.empty at c.in-Err-put_fault.ensures.text.part,
)

pub returns-in-Ok-close-clause-spent : goal.returns-in-Ok-close-clause-spent
returns-in-Ok-close-clause-spent g c = λ call x at. spent call _ _ _ _ x at

pub returns-in-Ok-clause-spent : goal.returns-in-Ok-clause-spent
returns-in-Ok-clause-spent g c = λ call x at. spent call _ _ _ _ x at

pub returns-in-Ok-put_fault-clause-spent : goal.returns-in-Ok-put_fault-clause-spent
returns-in-Ok-put_fault-clause-spent g c = λ call x at. spent call _ _ _ _ x at

pub returns-clause-spent : goal.returns-clause-spent
returns-clause-spent g c = λ call x at. spent call _ _ _ _ x at

pub returns-in-Ok-close-clause-cause : goal.returns-in-Ok-close-clause-cause
returns-in-Ok-close-clause-cause g c = c.tell.ensures.cause

pub returns-in-Ok-close-clause-stops : goal.returns-in-Ok-close-clause-stops
returns-in-Ok-close-clause-stops g c = c.tell.ensures.stops

pub returns-in-Ok-clause-cause : goal.returns-in-Ok-clause-cause
returns-in-Ok-clause-cause g c = (refl, refl)

pub returns-in-Ok-clause-stops : goal.returns-in-Ok-clause-stops
returns-in-Ok-clause-stops g c = λ well. well

pub returns-in-Ok-put_fault-clause-cause : goal.returns-in-Ok-put_fault-clause-cause
returns-in-Ok-put_fault-clause-cause g c =
    (c.in-Ok-put_fault.ensures.cause.ok, c.in-Ok-put_fault.ensures.cause.other)

pub returns-in-Ok-put_fault-clause-stops : goal.returns-in-Ok-put_fault-clause-stops
returns-in-Ok-put_fault-clause-stops g c = c.in-Ok-put_fault.ensures.stops.well

pub returns-clause-cause : goal.returns-clause-cause
returns-clause-cause g c = (c.in-Err-put_fault.ensures.cause.failed, c.in-Err-put_fault.ensures.cause.other)

pub returns-clause-stops : goal.returns-clause-stops
returns-clause-stops g c = c.in-Err-put_fault.ensures.stops.stopped
