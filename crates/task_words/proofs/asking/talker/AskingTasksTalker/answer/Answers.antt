use Rattle.std.proofs.Common.{◌++◌, ◌∷◌, []}
use Rattle.dover_model.specs.Due.{fault_text}
use Rattle.dover_port.specs.declared.status.Status.TheVariants.{Refused}
use Rattle.event_feed.specs.Kept.{cause_of_fault}
use Rattle.task_words.specs.asking.Questions.{until_of}
use Rattle.task_words.proofs.asking.Ending.{refused, answered}
use Rattle.task_words.proofs.asking.Spending.{none_spent, costs_ended}
use Rattle.task_words.proofs.asking.talker.AskingTasksTalker.answer.Goals as goal

pub close-requires : goal.close-requires
close-requires g c = (until_of c.requires.ready.0.question, c.requires.ready.1, c.requires.ready.2.reads)

pub answer-requires-clause-ratio : goal.answer-requires-clause-ratio
answer-requires-clause-ratio g c = (c.in-Ok.ensures.tasks _ _ c.requires.ready.2.reads).ratio

pub answer-requires-clause-declarable : goal.answer-requires-clause-declarable
answer-requires-clause-declarable g c = (c.in-Ok.ensures.tasks _ _ c.requires.ready.2.reads).declarable

pub answer-requires-clause-known : goal.answer-requires-clause-known
answer-requires-clause-known g c = rw c.requires.ready.2.asks c.requires.ready.2.known

pub returns-in-Ok-clause-answers : goal.returns-in-Ok-clause-answers
returns-in-Ok-clause-answers g c = λ a x at over. answered a.question x c.args._ended over c.in-Ok.listed
    (c.in-Ok.ensures.tasks (until_of a.question) x at.reads) _ _ _ _ (rw at.asks at c.answer.ensures.says)

pub returns-in-Ok-put_fault-clause-answers : goal.returns-in-Ok-put_fault-clause-answers
returns-in-Ok-put_fault-clause-answers g c = λ a x at over. (
  tt,
  (
    fault_text c.in-Err.fault.line (cause_of_fault c.in-Err.fault.cause) ++ 10 ∷ [],
    refused a.question c.in-Err.fault x c.args._ended (c.in-Err.ensures.fault (until_of a.question) x at.reads) over,
    rw c.requires.empty at c.in-Ok-put_fault.ensures.text.all,
  ),
)

pub returns-in-Err-put_fault-clause-answers : goal.returns-in-Err-put_fault-clause-answers
returns-in-Err-put_fault-clause-answers g c = λ a x at over. (
  Refused,
  fault_text c.in-Err.fault.line (cause_of_fault c.in-Err.fault.cause) ++ 10 ∷ [],
  refused a.question c.in-Err.fault x c.args._ended (c.in-Err.ensures.fault (until_of a.question) x at.reads) over,
  rw c.requires.empty at c.in-Err-put_fault.ensures.text.part,
)

pub returns-in-Ok-clause-spent : goal.returns-in-Ok-clause-spent
returns-in-Ok-clause-spent g c = λ a x at. costs_ended a.question c.in-Ok.listed a.before c.answer.new.comparisons x
    (c.in-Ok.ensures.tasks (until_of a.question) x at.reads) (rw (at.asks, at.counts) at c.answer.ensures.count)

pub returns-in-Ok-put_fault-clause-spent : goal.returns-in-Ok-put_fault-clause-spent
returns-in-Ok-put_fault-clause-spent g c = λ a x at. none_spent a.question _ _ a.before _ at.counts

pub returns-in-Err-put_fault-clause-spent : goal.returns-in-Err-put_fault-clause-spent
returns-in-Err-put_fault-clause-spent g c = λ a x at. none_spent a.question _ _ a.before _ at.counts

pub returns-in-Ok-clause-cause : goal.returns-in-Ok-clause-cause
returns-in-Ok-clause-cause g c = c.answer.ensures.cause

pub returns-in-Ok-clause-stops : goal.returns-in-Ok-clause-stops
returns-in-Ok-clause-stops g c = c.answer.ensures.stops

pub returns-in-Ok-put_fault-clause-stops : goal.returns-in-Ok-put_fault-clause-stops
returns-in-Ok-put_fault-clause-stops g c = c.in-Ok-put_fault.ensures.stops.well

pub returns-in-Err-put_fault-clause-stops : goal.returns-in-Err-put_fault-clause-stops
returns-in-Err-put_fault-clause-stops g c = c.in-Err-put_fault.ensures.stops.stopped
