use Rattle.std.proofs.Common.{◌++◌, ◌∷◌, [], subst, sym}
use Rattle.dover_model.specs.Due.{fault_text}
use Rattle.dover_port.specs.declared.status.Status.TheVariants.{Refused}
use Rattle.event_feed.specs.Kept.{cause_of_fault}
use Rattle.task_words.specs.reading.Record.{listed_rules}
use Rattle.demand_words.specs.Demanded.{AreLimited}
use Rattle.demand_words.proofs.Limited.{limited}
use Rattle.demand_words.proofs.Talking.{answered, fault_answers}
use Rattle.demand_words.proofs.asking.AskingDemandTalker.answer.Goals as goal

pub close-requires : goal.close-requires
close-requires g c = (0, c.requires.ready.1, c.requires.ready.2.reads)

pub answer-requires-clause-limits : goal.answer-requires-clause-limits
answer-requires-clause-limits g c = subst AreLimited (sym c.as_slice.ensures.value)
    (limited (listed_rules c.in-Ok.listed).ratio c.in-Ok.listed.tasks.items
    (c.in-Ok.ensures.tasks 0 _ c.requires.ready.2.reads).are)

pub returns-in-Ok-clause-answers : goal.returns-in-Ok-clause-answers
returns-in-Ok-clause-answers g c = λ a x at over. answered x c.args._ended over c.in-Ok.listed
    (c.in-Ok.ensures.tasks 0 x at.reads) _ _ _ _ (rw c.as_slice.ensures.value at c.answer.ensures.says)

pub returns-in-Ok-put_fault-clause-answers : goal.returns-in-Ok-put_fault-clause-answers
returns-in-Ok-put_fault-clause-answers g c = λ a x at over. (
  tt,
  (
    fault_text c.in-Err.fault.line (cause_of_fault c.in-Err.fault.cause) ++ 10 ∷ [],
    fault_answers c.in-Err.fault x c.args._ended (c.in-Err.ensures.fault 0 x at.reads) over,
    rw c.requires.empty at c.in-Ok-put_fault.ensures.text.all,
  ),
)

pub returns-in-Err-put_fault-clause-answers : goal.returns-in-Err-put_fault-clause-answers
returns-in-Err-put_fault-clause-answers g c = λ a x at over. (
  Refused,
  fault_text c.in-Err.fault.line (cause_of_fault c.in-Err.fault.cause) ++ 10 ∷ [],
  fault_answers c.in-Err.fault x c.args._ended (c.in-Err.ensures.fault 0 x at.reads) over,
  rw c.requires.empty at c.in-Err-put_fault.ensures.text.part,
)
