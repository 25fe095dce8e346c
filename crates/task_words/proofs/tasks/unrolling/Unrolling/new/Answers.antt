use Rattle.std.proofs.Common.{[], refl, subst}
use Rattle.task_words.specs.tasks.Merging.{merge, StandsBehind}
use Rattle.task_words.proofs.tasks.unrolling.Unrolling.new.Goals as goal

pub returns-clause-stands : goal.returns-clause-stands
returns-clause-stands g c = subst (λ ts. StandsBehind (merge ts c.args.until c.in_ok-next.next) [])
    c.deref.ensures.value c.in_ok-next.ensures.stands

pub returns-clause-tasks : goal.returns-clause-tasks
returns-clause-tasks g c = refl

pub returns-clause-until : goal.returns-clause-until
returns-clause-until g c = refl
