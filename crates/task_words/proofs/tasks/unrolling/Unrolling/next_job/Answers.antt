use Rattle.task_words.proofs.tasks.Merging.{same_end}
use Rattle.std.proofs.Common.{[], ◌∷◌, ◌++◌, ap, sym, subst, IfSome}
use Rattle.task_words.specs.tasks.Merging.{Merge, merge, StandsBehind}
use Rattle.task_words.proofs.tasks.unrolling.Unrolling.next_job.Goals as goal

pub returns-clause-end : goal.returns-clause-end
returns-clause-end g c =
    λ done. same_end _ _ c.deref.result.now done _ c.self.view_is c.deref.ensures.value c.take_job.ensures.end

pub returns-clause-next : goal.returns-clause-next
returns-clause-next g c = λ done stands.
    subst (λ ts. IfSome c.take_job.result (λ job.
    StandsBehind (merge ts c.self.inside.until c.take_job.new.next) (done ++ job ∷ []))) c.deref.ensures.value
    (c.take_job.ensures.next done
    (subst (λ ts. StandsBehind (merge ts c.self.inside.until c.self.inside.next) done) (sym c.deref.ensures.value)
    (subst (λ (m : Merge). StandsBehind m done) (sym c.self.view_is) stands)))

pub returns-clause-tasks : goal.returns-clause-tasks
returns-clause-tasks g c = ap (λ (m : Merge). m.tasks) c.self.view_is

pub returns-clause-until : goal.returns-clause-until
returns-clause-until g c = ap (λ (m : Merge). m.until) c.self.view_is

pub returns-clause-idle : goal.returns-clause-idle
returns-clause-idle g c = c.take_job.ensures.idle
