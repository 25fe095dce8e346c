use Rattle.std.proofs.Common.{sym, subst, ◌∙◌}
use Rattle.std.proofs.lemmas.Bool.{eqb-true, eq-eqb, false≢true}
use Rattle.ready_jobs.specs.Course.{Runs, RunsNowhere}
use Rattle.ready_jobs.proofs.Runners.{ready_runs, ready_other, none_runs}
use Rattle.ready_jobs.proofs.ready.Ready.runs.Goals as goal

pub returns-in-Some-clause-yes : goal.returns-in-Some-clause-yes
returns-in-Some-clause-yes c same = subst (λ d. Runs d c.args.number) c.self.view_is
    (subst (Runs _) (sym c.from.ensures ∙ eqb-true _ _ same)
    (ready_runs _ c.in-Some.r (sym c.running.ensures.seen ∙ c.in-Some.is)))

pub returns-in-Some-clause-no : goal.returns-in-Some-clause-no
returns-in-Some-clause-no c other = subst (λ d. RunsNowhere d c.args.number) c.self.view_is
    (ready_other _ c.in-Some.r (sym c.running.ensures.seen ∙ c.in-Some.is) c.args.number
    (λ same. false≢true (sym other ∙ eq-eqb _ _ (c.from.ensures ∙ same))))

pub returns-in-None-clause-no : goal.returns-in-None-clause-no
returns-in-None-clause-no c other = subst (λ d. RunsNowhere d c.args.number) c.self.view_is
    (none_runs _ (sym c.running.ensures.seen ∙ c.in-None.is) c.args.number)
