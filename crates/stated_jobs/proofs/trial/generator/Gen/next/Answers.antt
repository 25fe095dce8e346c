use Rattle.std.proofs.Common.{◌≡◌, ◌∷◌, ◌-◌, [], sym, ◌∙◌, arith}
use Rattle.dover_model.specs.Generator.{generated_jobs_from}
use Rattle.stated_jobs.specs.trial.Turns.{next_four, next_job}
use Rattle.stated_jobs.proofs.trial.Drawn.{next_one, four, job_is}
use Rattle.stated_jobs.proofs.trial.generator.Gen.next.Goals as goal

-- the jobs before the call are the next one and those after it
split : (c : goal.After-self-3-1) → c.args.self.now
    ≡ c.drawn_job-job.result ∷ generated_jobs_from c.self.inside.k
    (c.self.inside.left - 1) c.drawn-density.result c.release-self-inside.result
split c =
    let here : c.drawn_job-job.result ≡ next_job c.self.inside.k c.self.inside.state c.self.inside.last =
    job_is c.self.inside.k c.self.inside.state c.self.inside.last c.drawn-release.result c.drawn-work.result
    c.drawn-slack.result
    c.drawn-density.result
    c.drawn-release.ensures.is c.drawn-work.ensures.is c.drawn-slack.ensures.is c.drawn-density.ensures.is
    c.drawn_job-job.result c.drawn_job-job.ensures in
    let later : c.drawn-density.result ≡ next_four c.self.inside.state =
    four c.self.inside.k c.self.inside.state c.self.inside.last c.drawn-release.result c.drawn-work.result
    c.drawn-slack.result c.drawn-density.result
    c.drawn-release.ensures.is c.drawn-work.ensures.is c.drawn-slack.ensures.is c.drawn-density.ensures.is in
    sym c.self.view_is
    ∙ next_one c.self.inside.k c.self.inside.left c.self.inside.state c.self.inside.last c.drawn_job-job.result
    c.drawn-density.result
    c.release-self-inside.result (omega arith) here later c.release-self-inside.ensures.is

pub returns-clause-jobs : goal.returns-clause-jobs
returns-clause-jobs c = split c

pub returns-clause-none : goal.returns-clause-none
returns-clause-none c = (
  λ e. absurd (cc),
  λ e. absurd (let no : c.drawn_job-job.result ∷ generated_jobs_from c.self.inside.k (c.self.inside.left - 1)
      c.drawn-density.result c.release-self-inside.result ≡ [] = sym (split c) ∙ e in cc),
)
