use Rattle.std.proofs.Common.{◌≡◌, ◌∷◌, ◌-◌, ◌+◌, [], sym, ap, ◌∙◌, arith}
use Rattle.dover_model.specs.Generator.{next_state}
use Rattle.stated_jobs.specs.trial.Turns.{next_four, next_job, drawn_turns_from}
use Rattle.stated_jobs.proofs.trial.Drawn.{four, job_is}
use Rattle.stated_jobs.proofs.trial.Turning.{next_six, turn_of, turn_is, named_soon, one_turn}
use Rattle.stated_jobs.proofs.trial.turns.TurnGen.next.Goals as goal

-- the job of this turn
job : (c : goal.After-self-4-1)
    → c.drawn_job-job.result ≡ next_job c.self.inside.k c.self.inside.state c.self.inside.last
job c = job_is c.self.inside.k c.self.inside.state c.self.inside.last c.drawn-release.result c.drawn-work.result
    c.drawn-slack.result c.drawn-density.result
    c.drawn-release.ensures.is c.drawn-work.ensures.is c.drawn-slack.ensures.is c.drawn-density.ensures.is
    c.drawn_job-job.result c.drawn_job-job.ensures

-- the turns before the call are the next one and those after it
split : (c : goal.After-self-4-1) → c.args.self.now
    ≡ turn_of c.drawn_job-job.result c.drawn_done-done.result ∷ drawn_turns_from c.self.inside.k
    (c.self.inside.left - 1) (c.self.inside.number + 1) c.drawn-back.result c.last_named_in-self-inside.result
split c =
    let state = c.self.inside.state in
    let later : c.drawn-density.result ≡ next_four state =
    four c.self.inside.k state c.self.inside.last c.drawn-release.result c.drawn-work.result
    c.drawn-slack.result c.drawn-density.result
    c.drawn-release.ensures.is c.drawn-work.ensures.is c.drawn-slack.ensures.is c.drawn-density.ensures.is in
    let tick : c.drawn-tick.result ≡ next_state (next_four state) = c.drawn-tick.ensures.is ∙ ap next_state later in
    let back : c.drawn-back.result ≡ next_six state = c.drawn-back.ensures.is ∙ ap next_state tick in
    sym c.self.view_is
    ∙ one_turn c.self.inside.k c.self.inside.left c.self.inside.number state c.self.inside.last
    (turn_of c.drawn_job-job.result c.drawn_done-done.result)
    c.drawn-back.result c.last_named_in-self-inside.result (omega arith)
    (turn_is c.self.inside.k c.self.inside.number state c.self.inside.last c.release.result c.drawn-tick.result
    c.drawn-back.result c.drawn_job-job.result c.drawn_done-done.result (job c) c.release.ensures.is tick back
    c.drawn_done-done.ensures.is)
    back c.last_named_in-self-inside.ensures.is

pub invariant_of-self : goal.invariant_of-self
invariant_of-self c =
    let soon = named_soon c.self.inside.k c.self.inside.number c.self.inside.state c.self.inside.last c.release.result
    c.drawn-tick.result c.drawn-back.result c.drawn_job-job.result c.drawn_done-done.result (job c) c.release.ensures.is
    c.drawn_done-done.ensures.is in
    (c.drawn-back.ensures.small, omega (arith, soon, c.last_named_in-self-inside.ensures.is), omega arith)

pub returns-clause-turns : goal.returns-clause-turns
returns-clause-turns c = split c

pub returns-clause-none : goal.returns-clause-none
returns-clause-none c = (
  λ e. absurd (cc),
  λ e. absurd (let no : turn_of c.drawn_job-job.result c.drawn_done-done.result ∷ drawn_turns_from c.self.inside.k
      (c.self.inside.left - 1) (c.self.inside.number + 1) c.drawn-back.result c.last_named_in-self-inside.result
      ≡ [] = sym (split c) ∙ e in cc),
)
