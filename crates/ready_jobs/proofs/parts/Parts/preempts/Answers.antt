use Rattle.std.proofs.Common.{◌<◌, ◌≤◌, ◌∙◌, ap, not, subst}
use Rattle.dover_model.specs.Common.{privileged, room, view}
use Rattle.ready_jobs.specs.Parts.{state_of}
use Rattle.ready_jobs.proofs.Deciding.{preempts_is}
use Rattle.ready_jobs.proofs.parts.Parts.preempts.Goals as goal

pub returns-then-work-room_busy : goal.returns-then-work-room_busy
returns-then-work-room_busy c =
    let now = c.args.self.now in
    ap not c.yields.ensures
    ∙ preempts_is (view now.version (state_of now)) c.args.r.now c.args.f.now
    (subst (λ d. d < c.args.r.now.job.deadline) c.deadline.ensures.is
    (subst (λ d. c.deadline.result < d) c.deadline-2.ensures.is c.if-deadline.true))
    (subst (λ w. w ≤ room now.clock (privileged (state_of now))) c.work.ensures.is
    (subst (λ most. c.work.result ≤ most) c.room_busy.ensures c.if-work-room_busy.true))
