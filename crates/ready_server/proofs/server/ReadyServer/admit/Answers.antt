use Rattle.std.proofs.Common.{◌++◌, ◌∷◌, [], length-append, sym, subst, ap, arith}
use Rattle.dover_model.specs.declared.events.Event.TheVariants.{Release}
use Rattle.dover_model.specs.Common.{with_jobs, settled}
use Rattle.dover_model.specs.declared.horizon.Horizon.TheVariants.{Mark}
use Rattle.ready_jobs.specs.Course.{Course, fresh_job}
use Rattle.waiting_pool.proofs.Reordering.{as_many}
use Rattle.ready_server.specs.Serving.{Serves}
use Rattle.ready_server.proofs.Releasing.{release_course, release_ahead, release_given}
use Rattle.ready_server.proofs.server.ReadyServer.admit.Goals as goal

pub release-requires-clause-course : goal.release-requires-clause-course
release-requires-clause-course c =
    release_course c.args.self.now c.requires.valid.0 c.args.job c.requires.valid.1 c.requires.valid.2

pub release-requires-clause-ahead : goal.release-requires-clause-ahead
release-requires-clause-ahead c =
    release_ahead c.args.self.now c.requires.valid.0 c.args.job c.requires.valid.1 c.requires.valid.2

pub returns-clause-serves : goal.returns-clause-serves
returns-clause-serves c J rests valid =
    subst (λ n. Serves (record c.args.self.now { ready = c.release.new.self; last = c.release-self.result })
    (with_jobs J (c.args.job ∷ []))
    (Mark c.args.job.release) (settled J c.args.job.release ++ Release n c.args.job ∷ []))
    (sym c.jobs-number.ensures.is)
    (release_given c.args.self.now J c.args.job rests valid c.release.new.self c.release.ensures.kept
    c.release.ensures.ready c.release-self.result c.release-self.ensures.is)

pub returns-clause-spare : goal.returns-clause-spare
returns-clause-spare c =
    let old = c.args.self.now.ready in
    omega (
      arith,
      ap (λ (d : Course). d.room) c.release.ensures.kept,
      as_many (old.ready ++ fresh_job old c.args.job ∷ []) c.release.new.self.ready c.release.ensures.ready,
      length-append old.ready (fresh_job old c.args.job ∷ []),
      c.requires.room,
    )

pub returns-clause-paid : goal.returns-clause-paid
returns-clause-paid c start now paid = record {
  paid = c.release.ensures.paid start now paid.paid;
  freely = λ less. absurd (omega (
    arith,
    less,
    ap (λ (d : Course). d.clock) c.release.ensures.kept,
    c.release-self.ensures.is,
  ));
}
