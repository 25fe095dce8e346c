use Rattle.std.proofs.Common.{[], refl, sym, ap, subst, arith}
use Rattle.dover_model.specs.Common.{no_jobs, opening}
use Rattle.ready_jobs.specs.Course.{Course, Follows}
use Rattle.ready_jobs.proofs.Courses.{new_follows}
use Rattle.ready_server.proofs.server.ReadyServer.restart.Goals as goal

pub returns-clause-serves : goal.returns-clause-serves
returns-clause-serves c =
    let old : Course = c.args.self.now.ready in record {
      state = opening [];
      follows = subst (λ d. Follows d (no_jobs old.rules.version old.rules.ratio) (opening []))
          (sym c.restart.ensures.anew) (new_follows old.rules old.room c.restart.ensures.ratio);
      given = (refl, record { steps = []; path = refl; prints = refl });
      last = refl;
    }

pub returns-clause-paid : goal.returns-clause-paid
returns-clause-paid c now = record {
  paid = c.restart.ensures.paid now;
  freely = λ low. absurd (omega (arith, low, ap (λ (d : Course). d.clock) c.restart.ensures.anew));
}
