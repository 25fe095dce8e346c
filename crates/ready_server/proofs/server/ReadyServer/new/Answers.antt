use Rattle.std.proofs.Common.{[], refl, sym, subst}
use Rattle.dover_model.specs.Common.{no_jobs, opening}
use Rattle.ready_jobs.specs.Course.{Follows}
use Rattle.ready_jobs.proofs.Courses.{new_follows}
use Rattle.ready_server.proofs.server.ReadyServer.new.Goals as goal

pub returns-clause-serves : goal.returns-clause-serves
returns-clause-serves c = record {
  state = opening [];
  follows = subst (λ d. Follows d (no_jobs c.args.version c.args.k) (opening [])) (sym c.in_ok-new.ensures.empty)
      (new_follows (record { ratio = c.args.k; version = c.args.version }) 0 c.p.ensures.ratio);
  given = (refl, record { steps = []; path = refl; prints = refl });
  last = refl;
}
