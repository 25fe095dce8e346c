use Rattle.std.proofs.Common.{[], ◌∷◌, ◌++◌, sym, subst}
use Rattle.dover_model.specs.declared.events.Event.TheVariants.{Complete}
use Rattle.dover_model.specs.Common.{with_finishes, settled}
use Rattle.ready_server.specs.Serving.{GoesOnWith}
use Rattle.ready_server.proofs.Successors.{successor_next}
use Rattle.ready_server.proofs.server.ReadyServer.successor.Goals as goal

pub returns-clause-next : goal.returns-clause-next
returns-clause-next c J at number f rests right =
    subst (GoesOnWith (with_finishes J (f.finish ∷ [])) at (settled J at ++ Complete at number ∷ []))
    (sym c.successor.ensures) (successor_next c.args.self.now J at rests number f right)
