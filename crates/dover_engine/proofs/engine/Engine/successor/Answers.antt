use Rattle.std.proofs.Common.{◌+◌, Some, option_map, sym, ap, ◌∙◌}
use Rattle.dover_engine.specs.Life.{successor_of}
use Rattle.dover_engine.proofs.engine.Engine.successor.Goals as goal

pub returns-in-Some : goal.returns-in-Some
returns-in-Some c =
    let behind = c.self.inside.forgotten in
    ap (λ n. Some (behind + n)) c.from.ensures
    ∙ ap (option_map (λ n. behind + n)) (sym c.in-Some.is ∙ c.successor.ensures.is)
    ∙ ap successor_of c.self.view_is
