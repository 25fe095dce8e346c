use Rattle.std.proofs.Common.{subst, sym, ap, ◌∙◌}
use Rattle.lane_server.specs.Lanes.{input_of_lines}
use Rattle.lane_server.specs.Kept.{Kept, AllStand}
use Rattle.lane_server.proofs.Fine.{all_stand}
use Rattle.lane_server.proofs.lanes.Lanes.all_ended.Goals as goal

pub returns : goal.returns
returns c = λ ls rest it. c.all_fine.ensures (input_of_lines ls).handed
    (subst (λ xs. AllStand xs (input_of_lines ls).handed)
    (sym (c.deref.ensures.value ∙ ap (λ (k : Kept). k.lanes) c.self.view_is))
    (all_stand c.args.self.now ls rest it))
