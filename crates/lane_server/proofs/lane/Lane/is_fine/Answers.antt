use Rattle.std.proofs.Common.{◌∙◌, sym, subst}
use Rattle.event_feed.specs.Answers.{EndAnswers}
use Rattle.lane_server.proofs.Fine.{short_fine}
use Rattle.lane_server.proofs.lane.Lane.is_fine.Goals as goal

pub returns-then-self : goal.returns-then-self
returns-then-self c ls rest stands = short_fine ls c.in-Err.fault
    (subst (λ r. EndAnswers ls r) c.in-Err.is (c.end.ensures.answer ls rest stands))
    (sym stands.opened ∙ c.if-self.true)
