use Rattle.std.proofs.Common.{◌++◌, sym, ◌∙◌, ap, subst, arith, option_to_list, ◌||◌, option_map}
use Rattle.dover_model.specs.Common.{behind, is_ready_after, is_end_given}
use Rattle.dover_engine.specs.Decisions.{events_in, event_in}
use Rattle.dover_engine.specs.Life.{has_ended}
use Rattle.dover_engine.specs.Given.{Gave}
use Rattle.dover_engine.proofs.Lives.{answer_prompt, coming_given, ended_given, ready_behind, end_behind, shown_once}
use Rattle.dover_engine.proofs.engine.Engine.decide.Goals as goal

pub returns-clause-decides : goal.returns-clause-decides
returns-clause-decides g c =
    let v = c.args.self.now in
    let o = c.advance-event.result in
    let same = c.shown-decision.ensures
    ∙ ap (λ n. option_map (behind n c.advance-event.new.self.earned) o) c.advance-event.ensures.forgotten
    ∙ ap (λ value. option_map (behind v.forgotten value) o) c.advance-event.ensures.earned in record {
      gave = λ J events gave. subst (λ p. Gave c.renew.new.self J (events ++ option_to_list p)) (sym same)
          (c.renew.ensures.gave J (events ++ option_to_list (option_map (behind v.forgotten v.earned) o))
          (c.advance-event.ensures.gave J events gave));
      whole = λ J events gave ended. ended_given c.renew.new.self J (events ++ events_in c.shown-decision.result)
          (subst (λ p. Gave c.renew.new.self J (events ++ option_to_list p)) (sym same)
          (c.renew.ensures.gave J (events ++ option_to_list (option_map (behind v.forgotten v.earned) o))
          (c.advance-event.ensures.gave J events gave))) ended;
      prompt = λ J events gave. answer_prompt c.args.to J events v.forgotten v.earned c.shown-decision.result o
          same (c.advance-event.ensures.prompt J events gave);
      comes = coming_given v.forgotten v.earned o (event_in c.shown-decision.result) v.coming same
          c.advance-event.ensures.comes;
      last = c.renew.ensures.last ∙ c.advance-event.ensures.last;
      settled = c.renew.ensures.settled ∙ c.advance-event.ensures.settled
          ∙ ready_behind c.args.to v.forgotten v.earned o ∙ ap (is_ready_after c.args.to) (sym same);
      ended = c.renew.ensures.ended ∙ c.advance-event.ensures.ended
          ∙ ap (λ b. has_ended v || b) (end_behind v.forgotten v.earned o ∙ ap is_end_given (sym same));
      anew = c.renew.ensures.anew;
      spare = omega (arith, c.advance-event.ensures.spare, c.renew.ensures.spare);
      room = c.renew.ensures.room ∙ c.advance-event.ensures.room;
    }

pub returns-clause-once : goal.returns-clause-once
returns-clause-once g c =
    let v = c.args.self.now in
    let o = c.advance-event.result in
    let same = c.shown-decision.ensures
    ∙ ap (λ n. option_map (behind n c.advance-event.new.self.earned) o) c.advance-event.ensures.forgotten
    ∙ ap (λ value. option_map (behind v.forgotten value) o) c.advance-event.ensures.earned in
    shown_once v v.forgotten v.earned o (event_in c.shown-decision.result) c.args.comparisons.now
    c.advance-event.new.comparisons
    same c.advance-event.ensures.once
