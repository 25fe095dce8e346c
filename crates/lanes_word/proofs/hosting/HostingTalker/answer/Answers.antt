use Rattle.std.proofs.Common.{◌++◌, ◌∷◌, [], sym, subst}
use Rattle.dover_model.specs.Common.{lines_of, refused_line}
use Rattle.dialogue.specs.Turns.{joined}
use Rattle.dover_port.specs.declared.status.Status.TheVariants.{Refused}
use Rattle.lane_server.specs.Lanes.{input, shorts_from, lane_count}
use Rattle.lane_server.proofs.Receiving.{closing_lanes}
use Rattle.lanes_word.specs.Keeping.{parts_of, Costs}
use Rattle.lanes_word.proofs.Talking.{final, closed_status, closed_text, refused_status, refused_text}
use Rattle.lanes_word.proofs.hosting.HostingTalker.answer.Goals as goal

pub end-requires : goal.end-requires
end-requires g c = (c.requires.ready.1, c.requires.ready.2.rests)

pub put_left-requires-clause-closed : goal.put_left-requires-clause-closed
put_left-requires-clause-closed g c =
    let ended = c.in-Ok.ensures c.requires.ready.1 c.requires.ready.2.rests in
    closing_lanes _ (lines_of c.requires.ready.1) _ ended.1 ended.0

pub returns-in-Ok-put_left-clause-answers : goal.returns-in-Ok-put_left-clause-answers
returns-in-Ok-put_left-clause-answers g c = λ a x at over.
    let ended = c.in-Ok.ensures x at.rests in
    rw c.closed_status-status.ensures (
      final c.all_ended.result,
      (
        joined (parts_of (shorts_from (input x).handed 0 lane_count)),
        (
          closed_status x ended.0 c.all_ended.result (c.all_ended.ensures (lines_of x) _ ended.1),
          closed_text x ended.0,
        ),
        rw c.requires.empty at (c.in-Ok-put_left.ensures.text (lines_of x) _ ended.1).all,
      ),
    )

pub returns-in-Ok-clause-answers : goal.returns-in-Ok-clause-answers
returns-in-Ok-clause-answers g c = λ a x at over.
    let ended = c.in-Ok.ensures x at.rests in (
      c.closed_status-status.result,
      joined (parts_of (shorts_from (input x).handed 0 lane_count)),
      (
        rw c.closed_status-status.ensures
            (closed_status x ended.0 c.all_ended.result (c.all_ended.ensures (lines_of x) _ ended.1)),
        closed_text x ended.0,
      ),
      rw c.requires.empty at (c.in-Err-put_left.ensures.text (lines_of x) _ ended.1).part,
    )

pub returns-in-Ok-put_refused-clause-answers : goal.returns-in-Ok-put_refused-clause-answers
returns-in-Ok-put_refused-clause-answers g c = λ a x at over.
    let ended = c.in-Err.ensures x at.rests in (
      tt,
      (
        refused_line c.in-Err.refused.line c.word.result.now ++ 10 ∷ [],
        (
          refused_status x ended.0,
          rw c.word.ensures.is (refused_text x _ ended.1),
        ),
        rw c.requires.empty at c.in-Ok-put_refused.ensures.text.all,
      ),
    )

pub returns-clause-answers : goal.returns-clause-answers
returns-clause-answers g c = λ a x at over.
    let ended = c.in-Err.ensures x at.rests in (
      Refused,
      refused_line c.in-Err.refused.line c.word.result.now ++ 10 ∷ [],
      (
        refused_status x ended.0,
        rw c.word.ensures.is (refused_text x _ ended.1),
      ),
      rw c.requires.empty at c.in-Err-put_refused.ensures.text.part,
    )

pub returns-in-Ok-put_left-clause-spent : goal.returns-in-Ok-put_left-clause-spent
returns-in-Ok-put_left-clause-spent g c = λ a x at. subst (λ n. Costs a n x) (sym c.put_left.ensures.idle)
    (c.laws.ensures.few c.args.self.input x _ a _ at.rests.stands at.paid)

pub returns-in-Ok-clause-spent : goal.returns-in-Ok-clause-spent
returns-in-Ok-clause-spent g c = λ a x at. subst (λ n. Costs a n x) (sym c.put_left.ensures.idle)
    (c.laws.ensures.few c.args.self.input x _ a _ at.rests.stands at.paid)

pub returns-in-Ok-put_refused-clause-spent : goal.returns-in-Ok-put_refused-clause-spent
returns-in-Ok-put_refused-clause-spent g c = λ a x at.
    c.laws.ensures.few c.args.self.input x _ a _ at.rests.stands at.paid

pub returns-clause-spent : goal.returns-clause-spent
returns-clause-spent g c = λ a x at. c.laws.ensures.few c.args.self.input x _ a _ at.rests.stands at.paid

pub returns-in-Ok-put_left-clause-stops : goal.returns-in-Ok-put_left-clause-stops
returns-in-Ok-put_left-clause-stops g c = c.in-Ok-put_left.ensures.stops.well

pub returns-in-Ok-clause-stops : goal.returns-in-Ok-clause-stops
returns-in-Ok-clause-stops g c = c.in-Err-put_left.ensures.stops.stopped

pub returns-in-Ok-put_refused-clause-stops : goal.returns-in-Ok-put_refused-clause-stops
returns-in-Ok-put_refused-clause-stops g c = c.in-Ok-put_refused.ensures.stops.well

pub returns-clause-stops : goal.returns-clause-stops
returns-clause-stops g c = c.in-Err-put_refused.ensures.stops.stopped
