-- What is promised of lanes.
use Rattle.std.proofs.Common.{◌≡◌, List, Bool, true, false, cond, refl, ap, ◌∙◌}
use Rattle.dover_port.specs.Moves.{Move, ins, outs, has_ended}
use Rattle.dover_port.specs.declared.status.Status.{Status}
use Rattle.dover_port.specs.declared.status.Status.TheVariants.{Done, Refused}
use Rattle.dialogue.specs.Talk.{IsAnswered}
use Rattle.lane_server.specs.Lanes.{Input, InputStanding, Open, Closed, Faulty, input, all_ended}
use Rattle.lane_server.specs.Alone.{text_of_lane}
use Rattle.lanes_word.specs.Talk.{closing_status, lanes_talk}
use Rattle.lane_server.proofs.Alone.{alone}
use Rattle.dover_top.specs.Promises.{feed_in, AreServed, HaveEnded}
use Rattle.lane_server.proofs.LaneFeeds.{lane_ended, served_ended}
use Rattle.dover_top.proofs.Keeping.{trace_of}

-- what stands on the output for each lane
pub are_served : (status : Status) (moves : List Move)
    → IsAnswered lanes_talk (ins moves) (outs moves) (has_ended moves) status → AreServed moves
are_served status moves it = record {
  alone = λ lane low. ap (text_of_lane lane) it.answer.1 ∙ alone (ins moves) lane low;
  traced = λ lane low ended. trace_of (feed_in moves lane) (text_of_lane lane (outs moves)) ended
      (ap (text_of_lane lane) it.answer.1 ∙ alone (ins moves) lane low ∙ served_ended (input (ins moves)) lane ended);
}

-- where all is done the session was closed, and each lane that has a line is ended
done_closed : (a : Input) → Done ≡ closing_status a → (a.standing ≡ Closed) × (all_ended a.handed ≡ true)
done_closed a done = by_standing a.standing done where
  by_test : (ended : Bool) → Done ≡ cond ended Done Refused → ended ≡ true
  by_test true e = refl
  by_test false e = absurd (let clash : Done ≡ Refused = e in cc)

  by_standing : (s : InputStanding)
      → Done ≡ elim s [ Open ↦ Refused | Closed ↦ cond (all_ended a.handed) Done Refused | Faulty line fault ↦ Refused ]
      → (s ≡ Closed) × (all_ended a.handed ≡ true)
  by_standing Open e = absurd (let clash : Done ≡ Refused = e in cc)
  by_standing Closed e = (refl, by_test (all_ended a.handed) e)
  by_standing (Faulty line fault) e = absurd (let clash : Done ≡ Refused = e in cc)

-- then the feed of each lane that has a line ended
pub have_ended : (moves : List Move) → IsAnswered lanes_talk (ins moves) (outs moves) (has_ended moves) Done
    → HaveEnded moves
have_ended moves it = let closed = done_closed (input (ins moves)) it.answer.0 in record {
  closed = closed.0;
  ended = λ lane low some. lane_ended (ins moves) lane closed.1 low some;
}
