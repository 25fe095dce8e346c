-- What the word `lanes` says, by the bytes got.
use Rattle.std.specs.Prelude.{◌≡◌, false, if◌then◌else◌}
use Rattle.dover_port.specs.declared.status.Status.{Status}
use Rattle.dover_port.specs.declared.status.Status.TheVariants.{Done, Refused}
use Rattle.dialogue.specs.Talk.{Talk}
use Rattle.lane_server.specs.Lanes.{Input, Open, Closed, Faulty, HasLine, input, goes_on, lane_due, lanes_closed}
use Rattle.lane_server.specs.Lanes.{all_ended}

-- the status of a session that is over: done where `close` came, and each lane that has a line is ended without a fault
abbrev pub closing_status : Input → Status
closing_status a = elim a.standing [
  | Open ↦ Refused
  | Closed ↦ if all_ended a.handed then Done else Refused
  | Faulty line fault ↦ Refused
]

-- Each line for a lane is due as soon as it is settled. `close` or a fault of the whole input ends the talk, and the
-- closing lines are its answer. Memory may be lacking at a line of a lane alone.
abbrev pub lanes_talk : Talk
lanes_talk = record {
  goes_on = λ x. goes_on (input x);
  due = lane_due;
  answer = λ x ended status text. (status ≡ closing_status (input x)) × (text ≡ lanes_closed x);
  lacks = λ x ended. (ended ≡ false) × HasLine (input x).handed;
}
