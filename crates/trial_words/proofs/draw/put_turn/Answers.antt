use Rattle.std.proofs.Common.{subst, sym}
use Rattle.dover_port.specs.Moves.{PutsThrough}
use Rattle.dialogue.proofs.Putting.{puts_behind}
use Rattle.trial_words.proofs.Putting.{cause_behind, stops_behind}
use Rattle.trial_words.proofs.Turning.{done_parts, turn_cut}
use Rattle.trial_words.proofs.draw.put_turn.Goals as goal

pub returns-in-Err-clause-text : goal.returns-in-Err-clause-text
returns-in-Err-clause-text g c = record {
  all = tt;
  part = turn_cut _ _ _ c.args.turn.now c.in-Err.ensures.text.part;
}

pub returns-in-Some-clause-text : goal.returns-in-Some-clause-text
returns-in-Some-clause-text g c = subst (PutsThrough _ _ _ _ _)
    (sym (done_parts c.args.turn.now c.in-Some.done c.in-Some.is))
    (puts_behind _ _ _ _ _ _ _ _ _ c.in-Ok.ensures.text.all c.put_feed_line.ensures.text)

pub returns-in-Err-clause-cause : goal.returns-in-Err-clause-cause
returns-in-Err-clause-cause g c = c.in-Err.ensures.cause

pub returns-in-None-clause-cause : goal.returns-in-None-clause-cause
returns-in-None-clause-cause g c = c.in-Ok.ensures.cause

pub returns-in-Err-clause-stops : goal.returns-in-Err-clause-stops
returns-in-Err-clause-stops g c = c.in-Err.ensures.stops

pub returns-in-None-clause-stops : goal.returns-in-None-clause-stops
returns-in-None-clause-stops g c = c.in-Ok.ensures.stops

pub returns-in-Some-clause-cause : goal.returns-in-Some-clause-cause
returns-in-Some-clause-cause g c =
    cause_behind _ _ _ _ _ _ _ c.in-Ok.ensures.cause.ok c.in-Ok.ensures.cause.other c.put_feed_line.ensures.cause

pub returns-in-Some-clause-stops : goal.returns-in-Some-clause-stops
returns-in-Some-clause-stops g c =
    stops_behind _ _ _ _ c.in-Ok.ensures.stops.well c.put_feed_line.ensures.stops
