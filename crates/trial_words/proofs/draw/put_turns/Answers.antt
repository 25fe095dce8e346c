use Rattle.std.proofs.Common.{◌∙◌, refl}
use Rattle.trial_words.proofs.Turning.{all_put, one_put, one_cut}
use Rattle.trial_words.proofs.draw.put_turns.Goals as goal

pub loop-turn-preserved : goal.loop-turn-preserved
loop-turn-preserved g c = let kept = c.loop-turn.invariant in record {
  put = one_put _ _ _ _ _ _ kept.put c.in-Some.turn c.next.new.self c.in-Some.ensures.turns _ _
      c.in-Ok.ensures.text.all;
  writes = c.in-Ok.ensures.cause.ok ∙ kept.writes;
  reads = c.in-Ok.ensures.cause.other ∙ kept.reads;
  calls = λ well. c.in-Ok.ensures.stops.well (kept.calls well);
}

pub returns-in-Err-clause-text : goal.returns-in-Err-clause-text
returns-in-Err-clause-text g c = let kept = c.loop-turn.invariant in record {
  all = tt;
  part = one_cut _ _ _ _ _ _ kept.put c.in-Some.turn c.next.new.self c.in-Some.ensures.turns _ c.put_turn.new.out
      c.in-Err.ensures.text.part;
}

pub returns-clause-text : goal.returns-clause-text
returns-clause-text g c = let kept = c.loop-turn.invariant in record {
  all = all_put _ _ _ _ _ _ kept.put (c.in_default.ensures.none.0 refl);
  part = tt;
}
