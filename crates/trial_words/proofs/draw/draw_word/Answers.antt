use Rattle.std.proofs.Common.{◌∷◌, [], inl, inr, refl, append-nil}
use Rattle.dover_port.specs.Moves.Move.{Put}
use Rattle.stated_jobs.specs.trial.Turns.{drawn_turns}
use Rattle.trial_words.specs.Drawing.{feed_of_turns}
use Rattle.trial_words.proofs.draw.draw_word.Goals as goal

pub returns-in-Ok-clause-ends : goal.returns-in-Ok-clause-ends
returns-in-Ok-clause-ends g c = let text = feed_of_turns c.args.k (drawn_turns c.args.seed c.args.count c.args.k) in
    inr (Put text ∷ [], (tt, append-nil text))

pub returns-in-Ok-clause-causes : goal.returns-in-Ok-clause-causes
returns-in-Ok-clause-causes g c = (c.in-Ok.ensures.cause.other, c.in-Ok.ensures.cause.ok)

pub returns-in-Ok-clause-stops : goal.returns-in-Ok-clause-stops
returns-in-Ok-clause-stops g c = c.in-Ok.ensures.stops.well

pub returns-in-Err-clause-causes : goal.returns-in-Err-clause-causes
returns-in-Err-clause-causes g c = (c.in-Err.ensures.cause.other, c.in-Err.ensures.cause.failed)

pub returns-in-Err-clause-stops : goal.returns-in-Err-clause-stops
returns-in-Err-clause-stops g c = c.in-Err.ensures.stops.stopped

pub returns-in-Err-clause-ends : goal.returns-in-Err-clause-ends
returns-in-Err-clause-ends g c = inl refl
