use Rattle.std.proofs.Common.{◌++◌, [], sym, ◌∙◌}
use Rattle.dialogue.specs.Sizes.{size_text}
use Rattle.dover_model.proofs.lists.Tests.{never}
use Rattle.dover_model.specs.Lines.{lines_of}
use Rattle.dover_port.specs.declared.status.Status.TheVariants.{Done, Refused}
use Rattle.snapshot.specs.Snapshot.{snapshot}
use Rattle.feed_words.specs.serve.Keeping.{serve_talk}
use Rattle.feed_words.specs.declared.serve.at_end.AtEnd.TheVariants.{Pause}
use Rattle.feed_words.proofs.serve.Putting.{answers_with}
use Rattle.feed_words.proofs.serve.Talking.{paused, too_large, unpaused_answer}
use Rattle.feed_words.proofs.serve.pausing.PausingTalker.answer.Goals as goal

pub pause-paused-requires : goal.pause-paused-requires
pause-paused-requires g c =
    let (a, x, at, over) = c.requires.ready in
    let may = (c.is_paused.ensures (a.feed ++ x) at.ready.rests).0 c.if-is_paused.true in
    (a.feed ++ x, at.ready.rests, may, at.lists may.going_on)

pub returns-then-is_paused-clause-answers : goal.returns-then-is_paused-clause-answers
returns-then-is_paused-clause-answers g c = λ a x at over.
    let may = (c.is_paused.ensures (a.feed ++ x) at.ready.rests).0 c.if-is_paused.true in
    answers_with (serve_talk Pause a.feed) x c.args.ended Done (snapshot (a.feed ++ x)) _ _ _ tt
    (paused a x c.args.ended over may) c.put_lines-put.result
    (rw (c.requires.empty, c.pause-paused.ensures.text (a.feed ++ x) at.ready.rests may (at.lists may.going_on)) at
    c.put_lines-put.ensures.text)
    c.answer_with.result c.answer_with.ensures.ok c.answer_with.ensures.err

pub returns-then-is_paused-clause-spent : goal.returns-then-is_paused-clause-spent
returns-then-is_paused-clause-spent g c = λ a x at.
    c.pause-paused.ensures.paid (a.feed ++ x) a.start c.args.meter.now at.ready.rests
    ((c.is_paused.ensures (a.feed ++ x) at.ready.rests).0 c.if-is_paused.true) at.ready.paid

pub returns-then-is_paused-clause-cause : goal.returns-then-is_paused-clause-cause
returns-then-is_paused-clause-cause g c = c.answer_with.ensures.cause _ _ _ _ c.put_lines-put.ensures.cause

pub returns-then-is_paused-clause-stops : goal.returns-then-is_paused-clause-stops
returns-then-is_paused-clause-stops g c = c.answer_with.ensures.stops _ _ c.put_lines-put.ensures.stops

pub returns-then-is_too_large-clause-answers : goal.returns-then-is_too_large-clause-answers
returns-then-is_too_large-clause-answers g c = λ a x at over.
    let large = (c.is_too_large.ensures (a.feed ++ x) at.ready.rests).0 c.if-is_too_large.true in
    answers_with (serve_talk Pause a.feed) x c.args.ended Refused size_text _ _ _ tt
    (too_large a x c.args.ended over large) c.put-put.result
    (rw c.requires.empty at c.put-put.ensures.text)
    c.answer_with-then-is_too_large.result c.answer_with-then-is_too_large.ensures.ok
    c.answer_with-then-is_too_large.ensures.err

pub returns-then-is_too_large-clause-spent : goal.returns-then-is_too_large-clause-spent
returns-then-is_too_large-clause-spent g c = λ a x at.
    c.laws.ensures.few c.args.self.serving.feed.lane (lines_of (a.feed ++ x)) [] a.start c.args.meter.now
    at.ready.rests.lane.stands at.ready.paid

pub returns-then-is_too_large-clause-cause : goal.returns-then-is_too_large-clause-cause
returns-then-is_too_large-clause-cause g c =
    c.answer_with-then-is_too_large.ensures.cause _ _ _ _ c.put-put.ensures.cause

pub returns-then-is_too_large-clause-stops : goal.returns-then-is_too_large-clause-stops
returns-then-is_too_large-clause-stops g c =
    c.answer_with-then-is_too_large.ensures.stops _ _ c.put-put.ensures.stops

pub returns-clause-answers : goal.returns-clause-answers
returns-clause-answers g c = λ a x at over.
    unpaused_answer a x c.args.ended
    (λ may. never (sym c.if-is_paused.false ∙ (c.is_paused.ensures (a.feed ++ x) at.ready.rests).1 may))
    (λ large. never (sym c.if-is_too_large.false ∙ (c.is_too_large.ensures (a.feed ++ x) at.ready.rests).1 large))
    _ _ _ c.answer.result
    (c.answer.ensures.answers a x at.ready over)

pub returns-clause-spent : goal.returns-clause-spent
returns-clause-spent g c = λ a x at. c.answer.ensures.spent a x at.ready

pub returns-clause-cause : goal.returns-clause-cause
returns-clause-cause g c = c.answer.ensures.cause

pub returns-clause-stops : goal.returns-clause-stops
returns-clause-stops g c = c.answer.ensures.stops

pub answer-requires-clause-ready : goal.answer-requires-clause-ready
answer-requires-clause-ready g c =
    let (a, x, at, over) = c.requires.ready in (a, x, at.ready, over)
