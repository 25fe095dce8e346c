use Rattle.std.proofs.Common.{◌≤◌, sym, ◌∙◌, subst, refl, ap, ◌+◌, arith}
use Rattle.dialogue.specs.Turns.{AnswersBy}
use Rattle.dover_port.specs.declared.status.Status.TheVariants as status
use Rattle.feed_words.specs.serve.Keeping.{serve_talk}
use Rattle.snapshot.specs.Reading.{Refused}
use Rattle.feed_words.specs.resume.Record.{refused_text}
use Rattle.feed_words.specs.resume.Talk.{IsAnsweredBy}
use Rattle.feed_words.specs.resume.Keeping.{IsReady}
use Rattle.feed_words.proofs.resume.Bounds.{next_number}
use Rattle.feed_words.proofs.resume.Laws.{at_serving}
use Rattle.feed_words.proofs.resume.Talking.{due_at}
use Rattle.feed_words.proofs.resume.Stages.{opening_due, opening_answer, opening_costs, past_call, past_bytes}
use Rattle.feed_words.proofs.resume.Stages.{past_answers, past_goes, past_spent}
use Rattle.feed_words.proofs.resume.resuming.ResumingTalker.answer.Goals as goal

pub returns-in-Opening-clause-answers : goal.returns-in-Opening-clause-answers
returns-in-Opening-clause-answers g c = λ a x at over.
    let it = subst (λ s. IsReady a s c.args.meter.now x) c.in-Opening.is at.1 in
    c.refuse_snapshot.ensures.answers a x c.args.ended (opening_due a _ x it.0)
    (opening_answer a _ x it.0 _ (ap (λ n. n + 1) (rw c.in-Opening.is at c.count-line.ensures)) c.args.ended over)

pub returns-in-Opening-clause-spent : goal.returns-in-Opening-clause-spent
returns-in-Opening-clause-spent g c = λ a x at.
    let it = subst (λ s. IsReady a s c.args.meter.now x) c.in-Opening.is at.1 in opening_costs a _ x it.0 _ it.1

pub returns-in-Refused-clause-answers : goal.returns-in-Refused-clause-answers
returns-in-Refused-clause-answers g c = λ a x at over.
    let it = subst (λ s. IsReady a s c.args.meter.now x) c.in-Refused.is at.1 in
    c.refuse_snapshot-in-Refused.ensures.answers a x c.args.ended (due_at a x (Refused c.in-Refused.line) it.0)
    (subst (λ r. IsAnsweredBy a.at_end r x c.args.ended status.Refused (refused_text c.in-Refused.line))
    (sym it.0) refl)

pub returns-in-Refused-clause-spent : goal.returns-in-Refused-clause-spent
returns-in-Refused-clause-spent g c = λ a x at.
    let it = subst (λ s. IsReady a s c.args.meter.now x) c.in-Refused.is at.1 in it.1

pub answer-requires-clause-ready : goal.answer-requires-clause-ready
answer-requires-clause-ready g c =
    let a = c.requires.ready.0 in
    let x = c.requires.ready.1 in
    let it = at_serving a c.args.self.stage c.in-Serving.pausing c.args.meter.now x c.in-Serving.is
    c.requires.ready.2.1 in
    rw c.in-Serving.is (
      past_call a x _ it,
      past_bytes a x _ it,
      it.holds.ready,
      sym (past_goes a x _ it) ∙ c.requires.ready.3,
    )

pub returns-in-Refuse-clause-answers : goal.returns-in-Refuse-clause-answers
returns-in-Refuse-clause-answers g c = λ a x at over.
    let it = at_serving a c.args.self.stage c.in-Serving.pausing c.args.meter.now x c.in-Serving.is at.1 in
    past_answers a x _ it c.args.ended _ _ _ c.answer.result
    (subst (λ e. AnswersBy (serve_talk e (past_call a x _ it).feed) (past_bytes a x _ it) c.args.ended
    (g.P.Port.moves c.args.port.now) (g.P.Port.moves c.answer.new.port) c.answer.new.out c.answer.result)
    (sym c.in-Refuse.is ∙ at.0)
    ((rw c.in-Serving.is at c.answer.ensures.answers) (past_call a x _ it) (past_bytes a x _ it) it.holds.ready
    (sym (past_goes a x _ it) ∙ over)))

pub returns-in-Refuse-clause-spent : goal.returns-in-Refuse-clause-spent
returns-in-Refuse-clause-spent g c = λ a x at.
    let it = at_serving a c.args.self.stage c.in-Serving.pausing c.args.meter.now x c.in-Serving.is at.1 in
    past_spent a x _ it _
    ((rw c.in-Serving.is at c.answer.ensures.spent) (past_call a x _ it) (past_bytes a x _ it) it.holds.ready)

pub answer-requires-in-Pause-clause-ready : goal.answer-requires-in-Pause-clause-ready
answer-requires-in-Pause-clause-ready g c =
    let a = c.requires.ready.0 in
    let x = c.requires.ready.1 in
    let it = at_serving a c.args.self.stage c.in-Serving.pausing c.args.meter.now x c.in-Serving.is
    c.requires.ready.2.1 in
    rw c.in-Serving.is
    (past_call a x _ it, past_bytes a x _ it, it.holds, sym (past_goes a x _ it) ∙ c.requires.ready.3)

pub returns-in-Pause-clause-answers : goal.returns-in-Pause-clause-answers
returns-in-Pause-clause-answers g c = λ a x at over.
    let it = at_serving a c.args.self.stage c.in-Serving.pausing c.args.meter.now x c.in-Serving.is at.1 in
    past_answers a x _ it c.args.ended _ _ _ c.answer-in-Pause.result
    (subst (λ e. AnswersBy (serve_talk e (past_call a x _ it).feed) (past_bytes a x _ it) c.args.ended
    (g.P.Port.moves c.args.port.now) (g.P.Port.moves c.answer-in-Pause.new.port) c.answer-in-Pause.new.out
    c.answer-in-Pause.result)
    (sym c.in-Pause.is ∙ at.0)
    ((rw c.in-Serving.is at c.answer-in-Pause.ensures.answers) (past_call a x _ it) (past_bytes a x _ it) it.holds
    (sym (past_goes a x _ it) ∙ over)))

pub returns-in-Pause-clause-spent : goal.returns-in-Pause-clause-spent
returns-in-Pause-clause-spent g c = λ a x at.
    let it = at_serving a c.args.self.stage c.in-Serving.pausing c.args.meter.now x c.in-Serving.is at.1 in
    past_spent a x _ it _
    ((rw c.in-Serving.is at c.answer-in-Pause.ensures.spent) (past_call a x _ it) (past_bytes a x _ it) it.holds)

pub returns-in-Opening-clause-cause : goal.returns-in-Opening-clause-cause
returns-in-Opening-clause-cause g c = c.refuse_snapshot.ensures.cause

pub returns-in-Opening-clause-stops : goal.returns-in-Opening-clause-stops
returns-in-Opening-clause-stops g c = c.refuse_snapshot.ensures.stops

pub returns-in-Refused-clause-cause : goal.returns-in-Refused-clause-cause
returns-in-Refused-clause-cause g c = c.refuse_snapshot-in-Refused.ensures.cause

pub returns-in-Refused-clause-stops : goal.returns-in-Refused-clause-stops
returns-in-Refused-clause-stops g c = c.refuse_snapshot-in-Refused.ensures.stops

pub returns-in-Refuse-clause-cause : goal.returns-in-Refuse-clause-cause
returns-in-Refuse-clause-cause g c = c.answer.ensures.cause

pub returns-in-Refuse-clause-stops : goal.returns-in-Refuse-clause-stops
returns-in-Refuse-clause-stops g c = c.answer.ensures.stops

pub returns-in-Pause-clause-cause : goal.returns-in-Pause-clause-cause
returns-in-Pause-clause-cause g c = c.answer-in-Pause.ensures.cause

pub returns-in-Pause-clause-stops : goal.returns-in-Pause-clause-stops
returns-in-Pause-clause-stops g c = c.answer-in-Pause.ensures.stops

pub refuse_snapshot-requires : goal.refuse_snapshot-requires
refuse_snapshot-requires g c = record { empty = c.requires.empty }

pub refuse_snapshot-requires-in-Refused : goal.refuse_snapshot-requires-in-Refused
refuse_snapshot-requires-in-Refused g c = record { empty = c.requires.empty }

pub answer-requires-clause-empty : goal.answer-requires-clause-empty
answer-requires-clause-empty g c = c.requires.empty

pub answer-requires-in-Pause-clause-empty : goal.answer-requires-in-Pause-clause-empty
answer-requires-in-Pause-clause-empty g c = c.requires.empty

pub overflow_add-line : goal.overflow_add-line
overflow_add-line g c =
    let r = c.requires.ready in
    let it = subst (λ s. IsReady r.0 s c.args.meter.now r.1) c.in-Opening.is r.2.1 in
    let next = next_number c.in-Opening.opening r.1 it.0 in
    let count : c.count-line.result ≤ 4_000_000_001 =
    omega (arith, rw c.in-Opening.is at c.count-line.ensures, next.0, next.1) in
    omega (arith, count)
