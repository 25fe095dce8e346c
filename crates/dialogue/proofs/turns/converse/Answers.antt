use Rattle.std.proofs.Common.{◌∙◌, refl, inl}
use Rattle.dialogue.proofs.Answering.{lacking, cut, unflushed, put, final_causes, final_stops, can_answer, can_lack}
use Rattle.dialogue.proofs.turns.converse.Goals as goal

pub answer-requires-clause-empty : goal.answer-requires-clause-empty
answer-requires-clause-empty g c = (c.in-Ok.ensures.stands c.requires.0 c.requires.1).3

pub returns-in-Err-NoMemory-clause-talks : goal.returns-in-Err-NoMemory-clause-talks
returns-in-Err-NoMemory-clause-talks g c =
    λ a s. lacking _ (c.laws.ensures.steady a) _ c.in-Ok.ended _ _ (c.in-Ok.ensures.reads a s)
    (g.T.Talker.costs a c.answer.new.meter) (c.in-Err-NoMemory.ensures.spent a)
    (c.laws.ensures.behind a c.answer.new.meter) _ c.answer.new.out
    (λ x t o. rw c.in-Err-NoMemory.field-0-is at (c.in-Err-NoMemory.ensures.answers a x t o))

pub returns-in-Err-Unwritten-clause-talks : goal.returns-in-Err-Unwritten-clause-talks
returns-in-Err-Unwritten-clause-talks g c =
    λ a s. cut _ (c.laws.ensures.steady a) _ c.in-Ok.ended _ _ (c.in-Ok.ensures.reads a s)
    (g.T.Talker.costs a c.answer.new.meter) (c.in-Err-Unwritten.ensures.spent a)
    (c.laws.ensures.behind a c.answer.new.meter) _
    (λ x t o. rw c.in-Err-Unwritten.field-0-is at (c.in-Err-Unwritten.ensures.answers a x t o))

pub returns-in-Ok-flush-clause-talks : goal.returns-in-Ok-flush-clause-talks
returns-in-Ok-flush-clause-talks g c =
    λ a s. put _ (c.laws.ensures.steady a) _ c.in-Ok.ended _ _ (c.in-Ok.ensures.reads a s)
    (g.T.Talker.costs a c.answer.new.meter) (c.in-Ok-answer.ensures.spent a)
    (c.laws.ensures.behind a c.answer.new.meter) _ _ c.answer.new.out c.in-Ok-answer.status
    (c.in-Ok-answer.ensures.answers a) c.in-Ok-flush.ensures.text.all

pub returns-in-Err-flush-clause-talks : goal.returns-in-Err-flush-clause-talks
returns-in-Err-flush-clause-talks g c =
    λ a s. unflushed _ (c.laws.ensures.steady a) _ c.in-Ok.ended _ _ (c.in-Ok.ensures.reads a s)
    (g.T.Talker.costs a c.answer.new.meter) (c.in-Ok-answer.ensures.spent a)
    (c.laws.ensures.behind a c.answer.new.meter) _ _ c.answer.new.out c.in-Ok-answer.status
    (c.in-Ok-answer.ensures.answers a) c.in-Err-flush.ensures.text.part

pub returns-in-Ok-flush-clause-causes : goal.returns-in-Ok-flush-clause-causes
returns-in-Ok-flush-clause-causes g c =
    let was = c.in-Ok.ensures.stands c.requires.0 c.requires.1 in
    final_causes c.in-Ok-answer.status _ _ _ _ (c.in-Ok-answer.ensures.answers c.requires.0 was.0 was.1 was.2).0
    (c.in-Ok-flush.ensures.cause.other ∙ c.in-Ok-answer.ensures.cause.1 ∙ c.in-Ok.ensures.causes.0)
    (c.in-Ok-flush.ensures.cause.ok ∙ c.in-Ok-answer.ensures.cause.0 ∙ c.in-Ok.ensures.causes.1)

pub returns-in-Ok-flush-clause-stops : goal.returns-in-Ok-flush-clause-stops
returns-in-Ok-flush-clause-stops g c =
    let was = c.in-Ok.ensures.stands c.requires.0 c.requires.1 in
    final_stops c.in-Ok-answer.status _ _ (c.in-Ok-answer.ensures.answers c.requires.0 was.0 was.1 was.2).0
    (λ well. c.in-Ok-flush.ensures.stops.well (c.in-Ok-answer.ensures.stops (c.in-Ok.ensures.stops well)))

pub returns-in-Ok-flush-clause-ends : goal.returns-in-Ok-flush-clause-ends
returns-in-Ok-flush-clause-ends g c = λ a s.
    let was = c.in-Ok.ensures.stands a s in
    let made = c.in-Ok-answer.ensures.answers a was.0 was.1 was.2 in
    can_answer _ (c.laws.ensures.steady a) was.0 c.in-Ok.ended was.2 c.in-Ok-answer.status made.1.0 made.0 made.1.1

pub returns-in-Err-NoMemory-clause-ends : goal.returns-in-Err-NoMemory-clause-ends
returns-in-Err-NoMemory-clause-ends g c = λ a s.
    let was = c.in-Ok.ensures.stands a s in
    let lacks = rw c.in-Err-NoMemory.field-0-is at (c.in-Err-NoMemory.ensures.answers a was.0 was.1 was.2) in
    can_lack _ (c.laws.ensures.steady a) was.0 c.in-Ok.ended was.2 lacks.0

pub returns-in-Err-Unwritten-clause-ends : goal.returns-in-Err-Unwritten-clause-ends
returns-in-Err-Unwritten-clause-ends g c = λ a s. inl refl

pub returns-in-Err-flush-clause-ends : goal.returns-in-Err-flush-clause-ends
returns-in-Err-flush-clause-ends g c = λ a s. inl refl

pub returns-in-Err-clause-causes : goal.returns-in-Err-clause-causes
returns-in-Err-clause-causes g c = c.in-Err.ensures.causes

pub returns-in-Err-clause-stops : goal.returns-in-Err-clause-stops
returns-in-Err-clause-stops g c = c.in-Err.ensures.stops
