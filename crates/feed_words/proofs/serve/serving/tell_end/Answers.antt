use Rattle.std.proofs.Common.{◌++◌, ◌∷◌, [], sym, ◌∙◌}
use Rattle.dover_model.specs.Common.{fault_text, lines_of}
use Rattle.dover_port.specs.declared.status.Status.TheVariants.{Refused}
use Rattle.dover_port.proofs.Through.{passes_nothing}
use Rattle.event_feed.specs.Kept.{cause_of_fault}
use Rattle.feed_words.specs.declared.serve.at_end.AtEnd.TheVariants.{Refuse}
use Rattle.feed_words.proofs.serve.Talking.{done, faulty, cut_off}
use Rattle.feed_words.proofs.serve.serving.tell_end.Goals as goal

pub returns-in_default-clause-answers : goal.returns-in_default-clause-answers
returns-in_default-clause-answers g c = λ a x ended at over.
    let is = c.in_default.ensures.answer (lines_of (a.feed ++ x)) [] at in
    (tt, ([], done a Refuse x ended is, rw c.requires.empty (passes_nothing _ [])))

pub returns-then-not-goes_on-clause-answers : goal.returns-then-not-goes_on-clause-answers
returns-then-not-goes_on-clause-answers g c = λ a x ended at over.
    let why = c.in-Err.ensures.answer (lines_of (a.feed ++ x)) [] at in
    let goes = c.goes_on.ensures (lines_of (a.feed ++ x)) [] at in (
      tt,
      (
        [],
        faulty a x ended c.in-Err.fault why Refuse (sym goes ∙ c.if-not-goes_on.true),
        rw c.requires.empty (passes_nothing _ []),
      ),
    )

pub returns-in-Ok-clause-answers : goal.returns-in-Ok-clause-answers
returns-in-Ok-clause-answers g c = λ a x ended at over.
    let why = c.in-Err.ensures.answer (lines_of (a.feed ++ x)) [] at in
    let goes = c.goes_on.ensures (lines_of (a.feed ++ x)) [] at in (
      tt,
      (
        fault_text c.in-Err.fault.line (cause_of_fault c.in-Err.fault.cause) ++ 10 ∷ [],
        cut_off a x ended c.in-Err.fault why Refuse (sym goes ∙ c.if-not-goes_on.false) over (λ pauses. pauses)
            (λ large. large),
        rw c.requires.empty at c.in-Ok.ensures.text.all,
      ),
    )

pub returns-in-Err-put_fault-clause-answers : goal.returns-in-Err-put_fault-clause-answers
returns-in-Err-put_fault-clause-answers g c = λ a x ended at over.
    let why = c.in-Err.ensures.answer (lines_of (a.feed ++ x)) [] at in
    let goes = c.goes_on.ensures (lines_of (a.feed ++ x)) [] at in (
      Refused,
      fault_text c.in-Err.fault.line (cause_of_fault c.in-Err.fault.cause) ++ 10 ∷ [],
      cut_off a x ended c.in-Err.fault why Refuse (sym goes ∙ c.if-not-goes_on.false) over (λ pauses. pauses)
          (λ large. large),
      rw c.requires.empty at c.in-Err-put_fault.ensures.text.part,
    )
