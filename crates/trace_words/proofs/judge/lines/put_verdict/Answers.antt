use Rattle.std.proofs.Common.{sym, ap, subst}
use Rattle.dover_port.specs.Moves.{PutsThrough}
use Rattle.trace_words.specs.judge.Line.{verdict_text}
use Rattle.trace_words.proofs.judge.Answering.{accepted_puts}
use Rattle.trace_words.proofs.judge.lines.put_verdict.Goals as goal

pub put_wrong-requires : goal.put_wrong-requires
put_wrong-requires g c = (c.requires.0, rw c.in-Wrong.is at c.requires.1)

pub returns-in-Accepted-clause-text : goal.returns-in-Accepted-clause-text
returns-in-Accepted-clause-text g c =
    λ text tells. accepted_puts _ _ _ _ _ _ _ _ _ _ text (rw c.in-Accepted.is at tells)
    (rw (c.bytes.ensures.is, c.accepted_line.ensures) at c.put.ensures.text)

pub returns-in-Accepted-clause-cause : goal.returns-in-Accepted-clause-cause
returns-in-Accepted-clause-cause g c = c.put.ensures.cause

pub returns-in-Accepted-clause-stops : goal.returns-in-Accepted-clause-stops
returns-in-Accepted-clause-stops g c = c.put.ensures.stops

pub returns-in-Wrong-clause-cause : goal.returns-in-Wrong-clause-cause
returns-in-Wrong-clause-cause g c = c.put_wrong.ensures.cause

pub returns-in-Wrong-clause-stops : goal.returns-in-Wrong-clause-stops
returns-in-Wrong-clause-stops g c = c.put_wrong.ensures.stops

pub returns-in-Short-clause-cause : goal.returns-in-Short-clause-cause
returns-in-Short-clause-cause g c = c.put_numbers.ensures.cause

pub returns-in-Short-clause-stops : goal.returns-in-Short-clause-stops
returns-in-Short-clause-stops g c = c.put_numbers.ensures.stops

pub returns-in-Wrong-clause-text : goal.returns-in-Wrong-clause-text
returns-in-Wrong-clause-text g c = λ text tells.
    subst (PutsThrough _ _ _ _ _) (sym (ap verdict_text (rw c.in-Wrong.is at tells))) c.put_wrong.ensures.text

pub returns-in-Short-clause-text : goal.returns-in-Short-clause-text
returns-in-Short-clause-text g c = λ text tells.
    subst (PutsThrough _ _ _ _ _) (sym (ap verdict_text (rw c.in-Short.is at tells))) c.put_numbers.ensures.text
