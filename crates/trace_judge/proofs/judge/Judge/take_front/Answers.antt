use Rattle.std.proofs.Common.{sym, subst}
use Rattle.std.proofs.lemmas.List.{take_more}
use Rattle.trace_judge.specs.Judging.{Fed, IsOverfed, PaysFor}
use Rattle.trace_judge.proofs.Judging.{err_of, none_of}
use Rattle.trace_judge.proofs.EndedLines.{overfed_front, pays_front}
use Rattle.trace_judge.proofs.judge.Judge.take_front.Goals as goal

pub returns-in_err-take_whole-clause-room : goal.returns-in_err-take_whole-clause-room
returns-in_err-take_whole-clause-room g c = err_of c.from_residual.result c.from_residual.ensures.0
    (overfed_front c.args.self.now c.front-count.result c.args.bytes.now c.in_err-take_whole.ensures.room)

pub returns-in_err-take_byte-clause-room : goal.returns-in_err-take_byte-clause-room
returns-in_err-take_byte-clause-room g c =
    err_of c.from_residual-in_err-take_byte.result c.from_residual-in_err-take_byte.ensures.0
    (overfed_front c.args.self.now 1 c.args.bytes.now
    (subst (IsOverfed c.args.self.now) (sym (take_more c.args.bytes.now 0 0 c.requires.some))
    c.in_err-take_byte.ensures.room))

pub returns-in_err-take_whole-clause-spent : goal.returns-in_err-take_whole-clause-spent
returns-in_err-take_whole-clause-spent g c = err_of c.from_residual.result c.from_residual.ensures.0
    (pays_front c.args.self.now c.take_whole.new.self c.front-count.result c.args.bytes.now c.args.comparisons.now
    c.take_whole.new.comparisons c.in_err-take_whole.ensures.paid)

pub returns-in_err-take_byte-clause-spent : goal.returns-in_err-take_byte-clause-spent
returns-in_err-take_byte-clause-spent g c =
    err_of c.from_residual-in_err-take_byte.result c.from_residual-in_err-take_byte.ensures.0
    (pays_front c.args.self.now c.take_byte.new.self 1 c.args.bytes.now c.args.comparisons.now
    c.take_byte.new.comparisons
    (subst (λ l. PaysFor c.args.self.now c.take_byte.new.self l c.args.comparisons.now c.take_byte.new.comparisons)
    (sym (take_more c.args.bytes.now 0 0 c.requires.some)) c.in_err-take_byte.ensures.paid))

pub returns-clause-paid : goal.returns-clause-paid
returns-clause-paid g c =
    subst (λ l. PaysFor c.args.self.now c.take_byte.new.self l c.args.comparisons.now c.take_byte.new.comparisons)
    (sym (take_more c.args.bytes.now 0 0 c.requires.some)) c.take_byte.ensures.paid

pub returns-in_err-take_whole-clause-failed : goal.returns-in_err-take_whole-clause-failed
returns-in_err-take_whole-clause-failed g c =
    err_of c.from_residual.result c.from_residual.ensures.0 c.in_err-take_whole.ensures.failed

pub returns-in_err-take_byte-clause-fed : goal.returns-in_err-take_byte-clause-fed
returns-in_err-take_byte-clause-fed g c =
    none_of _ c.from_residual-in_err-take_byte.result c.from_residual-in_err-take_byte.ensures.0

pub returns-in_err-take_byte-clause-some : goal.returns-in_err-take_byte-clause-some
returns-in_err-take_byte-clause-some g c =
    none_of _ c.from_residual-in_err-take_byte.result c.from_residual-in_err-take_byte.ensures.0

pub returns-in_err-take_byte-clause-within : goal.returns-in_err-take_byte-clause-within
returns-in_err-take_byte-clause-within g c =
    none_of _ c.from_residual-in_err-take_byte.result c.from_residual-in_err-take_byte.ensures.0

pub returns-in_err-take_byte-clause-paid : goal.returns-in_err-take_byte-clause-paid
returns-in_err-take_byte-clause-paid g c =
    none_of _ c.from_residual-in_err-take_byte.result c.from_residual-in_err-take_byte.ensures.0

pub returns-then-count-gt1-clause-fed : goal.returns-then-count-gt1-clause-fed
returns-then-count-gt1-clause-fed g c = c.in_ok-take_whole.ensures.fed

pub returns-then-count-gt1-clause-some : goal.returns-then-count-gt1-clause-some
returns-then-count-gt1-clause-some g c = c.front-count.ensures.some

pub returns-then-count-gt1-clause-within : goal.returns-then-count-gt1-clause-within
returns-then-count-gt1-clause-within g c = c.front-count.ensures.within

pub returns-then-count-gt1-clause-paid : goal.returns-then-count-gt1-clause-paid
returns-then-count-gt1-clause-paid g c = c.take_whole.ensures.paid

pub returns-clause-fed : goal.returns-clause-fed
returns-clause-fed g c = subst (Fed c.args.self.now c.take_byte.new.self)
    (sym (take_more c.args.bytes.now 0 0 c.requires.some)) c.in_ok-take_byte.ensures.fed

pub returns-clause-within : goal.returns-clause-within
returns-clause-within g c = c.requires.some
