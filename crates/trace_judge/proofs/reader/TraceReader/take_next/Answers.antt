use Rattle.std.proofs.Common.{sym, subst, false, arith}
use Rattle.line_text.specs.traces.Form.{HasForm, trace_text}
use Rattle.trace_judge.specs.Reads.{Took}
use Rattle.trace_judge.proofs.Unread.{header_took_none}
use Rattle.trace_judge.proofs.reader.TraceReader.take_next.Goals as goal

pub returns-in-Header-clause-took : goal.returns-in-Header-clause-took
returns-in-Header-clause-took g c =
    subst (λ read. Took c.args.self.now c.args.self.now (trace_text read) false) (sym c.in-Header.is)
    (header_took_none c.args.self.now c.requires.going c.in-Header.version c.in-Header.p c.in-Header.q
    c.in-Header.factor (subst HasForm c.in-Header.is c.requires.form))

pub returns-in-Step-clause-paid : goal.returns-in-Step-clause-paid
returns-in-Step-clause-paid g c = c.take_step.ensures.paid

pub returns-in-Refused-clause-took : goal.returns-in-Refused-clause-took
returns-in-Refused-clause-took g c =
    subst (λ read. Took c.args.self.now c.refuse.new.self (trace_text read) c.refuse.result) (sym c.in-Refused.is)
    c.refuse.ensures.took

pub returns-in-Refused-clause-spare : goal.returns-in-Refused-clause-spare
returns-in-Refused-clause-spare g c = omega (arith, c.refuse.ensures.kept.spare)

pub returns-in-Refused-clause-keep : goal.returns-in-Refused-clause-keep
returns-in-Refused-clause-keep g c = c.refuse.ensures.kept.keep

pub returns-in-Refused-clause-jobs : goal.returns-in-Refused-clause-jobs
returns-in-Refused-clause-jobs g c = omega (arith, c.refuse.ensures.kept.jobs)

pub returns-in-Refused-clause-paid : goal.returns-in-Refused-clause-paid
returns-in-Refused-clause-paid g c = c.refuse.ensures.paid

pub refuse-requires-clause-going : goal.refuse-requires-clause-going
refuse-requires-clause-going g c = c.requires.going

pub refuse-requires-clause-form : goal.refuse-requires-clause-form
refuse-requires-clause-form g c = subst HasForm c.in-Refused.is c.requires.form

pub returns-in-RefusedDone-clause-took : goal.returns-in-RefusedDone-clause-took
returns-in-RefusedDone-clause-took g c =
    subst (λ read. Took c.args.self.now c.refuse_done.new.self (trace_text read) c.refuse_done.result)
    (sym c.in-RefusedDone.is) c.refuse_done.ensures.took

pub returns-in-RefusedDone-clause-keep : goal.returns-in-RefusedDone-clause-keep
returns-in-RefusedDone-clause-keep g c = c.refuse_done.ensures.kept.keep

pub returns-in-RefusedDone-clause-jobs : goal.returns-in-RefusedDone-clause-jobs
returns-in-RefusedDone-clause-jobs g c = omega (arith, c.refuse_done.ensures.kept.jobs)

pub returns-in-RefusedDone-clause-paid : goal.returns-in-RefusedDone-clause-paid
returns-in-RefusedDone-clause-paid g c = c.refuse_done.ensures.paid

pub refuse_done-requires-clause-form : goal.refuse_done-requires-clause-form
refuse_done-requires-clause-form g c = subst HasForm c.in-RefusedDone.is c.requires.form

pub take_step-requires-clause-form : goal.take_step-requires-clause-form
take_step-requires-clause-form g c = subst HasForm c.in-Step.is c.requires.form
