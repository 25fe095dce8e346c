use Rattle.std.proofs.Common.{sym, subst}
use Rattle.dover_model.specs.Text.{text_of}
use Rattle.line_text.specs.traces.Form.{HasForm}
use Rattle.line_text.specs.declared.traces.lines.TraceLine.TheVariants.{Step}
use Rattle.trace_judge.specs.Reads.{Took}
use Rattle.trace_judge.proofs.Naming.{quiet_named}
use Rattle.trace_judge.proofs.Taking.{followed_took}
use Rattle.trace_judge.proofs.reader.TraceReader.take_step.Goals as goal

pub returns-in_default-clause-took : goal.returns-in_default-clause-took
returns-in_default-clause-took g c = followed_took c.args.self.now c.follow.new.self c.args.event.now c.follow.result
    c.requires.going c.follow.ensures.followed
    (quiet_named c.args.event.now c.in_default.not-Release c.in_default.not-Complete c.requires.form)

pub returns-in-Release-clause-paid : goal.returns-in-Release-clause-paid
returns-in-Release-clause-paid g c = c.take_release.ensures.paid

pub returns-in-Complete-clause-took : goal.returns-in-Complete-clause-took
returns-in-Complete-clause-took g c =
    subst (λ e. Took c.args.self.now c.complete.new.self (text_of e) c.complete.result) (sym c.in-Complete.is)
    c.complete.ensures.took

pub returns-in-Complete-clause-paid : goal.returns-in-Complete-clause-paid
returns-in-Complete-clause-paid g c = c.complete.ensures.paid

pub returns-in_default-clause-paid : goal.returns-in_default-clause-paid
returns-in_default-clause-paid g c = c.follow.ensures.paid

pub complete-requires-clause-form : goal.complete-requires-clause-form
complete-requires-clause-form g c = subst (λ e. HasForm (Step e)) c.in-Complete.is c.requires.form

pub follow-requires-clause-going : goal.follow-requires-clause-going
follow-requires-clause-going g c = c.requires.going

pub follow-requires-clause-form : goal.follow-requires-clause-form
follow-requires-clause-form g c = c.requires.form
