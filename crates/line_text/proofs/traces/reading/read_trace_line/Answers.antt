use Rattle.std.proofs.Common.{Ok, ap, sym, ◌∙◌}
use Rattle.dover_model.proofs.lists.Members.{some_same}
use Rattle.dover_model.proofs.lists.Tests.{none_is_some}
use Rattle.line_text.proofs.traces.Spelled.{read_IsRead, only_read}
use Rattle.line_text.proofs.traces.reading.read_trace_line.Goals as goal

pub returns-in-Some-clause-form : goal.returns-in-Some-clause-form
returns-in-Some-clause-form g c = (read_IsRead c.args.line.now c.in-Some.read (sym c.in-Some.ensures)).form

pub returns-in-Some-clause-text : goal.returns-in-Some-clause-text
returns-in-Some-clause-text g c = (read_IsRead c.args.line.now c.in-Some.read (sym c.in-Some.ensures)).text

pub returns-in-Some-clause-item : goal.returns-in-Some-clause-item
returns-in-Some-clause-item g c = (read_IsRead c.args.line.now c.in-Some.read (sym c.in-Some.ensures)).item

pub returns-in-Some-clause-rules : goal.returns-in-Some-clause-rules
returns-in-Some-clause-rules g c = (read_IsRead c.args.line.now c.in-Some.read (sym c.in-Some.ensures)).rules

pub returns-in-Some-clause-only : goal.returns-in-Some-clause-only
returns-in-Some-clause-only g c =
    λ x form same. ap Ok (some_same _ _ (c.in-Some.ensures ∙ only_read c.args.line.now x form same))

pub returns-in-None-clause-only : goal.returns-in-None-clause-only
returns-in-None-clause-only g c = λ x form same. none_is_some (c.in-None.ensures ∙ only_read c.args.line.now x form same)
