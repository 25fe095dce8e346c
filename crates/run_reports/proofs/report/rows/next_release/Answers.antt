use Rattle.std.proofs.Common.{refl, arith, ◌∙◌, sym}
use Rattle.run_reports.proofs.report.Tables.{passed, found, none_found}
use Rattle.run_reports.proofs.report.rows.next_release.Goals as goal

pub loop-place-init : goal.loop-place-init
loop-place-init c = record { same = λ had course n. refl }

pub returns-in-Release : goal.returns-in-Release
returns-in-Release c = found c.args.run.now c.args.next c.loop-place.place c.index-run-place.result c.in-Release.number
    c.in-Release.job (omega arith) c.index-run-place.is c.loop-place-test.true (sym c.event.ensures ∙ c.in-Release.is)
    c.loop-place.invariant

pub loop-place-preserved : goal.loop-place-preserved
loop-place-preserved c = passed c.args.run.now c.args.next c.loop-place.place c.index-run-place.result
    c.index-run-place.is c.loop-place-test.true (λ m j is. c.in_default.not-Release m j (c.event.ensures ∙ is))
    c.loop-place.invariant

pub returns : goal.returns
returns c = none_found c.args.run.now c.args.next c.loop-place.place (omega arith) c.loop-place.invariant
