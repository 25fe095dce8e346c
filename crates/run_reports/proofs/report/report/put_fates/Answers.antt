use Rattle.std.proofs.Common.{refl}
use Rattle.std.proofs.lemmas.Result.{IfOk-equal}
use Rattle.run_reports.specs.report.Counts.{fates_lines}
use Rattle.run_reports.proofs.report.Texts.{lines_are}
use Rattle.run_reports.proofs.report.report.put_fates.Goals as goal

pub returns : goal.returns
returns c = IfOk-equal c.put_line-4.result _ _ _ c.put_line-4.ensures
    (lines_are c.args.text.now.items (fates_lines c.args.counts) _ (
      _,
      c.in_ok-put_line.ensures,
      (
        _,
        c.in_ok-put_line-2.ensures,
        (_, c.in_ok-put_line-3.ensures, (_, refl, refl)),
      ),
    ))
