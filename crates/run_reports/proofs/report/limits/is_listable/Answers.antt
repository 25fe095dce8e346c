use Rattle.run_reports.proofs.report.Sizing.{listable_by, sizes_fit}
use Rattle.run_reports.proofs.report.limits.is_listable.Goals as goal

pub returns : goal.returns
returns c J valid prints = (
  λ fit. listable_by J valid c.args.run.now prints c.of-totals.result c.of-totals.ensures (c.fits.ensures.0 fit),
  λ listable. c.fits.ensures.1
      (sizes_fit J valid c.args.run.now prints c.of-totals.result c.of-totals.ensures listable),
)
