use Rattle.std.proofs.Common.{length, length-append, decimal, ap, arith}
use Rattle.std.proofs.lemmas.Fmt.{length-decimal-le}
use Rattle.run_reports.proofs.report.rows.write_row.Goals as goal

pub put_number-requires : goal.put_number-requires
put_number-requires c = omega (
  arith,
  length-decimal-le 7 c.args.number (omega arith) (omega (arith, c.requires.few)) (omega (arith, c.requires.few)),
  c.write_job.ensures.fits,
  c.write_ending.ensures.fits,
  c.write_had.ensures.fits,
  ap length c.requires.empty,
)

pub returns-clause-fits : goal.returns-clause-fits
returns-clause-fits c = omega (
  arith,
  length-decimal-le 7 c.args.number (omega arith) (omega (arith, c.requires.few)) (omega (arith, c.requires.few)),
  ap length c.put_number.ensures,
  length-append (decimal c.args.number) c.write_job.new.line,
  c.write_job.ensures.fits,
  c.write_ending.ensures.fits,
  c.write_had.ensures.fits,
  ap length c.requires.empty,
)
