use Rattle.std.proofs.Common.{length, decimal, ap, arith}
use Rattle.run_reports.proofs.report.Texts.{digits_of}
use Rattle.run_reports.proofs.report.rows.write_job.Goals as goal

pub write_field-requires : goal.write_field-requires
write_field-requires c = omega (
  arith,
  (digits_of c.args.job.now c.value.ensures.job).value,
  ap (λ n. length (decimal n)) c.value.ensures.is,
  c.requires,
)

pub write_field-requires-2 : goal.write_field-requires-2
write_field-requires-2 c = omega (
  arith,
  (digits_of c.args.job.now c.value.ensures.job).value,
  (digits_of c.args.job.now c.value.ensures.job).deadline,
  ap (λ n. length (decimal n)) c.value.ensures.is,
  ap (λ n. length (decimal n)) c.deadline.ensures.is,
  c.write_field.ensures.size,
  c.requires,
)

pub write_field-requires-3 : goal.write_field-requires-3
write_field-requires-3 c = omega (
  arith,
  (digits_of c.args.job.now c.value.ensures.job).value,
  (digits_of c.args.job.now c.value.ensures.job).deadline,
  (digits_of c.args.job.now c.value.ensures.job).work,
  ap (λ n. length (decimal n)) c.value.ensures.is,
  ap (λ n. length (decimal n)) c.deadline.ensures.is,
  ap (λ n. length (decimal n)) c.work.ensures.is,
  c.write_field.ensures.size,
  c.write_field-2.ensures.size,
  c.requires,
)

pub write_field-requires-4 : goal.write_field-requires-4
write_field-requires-4 c = omega (
  arith,
  (digits_of c.args.job.now c.value.ensures.job).value,
  (digits_of c.args.job.now c.value.ensures.job).deadline,
  (digits_of c.args.job.now c.value.ensures.job).work,
  (digits_of c.args.job.now c.value.ensures.job).release,
  ap (λ n. length (decimal n)) c.value.ensures.is,
  ap (λ n. length (decimal n)) c.deadline.ensures.is,
  ap (λ n. length (decimal n)) c.work.ensures.is,
  ap (λ n. length (decimal n)) c.release.ensures.is,
  c.write_field.ensures.size,
  c.write_field-2.ensures.size,
  c.write_field-3.ensures.size,
  c.requires,
)

pub returns-clause-fits : goal.returns-clause-fits
returns-clause-fits c = omega (
  arith,
  (digits_of c.args.job.now c.value.ensures.job).value,
  (digits_of c.args.job.now c.value.ensures.job).deadline,
  (digits_of c.args.job.now c.value.ensures.job).work,
  (digits_of c.args.job.now c.value.ensures.job).release,
  ap (λ n. length (decimal n)) c.value.ensures.is,
  ap (λ n. length (decimal n)) c.deadline.ensures.is,
  ap (λ n. length (decimal n)) c.work.ensures.is,
  ap (λ n. length (decimal n)) c.release.ensures.is,
  c.write_field.ensures.size,
  c.write_field-2.ensures.size,
  c.write_field-3.ensures.size,
  c.write_field-4.ensures.size,
)
