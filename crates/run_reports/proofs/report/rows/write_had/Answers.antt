use Rattle.std.proofs.Common.{◌<◌, ◌^◌, arith, rules}
use Rattle.line_text.proofs.Written.{digits}
use Rattle.run_reports.proofs.report.rows.write_had.Goals as goal

pub write_field-requires : goal.write_field-requires
write_field-requires c =
    let small : c.in-Some.had < 2 ^ 64 = search rules in omega (arith, digits c.in-Some.had small, c.requires)

pub returns-in-Some-clause-fits : goal.returns-in-Some-clause-fits
returns-in-Some-clause-fits c =
    let small : c.in-Some.had < 2 ^ 64 = search rules in
    omega (arith, digits c.in-Some.had small, c.write_field.ensures.size)
