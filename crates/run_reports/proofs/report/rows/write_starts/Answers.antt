use Rattle.std.proofs.Common.{◌<◌, ◌^◌, length, ap, arith, rules}
use Rattle.line_text.proofs.Written.{digits}
use Rattle.run_reports.proofs.report.rows.write_starts.Goals as goal

pub write_field-requires : goal.write_field-requires
write_field-requires c =
    let small : c.args.course.now.count < 2 ^ 64 = search rules in
    omega (arith, digits c.args.course.now.count small, c.requires)

pub put_word-requires : goal.put_word-requires
put_word-requires c =
    let small : c.args.course.now.count < 2 ^ 64 = search rules in
    omega (arith, digits c.args.course.now.count small, c.write_field.ensures.size, c.requires)

pub write_field-requires-in-Some : goal.write_field-requires-in-Some
write_field-requires-in-Some c =
    let few : c.args.course.now.count < 2 ^ 64 = search rules in
    let small : c.in-Some.at < 2 ^ 64 = search rules in
    omega (
      arith,
      digits c.args.course.now.count few,
      digits c.in-Some.at small,
      c.write_field.ensures.size,
      c.requires,
    )

pub returns-in-None-clause-fits : goal.returns-in-None-clause-fits
returns-in-None-clause-fits c =
    let small : c.args.course.now.count < 2 ^ 64 = search rules in
    omega (arith, digits c.args.course.now.count small, c.write_field.ensures.size, ap length c.put_word.ensures)

pub returns-in-Some-clause-fits : goal.returns-in-Some-clause-fits
returns-in-Some-clause-fits c =
    let few : c.args.course.now.count < 2 ^ 64 = search rules in
    let small : c.in-Some.at < 2 ^ 64 = search rules in
    omega (
      arith,
      digits c.args.course.now.count few,
      digits c.in-Some.at small,
      c.write_field.ensures.size,
      c.write_field-in-Some.ensures.size,
    )
