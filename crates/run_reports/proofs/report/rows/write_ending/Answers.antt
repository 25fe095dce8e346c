use Rattle.std.proofs.Common.{◌<◌, ◌^◌, length, length-append, decimal, ap, arith, rules}
use Rattle.line_text.proofs.Written.{digits}
use Rattle.run_reports.proofs.report.rows.write_ending.Goals as goal

pub put_number-requires : goal.put_number-requires
put_number-requires c =
    let small : c.in-Some-Completed.at < 2 ^ 64 = search rules in
    omega (arith, digits c.in-Some-Completed.at small, c.requires)

pub put_word-requires : goal.put_word-requires
put_word-requires c =
    let small : c.in-Some-Completed.at < 2 ^ 64 = search rules in
    omega (
      arith,
      digits c.in-Some-Completed.at small,
      ap length c.put_number.ensures,
      length-append (decimal c.in-Some-Completed.at) c.args.line.now,
      c.requires,
    )

pub put_number-requires-in-Some-Abandoned : goal.put_number-requires-in-Some-Abandoned
put_number-requires-in-Some-Abandoned c =
    let small : c.in-Some-Abandoned.at < 2 ^ 64 = search rules in
    omega (arith, digits c.in-Some-Abandoned.at small, c.requires)

pub put_word-requires-in-Some-Abandoned : goal.put_word-requires-in-Some-Abandoned
put_word-requires-in-Some-Abandoned c =
    let small : c.in-Some-Abandoned.at < 2 ^ 64 = search rules in
    omega (
      arith,
      digits c.in-Some-Abandoned.at small,
      ap length c.put_number-in-Some-Abandoned.ensures,
      length-append (decimal c.in-Some-Abandoned.at) c.args.line.now,
      c.requires,
    )

pub returns-in-Some-Completed-clause-fits : goal.returns-in-Some-Completed-clause-fits
returns-in-Some-Completed-clause-fits c =
    let small : c.in-Some-Completed.at < 2 ^ 64 = search rules in
    omega (
      arith,
      digits c.in-Some-Completed.at small,
      ap length c.put_word.ensures,
      ap length c.put_number.ensures,
      length-append (decimal c.in-Some-Completed.at) c.args.line.now,
    )

pub returns-in-Some-Abandoned-clause-fits : goal.returns-in-Some-Abandoned-clause-fits
returns-in-Some-Abandoned-clause-fits c =
    let small : c.in-Some-Abandoned.at < 2 ^ 64 = search rules in
    omega (
      arith,
      digits c.in-Some-Abandoned.at small,
      ap length c.put_word-in-Some-Abandoned.ensures,
      ap length c.put_number-in-Some-Abandoned.ensures,
      length-append (decimal c.in-Some-Abandoned.at) c.args.line.now,
    )
