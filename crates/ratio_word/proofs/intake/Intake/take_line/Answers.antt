use Rattle.std.proofs.Common.{◌+◌, refl, sym, arith}
use Rattle.ratio_word.proofs.Taking.{keeps_counted, line_taken, line_many, line_bad, room}
use Rattle.ratio_word.proofs.intake.Intake.take_line.Goals as goal

pub returns-in-Some : goal.returns-in-Some
returns-in-Some c = λ ls keeps.
    let mid = record c.args.self.now { lines = c.args.self.now.lines + 1 } in
    line_taken c.args.self.now mid ls c.args.line.now keeps refl c.in-Some.read c.take.result c.take.new.self
    c.if-self-gt-MOST_LINES.false (sym c.in-Some.ensures.is)
    (c.take.ensures _ keeps.0
    (keeps_counted c.args.self.now mid ls c.args.line.now keeps refl refl))

pub returns-then-self-gt-MOST_LINES : goal.returns-then-self-gt-MOST_LINES
returns-then-self-gt-MOST_LINES c = λ ls keeps.
    let mid = record c.args.self.now { lines = c.args.self.now.lines + 1 } in
    line_many c.args.self.now mid ls c.args.line.now keeps refl c.if-self-gt-MOST_LINES.true

pub returns-in-None : goal.returns-in-None
returns-in-None c = λ ls keeps.
    let mid = record c.args.self.now { lines = c.args.self.now.lines + 1 } in
    line_bad c.args.self.now mid ls c.args.line.now keeps refl c.if-self-gt-MOST_LINES.false (sym c.in-None.ensures.is)

pub overflow_add-self : goal.overflow_add-self
overflow_add-self c = omega (arith, room c.args.self.now c.requires.0 c.requires.1)
