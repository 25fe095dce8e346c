use Rattle.std.proofs.Common.{◌+◌, ◌∷◌, ◌++◌, [], refl, sym, subst, arith, ◌≡◌}
use Rattle.task_words.specs.reading.Account.{account_of_lines}
use Rattle.task_words.specs.reading.Keeping.{StandsAt}
use Rattle.task_words.specs.reading.Faults.{NamesAt}
use Rattle.task_words.proofs.reading.Taking.{keeps_counted, line_taken, keeps_more, named_before, line_many, line_bad}
use Rattle.event_feed.specs.declared.faults.Cause.TheVariants.{Line}
use Rattle.task_words.specs.declared.reading.intake.Progress.TheVariants.{Open, Refused}
use Rattle.task_words.proofs.reading.intake.TaskIntake.take_line.Goals as goal

pub returns-in-Ok-clause-stands : goal.returns-in-Ok-clause-stands
returns-in-Ok-clause-stands c = λ until ls keeps.
    let mid = record c.args.self.now { lines = c.args.self.now.lines + 1 } in
    line_taken until c.args.self.now mid ls c.args.line.now keeps refl c.in-Ok.read c.take.result c.take.new.self
    c.if-self-gt-MOST_LINES.false c.in-Ok.ensures.ok
    (c.take.ensures.stands until _ keeps.stands
    (keeps_counted until c.args.self.now mid ls c.args.line.now keeps refl refl refl refl))

pub returns-in-Ok-clause-keeps : goal.returns-in-Ok-clause-keeps
returns-in-Ok-clause-keeps c = λ until ls keeps open_still.
    let mid = record c.args.self.now { lines = c.args.self.now.lines + 1 } in
    keeps_more until c.take.new.self (ls ++ c.args.line.now ∷ [])
    (omega (arith, c.take.ensures.lines, c.if-self-gt-MOST_LINES.false))
    (subst (λ p. StandsAt until p c.take.new.self (account_of_lines until (ls ++ c.args.line.now ∷ []))) open_still
    (line_taken until c.args.self.now mid ls c.args.line.now keeps refl c.in-Ok.read c.take.result c.take.new.self
    c.if-self-gt-MOST_LINES.false c.in-Ok.ensures.ok
    (c.take.ensures.stands until _ keeps.stands
    (keeps_counted until c.args.self.now mid ls c.args.line.now keeps refl refl refl refl))))

pub returns-in-Ok-clause-names : goal.returns-in-Ok-clause-names
returns-in-Ok-clause-names c = λ until ls keeps.
    let mid = record c.args.self.now { lines = c.args.self.now.lines + 1 } in
    subst (λ l. NamesAt until l (account_of_lines until ls) c.take.result) (sym c.in-Ok.ensures.ok)
    (named_before until _ (account_of_lines until ls) c.take.result (c.take.ensures.names until _
    (keeps_counted until c.args.self.now mid ls c.args.line.now keeps refl refl refl refl)))

pub returns-then-self-gt-MOST_LINES-clause-stands : goal.returns-then-self-gt-MOST_LINES-clause-stands
returns-then-self-gt-MOST_LINES-clause-stands c = λ until ls keeps.
    let mid = record c.args.self.now { lines = c.args.self.now.lines + 1 } in
    line_many until c.args.self.now mid ls c.args.line.now keeps refl c.if-self-gt-MOST_LINES.true

pub returns-in-Err-clause-stands : goal.returns-in-Err-clause-stands
returns-in-Err-clause-stands c = λ until ls keeps.
    let mid = record c.args.self.now { lines = c.args.self.now.lines + 1 } in
    line_bad until c.args.self.now mid ls c.args.line.now keeps refl c.if-self-gt-MOST_LINES.false c.in-Err.ensures.err

pub returns-in-Err-clause-keeps : goal.returns-in-Err-clause-keeps
returns-in-Err-clause-keeps c = λ until ls keeps clash. absurd (let it : Refused Line ≡ Open = clash in cc)
