use Rattle.std.proofs.Common.{◌≡◌, ◌<◌, ◌≤◌, ◌++◌, ◌∷◌, [], ℕ, List, length, get_or, refl, ap, subst, arith}
use Rattle.task_words.specs.reading.Account.{account}
use Rattle.task_words.specs.reading.Faults.{NamesIn}
use Rattle.task_words.specs.reading.Keeping.{StandsAt, TextStands}
use Rattle.dover_model.specs.Lines.{lines_of, is_too_long}
use Rattle.task_words.proofs.reading.Taking.{text_at, text_names, text_stands}
use Rattle.task_words.proofs.reading.text.TaskText.take_front.Goals as goal

-- one byte alone
one_byte : (bytes : List ℕ) → 0 < length bytes → length bytes ≤ 1 → get_or bytes 0 0 ∷ [] ≡ bytes
one_byte [] some few = absurd (omega (arith, some))
one_byte (b ∷ []) some few = refl
one_byte (b ∷ c ∷ bytes) some few = absurd (omega (arith, few))

pub returns-clause-at : goal.returns-clause-at
returns-clause-at c = λ until x stands.
    subst (λ bs. StandsAt until c.take_byte.result c.take_byte.new.self.intake (account until (x ++ bs)))
    (one_byte c.args.bytes.now c.requires.some c.if-bytes-gt1.false) (c.take_byte.ensures.at until x stands)

pub returns-clause-stands : goal.returns-clause-stands
returns-clause-stands c = λ until x stands goes_on.
    subst (λ bs. TextStands until c.take_byte.new.self (x ++ bs))
    (one_byte c.args.bytes.now c.requires.some c.if-bytes-gt1.false) (c.take_byte.ensures.stands until x stands goes_on)

pub returns-clause-names : goal.returns-clause-names
returns-clause-names c = λ until x stands.
    subst (λ bs. NamesIn until c.take_byte.result (x ++ bs))
    (one_byte c.args.bytes.now c.requires.some c.if-bytes-gt1.false) (c.take_byte.ensures.names until x stands)

pub returns-then-bytes-gt1-clause-at : goal.returns-then-bytes-gt1-clause-at
returns-then-bytes-gt1-clause-at c = λ until x stands. text_at until x (x ++ c.args.bytes.now) c.pass.result.now
    (c.pass.ensures.cut x stands.cut).2
    c.take_line.result c.take_line.new.self (c.take_line.ensures.stands until (lines_of x) stands.keeps)

pub returns-then-bytes-gt1-clause-stands : goal.returns-then-bytes-gt1-clause-stands
returns-then-bytes-gt1-clause-stands c = λ until x stands open_still.
    text_stands until x (x ++ c.args.bytes.now) c.pass.result.now
    (c.pass.ensures.cut x stands.cut).2
    (record { lines = c.pass.new.self; intake = c.take_line.new.self }) (c.pass.ensures.stands x stands.cut)
    (λ _. ap is_too_long (c.pass.ensures.cut x stands.cut).1)
    (c.take_line.ensures.keeps until (lines_of x) stands.keeps open_still)

pub returns-then-bytes-gt1-clause-names : goal.returns-then-bytes-gt1-clause-names
returns-then-bytes-gt1-clause-names c = λ until x stands. text_names until x (x ++ c.args.bytes.now) c.pass.result.now
    (c.pass.ensures.cut x stands.cut).2
    c.take_line.result c.args.self.now.intake stands.keeps
    (c.take_line.ensures.names until (lines_of x) stands.keeps)
