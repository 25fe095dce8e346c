use Rattle.std.proofs.Common.{◌≡◌, ◌<◌, ◌≤◌, ◌++◌, ◌∷◌, [], ℕ, List, length, get_or, refl, ap, ◌∙◌, subst, arith, OnOk}
use Rattle.std.proofs.lemmas.Result.{on_ok_weaker}
use Rattle.dover_model.specs.Lines.{is_too_long}
use Rattle.schedule_judge.specs.Account.{is_open}
use Rattle.schedule_judge.specs.Keeping.{StandsFor}
use Rattle.schedule_judge.proofs.Reading.{text_stands}
use Rattle.schedule_judge.proofs.text.ScheduleText.take_front.Goals as goal

-- one byte alone
one_byte : (bytes : List ℕ) → 0 < length bytes → length bytes ≤ 1 → get_or bytes 0 0 ∷ [] ≡ bytes
one_byte [] some few = absurd (omega (arith, some))
one_byte (b ∷ []) some few = refl
one_byte (b ∷ c ∷ bytes) some few = absurd (omega (arith, few))

pub take_line-requires : goal.take_line-requires
take_line-requires c = ap is_open c.requires.stands.1.says ∙ c.requires.stands.2

pub returns : goal.returns
returns c = λ x stands on.
    subst (λ bs. OnOk c.take_byte.result (StandsFor c.take_byte.new.self (x ++ bs)))
    (one_byte c.args.bytes.now c.requires.some c.if-bytes-gt1.false) (c.take_byte.ensures x stands on)

pub returns-then-bytes-gt1 : goal.returns-then-bytes-gt1
returns-then-bytes-gt1 c = λ x stands on.
    let had = stands.begun on in
    on_ok_weaker c.take_line.result (λ took. text_stands x (x ++ c.args.bytes.now) c.pass.result.now
    (c.pass.ensures.cut x had.cut).2 c.args.self.now stands
    (record { lines = c.pass.new.self; intake = c.take_line.new.self }) took
    (c.pass.ensures.stands x had.cut) (λ _. ap is_too_long (c.pass.ensures.cut x had.cut).1)) c.take_line.ensures
