use Rattle.std.proofs.Common.{◌≡◌, ◌++◌, ◌∷◌, [], ℕ, List, length, false, cond, ap, sym, ◌∙◌, subst, le-ltb}
use Rattle.std.proofs.lemmas.Result.{on_ok_weaker}
use Rattle.line_text.specs.Cutting.{Cutting, StandsFor, with_byte, is_over}
use Rattle.line_text.specs.declared.cutting.ByteEffect.TheVariants.{More, Line, TooLong}
use Rattle.dover_model.specs.Lines.{lines_of, rest_of, is_too_long}
use Rattle.schedule_judge.specs.Account.{account_of_lines, is_open}
use Rattle.schedule_judge.proofs.Reading.{text_stands}
use Rattle.schedule_judge.proofs.text.ScheduleText.take_byte.Goals as goal

-- the text with the byte stands for what the buffer stands for, as no line was too long before
with_it : (lines : Cutting) (x : List ℕ) (byte : ℕ) → is_too_long (rest_of x) ≡ false
    → StandsFor lines (with_byte x byte) → StandsFor lines (x ++ byte ∷ [])
with_it lines x byte short stands = subst (StandsFor lines) (ap (λ b. cond b x (x ++ byte ∷ [])) short) stands

pub line-requires : goal.line-requires
line-requires c = λ more. let clash : Line ≡ More = sym c.in-Line.is ∙ c.push.ensures.last ∙ more in cc

pub line-requires-in-TooLong : goal.line-requires-in-TooLong
line-requires-in-TooLong c = λ more.
    let clash : TooLong ≡ More = sym c.in-TooLong.is ∙ c.push.ensures.last ∙ more in cc

pub take_line-requires : goal.take_line-requires
take_line-requires c = ap is_open c.requires.1.says ∙ c.requires.2

pub take_line-requires-in-TooLong : goal.take_line-requires-in-TooLong
take_line-requires-in-TooLong c = ap is_open c.requires.1.says ∙ c.requires.2

pub returns-in-More : goal.returns-in-More
returns-in-More c = λ x stands on.
    let had = stands.begun on in
    let cut : StandsFor c.push.new.self (x ++ c.args.byte ∷ []) =
    with_it c.push.new.self x c.args.byte had.short (c.push.ensures.stands x had.cut) in
    record {
      says = stands.says ∙ ap account_of_lines (sym (c.in-More.ensures.cut x had.cut had.short).2);
      begun = λ _. record {
        cut = cut;
        short = sym cut.over ∙ ap is_over (sym c.push.ensures.last ∙ c.in-More.is);
      };
    }

pub returns-in-Line : goal.returns-in-Line
returns-in-Line c = λ x stands on.
    let had = stands.begun on in
    on_ok_weaker c.take_line.result (λ took. text_stands x (x ++ c.args.byte ∷ []) c.line.result.now
    ((c.in-Line.ensures.cut x had.cut had.short).2 ∙ ap (λ l. lines_of x ++ l ∷ []) (sym c.line.ensures))
    c.args.self.now stands (record { lines = c.push.new.self; intake = c.take_line.new.self }) took
    (with_it c.push.new.self x c.args.byte had.short (c.push.ensures.stands x had.cut))
    (λ _. ap is_too_long (c.in-Line.ensures.cut x had.cut had.short).1)) c.take_line.ensures

pub returns-in-TooLong : goal.returns-in-TooLong
returns-in-TooLong c = λ x stands on.
    let had = stands.begun on in
    on_ok_weaker c.take_line-in-TooLong.result (λ took.
    text_stands x (x ++ c.args.byte ∷ []) c.line-in-TooLong.result.now
    ((c.in-TooLong.ensures.cut x had.cut had.short).2
    ∙ ap (λ l. lines_of x ++ l ∷ []) (sym c.line-in-TooLong.ensures))
    c.args.self.now stands (record { lines = c.push.new.self; intake = c.take_line-in-TooLong.new.self }) took
    (with_it c.push.new.self x c.args.byte had.short (c.push.ensures.stands x had.cut))
    (λ few. ap is_too_long ((c.in-TooLong.ensures.cut x had.cut had.short).1 ∙ sym c.line-in-TooLong.ensures)
    ∙ le-ltb 128 (length c.line-in-TooLong.result.now) few)) c.take_line-in-TooLong.ensures
