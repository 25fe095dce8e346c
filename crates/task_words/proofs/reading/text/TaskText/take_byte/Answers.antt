use Rattle.std.proofs.Common.{◌≡◌, ◌++◌, ◌∷◌, [], ℕ, List, length, false, cond, ap, sym, ◌∙◌, subst, le-ltb}
use Rattle.line_text.specs.Cutting.{Cutting, StandsFor, with_byte}
use Rattle.line_text.specs.declared.cutting.ByteEffect.TheVariants.{More, Line}
use Rattle.dover_model.specs.Lines.{lines_of, rest_of, is_too_long}
use Rattle.task_words.proofs.reading.Taking.{text_at, text_names, text_stands}
use Rattle.task_words.proofs.reading.text.TaskText.take_byte.Goals as goal

-- the text with the byte stands for what the buffer stands for, as no line was too long before
with_it : (lines : Cutting) (x : List ℕ) (byte : ℕ) → is_too_long (rest_of x) ≡ false
    → StandsFor lines (with_byte x byte) → StandsFor lines (x ++ byte ∷ [])
with_it lines x byte short stands = subst (StandsFor lines) (ap (λ b. cond b x (x ++ byte ∷ [])) short) stands

pub line-requires : goal.line-requires
line-requires c = λ more. let clash : Line ≡ More = sym c.in-Line.is ∙ c.push.ensures.last ∙ more in cc

pub returns-in-Line-clause-at : goal.returns-in-Line-clause-at
returns-in-Line-clause-at c = λ until x stands.
    text_at until x (x ++ c.args.byte ∷ []) c.line.result.now
    ((c.in-Line.ensures.cut x stands.cut stands.short).2 ∙ ap (λ l. lines_of x ++ l ∷ []) (sym c.line.ensures))
    c.take_line.result c.take_line.new.self
    (c.take_line.ensures.stands until (lines_of x) stands.keeps)

pub returns-in-Line-clause-names : goal.returns-in-Line-clause-names
returns-in-Line-clause-names c = λ until x stands.
    text_names until x (x ++ c.args.byte ∷ []) c.line.result.now
    ((c.in-Line.ensures.cut x stands.cut stands.short).2 ∙ ap (λ l. lines_of x ++ l ∷ []) (sym c.line.ensures))
    c.take_line.result c.args.self.now.intake stands.keeps
    (c.take_line.ensures.names until (lines_of x) stands.keeps)

pub returns-in-TooLong-clause-at : goal.returns-in-TooLong-clause-at
returns-in-TooLong-clause-at c = λ until x stands.
    text_at until x (x ++ c.args.byte ∷ []) c.line-in-TooLong.result.now
    ((c.in-TooLong.ensures.cut x stands.cut stands.short).2
    ∙ ap (λ l. lines_of x ++ l ∷ []) (sym c.line-in-TooLong.ensures))
    c.take_line-in-TooLong.result c.take_line-in-TooLong.new.self
    (c.take_line-in-TooLong.ensures.stands until (lines_of x) stands.keeps)

pub returns-in-TooLong-clause-stands : goal.returns-in-TooLong-clause-stands
returns-in-TooLong-clause-stands c = λ until x stands open_still.
    text_stands until x (x ++ c.args.byte ∷ []) c.line-in-TooLong.result.now
    ((c.in-TooLong.ensures.cut x stands.cut stands.short).2
    ∙ ap (λ l. lines_of x ++ l ∷ []) (sym c.line-in-TooLong.ensures))
    (record { lines = c.push.new.self; intake = c.take_line-in-TooLong.new.self })
    (with_it c.push.new.self x c.args.byte stands.short (c.push.ensures.stands x stands.cut))
    (λ few. ap is_too_long ((c.in-TooLong.ensures.cut x stands.cut stands.short).1 ∙ sym c.line-in-TooLong.ensures)
    ∙ le-ltb 128 (length c.line-in-TooLong.result.now) few)
    (c.take_line-in-TooLong.ensures.keeps until (lines_of x) stands.keeps open_still)

pub returns-in-TooLong-clause-names : goal.returns-in-TooLong-clause-names
returns-in-TooLong-clause-names c = λ until x stands.
    text_names until x (x ++ c.args.byte ∷ []) c.line-in-TooLong.result.now
    ((c.in-TooLong.ensures.cut x stands.cut stands.short).2
    ∙ ap (λ l. lines_of x ++ l ∷ []) (sym c.line-in-TooLong.ensures))
    c.take_line-in-TooLong.result c.args.self.now.intake stands.keeps
    (c.take_line-in-TooLong.ensures.names until (lines_of x) stands.keeps)
