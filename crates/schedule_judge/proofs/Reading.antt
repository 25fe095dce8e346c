-- What is read of a line.
use Rattle.std.proofs.Common.{◌≡◌, ◌≤◌, ◌<◌, ℕ, List, ◌∷◌, ◌++◌, [], length, refl, sym, ap, ◌∙◌}
use Rattle.std.proofs.Common.{false, cond, Option, Some, None, Result, Ok, Err, IfOk, le-ltb, lt-ltb}
use Rattle.dover_model.specs.declared.events.Event.{Event}
use Rattle.dover_model.specs.Common.{fields_of, lines_of, rest_of, is_too_long}
use Rattle.line_text.specs.declared.BadLine.{BadLine}
use Rattle.line_text.specs.declared.traces.lines.TraceLine.{TraceLine}
use Rattle.line_text.specs.traces.Form.{HasForm, trace_text}
use Rattle.line_text.specs.traces.Reading.{line_of_fields}
use Rattle.line_text.specs.Cutting as cutting
use Rattle.line_text.proofs.traces.Spelled.{IsRead, read_IsRead, only_read}
use Rattle.schedule_judge.specs.Account.{step_of_read, step_in, is_open, next_line, account_of_lines, account}
use Rattle.schedule_judge.specs.Keeping.{StandsFor}
use Rattle.schedule_judge.specs.declared.text.ScheduleText.{ScheduleText}
use Rattle.schedule_judge.proofs.Accounts.{next_of, next_good}

-- what a result stands for
abbrev pub read_as : Result TraceLine BadLine → Option TraceLine
read_as (Ok x) = Some x
read_as (Err e) = None

-- a line that is read as a trace's line is
pub is_read : (l : List ℕ) (r : Result TraceLine BadLine) → IfOk r (λ x. HasForm x) → IfOk r (λ x. trace_text x ≡ l)
    → ((x : TraceLine) → HasForm x → trace_text x ≡ l → r ≡ Ok x) → line_of_fields (fields_of l) ≡ read_as r
is_read l (Ok x) form text only = only_read l x form text
is_read l (Err e) form text only = by (line_of_fields (fields_of l)) refl where
  by : (o : Option TraceLine) → line_of_fields (fields_of l) ≡ o → o ≡ None
  by None is = refl
  by (Some x) is = let it : IsRead l x = read_IsRead l x is in
      absurd (let clash : Err e ≡ Ok x = only x it.form it.text in cc)

-- so of its step
pub step_read : (l : List ℕ) (r : Result TraceLine BadLine) (o : Option Event) → length l ≤ 128
    → IfOk r (λ x. HasForm x) → IfOk r (λ x. trace_text x ≡ l)
    → ((x : TraceLine) → HasForm x → trace_text x ≡ l → r ≡ Ok x) → step_of_read (read_as r) ≡ o → o ≡ step_in l
step_read l r o short form text only is =
    sym is ∙ ap step_of_read (sym (is_read l r form text only))
    ∙ ap (λ b. cond b None (step_of_read (line_of_fields (fields_of l)))) (sym (le-ltb 128 (length l) short))

-- one that is too long has none
pub step_unread : (l : List ℕ) → 128 < length l → None ≡ step_in l
step_unread l long = ap (λ b. cond b None (step_of_read (line_of_fields (fields_of l))))
    (sym (lt-ltb 128 (length l) long))

-- ---- a text with one line more

module _ (x y l : List ℕ) (is : lines_of y ≡ lines_of x ++ l ∷ []) (old : ScheduleText) (stands : StandsFor old x) where
  -- it stands for the text
  pub text_stands : (new : ScheduleText) → new.intake ≡ next_line old.intake l
      → cutting.StandsFor new.lines y → (length l ≤ 128 → is_too_long (rest_of y) ≡ false) → StandsFor new y
  text_stands new takes cut short =
      let same : account y ≡ next_line (account x) l = ap account_of_lines is ∙ next_of (lines_of x) l in
      record {
        says = takes ∙ ap (λ a. next_line a l) stands.says ∙ sym same;
        begun = λ on. record {
          cut = cut;
          short = short (next_good (account x) l (sym (ap is_open same) ∙ on)).short;
        };
      }
