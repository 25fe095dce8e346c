-- What is read of a feed's line.
use Rattle.std.proofs.Common.{◌≡◌, ◌≢◌, ℕ, List, [], ◌∷◌, length, refl, sym, ap, ◌∙◌, true, Option, Some, None, codes}
use Rattle.std.proofs.Common.{option_map, Result, Ok, Err, IfOk, bytes_eq, option_and_then}
use Rattle.std.proofs.lemmas.Slice.Eq.{bytes_eq-Decides}
use Rattle.dover_model.specs.Common.{numeral, line_of, numerals, fields_of}
use Rattle.dover_model.proofs.texts.Fields.{line_of-fields_of}
use Rattle.dover_model.proofs.lists.Members.{some_same}
use Rattle.dover_model.proofs.lists.Tests.{none_is_some}
use Rattle.line_text.proofs.Words.{IsNot, uncounted, skip, Lacks, differs}
use Rattle.dover_model.specs.FeedLine as model
use Rattle.dover_model.proofs.texts.FeedLines.{feed_text-feed_line}
use Rattle.dover_model.proofs.texts.ReadShort.{read_HasNumerals}
use Rattle.line_text.specs.declared.BadLine.{BadLine}
use Rattle.line_text.specs.declared.feeds.lines.FeedLine.{FeedLine}
use Rattle.line_text.specs.feeds.Form.{form_of}

-- ---- another count of numbers

-- of a job
not_four : (ns : List ℕ) → length ns ≢ 4 → model.job_line ns ≡ None
not_four (a ∷ b ∷ c ∷ d ∷ []) other = absurd (other refl)
not_four _ other = refl

-- of a tick
not_one : (ns : List ℕ) → length ns ≢ 1 → model.tick_line ns ≡ None
not_one (a ∷ []) other = absurd (other refl)
not_one _ other = refl

-- of a job that is done
not_two : (ns : List ℕ) → length ns ≢ 2 → model.done_line ns ≡ None
not_two (a ∷ b ∷ []) other = absurd (other refl)
not_two _ other = refl

-- of a ratio
not_two_three_or_five : (ns : List ℕ) → length ns ≢ 2 → length ns ≢ 3 → length ns ≢ 5 → model.ratio_line ns ≡ None
not_two_three_or_five (a ∷ b ∷ []) other more most = absurd (other refl)
not_two_three_or_five (a ∷ b ∷ c ∷ []) other more most = absurd (more refl)
not_two_three_or_five (a ∷ b ∷ c ∷ d ∷ e ∷ []) other more most = absurd (most refl)
not_two_three_or_five _ other more most = refl

pub no_job : (o : Option (List ℕ)) → IsNot 4 o → None ≡ option_and_then model.job_line o
no_job = uncounted model.job_line 4 not_four

pub no_tick : (o : Option (List ℕ)) → IsNot 1 o → None ≡ option_and_then model.tick_line o
no_tick = uncounted model.tick_line 1 not_one

pub no_done : (o : Option (List ℕ)) → IsNot 2 o → None ≡ option_and_then model.done_line o
no_done = uncounted model.done_line 2 not_two

pub no_ratio : (o : Option (List ℕ)) → IsNot 2 o → IsNot 3 o → IsNot 5 o
    → None ≡ option_and_then model.ratio_line o
no_ratio None other more most = refl
no_ratio (Some ns) other more most = sym (not_two_three_or_five ns (other ns refl) (more ns refl) (most ns refl))

-- ---- the word

-- for each word its line has no such numbers if the word is this one
pub record IsNoLine (word ns : List ℕ) : Type 0 where
  pub ratio : bytes_eq word (codes "k") ≡ true → model.ratio_line ns ≡ None
  pub job : bytes_eq word (codes "job") ≡ true → model.job_line ns ≡ None
  pub tick : bytes_eq word (codes "tick") ≡ true → model.tick_line ns ≡ None
  pub done : bytes_eq word (codes "done") ≡ true → model.done_line ns ≡ None
  pub end : bytes_eq word (codes "end") ≡ true → model.end_line ns ≡ None

-- then there is no line
no_word : (word ns : List ℕ) → IsNoLine word ns → model.line_of_word word ns ≡ None
no_word word ns it =
    skip _ _ _ it.ratio (skip _ _ _ it.job (skip _ _ _ it.tick (skip _ _ _ it.done (skip _ _ _ it.end refl))))

no_numbers : (word : List ℕ) (o : Option (List ℕ)) → ((ns : List ℕ) → o ≡ Some ns → IsNoLine word ns)
    → option_and_then (model.line_of_word word) o ≡ None
no_numbers word None it = refl
no_numbers word (Some ns) it = no_word word ns (it ns refl)

-- the line begins with no word of a feed and a space, and isn't the end
pub record LacksAll (line : List ℕ) : Type 0 where
  pub ratio : Lacks line (codes "k")
  pub job : Lacks line (codes "job")
  pub tick : Lacks line (codes "tick")
  pub done : Lacks line (codes "done")
  pub end : (line ≡ codes "end") → ⊥

-- it is no line of a feed
pub no_line : (line : List ℕ) → LacksAll line → None ≡ model.line_of_fields (fields_of line)
no_line line it = sym (by_fields (fields_of line) refl) where
  some_numbers : (field : List ℕ) (fields : List (List ℕ)) (ns : List ℕ) → numerals (field ∷ fields) ≡ Some ns
      → model.end_line ns ≡ None
  some_numbers field fields ns read = by (numeral field) (numerals fields) read where
    by : (n : Option ℕ) (o : Option (List ℕ))
        → option_and_then (λ m. option_map (λ ms. m ∷ ms) o) n ≡ Some ns → model.end_line ns ≡ None
    by None o e = none_is_some e
    by (Some n) None e = none_is_some e
    by (Some n) (Some ms) e = ap model.end_line (sym (some_same (n ∷ ms) ns e))

  by_fields : (fields : List (List ℕ)) → fields_of line ≡ fields → model.line_of_fields fields ≡ None
  by_fields [] is = refl
  by_fields (word ∷ []) is = no_word word [] record {
    ratio = λ same. refl;
    job = λ same. refl;
    tick = λ same. refl;
    done = λ same. refl;
    end = λ same. absurd (it.end
        (sym (line_of-fields_of line) ∙ ap line_of is ∙ (bytes_eq-Decides word (codes "end")).0 same));
  }
  by_fields (word ∷ field ∷ fields) is =
      let other = differs line word field fields is in
      no_numbers word (numerals (field ∷ fields)) (λ ns read. record {
        ratio = λ same. absurd (other (codes "k") it.ratio same);
        job = λ same. absurd (other (codes "job") it.job same);
        tick = λ same. absurd (other (codes "tick") it.tick same);
        done = λ same. absurd (other (codes "done") it.done same);
        end = λ same. some_numbers field fields ns read;
      })

-- ---- what is read

-- the bytes are the text of what is read
pub read_text : (line : List ℕ) (r : Result FeedLine BadLine) → IfOk r (λ x. model.feed_line line ≡ Some (form_of x))
    → IfOk r (λ x. model.feed_text (form_of x) ≡ line)
read_text line (Ok x) read = feed_text-feed_line line (form_of x) read
read_text line (Err e) read = tt

-- and its numbers have numerals
pub read_short : (line : List ℕ) (r : Result FeedLine BadLine) → IfOk r (λ x. model.feed_line line ≡ Some (form_of x))
    → IfOk r (λ x. model.HasNumerals (form_of x))
read_short line (Ok x) read = read_HasNumerals line (form_of x) read
read_short line (Err e) read = tt
