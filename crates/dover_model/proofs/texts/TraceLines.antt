-- A trace's line names what it was written from: a job or a refused line, and nothing else.
use Rattle.std.proofs.Common.{◌≡◌, ℕ, List, [], ◌∷◌, ◌++◌, map, refl, ap, ◌∙◌, decimal, Option, Some, None, codes}
use Rattle.std.proofs.Common.{option_and_then, sym, Bool, true, false, cond, subst, ◌==◌, eqb-true}
use Rattle.std.specs.List.{AllByRecursion}
use Rattle.std.specs.Bool.{then_some}
use Rattle.dover_model.specs.Common.{Refusal, BadJob, Release, Run, Preempt, Take, Complete, Abandon, End, numerals}
use Rattle.dover_model.specs.Common.{AreShort, job_numbers, with_numbers, numbers_after, Item, JobItem, RefusedItem}
use Rattle.dover_model.specs.Common.{RefusedJob, RefusedLine, RefusedDone, refused_text, refusal_word, step_numbers}
use Rattle.dover_model.specs.Common.{version_number, refused_numbers, refused_word, TraceLine, Printed, Refuses}
use Rattle.dover_model.specs.Common.{text_of_line, item_of, version_of_number, Version, One, Two, Three}
use Rattle.dover_model.specs.Verdict.{job_from, refused_from, refused_with, refusal_of_word, refused_done_with}
use Rattle.std.specs.Option.{option_or}
use Rattle.dover_model.proofs.texts.Fields.{HasNoSpace, fields_of-line_of, decimals-HasNoSpace, numerals-decimals}
use Rattle.dover_model.proofs.lists.Members.{some_same}
use Rattle.dover_model.proofs.lists.Tests.{none_is_some}
use Rattle.dover_model.specs.declared.events.Version.TheVariants.{Four}

-- the item that a line was written from, if it is one
abbrev pub item_of_line : TraceLine → Option Item
item_of_line (Printed (Release n j)) = Some (JobItem j)
item_of_line (Printed _) = None
item_of_line (Refuses r) = Some (RefusedItem r)

-- the numbers of the line have numerals
abbrev pub HasShortNumbers : TraceLine → Type 0
HasShortNumbers (Printed e) = AreShort (step_numbers e)
HasShortNumbers (Refuses r) = AreShort (r.at ∷ refused_numbers r.line)

-- ---- a word and numbers

-- what fields name
abbrev item_of_fields : List (List ℕ) → Option Item
item_of_fields fields = option_or (option_and_then job_from (numbers_after (codes "job") fields)) (refused_from fields)

-- the line of a word and numbers names what its fields name
cut : (word ns : List ℕ) → HasNoSpace word → AreShort ns
    → item_of (with_numbers word ns) ≡ item_of_fields (word ∷ map decimal ns)
cut word ns none short = ap item_of_fields (fields_of-line_of word (map decimal ns) none (decimals-HasNoSpace ns short))

-- the text of a release names the job
job_named : (n r c d v : ℕ) → AreShort (n ∷ r ∷ c ∷ d ∷ v ∷ [])
    → item_of (with_numbers (codes "job") (n ∷ r ∷ c ∷ d ∷ v ∷ [])) ≡ Some
    (JobItem (record { release = r; work = c; deadline = d; value = v }))
job_named n r c d v short = cut (codes "job") (n ∷ r ∷ c ∷ d ∷ v ∷ []) refl short
    ∙ ap (λ o. option_or (option_and_then job_from o)
    (refused_from (codes "job" ∷ map decimal (n ∷ r ∷ c ∷ d ∷ v ∷ []))))
    (numerals-decimals (n ∷ r ∷ c ∷ d ∷ v ∷ []) short)

-- ---- refused lines

-- the word of a refusal has no space
pub word_HasNoSpace : (refusal : Refusal) → HasNoSpace (refusal_word refusal)
word_HasNoSpace BadJob = refl
word_HasNoSpace _ = refl

-- nor has that of a refused line
pub refused_HasNoSpace : (line : RefusedLine) → HasNoSpace (refused_word line)
refused_HasNoSpace (RefusedJob j refusal) = word_HasNoSpace refusal
refused_HasNoSpace (RefusedDone tick number) = refl

-- it stands for the refusal
word_named : (refusal : Refusal) → refusal_of_word (refusal_word refusal) ≡ Some refusal
word_named BadJob = refl
word_named _ = refl

-- nor have numbers and a word behind them
pub then_word : (word : List ℕ) (ns : List ℕ) → HasNoSpace word → AreShort ns
    → AllByRecursion HasNoSpace (map decimal ns ++ word ∷ [])
then_word word [] none short = (none, tt)
then_word word (n ∷ ns) none short = ((decimals-HasNoSpace (n ∷ []) (short.0, tt)).0, then_word word ns none short.1)

-- the text of a refused line names it
refused_named : (at : ℕ) (line : RefusedLine) → AreShort (at ∷ refused_numbers line)
    → item_of (refused_text (record { at = at; line = line })) ≡ Some (RefusedItem (record { at = at; line = line }))
refused_named at (RefusedJob j refusal) short = ap item_of_fields
    (fields_of-line_of (codes "refuse") (map decimal (at ∷ job_numbers j) ++ refusal_word refusal ∷ []) refl
    (then_word (refusal_word refusal) (at ∷ job_numbers j) (word_HasNoSpace refusal) short))
    ∙ ap (option_and_then (λ r. option_and_then (refused_with r) (numerals (map decimal (at ∷ job_numbers j)))))
    (word_named refusal)
    ∙ ap (option_and_then (refused_with refusal)) (numerals-decimals (at ∷ job_numbers j) short)
refused_named at (RefusedDone tick number) short = ap item_of_fields
    (fields_of-line_of (codes "refuse") (map decimal (at ∷ tick ∷ number ∷ []) ++ codes "done" ∷ []) refl
    (then_word (codes "done") (at ∷ tick ∷ number ∷ []) refl short))
    ∙ ap (option_and_then refused_done_with) (numerals-decimals (at ∷ tick ∷ number ∷ []) short)

-- each text names what its line was written from
pub item_of-text_of_line : (line : TraceLine) → HasShortNumbers line → item_of (text_of_line line) ≡ item_of_line line
item_of-text_of_line (Printed (Release n j)) short = job_named n j.release j.work j.deadline j.value short
item_of-text_of_line (Printed (Run at n)) short = cut (codes "run") (at ∷ n ∷ []) refl short
item_of-text_of_line (Printed (Preempt at stops starts)) short =
    cut (codes "preempt") (at ∷ stops ∷ starts ∷ []) refl short
item_of-text_of_line (Printed (Take at stops starts)) short = cut (codes "take") (at ∷ stops ∷ starts ∷ []) refl short
item_of-text_of_line (Printed (Complete at n)) short = cut (codes "complete") (at ∷ n ∷ []) refl short
item_of-text_of_line (Printed (Abandon at n)) short = cut (codes "abandon") (at ∷ n ∷ []) refl short
item_of-text_of_line (Printed (End value)) short = cut (codes "end") (value ∷ []) refl short
item_of-text_of_line (Refuses r) short = refused_named r.at r.line short

-- ---- versions

-- a version is read from its number
pub version_back : (v : Version) → version_of_number (version_number v) ≡ Some v
version_back One = refl
version_back _ = refl

-- and its number from it
pub version_from : (n : ℕ) (v : Version) → version_of_number n ≡ Some v → version_number v ≡ n
version_from n v = by (n == 1) (n == 2) (n == 3) (n == 4) refl refl refl refl where
  by : (a b c d : Bool) → (n == 1) ≡ a → (n == 2) ≡ b → (n == 3) ≡ c → (n == 4) ≡ d
      → cond a (Some One) (cond b (Some Two) (cond c (Some Three) (then_some d Four))) ≡ Some v
      → version_number v ≡ n
  by true b c d one x y z read = subst (λ w. version_number w ≡ n) (some_same One v read) (sym (eqb-true n 1 one))
  by false true c d x two y z read = subst (λ w. version_number w ≡ n) (some_same Two v read) (sym (eqb-true n 2 two))
  by false false true d x y three z read =
      subst (λ w. version_number w ≡ n) (some_same Three v read) (sym (eqb-true n 3 three))
  by false false false true x y z four read =
      subst (λ w. version_number w ≡ n) (some_same Four v read) (sym (eqb-true n 4 four))
  by false false false false x y z w read = none_is_some read
