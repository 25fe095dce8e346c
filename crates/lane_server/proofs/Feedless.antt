-- No line that is due has a line feed, nor has a line of a text.
use Rattle.std.proofs.Common.{◌≡◌, ℕ, suc, List, [], ◌∷◌, refl, ap, Option, Some, None, Bool, true, false, cond, not}
use Rattle.std.proofs.Common.{◌&&◌, decimal, codes}
use Rattle.std.specs.List.{AllByRecursion, slice_split, onto_first}
use Rattle.std.proofs.lemmas.Bool.{and_from}
use Rattle.dover_model.specs.Common.{whole_lines, rest_of, lines_of, is_too_long, Session, instance_of, printed}
use Rattle.dover_model.specs.Common.{settled, texts_among, Account, Standing, Faulty, Cause}
use Rattle.dover_model.specs.Common.{NotAdmitted, is_ended, is_open, due_lines, decided_lines}
use Rattle.dover_model.specs.Common.{fault_text, short_lines}
use Rattle.dover_model.specs.Lines.{whole_and_rest}
use Rattle.dover_model.specs.Feed.{Short}
use Rattle.dover_model.specs.Due.{fault_lines, cause_word}
use Rattle.dover_model.proofs.texts.Cuts.{is_feed, HasNoFeed}
use Rattle.dover_model.proofs.lists.Members.{all_append}
use Rattle.dover_model.proofs.texts.NoFeeds.{feedless_line, feedless_decimal, feedless_refusal, feedless_texts}
use Rattle.dover_model.proofs.texts.NoFeeds.{feedless_header}

-- ---- lines that are due

-- the word of a cause
feedless_cause : (cause : Cause) → HasNoFeed (cause_word cause)
feedless_cause (NotAdmitted refusal) = feedless_refusal refusal
feedless_cause _ = refl

-- the line of a fault
pub feedless_fault : (line : ℕ) (cause : Cause) → HasNoFeed (fault_text line cause)
feedless_fault line cause =
    feedless_line (codes "refused") (decimal line ∷ cause_word cause ∷ []) refl
    (feedless_decimal line, (feedless_cause cause, tt))

-- all lines that are due for an account
pub feedless_due : (a : Account) → AllByRecursion HasNoFeed (due_lines a)
feedless_due a = all_append HasNoFeed (decided_lines a) (fault_lines a.standing) (decided a.session)
    (at_fault a.standing) where
      decided : (o : Option Session) → AllByRecursion HasNoFeed (elim o [
        | None ↦ []
        | Some S ↦ texts_among S (cond (is_ended a) (printed (instance_of S)) (settled (instance_of S) a.mark))
      ])
      decided None = tt
      decided (Some S) = (
        feedless_header S.rules,
        feedless_texts _,
      )

      at_fault : (s : Standing) → AllByRecursion HasNoFeed (fault_lines s)
      at_fault (Faulty line cause) = (feedless_fault line cause, tt)
      at_fault _ = tt

-- and the line of one that is short
pub feedless_short : (whole : ℕ) (a : Account) → AllByRecursion HasNoFeed (short_lines whole a)
feedless_short whole a = by_open (is_open a) where
  by_open : (b : Bool) → AllByRecursion HasNoFeed (cond b (fault_text (suc whole) Short ∷ []) [])
  by_open true = (feedless_fault (suc whole) Short, tt)
  by_open false = tt

-- ---- lines of a text

-- a byte onto the first part
onto_feedless : (b : ℕ) (parts : List (List ℕ)) → is_feed b ≡ false → AllByRecursion HasNoFeed parts
    → AllByRecursion HasNoFeed (onto_first b parts)
onto_feedless b [] other all = (ap (λ c. not c && true) other, tt)
onto_feedless b (part ∷ parts) other all = (and_from (not (is_feed b)) _ (ap not other) all.0, all.1)

-- the parts between line feeds
parts_feedless : (bytes : List ℕ) → AllByRecursion HasNoFeed (slice_split is_feed bytes)
parts_feedless [] = (refl, tt)
parts_feedless (b ∷ bytes) = by_byte (is_feed b) refl (parts_feedless bytes) where
  by_byte : (c : Bool) → is_feed b ≡ c → AllByRecursion HasNoFeed (slice_split is_feed bytes)
      → AllByRecursion HasNoFeed (cond c ([] ∷ slice_split is_feed bytes) (onto_first b (slice_split is_feed bytes)))
  by_byte true is all = (refl, all)
  by_byte false is all = onto_feedless b (slice_split is_feed bytes) is all

-- all parts but the last, and the last
cut_feedless : (parts : List (List ℕ)) → AllByRecursion HasNoFeed parts
    → AllByRecursion HasNoFeed (whole_and_rest parts).0 × HasNoFeed (whole_and_rest parts).1
cut_feedless [] all = (tt, refl)
cut_feedless (part ∷ []) all = (tt, all.0)
cut_feedless (part ∷ next ∷ parts) all = let more = cut_feedless (next ∷ parts) all.1 in ((all.0, more.0), more.1)

-- the lines of a text
pub feedless_lines : (bytes : List ℕ) → AllByRecursion HasNoFeed (lines_of bytes)
feedless_lines bytes =
    let both = cut_feedless (slice_split is_feed bytes) (parts_feedless bytes) in
    all_append HasNoFeed (whole_lines bytes) (cond (is_too_long (rest_of bytes)) (rest_of bytes ∷ []) []) both.0
    (by_length (is_too_long (rest_of bytes)) both.1) where
      by_length : (b : Bool) → HasNoFeed (rest_of bytes) → AllByRecursion HasNoFeed (cond b (rest_of bytes ∷ []) [])
      by_length true none = (none, tt)
      by_length false none = tt
