-- What a part of a snapshot, and what a whole one and the bytes behind it, are.
use Rattle.std.proofs.Common.{◌≡◌, ℕ, List, ◌++◌, sym, ap, ◌∙◌, subst, Option, Some, None, true}
use Rattle.dover_model.specs.Lines.{lines_of}
use Rattle.snapshot.specs.Snapshot.{MayPause, snapshot}
use Rattle.snapshot.specs.Reading.{reading_of}
use Rattle.snapshot.specs.Kept.{IsReading}
use Rattle.snapshot.specs.declared.resuming.Resuming.{Resuming}
use Rattle.snapshot.proofs.Apart.{ends_by_itself}
use Rattle.feed_words.specs.resume.Opening.{OpeningStands}
use Rattle.feed_words.specs.resume.Record.{is_part, IsPart, Behind}
use Rattle.feed_words.specs.declared.resume.opening.Opening.{Opening}

-- what is read on is a part
reading_part : (o : Option Resuming) (ls : List (List ℕ)) → IsReading o ls → is_part (reading_of ls) ≡ true
reading_part None ls none = ap (λ l. is_part (reading_of l)) none
reading_part (Some r) ls it = ap is_part it.3.reads

pub stands_part : (o : Opening) (x : List ℕ) → OpeningStands o x → IsPart x
stands_part o x it = reading_part o.reader (lines_of x) it.reads

module _ (y G : List ℕ) (may : MayPause G) (text : snapshot G ≡ y) where
  -- each feed of whose snapshot and more the bytes are has this snapshot, and the same bytes behind it
  same : (more F H : List ℕ) → MayPause F → y ++ more ≡ snapshot F ++ H → (snapshot F ≡ y) × (more ≡ H)
  same more F H other read =
      let both = ends_by_itself G F more H may other (ap (λ t. t ++ more) text ∙ read) in (sym both.0 ∙ text, both.1)

  -- what holds of each feed with this snapshot, and the bytes behind it
  pub behind : (x more : List ℕ) (T : List ℕ → List ℕ → Type 0) → x ≡ y ++ more
      → ((F : List ℕ) → MayPause F → snapshot F ≡ y → T F more)
      → Behind x T
  behind x more T is each = record {
    feed = G;
    more = more;
    may = may;
    read = is ∙ ap (λ t. t ++ more) (sym text);
    each = λ F H other read. let both = same more F H other (sym is ∙ read) in subst (T F) both.1 (each F other both.0);
  }
