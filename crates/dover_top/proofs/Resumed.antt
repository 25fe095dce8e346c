-- What stands of a feed so far that was served on behind its snapshot.
use Rattle.std.proofs.Common.{◌≡◌, ℕ, List, [], ◌∷◌, ◌++◌, append-nil, sym, ap, ◌∙◌, subst, inl, inr, cond, fold}
use Rattle.dover_model.specs.declared.events.Task.{Task}
use Rattle.dover_model.specs.Common.{Item, due, lines_of, whole_lines, rest_of, Begins}
use Rattle.dover_model.specs.Lines.{is_too_long}
use Rattle.dover_model.proofs.lists.Tests.{never}
use Rattle.dover_port.specs.Moves.{Move, ins, outs, has_ended}
use Rattle.dover_port.specs.declared.status.Status.{Status}
use Rattle.dover_port.specs.declared.status.Status.TheVariants.{Done, No, Refused, ReadFault, WriteFault, Memory, Usage}
use Rattle.snapshot.specs.Snapshot.{MayPause, Head, snapshot}
use Rattle.snapshot.specs.Reading as reading
use Rattle.snapshot.specs.Reading.{Taken, next_line, reading_of}
use Rattle.snapshot.specs.Kept.{IsWhole}
use Rattle.snapshot.proofs.Apart.{snapshot_whole}
use Rattle.feed_words.specs.serve.Keeping.{serve_talk, due_behind}
use Rattle.feed_words.specs.resume.Record.{Ends, EndsBefore, IsRefusedFor, is_part}
use Rattle.feed_words.specs.declared.serve.at_end.AtEnd.{AtEnd}
use Rattle.feed_words.proofs.serve.Talking.{whole_due}
use Rattle.feed_words.proofs.resume.Onward.{reading_behind, taken_on, refused_on}
use Rattle.feed_words.proofs.resume.Taking.{taken_stays}
use Rattle.dover_top.specs.Promises.{IsServedSoFar, IsResumedSoFar, Agree}
use Rattle.dover_top.proofs.SoFar.{agrees, answer_has, begins_two, decided_text, due_has, kept_so}

module _ (F H : List ℕ) (may : MayPause F) where
  -- the lines of a snapshot are taken
  lines_taken : (h : Head) (items : List Item) (ts : List Task) → IsWhole h items ts (whole_lines (snapshot F))
      → reading_of (lines_of (snapshot F)) ≡ Taken h items ts
  lines_taken h items ts whole = reading_behind (whole_lines (snapshot F)) more
      ∙ ap (λ r. fold next_line r more) whole.reads
      ∙ taken_stays h items ts more where
        more : List (List ℕ)
        more = cond (is_too_long (rest_of (snapshot F))) (rest_of (snapshot F) ∷ []) []

  -- whatever follows
  taken : (h : Head) × (items : List Item) × (ts : List Task)
      × (reading_of (lines_of (snapshot F ++ H)) ≡ Taken h items ts)
  taken = let it = snapshot_whole F may in
      (it.0, it.1, it.2, taken_on (snapshot F) H it.0 it.1 it.2 (lines_taken it.0 it.1 it.2 it.3))

  module _ (moves : List Move) (read : ins moves ≡ snapshot F ++ H) where
    all_taken : reading_of (lines_of (ins moves)) ≡ Taken taken.0 taken.1 taken.2
    all_taken = ap (λ x. reading_of (lines_of x)) read ∙ taken.3

    -- so none is refused, and none is missing
    unrefused : (at : ℕ) → IsRefusedFor at moves → ⊥
    unrefused at (inl (front, begins, refused)) =
        let clash : reading.Refused at ≡ Taken taken.0 taken.1 taken.2 = sym (refused_on front begins.0 at refused)
        ∙ ap (λ x. reading_of (lines_of x)) (sym begins.1) ∙ all_taken in
        absurd cc
    unrefused at (inr (ended, part, is)) = never (sym (ap is_part all_taken) ∙ part)

    -- where the call ended before it was whole, nothing was put
    nothing_put : (status : Status) → EndsBefore status moves → outs moves ≡ []
    nothing_put Done none = absurd none
    nothing_put No none = absurd none
    nothing_put Refused it = absurd (unrefused it.at it.cause)
    nothing_put ReadFault it = it.text
    nothing_put WriteFault it = absurd (unrefused it.at it.cause)
    nothing_put Memory it = it.text
    nothing_put Usage none = absurd none

    -- what was due for the feed goes on to what is due for all
    due_agrees : Agree (due F ++ []) (decided_text (F ++ H))
    due_agrees = begins_two (due F ++ []) (decided_text (F ++ H)) (due (F ++ H))
        (due_behind F H, sym (whole_due F H) ∙ ap (λ l. l ++ due_behind F H) (sym (append-nil (due F))))
        (due_has (F ++ H))

    served_on : (at_end : AtEnd) (status : Status) → Ends at_end status moves
        → Agree (due F ++ outs moves) (decided_text (F ++ H))
    served_on at_end status (inl before) =
        subst (λ put. Agree (due F ++ put) (decided_text (F ++ H))) (sym (nothing_put status before)) due_agrees
    served_on at_end status (inr it) =
        agrees (serve_talk at_end F) H (outs moves) (has_ended moves) (due F) (decided_text (F ++ H))
        (subst (Begins (decided_text (F ++ H))) (sym (whole_due F H)) (due_has (F ++ H)))
        (λ s text answer. answer_has at_end (F ++ H) (has_ended moves) s (due F ++ text) answer) status
        (it.each F H may read)

-- one that was served on behind its snapshot
pub resumed_so_far : (at_end : AtEnd) (status : Status) (moves : List Move) → Ends at_end status moves
    → IsResumedSoFar moves
resumed_so_far at_end status moves it = λ F H may read. record {
  kept = kept_so (F ++ H);
  text = served_on F H may moves read at_end status it;
}
