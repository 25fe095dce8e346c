-- What a call comes to that reads a snapshot and serves its feed on, from its talk.
use Rattle.std.proofs.Common.{◌≡◌, ℕ, suc, List, [], ◌∷◌, ◌++◌, length, refl, sym, ap, ◌∙◌, subst, false, inl, inr}
use Rattle.std.proofs.Common.{arith, length-append, append-nil}
use Rattle.dover_model.specs.declared.events.Task.{Task}
use Rattle.dover_model.specs.Common.{Item, lines_of, whole_lines, Begins}
use Rattle.dover_model.proofs.lists.Tests.{never}
use Rattle.dover_port.specs.Moves.{Move, ins, outs, has_ended, IsProperPrefix}
use Rattle.dover_port.specs.declared.status.Status.{Status}
use Rattle.dover_port.specs.declared.status.Status.TheVariants.{Done, No, Refused, ReadFault, WriteFault, Memory, Usage}
use Rattle.dialogue.specs.Talk as talk
use Rattle.dialogue.specs.Talk.{Talks, CanEnd, IsCutAnswer}
use Rattle.dialogue.proofs.Allowed.{reads_weaker}
use Rattle.snapshot.specs.Snapshot.{Head}
use Rattle.snapshot.specs.Reading as reading
use Rattle.snapshot.specs.Reading.{Reading, Begun, Going, Taken, reading_of}
use Rattle.snapshot.proofs.Feeds.{named}
use Rattle.feed_words.specs.serve.Keeping.{serve_talk}
use Rattle.event_feed.proofs.Admitting.{declared_front}
use Rattle.feed_words.specs.resume.Record.{is_part, MayRead, IsRefusedFor, Ends, Resumes}
use Rattle.feed_words.specs.resume.Talk.{Asked, feed_of, behind_snapshot, IsRefusedAs, IsAnsweredBy, LacksBy, HasBegun}
use Rattle.feed_words.specs.resume.Talk.{resume_talk}
use Rattle.feed_words.proofs.resume.Equally.{may_same, ends_same}
use Rattle.feed_words.proofs.resume.Onward.{feed_may}
use Rattle.feed_words.proofs.resume.Talking.{goes_at, due_at, past}

-- nothing begins nothing, and nothing is shorter
none_begins : (xs ys : List ℕ) → [] ≡ xs ++ ys → xs ≡ []
none_begins [] ys is = refl
none_begins (x ∷ xs) ys is = absurd (let e : [] ≡ x ∷ (xs ++ ys) = is in cc)

none_shorter : (xs : List ℕ) {X : Type 0} → IsProperPrefix xs [] → X
none_shorter xs part =
    absurd (omega (arith, part.1, ap (λ (l : List ℕ). length l) part.2, length-append xs part.0))

module _ (a : Asked) where
  -- ---- before a read

  may_read : (got put : List ℕ) → talk.MayRead (resume_talk a) got put → MayRead a.at_end got put
  may_read got put may = by (reading_of (lines_of got)) refl where
    by : (r : Reading) → reading_of (lines_of got) ≡ r → MayRead a.at_end got put
    by Begun is = inl (ap is_part is, may.0 ∙ due_at a got Begun is)
    by (Going h items ts) is = inl (ap is_part is, may.0 ∙ due_at a got (Going h items ts) is)
    by (Taken h items ts) is = inr (past got h items ts is (λ F H. talk.MayRead (serve_talk a.at_end F) H put)
        (λ F other same. may_same (feed_of h items) F (behind_snapshot h items got) (feed_may got h items ts is)
        other same a.at_end
        put (may.0 ∙ due_at a got (Taken h items ts) is, sym (goes_at a got (Taken h items ts) is) ∙ may.1)))
    by (reading.Refused at) is = never (sym (goes_at a got (reading.Refused at) is) ∙ may.1)

  -- ---- at the end

  module _ (moves : List Move) where
    abbrev x : List ℕ
    x = ins moves

    abbrev says : Reading
    says = reading_of (lines_of x)

    -- behind a whole snapshot, by one feed with it
    past_ends : (h : Head) (items : List Item) (ts : List Task) → says ≡ Taken h items ts → (status : Status)
        → talk.Ends (serve_talk a.at_end (feed_of h items)) status (behind_snapshot h items x) (outs moves)
        (has_ended moves)
        → Ends a.at_end status moves
    past_ends h items ts is status it = inr (past x h items ts is
        (λ F H. talk.Ends (serve_talk a.at_end F) status H (outs moves) (has_ended moves))
        (λ F other same. ends_same (feed_of h items) F (behind_snapshot h items x) (feed_may x h items ts is) other same
        a.at_end (outs moves) (has_ended moves) status it))

    -- a line is refused, by what the lines say
    refused_for : (r : Reading) → says ≡ r → (status : Status) (text : List ℕ)
        → IsAnsweredBy a.at_end r x (has_ended moves) status text
        → (is_taken : (h : Head) (items : List Item) (ts : List Task) → r ≡ Taken h items ts → ⊥)
        → (at : ℕ) × IsRefusedFor at moves × IsRefusedAs at status text
    refused_for (Taken h items ts) is status text it not = absurd (not h items ts refl)
    refused_for (reading.Refused at) is status text it not =
        (at, inl (x, ([], sym (append-nil x)), is), it)
    refused_for _ is status text it not = (suc (length (whole_lines x)), inr (it.0, ap is_part is, refl), it.1)

    -- an answer
    refused_before : (status : Status) → (at : ℕ) × IsRefusedFor at moves × IsRefusedAs at status (outs moves)
        → Ends a.at_end status moves
    refused_before Refused it = inl (record { at = it.0; cause = it.1; text = it.2 })
    refused_before _ it = absurd it.2

    served_ends : (h : Head) (items : List Item) (ts : List Task) → says ≡ Taken h items ts → (status : Status)
        → talk.IsAnswered (serve_talk a.at_end (feed_of h items)) (behind_snapshot h items x) (outs moves)
        (has_ended moves)
        status
        → Ends a.at_end status moves
    served_ends h items ts is Done it = past_ends h items ts is Done it
    served_ends h items ts is Refused it = past_ends h items ts is Refused it
    served_ends h items ts is No it = past_ends h items ts is No it
    served_ends h items ts is _ it = absurd it.answer

    answer_ends : (status : Status) → talk.IsAnswered (resume_talk a) x (outs moves) (has_ended moves) status
        → Ends a.at_end status moves
    answer_ends status it = by says refl it.answer where
      by : (r : Reading) → says ≡ r → IsAnsweredBy a.at_end r x (has_ended moves) status (outs moves)
          → Ends a.at_end status moves
      by (Taken h items ts) is answer = served_ends h items ts is status
          (record { over = sym (goes_at a x (Taken h items ts) is) ∙ it.over; answer = answer })
      by r is answer = refused_before status (refused_for r is status (outs moves) answer
          (λ h items ts e. absurd (let clash : r ≡ Taken h items ts = e in cc)))

    -- a read failed
    unread_ends : talk.IsUnread (resume_talk a) x (outs moves) (has_ended moves) → Ends a.at_end ReadFault moves
    unread_ends it = by says refl where
      by : (r : Reading) → says ≡ r → Ends a.at_end ReadFault moves
      by (Taken h items ts) is = past_ends h items ts is ReadFault (record {
        unended = it.unended;
        open_still = sym (goes_at a x (Taken h items ts) is) ∙ it.open_still;
        text = it.text ∙ due_at a x (Taken h items ts) is;
      })
      by (reading.Refused at) is = never (sym (goes_at a x (reading.Refused at) is) ∙ it.open_still)
      by r is = inl (record { unended = it.unended; part = ap is_part is; text = it.text ∙ due_at a x r is })

    -- a write failed
    cut_before : (status : Status) (text : List ℕ) → (at : ℕ) × IsRefusedFor at moves × IsRefusedAs at status text
        → IsProperPrefix (outs moves) text → Ends a.at_end WriteFault moves
    cut_before Refused text it part =
        inl (record { at = it.0; cause = it.1; part = subst (IsProperPrefix (outs moves)) it.2 part })
    cut_before _ text it part = absurd it.2

    cut_ends : IsCutAnswer (resume_talk a) x (outs moves) (has_ended moves) → Ends a.at_end WriteFault moves
    cut_ends it = by says refl it.answer where
      by : (r : Reading) → says ≡ r → IsAnsweredBy a.at_end r x (has_ended moves) it.status it.text
          → Ends a.at_end WriteFault moves
      by (Taken h items ts) is answer = past_ends h items ts is WriteFault (inr (record {
        over = sym (goes_at a x (Taken h items ts) is) ∙ it.over;
        status = it.status;
        text = it.text;
        answer = answer;
        front = it.front;
      }))
      by r is answer = cut_before it.status it.text (refused_for r is it.status it.text answer
          (λ h items ts e. absurd (let clash : r ≡ Taken h items ts = e in cc))) it.front

    due_ends : has_ended moves ≡ false → IsProperPrefix (outs moves) ((resume_talk a).due x)
        → Ends a.at_end WriteFault moves
    due_ends unended part = by says refl where
      none : (resume_talk a).due x ≡ [] → Ends a.at_end WriteFault moves
      none nothing = none_shorter (outs moves) (subst (IsProperPrefix (outs moves)) nothing part)

      by : (r : Reading) → says ≡ r → Ends a.at_end WriteFault moves
      by (Taken h items ts) is = past_ends h items ts is WriteFault
          (inl (unended, subst (IsProperPrefix (outs moves)) (due_at a x (Taken h items ts) is) part))
      by r is = none (due_at a x r is)

    -- there was no memory
    lacking_ends : talk.IsOutOfMemory (resume_talk a) x (outs moves) (has_ended moves) → Ends a.at_end Memory moves
    lacking_ends it = by says refl it.lacking.1 where
      before : HasBegun x → (resume_talk a).due x ≡ [] → Ends a.at_end Memory moves
      before begun nothing = inl (record {
        unended = it.lacking.0;
        front = begun.0;
        begins = begun.1;
        going = begun.2;
        text = none_begins (outs moves) it.text.0 (sym nothing ∙ it.text.1);
      })

      by : (r : Reading) → says ≡ r → LacksBy r x → Ends a.at_end Memory moves
      by (Taken h items ts) is begun = past_ends h items ts is Memory (record {
        lacking = (
          it.lacking.0,
          declared_front (feed_of h items) (behind_snapshot h items x)
              (named (feed_of h items) (feed_may x h items ts is)),
        );
        text = subst (Begins (outs moves)) (due_at a x (Taken h items ts) is) it.text;
      })
      by r is begun = before begun (due_at a x r is)

  ends : (status : Status) (moves : List Move)
      → talk.Ends (resume_talk a) status (ins moves) (outs moves) (has_ended moves) → Ends a.at_end status moves
  ends Done moves it = answer_ends moves Done it
  ends No moves it = answer_ends moves No it
  ends Refused moves it = answer_ends moves Refused it
  ends ReadFault moves it = unread_ends moves it
  ends WriteFault moves (inl it) = due_ends moves it.0 it.1
  ends WriteFault moves (inr it) = cut_ends moves it
  ends Memory moves it = lacking_ends moves it
  ends Usage moves it = absurd it

  pub resumes : (status : Status) (moves : List Move) → Talks (resume_talk a) status moves
      → Resumes a.at_end status moves
  resumes status moves it = record {
    reads = reads_weaker (talk.MayRead (resume_talk a)) (MayRead a.at_end) may_read [] [] moves it.reads;
    ends = ends status moves it.ends;
  }

  -- a call may end with a status with which the talk may
  pub can_end : (status : Status) → CanEnd (Talks (resume_talk a)) status → CanEnd (Resumes a.at_end) status
  can_end status (inl cut) = inl cut
  can_end status (inr it) = inr (it.0, resumes status it.0 it.1)
