-- Feeds with the same snapshot are served on with the same text, at the same cost.
use Rattle.std.proofs.Common.{◌≡◌, ◌<◌, ℕ, List, ◌++◌, append_assoc, length, sym, ap, ◌∙◌, subst, Bool, true, false}
use Rattle.std.proofs.Common.{Option, Some, None, inl, inr, fold}
use Rattle.std.proofs.lemmas.List.{append_cancel_left}
use Rattle.dover_model.specs.Common.{Session, admitted_jobs, Open, Ended, Faulty, account, is_open, is_ended, due}
use Rattle.dover_model.specs.Common.{closed, Begins, most_jobs, lines_of, rest_of, next_line}
use Rattle.dover_port.specs.Moves.{IsProperPrefix}
use Rattle.dover_port.specs.declared.status.Status.{Status}
use Rattle.dover_port.specs.declared.status.Status.TheVariants.{Done, No, Refused, ReadFault, WriteFault, Memory, Usage}
use Rattle.dialogue.specs.Talk as talk
use Rattle.dialogue.specs.Sizes.{size_text}
use Rattle.event_feed.specs.Answers.{admitted_in}
use Rattle.lane_server.specs.Lane.{IsDeclared, IsFaulty}
use Rattle.snapshot.specs.Snapshot.{MayPause, snapshot}
use Rattle.snapshot.specs.Feeds.{GoOnEqually}
use Rattle.dover_model.specs.declared.events.Version.TheVariants.{Two}
use Rattle.dover_model.proofs.sessions.Accounts.{account_kept}
use Rattle.snapshot.proofs.Alike.{Alike, SameRun, GoAlike, lines_alike, same_jobs}
use Rattle.event_feed.proofs.Behind.{account_behind, rest_behind}
use Rattle.snapshot.proofs.Feeds.{go_on, same_alike, named}
use Rattle.feed_words.specs.serve.Keeping.{due_behind, serve_talk}
use Rattle.feed_words.specs.serve.Talk.{PausesAt, IsTooLargeAt, IsServedAs}
use Rattle.feed_words.specs.declared.serve.at_end.AtEnd.{AtEnd}
use Rattle.feed_words.specs.declared.serve.at_end.AtEnd.TheVariants.{Refuse, Pause}
use Rattle.event_feed.proofs.Admitting.{declared_front}
use Rattle.feed_words.proofs.serve.Talking.{whole_due}

-- ---- texts behind what was due for the one feed, and for the other

all_put : (g f closing whole other put : List ℕ) → whole ≡ g ++ closing → other ≡ f ++ closing → g ++ put ≡ whole
    → f ++ put ≡ other
all_put g f closing whole other put is is_other all =
    ap (λ l. f ++ l) (append_cancel_left g put closing (all ∙ is)) ∙ sym is_other

-- as many jobs
abbrev jobs_in : Option Session → ℕ
jobs_in s = elim s [ None ↦ 0 | Some S ↦ length (admitted_jobs S.items) ]

same_admitted : (s t : Option Session) → SameRun s t → jobs_in s ≡ jobs_in t
same_admitted (Some S) (Some T) same = sym (ap length (same_jobs S T same))
same_admitted _ _ same = absurd same

-- ---- two feeds with the same snapshot

module _ (G F H : List ℕ) (may : MayPause G) (may_other : MayPause F) (same : snapshot G ≡ snapshot F) where
  abbrev go : GoOnEqually G F H
  go = go_on G F H may may_other same

  -- both go on, or neither does
  pub open_same : is_open (account (G ++ H)) ≡ is_open (account (F ++ H))
  open_same = ap (λ s. elim s [ Open ↦ true | Ended ↦ false | Faulty line cause ↦ false ]) (sym go.standing)

  ended_same : is_ended (account (G ++ H)) ≡ is_ended (account (F ++ H))
  ended_same = ap (λ s. elim s [ Open ↦ false | Ended ↦ true | Faulty line cause ↦ false ]) (sym go.standing)

  -- line by line
  step : GoAlike (account G) (account F) (fold next_line (account G) (lines_of H))
      (fold next_line (account F) (lines_of H))
  step = lines_alike (lines_of H) (account G) (account F) (same_alike G F may may_other same)
      (account_kept G)
      (account_kept F)

  alike_behind : Alike (account (G ++ H)) (account (F ++ H))
  alike_behind = subst (λ a. Alike a (account (F ++ H))) (sym (account_behind G may.whole H))
      (subst (λ b. Alike (fold next_line (account G) (lines_of H)) b)
      (sym (account_behind F may_other.whole H)) step.alike)

  pub admitted_same : admitted_in (account (G ++ H)) ≡ admitted_in (account (F ++ H))
  admitted_same = same_admitted (account (G ++ H)).session (account (F ++ H)).session
      alike_behind.3

  faulty_same : IsFaulty (account (G ++ H)) → IsFaulty (account (F ++ H))
  faulty_same it = (it.0, it.1, go.standing ∙ it.2)

  -- they pause alike
  pauses_same : (at_end : AtEnd) → PausesAt at_end (G ++ H)
      → PausesAt at_end (F ++ H) × (snapshot (F ++ H) ≡ snapshot (G ++ H))
  pauses_same Refuse it = absurd it
  pauses_same Pause it = go.again it

  never_pauses : (at_end : AtEnd) → (PausesAt at_end (G ++ H) → ⊥) → PausesAt at_end (F ++ H) → ⊥
  never_pauses Refuse never it = it
  never_pauses Pause never it = never ((go_on F G H may_other may (sym same)).again it).0

  -- and are too large alike
  rest_same : rest_of (G ++ H) ≡ rest_of (F ++ H)
  rest_same = rest_behind G may.whole H ∙ sym (rest_behind F may_other.whole H)

  large_same : (at_end : AtEnd) → IsTooLargeAt at_end (G ++ H) → IsTooLargeAt at_end (F ++ H)
  large_same Refuse it = absurd it
  large_same Pause it = record {
    many = subst (λ n. most_jobs Two < n) admitted_same it.many;
    going_on = sym open_same ∙ it.going_on;
    whole = sym rest_same ∙ it.whole;
  }

  large_back : (at_end : AtEnd) → IsTooLargeAt at_end (F ++ H) → IsTooLargeAt at_end (G ++ H)
  large_back Refuse it = absurd it
  large_back Pause it = record {
    many = subst (λ n. most_jobs Two < n) (sym admitted_same) it.many;
    going_on = open_same ∙ it.going_on;
    whole = rest_same ∙ it.whole;
  }

  -- what is said behind what is due
  said_behind : (all front text : List ℕ) → all ≡ front ++ go.more → all ++ text ≡ front ++ (go.more ++ text)
  said_behind all front text is = ap (λ l. l ++ text) is ∙ append_assoc front go.more text

  declared : IsDeclared (account (F ++ H))
  declared = declared_front F H (named F may_other)

  -- the snapshot behind what is due
  module _ (at_end : AtEnd) (pauses : PausesAt at_end (G ++ H)) where
    again_first : due (G ++ H) ++ snapshot (G ++ H) ≡ due G ++ (go.more ++ snapshot (G ++ H))
    again_first = ap (λ l. l ++ snapshot (G ++ H)) go.first ∙ append_assoc (due G) go.more (snapshot (G ++ H))

    again_other : due (F ++ H) ++ snapshot (F ++ H) ≡ due F ++ (go.more ++ snapshot (G ++ H))
    again_other = ap (λ l. due (F ++ H) ++ l) (pauses_same at_end pauses).1 ∙ ap (λ l. l ++ snapshot (G ++ H)) go.other
        ∙ append_assoc (due F) go.more (snapshot (G ++ H))

  -- the same is due beyond what was
  due_same : due_behind G H ≡ due_behind F H
  due_same = append_cancel_left (due G) (due_behind G H) go.more (whole_due G H ∙ go.first)
      ∙ sym (append_cancel_left (due F) (due_behind F H) go.more (whole_due F H ∙ go.other))

  module _ (at_end : AtEnd) (put : List ℕ) where
    -- a read that may come
    pub may_same : talk.MayRead (serve_talk at_end G) H put → talk.MayRead (serve_talk at_end F) H put
    may_same it = (it.0 ∙ due_same, sym open_same ∙ it.1)

    module _ (ended : Bool) where
      -- an answer
      answer_same : (status : Status) (text : List ℕ) → IsServedAs at_end (G ++ H) ended status (due G ++ text)
          → IsServedAs at_end (F ++ H) ended status (due F ++ text)
      answer_same Done text (inl it) = inl (
        sym ended_same ∙ it.0,
        all_put (due G) (due F) go.more (due (G ++ H)) (due (F ++ H)) text go.first go.other it.1,
      )
      answer_same Done text (inr it) = inr (
        it.0,
        (pauses_same at_end it.1).0,
        all_put (due G) (due F) (go.more ++ snapshot (G ++ H)) (due (G ++ H) ++ snapshot (G ++ H))
            (due (F ++ H) ++ snapshot (F ++ H)) text (again_first at_end it.1) (again_other at_end it.1) it.2,
      )
      answer_same Refused text (inl (inl faulty, is)) = inl (
        inl (faulty_same faulty),
        all_put (due G) (due F) go.closing (closed (G ++ H)) (closed (F ++ H)) text go.first_closed go.other_closed is,
      )
      answer_same Refused text (inl (inr cut, is)) = inl (
        inr (cut.0, sym open_same ∙ cut.1, never_pauses at_end cut.2, (λ large. cut.3 (large_back at_end large))),
        all_put (due G) (due F) go.closing (closed (G ++ H)) (closed (F ++ H)) text go.first_closed go.other_closed is,
      )
      answer_same Refused text (inr large) = inr (
        large.0,
        large_same at_end large.1,
        all_put (due G) (due F) (go.more ++ size_text) (due (G ++ H) ++ size_text) (due (F ++ H) ++ size_text) text
            (said_behind (due (G ++ H)) (due G) size_text go.first)
            (said_behind (due (F ++ H)) (due F) size_text go.other) large.2,
      )
      answer_same _ text it = it

      answered_same : (status : Status) → talk.IsAnswered (serve_talk at_end G) H put ended status
          → talk.IsAnswered (serve_talk at_end F) H put ended status
      answered_same status it = record { over = sym open_same ∙ it.over; answer = answer_same status put it.answer }

      -- the end
      pub ends_same : (status : Status) → talk.Ends (serve_talk at_end G) status H put ended
          → talk.Ends (serve_talk at_end F) status H put ended
      ends_same Done it = answered_same Done it
      ends_same No it = answered_same No it
      ends_same Refused it = answered_same Refused it
      ends_same ReadFault it = record {
        unended = it.unended;
        open_still = sym open_same ∙ it.open_still;
        text = it.text ∙ due_same;
      }
      ends_same WriteFault (inl it) = inl (it.0, subst (IsProperPrefix put) due_same it.1)
      ends_same WriteFault (inr it) = inr (record {
        over = sym open_same ∙ it.over;
        status = it.status;
        text = it.text;
        answer = answer_same it.status it.text it.answer;
        front = it.front;
      })
      ends_same Memory it =
          record { lacking = (it.lacking.0, declared); text = subst (Begins put) due_same it.text }
      ends_same Usage it = it
