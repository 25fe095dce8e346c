-- A feed that is served, as a talk.
use Rattle.std.proofs.Common.{◌≡◌, ◌<◌, ◌≤◌, ◌^◌, ◌-◌, ℕ, zero, suc, List, [], ◌∷◌, ◌++◌, length, map, take, drop}
use Rattle.std.proofs.Common.{refl, sym}
use Rattle.std.proofs.Common.{ap, ◌∙◌, arith, append_assoc, append-nil, length-append, Bool, true, false, cond}
use Rattle.std.proofs.Common.{inl, inr, Result, Ok, Err, Option, subst, OnOk, take-append-drop}
use Rattle.std.proofs.lemmas.List.{length-map}
use Rattle.std.proofs.lemmas.List.Folds.{flat_map-map}
use Rattle.dover_model.specs.declared.Memory.{Memory as Lacking}
use Rattle.dover_model.specs.Feed as feeds
use Rattle.dover_model.specs.Common.{is_open, is_ended, account, due, closed, due_lines, fault_text, in_lines, lines_of}
use Rattle.dover_model.specs.Common.{whole_lines, rest_of, CostsAtMost}
use Rattle.dover_model.proofs.sessions.Accounts.{due_grows}
use Rattle.dover_model.proofs.lists.Beginnings.{in_lines-append}
use Rattle.dover_model.proofs.lists.Tests.{never}
use Rattle.dover_port.specs.declared.status.Status.{Status}
use Rattle.dover_port.specs.declared.status.Status.TheVariants.{Done, Refused}
use Rattle.event_feed.specs.Answers.{EndAnswers, admitted_in}
use Rattle.event_feed.specs.Kept.{cause_of_fault}
use Rattle.event_feed.specs.declared.FeedFault.{FeedFault}
use Rattle.event_feed.proofs.Admitting.{admitted_front, declared_front}
use Rattle.event_feed.proofs.GoingOn.{closed_account, closed_due, open_bytes, open_short}
use Rattle.dialogue.specs.Talk.{IsSteady, IsOver}
use Rattle.dialogue.specs.Turns.{joined, TakesBy, AnswersBy}
use Rattle.dialogue.proofs.Behind as beyond
use Rattle.dialogue.specs.declared.talker.Stop.{Stop}
use Rattle.dialogue.specs.declared.talker.Stop.TheVariants.{NoMemory, Unwritten}
use Rattle.dover_port.specs.Moves.{Move}
use Rattle.lane_server.specs.Lane.{IsDeclared, IsFaulty}
use Rattle.lane_server.specs.Feeding.{FeedStands, Takes}
use Rattle.lane_server.specs.Spending.{HasPaid}
use Rattle.lane_server.specs.declared.feed.Feed.{Feed}
use Rattle.lane_server.proofs.Adding.{open_stands, opens_by}
use Rattle.lane_server.proofs.Few.{owes_few}
use Rattle.ready_server.specs.Roster.{Kept, IsRollOf}
use Rattle.feed_words.specs.serve.Listing.{steps_in}
use Rattle.dover_model.proofs.runs.Spending.{few_more}
use Rattle.feed_words.specs.serve.Keeping.{Call, due_behind, serve_talk, Costs, IsGiving, IsListing}
use Rattle.feed_words.specs.serve.Talk.{PausesAt, IsTooLarge, IsTooLargeAt, IsServedAs, feed_talk}
use Rattle.dialogue.specs.Sizes.{size_text}
use Rattle.feed_words.specs.declared.serve.at_end.AtEnd.{AtEnd}
use Rattle.feed_words.specs.declared.serve.at_end.AtEnd.TheVariants.{Refuse, Pause}
use Rattle.snapshot.specs.Snapshot.{MayPause, snapshot}

-- what answers for one feed answers for another, if each of the two statuses does
answers_as : (at other : AtEnd) (x y : List ℕ) (ended : Bool)
    → ((text : List ℕ) → IsServedAs at x ended Done text → IsServedAs other y ended Done text)
    → ((text : List ℕ) → IsServedAs at x ended Refused text → IsServedAs other y ended Refused text)
    → (status : Status) (text : List ℕ) → IsServedAs at x ended status text → IsServedAs other y ended status text
answers_as at other x y ended done refused Done text it = done text it
answers_as at other x y ended done refused Refused text it = refused text it
answers_as at other x y ended done refused _ text it = absurd it

-- where there was no room for so many, some are wanted
pub wanted : (n room finish_room : ℕ) → (n ≤ room → n ≤ finish_room → ⊥) → 0 < n
wanted zero room finish_room full = absurd (full (omega arith) (omega arith))
wanted (suc n) room finish_room full = omega arith

-- ---- bytes behind the end of a feed

module _ (x y : List ℕ) (over : is_open (account x) ≡ false) where
  -- the account stays
  same : account (x ++ y) ≡ account x
  same = closed_account x y over

  -- and what is due
  same_due : due (x ++ y) ≡ due x
  same_due = ap (λ a. in_lines (due_lines a)) same

  -- also at the end of the input
  same_closed : closed (x ++ y) ≡ closed x
  same_closed = closed_due (x ++ y) (ap is_open same ∙ over) ∙ same_due ∙ sym (closed_due x over)

  -- and the answer
  answered : (at_end : AtEnd) (status : Status) (text : List ℕ) → IsServedAs at_end x false status text
      → IsServedAs at_end (x ++ y) false status text
  answered at_end = answers_as at_end at_end x (x ++ y) false done refused where
    done : (text : List ℕ) → IsServedAs at_end x false Done text → IsServedAs at_end (x ++ y) false Done text
    done text (inl it) = inl (ap is_ended same ∙ it.0, it.1 ∙ sym same_due)
    done text (inr it) = never it.0

    refused : (text : List ℕ) → IsServedAs at_end x false Refused text → IsServedAs at_end (x ++ y) false Refused text
    refused text (inl (inl faulty, it)) = inl (inl (subst IsFaulty (sym same) faulty), it ∙ sym same_closed)
    refused text (inl (inr cut, it)) = never cut.0
    refused text (inr large) = never large.0

-- the laws of the talk
pub feed_steady : (at_end : AtEnd) → IsSteady (feed_talk at_end)
feed_steady at_end = record {
  opens = refl;
  nothing = refl;
  grows = due_grows;
  stays = λ x y over. ap is_open (same x y over) ∙ over;
  answered = λ x y status text over it. answered x y over at_end status text it;
  lacking = λ x y it. (it.0, declared_front x y it.1);
}

-- ---- behind a feed

-- what is due for the feed and the bytes behind it
pub whole_due : (F x : List ℕ) → due F ++ due_behind F x ≡ due (F ++ x)
whole_due F x = beyond.whole_due (feed_talk Refuse) (feed_steady Refuse) F x

-- with a text behind it
due_then : (F x text : List ℕ) → due F ++ (due_behind F x ++ text) ≡ due (F ++ x) ++ text
due_then F x text = beyond.due_then (feed_talk Refuse) (feed_steady Refuse) F x text

module _ (c : Call) where
  -- the bytes of the call behind those of its feed
  pub joins : (x y : List ℕ) → c.feed ++ (x ++ y) ≡ (c.feed ++ x) ++ y
  joins x y = sym (append_assoc c.feed x y)

  -- the laws
  pub steady : (at_end : AtEnd) → IsSteady (serve_talk at_end c.feed)
  steady at_end = beyond.steady_behind (feed_talk at_end) (feed_steady at_end) c.feed c.goes_on

  -- a feed that goes on has few bytes
  pub few : (x : List ℕ) → is_open (account (c.feed ++ x)) ≡ true → length x < 2 ^ 64 - 1
  few x goes = let opened = open_stands (account (c.feed ++ x)) goes in
      omega (arith, open_bytes (c.feed ++ x) opened (open_short (c.feed ++ x) opened), length-append c.feed x)

  -- more bytes have no fewer jobs
  pub costs_more : (steps : ℕ) (x y : List ℕ) → Costs c steps x → Costs c steps (x ++ y)
  costs_more steps x y it = subst (λ z. CostsAtMost (admitted_in (account z)) c.start steps) (sym (joins x y))
      (few_more (admitted_in (account (c.feed ++ x))) (admitted_in (account ((c.feed ++ x) ++ y))) c.start steps
      (admitted_front (c.feed ++ x) y) it)

  module _ (feed : Feed) (steps : ℕ) (x : List ℕ) where
    -- few lines are left to give
    pub few_parts : (parts : List (List ℕ)) → IsGiving c feed steps x parts
        → length parts < 2 ^ 64 - 1
    few_parts parts at = omega (
      arith,
      ap (λ (l : List (List ℕ)). length l) at.parts_are,
      length-map at.left (λ (l : List ℕ). l ++ 10 ∷ []),
      owes_few feed.lane.work feed.lane.server (account (c.feed ++ x)) at.left at.stands.lane.owes,
    )

    -- a front of a piece was taken, or there was no memory
    pub taken : (at_end : AtEnd) (piece : List ℕ) (r : Result ℕ Lacking)
        → Takes feed (c.feed ++ x) piece r
        → OnOk r (HasPaid feed.lane.server c.start steps) → Costs c steps x
        → TakesBy (serve_talk at_end c.feed) (IsGiving c feed steps) (Costs c steps) x piece r
    taken at_end piece (Ok n) it paid costs = (
      it.0,
      it.1,
      (
        map (λ line. line ++ 10 ∷ []) it.2.0,
        beyond.behind_more (feed_talk Refuse) (feed_steady Refuse) c.feed x (take n piece)
            (joined (map (λ line. line ++ 10 ∷ []) it.2.0))
            (ap due (joins x (take n piece)) ∙ ap in_lines it.2.1
            ∙ in_lines-append (due_lines (account (c.feed ++ x))) it.2.0
            ∙ ap (λ r. due (c.feed ++ x) ++ r)
            (sym (flat_map-map (λ part. part) (λ (line : List ℕ). line ++ 10 ∷ []) it.2.0))),
        record {
          left = it.2.0;
          parts_are = refl;
          stands = subst (λ z. FeedStands feed z it.2.0) (sym (joins x (take n piece))) it.2.2;
          paid = paid;
        },
      ),
    )
    taken at_end piece (Err e) it paid costs =
        ((refl, subst (λ z. IsDeclared (account z)) (sym (joins x piece)) it), costs_more steps x piece costs)

    -- the same of a feed that may pause, where there is room for a job that is to be admitted
    module _ (piece : List ℕ) (n : ℕ) (it : Takes feed (c.feed ++ x) piece (Ok n)) where
      pub taken_listed : (k l : Kept) → HasPaid feed.lane.server c.start steps → Costs c steps x
          → IsRollOf (steps_in (due_lines (account (c.feed ++ x)))) k → l.roll ≡ k.roll
          → (admitted_in (account ((c.feed ++ x) ++ take n piece)) ≤ l.room)
          × (admitted_in (account ((c.feed ++ x) ++ take n piece)) ≤ l.finish_room)
          → TakesBy {E = Lacking} (serve_talk Pause c.feed) (IsListing c feed l steps) (Costs c steps) x piece (Ok n)
      unfolding taken
      taken_listed k l paid costs roll alike room =
          let base = taken Pause piece (Ok n) it paid costs in (
            base.0,
            base.1,
            (
              base.2.0,
              base.2.1,
              record {
                giving = base.2.2;
                given = due_lines (account (c.feed ++ x));
                due = ap (λ z. due_lines (account z)) (joins x (take n piece)) ∙ it.2.1;
                room = λ line more is.
                    subst (λ z. (admitted_in (account z) ≤ l.room) × (admitted_in (account z) ≤ l.finish_room))
                    (sym (joins x (take n piece))) room;
                lists = λ goes. alike ∙ roll;
              },
            ),
          )

      -- where there was none, the ratio was declared
      pub lacks_room : (e : Lacking) → Costs c steps x → IsDeclared (account ((c.feed ++ x) ++ take n piece))
          → TakesBy (serve_talk Pause c.feed) (λ y parts. ⊥) (Costs c steps) x piece (Err e)
      lacks_room e costs here = (
        (
          refl,
          subst (λ z. IsDeclared (account z))
              (append_assoc (c.feed ++ x) (take n piece) (drop n piece)
              ∙ ap (λ l. (c.feed ++ x) ++ l) (take-append-drop n piece) ∙ sym (joins x piece))
              (declared_front ((c.feed ++ x) ++ take n piece) (drop n piece) here),
        ),
        costs_more steps x piece costs,
      )

  -- ---- the answer

  -- the feed has ended
  pub done : (at_end : AtEnd) (x : List ℕ) (ended : Bool) → (account (c.feed ++ x)).standing ≡ feeds.Ended
      → (serve_talk at_end c.feed).answer x ended Done (due_behind c.feed x ++ [])
  done at_end x ended is = inl (
    ap (λ s. elim s [ feeds.Open ↦ false | feeds.Ended ↦ true | feeds.Faulty line cause ↦ false ]) is,
    due_then c.feed x [] ∙ append-nil (due (c.feed ++ x)),
  )

  module _ (x : List ℕ) (ended : Bool) (fault : FeedFault)
      (answers : EndAnswers {X = Unit {0}} (lines_of (c.feed ++ x)) (Err fault)) where
    -- it is at fault
    pub faulty : (at_end : AtEnd) → is_open (account (c.feed ++ x)) ≡ false
        → (serve_talk at_end c.feed).answer x ended Refused (due_behind c.feed x ++ [])
    faulty at_end over = inl (
      inl (by answers),
      due_then c.feed x [] ∙ append-nil (due (c.feed ++ x)) ∙ sym (closed_due (c.feed ++ x) over),
    ) where
      by : EndAnswers {X = Unit {0}} (lines_of (c.feed ++ x)) (Err fault) → IsFaulty (account (c.feed ++ x))
      by (inl it) = never (sym over ∙ opens_by (account (c.feed ++ x)) feeds.Open it.0)
      by (inr is) = (fault.line, cause_of_fault fault.cause, is)

    -- it is cut off: it goes on, the input has ended before it, and it isn't paused, nor too large for that
    pub cut_off : (at_end : AtEnd) → is_open (account (c.feed ++ x)) ≡ true
        → IsOver (serve_talk at_end c.feed) x ended → (PausesAt at_end (c.feed ++ x) → ⊥)
        → (IsTooLargeAt at_end (c.feed ++ x) → ⊥)
        → (serve_talk at_end c.feed).answer x ended Refused
        (due_behind c.feed x ++ (fault_text fault.line (cause_of_fault fault.cause) ++ 10 ∷ []))
    cut_off at_end goes over pauses large = inl (
      inr (sym over ∙ goes, goes, pauses, large),
      due_then c.feed x (fault_text fault.line (cause_of_fault fault.cause) ++ 10 ∷ [])
          ∙ ap (λ l. due (c.feed ++ x) ++ l) (ap (λ l. l ++ 10 ∷ []) (fault_is answers) ∙ sym (append-nil _))
          ∙ sym (ap (λ b. due (c.feed ++ x)
          ++ in_lines (cond b (fault_text (suc (length (whole_lines (c.feed ++ x)))) feeds.Short ∷ []) [])) goes),
    ) where
      -- its lines are the whole ones
      lines_are : lines_of (c.feed ++ x) ≡ whole_lines (c.feed ++ x)
      lines_are = ap (λ b. whole_lines (c.feed ++ x) ++ cond b (rest_of (c.feed ++ x) ∷ []) [])
          (open_short (c.feed ++ x) (open_stands (account (c.feed ++ x)) goes))
          ∙ append-nil (whole_lines (c.feed ++ x))

      -- the fault is that the feed is short
      fault_is : EndAnswers {X = Unit {0}} (lines_of (c.feed ++ x)) (Err fault)
          → fault_text fault.line (cause_of_fault fault.cause)
          ≡ fault_text (suc (length (whole_lines (c.feed ++ x)))) feeds.Short
      fault_is (inl it) = ap (λ (f : FeedFault). fault_text f.line (cause_of_fault f.cause)) it.1
          ∙ ap (λ ls. fault_text (suc (length ls)) feeds.Short) lines_are
      fault_is (inr was) = absurd (let e = sym (open_stands (account (c.feed ++ x)) goes) ∙ was in cc)

  -- it is paused
  pub paused : (x : List ℕ) (ended : Bool) → IsOver (serve_talk Pause c.feed) x ended → MayPause (c.feed ++ x)
      → (serve_talk Pause c.feed).answer x ended Done (due_behind c.feed x ++ snapshot (c.feed ++ x))
  paused x ended over may = inr (sym over ∙ may.going_on, may, due_then c.feed x (snapshot (c.feed ++ x)))

  -- it is too large for that
  pub too_large : (x : List ℕ) (ended : Bool) → IsOver (serve_talk Pause c.feed) x ended → IsTooLarge (c.feed ++ x)
      → (serve_talk Pause c.feed).answer x ended Refused (due_behind c.feed x ++ size_text)
  too_large x ended over large = inr (sym over ∙ large.going_on, large, due_then c.feed x size_text)

  -- where it is neither, it is answered as one that never is
  module _ (x : List ℕ) (ended : Bool) (never : MayPause (c.feed ++ x) → ⊥) (small : IsTooLarge (c.feed ++ x) → ⊥) where
    unpaused : (status : Status) (text : List ℕ) → (serve_talk Refuse c.feed).answer x ended status text
        → (serve_talk Pause c.feed).answer x ended status text
    unpaused status text =
        answers_as Refuse Pause (c.feed ++ x) (c.feed ++ x) ended done refused status (due c.feed ++ text) where
          done : (text : List ℕ) → IsServedAs Refuse (c.feed ++ x) ended Done text
              → IsServedAs Pause (c.feed ++ x) ended Done text
          done text (inl it) = inl it
          done text (inr paused) = absurd paused.1

          refused : (text : List ℕ) → IsServedAs Refuse (c.feed ++ x) ended Refused text
              → IsServedAs Pause (c.feed ++ x) ended Refused text
          refused text (inl (inl faulty, it)) = inl (inl faulty, it)
          refused text (inl (inr cut, it)) = inl (inr (cut.0, cut.1, never, small), it)
          refused text (inr large) = absurd large.1

    -- and so is the whole answer
    pub unpaused_answer : (old new : Option (List Move)) (after : List ℕ) (r : Result Status Stop)
        → AnswersBy (serve_talk Refuse c.feed) x ended old new after r
        → AnswersBy (serve_talk Pause c.feed) x ended old new after r
    unpaused_answer old new after (Ok status) it =
        (it.0, (it.1.0, unpaused status (due_behind c.feed x ++ it.1.0) it.1.1, it.1.2))
    unpaused_answer old new after (Err NoMemory) it = it
    unpaused_answer old new after (Err Unwritten) it =
        (it.0, it.1, unpaused it.0 (due_behind c.feed x ++ it.1) it.2, it.3)
