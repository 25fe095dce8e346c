-- Each feed that may pause has a snapshot that is taken, each that is taken is that of a feed, and feeds with the same
-- snapshot go on alike.
use Rattle.std.proofs.Common.{◌≡◌, ℕ, suc, ◌+◌, ◌≤◌, List, [], ◌∷◌, ◌++◌, length, length-append, append_assoc}
use Rattle.std.proofs.Common.{refl, sym, ap, ◌∙◌, subst, true, false, cond, arith, Option, Some, None, codes}
use Rattle.std.specs.List.{AllByRecursion, fold}
use Rattle.std.proofs.lemmas.Grind.{flat_map-append}
use Rattle.dover_model.specs.Common.{most_lines, most_jobs, Declaration, JobFacts, Session, instance_of, admitted_jobs}
use Rattle.dover_model.specs.Common.{Item, settled_state, State, in_lines, lines_of}
use Rattle.dover_model.specs.Common.{whole_lines, rest_of, Standing, Open, Ended, Faulty, no_lines, next_line, account}
use Rattle.dover_model.specs.Common.{due_lines, due, short_lines, fault_text}
use Rattle.dover_model.specs.declared.events.Task.{Task}
use Rattle.dover_model.specs.declared.events.Version.TheVariants.{Two}
use Rattle.dover_model.specs.Feed.{Short}
use Rattle.dover_model.proofs.sessions.Accounts.{Holds, account_kept}
use Rattle.dover_model.proofs.texts.Cuts.{HasNoFeed}
use Rattle.event_feed.specs.Listing.{HasFewJobs}
use Rattle.event_feed.proofs.Counting.{lines_counted}
use Rattle.snapshot.specs.Snapshot.{MayPause, Head, IsHead, head_line, stored_lines, head_of_feed, snapshot_lines}
use Rattle.snapshot.specs.Snapshot.{snapshot}
use Rattle.snapshot.specs.Reading.{Taken, reading_of}
use Rattle.snapshot.specs.Kept.{IsWhole}
use Rattle.snapshot.specs.Feeds.{GoOnEqually}
use Rattle.snapshot.proofs.Alike.{Alike, SameRun, SameSession, GoAlike, lines_alike, state_same, same_jobs}
use Rattle.event_feed.proofs.Behind.{same_lines, whole_behind, rest_behind, lines_whole, account_behind}
use Rattle.snapshot.proofs.Feedless.{feedless_head, feedless_stored}
use Rattle.snapshot.proofs.Reached.{Reached, lines_reach, lines_few, few_open, holds_open, reaches_open}
use Rattle.snapshot.proofs.RunItems.{kept}
use Rattle.snapshot.proofs.Takeable.{is_head, taken, whole, lines_kept}

-- ---- a feed that may pause

module _ (F : List ℕ) (may : MayPause F) where
  -- it goes on
  pub opened : (account F).standing ≡ Open
  opened = by (account F).standing may.going_on where
    by : (s : Standing) → elim s [ Open ↦ true | Ended ↦ false | Faulty line cause ↦ false ] ≡ true → s ≡ Open
    by Open e = refl
    by _ e = absurd (let clash : false ≡ true = e in cc)

  -- its session
  pub named : (S : Session) × ((account F).session ≡ Some S)
  named = by (account F).session refl may.declared where
    by : (o : Option Session) → (account F).session ≡ o → HasFewJobs o → (S : Session) × ((account F).session ≡ Some S)
    by None e none = absurd none
    by (Some S) e n = (S, e)

  module _ (S : Session) (there : (account F).session ≡ Some S) where
    -- it has few jobs
    pub listed : length (admitted_jobs S.items) ≤ most_jobs Two
    listed = subst HasFewJobs there may.declared

    -- what its account keeps
    pub holds : Holds S (account F).mark (account F).lines
    holds = holds_open (account F) S (account_kept F) opened there

    pub few : (account F).lines ≤ most_lines S.rules.version
    few = few_open (account F) S (lines_few (lines_of F) no_lines (omega arith)) opened there

    pub reached : Reached S.items (account F).mark (account F).lines
    reached = reaches_open (account F) S (lines_reach (lines_of F) no_lines refl) opened there

    -- its jobs in the state in which it pauses
    abbrev pub tasks : List Task
    tasks = (settled_state (instance_of S) (account F).mark).tasks

    -- its snapshot is that of the items that aren't refused
    lines_are : head_line (head_of_feed (account F) S) ∷ stored_lines (kept S.items) tasks ++ codes "resume" ∷ []
        ≡ snapshot_lines (account F) S
    lines_are = ap (λ ls. head_line (head_of_feed (account F) S) ∷ ls ++ codes "resume" ∷ [])
        (lines_kept S.items tasks)

    -- it is read to its end
    pub lines_taken : reading_of (snapshot_lines (account F) S)
        ≡ Taken (head_of_feed (account F) S) (kept S.items) tasks
    lines_taken = ap reading_of (sym lines_are) ∙ taken S (account F).mark (account F).lines holds few listed reached

    pub is_whole : IsWhole (head_of_feed (account F) S) (kept S.items) tasks (snapshot_lines (account F) S)
    is_whole = subst (IsWhole (head_of_feed (account F) S) (kept S.items) tasks) lines_are
        (whole S (account F).mark (account F).lines holds few listed reached)

    pub head_is : IsHead (head_of_feed (account F) S)
    head_is = is_head S (account F).mark (account F).lines holds few listed reached

    pub lines_feedless : AllByRecursion HasNoFeed (snapshot_lines (account F) S)
    lines_feedless = (feedless_head (head_of_feed (account F) S), feedless_stored S.items tasks)

    pub snapshot_is : snapshot F ≡ in_lines (snapshot_lines (account F) S)
    snapshot_is = ap (λ o. elim o [ None ↦ [] | Some T ↦ in_lines (snapshot_lines (account F) T) ]) there

-- ---- two feeds with the same snapshot

module _ (F G : List ℕ) (may : MayPause F) (may_other : MayPause G) (same : snapshot F ≡ snapshot G) where
  abbrev S : Session
  S = (named F may).0

  there : (account F).session ≡ Some S
  there = (named F may).1

  abbrev T : Session
  T = (named G may_other).0

  there_other : (account G).session ≡ Some T
  there_other = (named G may_other).1

  reads_same : Taken (head_of_feed (account F) S) (kept S.items) (tasks F may S there)
      ≡ Taken (head_of_feed (account G) T) (kept T.items) (tasks G may_other T there_other)
  reads_same = sym (lines_taken F may S there)
      ∙ ap reading_of (same_lines (snapshot_lines (account F) S) (snapshot_lines (account G) T)
      (lines_feedless F may S there)
      (lines_feedless G may_other T there_other)
      (sym (snapshot_is F may S there) ∙ same ∙ snapshot_is G may_other T there_other))
      ∙ lines_taken G may_other T there_other

  head_same : head_of_feed (account F) S ≡ head_of_feed (account G) T
  head_same = let e : Taken (head_of_feed (account F) S) (kept S.items) (tasks F may S there)
      ≡ Taken (head_of_feed (account G) T) (kept T.items) (tasks G may_other T there_other) = reads_same in cc

  items_same : kept S.items ≡ kept T.items
  items_same = let e : Taken (head_of_feed (account F) S) (kept S.items) (tasks F may S there)
      ≡ Taken (head_of_feed (account G) T) (kept T.items) (tasks G may_other T there_other) = reads_same in cc

  rules_same : T.rules ≡ S.rules
  rules_same = sym (ap (λ (h : Head). h.rules) head_same)

  -- the sessions are the same, but for what is refused
  pub same_sessions : SameSession S T
  same_sessions = record { rules = rules_same; items = sym items_same }

  -- they are alike
  pub same_alike : Alike (account F) (account G)
  same_alike = (
    sym (ap (λ (h : Head). h.lines) head_same),
    sym (ap (λ (h : Head). h.mark) head_same),
    opened G may_other ∙ sym (opened F may),
    subst (λ o. SameRun o (account G).session) (sym there)
        (subst (λ o. SameRun (Some S) o) (sym there_other) same_sessions),
  )

-- ---- what depends on what is alike

-- the line that refuses a feed that is too short
abbrev short_from : ℕ → Standing → List (List ℕ)
short_from n s = cond (elim s [ Open ↦ true | Ended ↦ false | Faulty line cause ↦ false ])
    (fault_text (suc n) Short ∷ []) []

-- sessions that both are there
pub both_there : (s t : Option Session) → SameRun s t → (S : Session) × (T : Session) × (s ≡ Some S) × (t ≡ Some T)
    × SameSession S T
both_there (Some S) (Some T) same = (S, T, refl, refl, same)
both_there _ _ same = absurd same

module _ (F G : List ℕ) (alike : Alike (account F) (account G)) (whole : rest_of F ≡ rest_of G) where
  -- the other may pause too
  may_pause : MayPause F → MayPause G
  may_pause may = record {
    declared = let it = both_there (account F).session (account G).session alike.3 in
        subst HasFewJobs (sym it.3)
        (omega (arith, ap length (same_jobs it.0 it.1 it.4), listed F may it.0 it.2));
    going_on = ap (λ s. elim s [ Open ↦ true | Ended ↦ false | Faulty line cause ↦ false ]) (alike.2 ∙ opened F may);
    whole = sym whole ∙ may.whole;
  }

  -- with the same snapshot
  snapshot_same : (may : MayPause F) → snapshot G ≡ snapshot F
  snapshot_same may =
      let (S, T, first, other, same) = both_there (account F).session (account G).session alike.3 in
      let text : Declaration → List JobFacts → List Item → List Task → ℕ → ℕ → List ℕ =
      λ rules jobs items tasks lines mark. in_lines (head_line
      (record { rules = rules; lines = lines; mark = mark; jobs = length jobs })
      ∷ stored_lines items tasks ++ codes "resume" ∷ []) in
      let tasks : ℕ → Session → List Task = λ m X. (settled_state (instance_of X) m).tasks in
      snapshot_is G (may_pause may) T other
      ∙ ap (λ ls. in_lines (head_line (head_of_feed (account G) T) ∷ ls ++ codes "resume" ∷ []))
      (sym (lines_kept T.items (tasks (account G).mark T)))
      ∙ ap (λ r. text r (admitted_jobs T.items) (kept T.items) (tasks (account G).mark T) (account G).lines
      (account G).mark) same.rules
      ∙ ap (λ js. text S.rules js (kept T.items) (tasks (account G).mark T) (account G).lines (account G).mark)
      (same_jobs S T same)
      ∙ ap (λ is. text S.rules (admitted_jobs S.items) is (tasks (account G).mark T) (account G).lines
      (account G).mark) same.items
      ∙ ap (λ (s : State). text S.rules (admitted_jobs S.items) (kept S.items) s.tasks (account G).lines
      (account G).mark) (state_same S T (account G).mark same)
      ∙ ap (λ n. text S.rules (admitted_jobs S.items) (kept S.items) (tasks (account G).mark S) n (account G).mark)
      alike.0
      ∙ ap (λ m. text S.rules (admitted_jobs S.items) (kept S.items) (tasks m S) (account F).lines m) alike.1
      ∙ ap (λ ls. in_lines (head_line (head_of_feed (account F) S) ∷ ls ++ codes "resume" ∷ []))
      (lines_kept S.items (tasks (account F).mark S))
      ∙ sym (snapshot_is F may S first)

-- ---- how feeds with the same snapshot go on

module _ (F G H : List ℕ) (may : MayPause F) (may_other : MayPause G) (same : snapshot F ≡ snapshot G) where
  -- line by line
  step : GoAlike (account F) (account G) (fold next_line (account F) (lines_of H))
      (fold next_line (account G) (lines_of H))
  step = lines_alike (lines_of H) (account F) (account G) (same_alike F G may may_other same) (account_kept F)
      (account_kept G)

  alike_behind : Alike (account (F ++ H)) (account (G ++ H))
  alike_behind = subst (λ a. Alike a (account (G ++ H))) (sym (account_behind F may.whole H))
      (subst (λ b. Alike (fold next_line (account F) (lines_of H)) b)
      (sym (account_behind G may_other.whole H)) step.alike)

  due_first : due (F ++ H) ≡ due F ++ in_lines step.text
  due_first = ap (λ a. in_lines (due_lines a)) (account_behind F may.whole H) ∙ ap in_lines step.first
      ∙ flat_map-append (λ (l : List ℕ). l ++ 10 ∷ []) (due_lines (account F)) step.text

  due_other : due (G ++ H) ≡ due G ++ in_lines step.text
  due_other = ap (λ a. in_lines (due_lines a)) (account_behind G may_other.whole H) ∙ ap in_lines step.other
      ∙ flat_map-append (λ (l : List ℕ). l ++ 10 ∷ []) (due_lines (account G)) step.text

  -- how many whole lines they have
  count_behind : (X : List ℕ) → MayPause X → length (whole_lines (X ++ H)) ≡ (account X).lines + length (whole_lines H)
  count_behind X m = omega (
    arith,
    ap length (whole_behind X m.whole H),
    length-append (whole_lines X) (whole_lines H),
    ap length (lines_whole X m.whole H),
    lines_counted (lines_of X) (opened X m),
  )

  count_same : length (whole_lines (G ++ H)) ≡ length (whole_lines (F ++ H))
  count_same = omega (arith, count_behind F may, count_behind G may_other, (same_alike F G may may_other same).0)

  -- the line that a short feed is refused with
  abbrev short_more : List (List ℕ)
  short_more = short_lines (length (whole_lines (F ++ H))) (account (F ++ H))

  short_same : short_lines (length (whole_lines (G ++ H))) (account (G ++ H)) ≡ short_more
  short_same = ap (λ n. short_from n (account (G ++ H)).standing) count_same
      ∙ ap (λ s. short_from (length (whole_lines (F ++ H))) s) alike_behind.2

  pub go_on : GoOnEqually F G H
  go_on = record {
    more = in_lines step.text;
    first = due_first;
    other = due_other;
    closing = in_lines step.text ++ in_lines short_more;
    first_closed = ap (λ t. t ++ in_lines short_more) due_first
        ∙ append_assoc (due F) (in_lines step.text) (in_lines short_more);
    other_closed = ap (λ ls. due (G ++ H) ++ in_lines ls) short_same ∙ ap (λ t. t ++ in_lines short_more) due_other
        ∙ append_assoc (due G) (in_lines step.text) (in_lines short_more);
    standing = alike_behind.2;
    again = λ m. (
      may_pause (F ++ H) (G ++ H) alike_behind (rest_behind F may.whole H ∙ sym (rest_behind G may_other.whole H)) m,
      snapshot_same (F ++ H) (G ++ H) alike_behind
          (rest_behind F may.whole H ∙ sym (rest_behind G may_other.whole H)) m,
    );
  }
