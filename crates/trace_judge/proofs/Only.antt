-- No other lines continue a trace.
use Rattle.std.proofs.Common.{◌≡◌, ◌+◌, ◌⊎◌, inl, inr, List, ◌∷◌, ◌++◌, length, length-append, ap, arith, Option, Some}
use Rattle.std.proofs.Common.{[], sym, ◌∙◌, map, refl, ℕ, true, false, None, ◌≤◌, ◌<◌, subst}
use Rattle.std.specs.List.{starts_with, AllByRecursion, fold}
use Rattle.std.proofs.lemmas.List.Elements.{filter_map-append}
use Rattle.std.proofs.lemmas.List.Sums.{fold-append}
use Rattle.std.proofs.lemmas.List.{append-nil, append_assoc, length-map, nil_from_length}
use Rattle.std.specs.Prelude.{bytes_eq, nat_lt}
use Rattle.std.specs.Option.{option_map_or, option_map}
use Rattle.std.proofs.lemmas.Bool.{and_parts, ltb-true, ltb-false}
use Rattle.std.proofs.lemmas.Slice.Eq.{bytes_eq-Decides, starts_is}
use Rattle.dover_model.specs.Common.{Begins, IsBarrier, IsSettledRun, Session, IsValidSession, is_valid_session, Item}
use Rattle.dover_model.specs.Common.{JobItem, RefusedItem, FinishItem, Refused, EarlyFinish, new_session, with_named}
use Rattle.dover_model.specs.Common.{instance_of, admitted_jobs, with_item, mark_after, IsDeclarable, trace_lines}
use Rattle.dover_model.specs.Common.{text_of_line, TraceLine, Printed, Refuses, lines_among, named_session}
use Rattle.dover_model.specs.Common.{named_behind, named_item, begins_trace, begins_trace_of, rules_of, IsRatio, header}
use Rattle.dover_model.specs.Common.{text_of, refused_text, Declaration, IsValid, with_jobs, Finish, JobFacts, State}
use Rattle.dover_model.specs.Common.{Step, printed_of, settled, settled_steps, Settles, WaitsUntil, PrintsNext}
use Rattle.dover_model.proofs.lists.Beginnings.{begins_either, begins_onward}
use Rattle.dover_model.proofs.lists.Members.{tails, heads, some_same, all_last, by_bool}
use Rattle.dover_model.proofs.lists.Tests.{never}
use Rattle.dover_model.proofs.traces.Named.{header_names, first_texts, texts_name, named_text}
use Rattle.dover_model.proofs.sessions.Walks.{lines_append}
use Rattle.dover_model.proofs.sessions.Growing.{all_lines, Reads, lines_at, job_instance, reads_later, reads_job}
use Rattle.dover_model.proofs.sessions.Growing.{lines_job, reads_refused, lines_refused, lines_of_trace, LinesName}
use Rattle.dover_model.proofs.sessions.Growing.{item_in, with_line_named, one_named, Finishes, finishing_job}
use Rattle.dover_model.proofs.sessions.Growing.{reads_finish, lines_finish, finish_is_named}
use Rattle.dover_model.specs.declared.events.Event.{Event}
use Rattle.dover_model.specs.declared.events.Event.TheVariants.{Release, Complete}
use Rattle.dover_model.proofs.valid.Valid.{all_front}
use Rattle.dover_model.proofs.texts.TraceLines.{HasShortNumbers}
use Rattle.dover_model.proofs.traces.ShortNumbers.{lines_short}
use Rattle.dover_model.proofs.valid.Admitting.{valid_admitted}
use Rattle.trace_judge.specs.Reading.{Sees, HasRoom, MayRelease, MayRefuse, MayComplete, release_text, completion_text}
use Rattle.trace_judge.specs.Reading.{IsReleaseNext, IsRefusedNext, IsCompletionNext}
use Rattle.trace_judge.proofs.Items.{behind_follows, reads_mark}
use Rattle.trace_judge.proofs.Seeing.{sees_next_text, sees_names, sees_short}
use Rattle.dover_model.proofs.settled.Leading.{settled_settles}
use Rattle.trace_judge.proofs.Continuing.{settled_from_floor}
use Rattle.trace_judge.proofs.Counts.{length-lines}
use Rattle.dover_model.proofs.sessions.SessionParts.{session_jobs, session_declared, FollowsItems, session_parts}
use Rattle.dover_model.proofs.sessions.SessionParts.{may_be_refused-agrees, may_finish-agrees}
use Rattle.dover_model.proofs.valid.ValidParts.{valid_parts}

-- ---- lists

module _ (S : Session) (x : Item) where
  -- of two beginnings that name the session, of which the second is followed by a line of a further item, the first
  -- isn't longer
  no_longer : (xs ys : List TraceLine) (b : TraceLine) (zs : List TraceLine) → LinesName xs S → LinesName ys S
      → item_in S b ≡ Some x → Begins xs zs → Begins (ys ++ b ∷ []) zs → Begins xs ys
  no_longer xs ys b zs names_xs names_ys names one other = by_either (begins_either xs ys b zs one other) where
    by_either : Begins xs ys ⊎ Begins (ys ++ b ∷ []) xs → Begins xs ys
    by_either (inl it) = it
    by_either (inr it) = absurd (
        let all : fold with_line_named (with_item S x) it.0 ≡ S =
        ap (λ T. fold with_line_named T it.0) (sym (one_named ys S b x names_ys names))
        ∙ sym (fold-append with_line_named (new_session S.rules) (ys ++ b ∷ []) it.0)
        ∙ ap (fold with_line_named (new_session S.rules)) (sym it.1) ∙ names_xs in
        let more = lines_append (with_item S x) it.0 in
        let same : S.items ≡ (S.items ++ x ∷ []) ++ more.0 = ap (λ (T : Session). T.items) (sym all ∙ more.1) in
        omega (arith, ap length same, length-append (S.items ++ x ∷ []) more.0, length-append S.items (x ∷ [])))

-- lists that begin each other are the same
begin_both : {X : Type 0} (xs ys : List X) → Begins xs ys → Begins ys xs → xs ≡ ys
begin_both xs ys one other = by_rest one.0 one.1 where
  by_rest : (rest : List _) → ys ≡ xs ++ rest → xs ≡ ys
  by_rest [] e = sym (e ∙ append-nil xs)
  by_rest (r ∷ rest) e = absurd
      (omega (arith, ap length e, length-append xs (r ∷ rest), ap length other.1, length-append ys other.0))

module _ {X : Type 0} where
  -- the elements at the end of two beginnings of one length
  same_end : (xs : List X) (a b : X) (zs : List X) → Begins (xs ++ a ∷ []) zs → Begins (xs ++ b ∷ []) zs → a ≡ b
  same_end [] a b [] one other = absurd (omega (arith, ap length one.1))
  same_end [] a b (z ∷ zs) one other = let e : z ∷ zs ≡ a ∷ one.0 = one.1 in let f : z ∷ zs ≡ b ∷ other.0 = other.1 in
      cc
  same_end (x ∷ xs) a b [] one other = absurd (omega (arith, ap length one.1))
  same_end (x ∷ xs) a b (z ∷ zs) one other =
      same_end xs a b zs (one.0, tails z x zs ((xs ++ a ∷ []) ++ one.0) one.1)
      (other.0, tails z x zs ((xs ++ b ∷ []) ++ other.0) other.1)

-- a list of which the images are these and one behind them
record Last {X Y : Type 0} (f : X → Y) (xs : List X) (ys : List Y) (y : Y) : Type 0 where
  front : List X
  last : X
  whole : xs ≡ front ++ last ∷ []
  texts : map f front ≡ ys
  text : f last ≡ y

module _ {X Y : Type 0} (f : X → Y) where
  -- the last of the images is that of the last
  map_last : (xs : List X) (ys : List Y) (y : Y) → map f xs ≡ ys ++ y ∷ [] → Last f xs ys y
  map_last [] ys y e = absurd (omega (arith, ap length e, length-append ys (y ∷ [])))
  map_last (x ∷ []) [] y e = record { front = []; last = x; whole = refl; texts = refl; text = cc }
  map_last (x ∷ w ∷ xs) [] y e = absurd (omega (arith, ap length e))
  map_last (x ∷ xs) (v ∷ ys) y e =
      let rest : Last f xs ys y = map_last xs ys y (tails (f x) v (map f xs) (ys ++ y ∷ []) e) in
      record {
        front = x ∷ rest.front;
        last = rest.last;
        whole = ap (λ us. x ∷ us) rest.whole;
        texts = let here : f x ≡ v = heads (f x) v (map f xs) (ys ++ y ∷ []) e in let behind : map f rest.front ≡ ys =
            rest.texts in cc;
        text = rest.text;
      }

-- ---- a valid job is admitted

-- ---- what lines name

-- lines that begin a trace begin that of the valid session that they name
pub record Starts (ls : List (List ℕ)) : Type 0 where
  pub session : Session
  pub named : named_session ls ≡ Some session
  pub valid : IsValidSession session
  pub begins : Begins ls (trace_lines session)

-- lines that begin a trace
pub starts : (l : List ℕ) (ls : List (List ℕ)) → begins_trace (l ∷ ls) ≡ true → Starts (l ∷ ls)
starts l ls passes = by_named (named_session (l ∷ ls)) refl passes where
  by_named : (o : Option Session) → named_session (l ∷ ls) ≡ o → option_map_or (begins_trace_of (l ∷ ls)) o false ≡ true
      → Starts (l ∷ ls)
  by_named None named h = never h
  by_named (Some S) named h =
      let both_hold = and_parts (is_valid_session S) (starts_with bytes_eq (trace_lines S) (l ∷ ls)) h in
      record {
        session = S;
        named = named;
        valid = record { passes = both_hold.0 };
        begins = (
          _,
          (starts_is bytes_eq-Decides (trace_lines S) (l ∷ ls)
              (starts_with bytes_eq (trace_lines S) (l ∷ ls)) refl).0 both_hold.1,
        );
      }

-- the session that a header and lines name, with one line more
named_more : (S T : Session) (l : List ℕ) (ls : List (List ℕ))
    → IsRatio S.rules.ratio → named_session (header S.rules ∷ ls) ≡ Some S
    → named_session (header S.rules ∷ (ls ++ l ∷ [])) ≡ Some T
    → T ≡ with_named S (named_item S l)
named_more S T l ls ratio one other =
    let rules : rules_of (header S.rules) ≡ Some S.rules = header_names S.rules ratio in
    let here : named_behind (new_session S.rules) ls ≡ S = some_same _ _
    (sym (ap (option_map (λ r. named_behind (new_session r) ls)) rules) ∙ one) in
    let there : named_behind (new_session S.rules) (ls ++ l ∷ []) ≡ T = some_same _ _
    (sym (ap (option_map (λ r. named_behind (new_session r) (ls ++ l ∷ []))) rules) ∙ other) in
    sym there ∙ fold-append (λ V k. with_named V (named_item V k)) (new_session S.rules) ls (l ∷ [])
    ∙ ap (λ V. with_named V (named_item V l)) here

-- ---- the first line

-- only headers begin a trace
pub only_headers : (l : List ℕ) → begins_trace (l ∷ []) ≡ true → (rules : Declaration) × IsRatio rules.ratio
    × IsDeclarable rules × (l ≡ header rules)
only_headers l passes =
    let it : Starts (l ∷ []) = starts l [] passes in (
      it.session.rules,
      (valid_parts (session_jobs it.valid)).ratio,
      session_declared it.valid,
      sym (heads (header it.session.rules) l (map text_of_line (all_lines it.session)) it.begins.0 it.begins.1),
    )

-- ---- later lines

module _ (ls : List (List ℕ)) (S : Session) (floor : ℕ) (z : State) (sees : Sees ls S floor z) (l : List ℕ)
    (passes : begins_trace (ls ++ l ∷ []) ≡ true) where
  -- the steps so far
  abbrev so_far : List Event
  so_far = printed_of sees.steps

  -- the texts behind the header
  abbrev texts : List (List ℕ)
  texts = map text_of_line (lines_among S so_far)

  -- the lines with it are the header and these texts, and it
  split : ls ++ l ∷ [] ≡ header S.rules ∷ (texts ++ l ∷ [])
  split = ap (λ xs. xs ++ l ∷ []) sees.lines

  -- they begin a trace
  it : Starts (header S.rules ∷ (texts ++ l ∷ []))
  it = starts (header S.rules) (texts ++ l ∷ []) (ap begins_trace (sym split) ∙ passes)

  -- the session that they name
  same : it.session ≡ with_named S (named_item S l)
  same = named_more S it.session l texts (valid_parts (session_jobs sees.valid)).ratio
      (ap named_session (sym sees.lines) ∙ sees.named) it.named

  -- a line that names no item is the text of the next printed step
  pub only_step : (e : Event) (y : State) → PrintsNext (instance_of S).rules z e y → named_item S l ≡ None
      → l ≡ text_of e
  only_step e y next none =
      let unchanged : it.session ≡ S = same ∙ ap (with_named S) none in
      let here : (more : List (List ℕ)) × (trace_lines S ≡ ls ++ text_of e ∷ more) =
      sees_next_text ls S floor z sees e y next in
      let whole : trace_lines S ≡ (ls ++ l ∷ []) ++ it.begins.0 = ap trace_lines (sym unchanged) ∙ it.begins.1
      ∙ ap (λ xs. xs ++ it.begins.0) (sym split) in
      same_end ls l (text_of e) (trace_lines S) (it.begins.0, whole)
      (here.0, here.1 ∙ sym (append_assoc ls (text_of e ∷ []) here.0))

  module _ (x : Item) (names : named_item S l ≡ Some x) where
    -- the session with the item
    abbrev S_more : Session
    S_more = with_item S x

    -- it is the one that the lines name
    is_more : it.session ≡ S_more
    is_more = same ∙ ap (with_named S) names

    -- it is valid
    valid_more : IsValidSession S_more
    valid_more = subst IsValidSession is_more it.valid

    -- the item may follow
    follows_more : FollowsItems S.rules S.items (mark_after 0 S.items) (x ∷ [])
    follows_more = behind_follows S.rules [] 0 S.items (x ∷ []) (session_parts valid_more).items

    -- there is room for it
    room_more : HasRoom S
    room_more = omega (arith, (session_parts valid_more).count, length-append S.items (x ∷ []))

    -- a line of the item behind what is settled at a tick, which begin the session's lines
    module _ (t : ℕ) (later : mark_after 0 S.items ≤ t) (line : TraceLine) (is : item_in S line ≡ Some x)
        (before : Reads S t) (begins : Begins (lines_at S t ++ line ∷ []) (all_lines S_more)) where
      -- the lines behind the header
      here : (front : List TraceLine) × (texts ++ l ∷ [] ≡ map text_of_line front) × Begins front (all_lines S_more)
      here = first_texts (texts ++ l ∷ []) (all_lines S_more) (
        it.begins.0,
        tails (header S.rules) (header S.rules) (map text_of_line (all_lines S_more)) ((texts ++ l ∷ []) ++ it.begins.0)
            (ap trace_lines (sym is_more) ∙ it.begins.1),
      )

      -- the last of them
      last : Last text_of_line here.0 texts l
      last = map_last text_of_line here.0 texts l (sym here.1)

      -- they begin the session's lines
      last_begins : Begins (last.front ++ last.last ∷ []) (all_lines S_more)
      last_begins = subst (λ xs. Begins xs (all_lines S_more)) last.whole here.2

      -- they have short numbers
      last_short : AllByRecursion HasShortNumbers (last.front ++ last.last ∷ [])
      last_short = all_front HasShortNumbers (last.front ++ last.last ∷ []) last_begins.0
          (subst (AllByRecursion HasShortNumbers) last_begins.1 (lines_short S_more valid_more))

      -- those before the last name the session so far, as those that are settled do
      front_names : LinesName last.front S
      front_names = sym (texts_name (new_session S.rules) last.front
          (all_front HasShortNumbers last.front (last.last ∷ []) last_short))
          ∙ ap (named_behind (new_session S.rules)) last.texts
          ∙ texts_name (new_session S.rules) (lines_among S so_far) (sees_short ls S floor z sees)
          ∙ sees_names ls S floor z sees

      -- the last names the item
      last_names : item_in S last.last ≡ Some x
      last_names = sym (named_text S last.last (all_last HasShortNumbers last.front last.last last_short))
          ∙ ap (named_item S) last.text ∙ names

      -- so the lines so far are all that is settled
      front_is : last.front ≡ lines_at S t
      front_is = begin_both last.front (lines_at S t)
          (no_longer S x last.front (lines_at S t) line (all_lines S_more) front_names before.names is
          (last.last ∷ last_begins.0, last_begins.1 ∙ append_assoc last.front (last.last ∷ []) last_begins.0) begins)
          (no_longer S x (lines_at S t) last.front last.last (all_lines S_more) before.names front_names last_names
          (line ∷ begins.0, begins.1 ∙ append_assoc (lines_at S t) (line ∷ []) begins.0) last_begins)

      -- and the last is the item's
      last_is : last.last ≡ line
      last_is = same_end (lines_at S t) last.last line (all_lines S_more)
          (subst (λ xs. Begins (xs ++ last.last ∷ []) (all_lines S_more)) front_is last_begins) begins

      -- the text is that of the line
      pub only_text : l ≡ text_of_line line
      only_text = sym last.text ∙ ap text_of_line last_is

      -- as much is settled as was printed
      all_printed : length (settled (instance_of S) t) ≡ length so_far
      all_printed = omega (
        arith,
        length-lines S so_far,
        length-lines S (settled (instance_of S) t),
        ap length last.texts,
        ap length front_is,
        length-map last.front text_of_line,
        length-map (lines_among S so_far) text_of_line,
      )

      -- the tick isn't below the floor
      pub only_later : floor ≤ t
      only_later = by_bool _ (nat_lt t floor)
          (λ below. absurd
          (let less : length (settled (instance_of S) t) < length so_far = sees.tight t later (ltb-true _ _ below) in
          omega (arith, all_printed)))
          (λ above. ltb-false _ _ above)

      -- no more is settled then
      pub only_waits : (y : State) × WaitsUntil (instance_of S).rules t z y
      only_waits =
          let rest : (ys : List Step) × IsSettledRun (instance_of S).rules t z ys
          × (settled_steps (instance_of S) t ≡ sees.steps ++ ys) =
          settled_from_floor ls S floor z sees t only_later in
          let counted : length (printed_of (sees.steps ++ rest.0)) ≡ length so_far + length (printed_of rest.0) =
          ap length (filter_map-append _ sees.steps rest.0) ∙ length-append so_far (printed_of rest.0) in
          let silent : printed_of rest.0 ≡ [] =
          nil_from_length (printed_of rest.0) (omega (arith, all_printed, ap length (ap printed_of rest.2))) in
          let found : (y : State) × Settles (instance_of S).rules t z rest.0 y × IsBarrier (instance_of S).rules t y =
          settled_settles (instance_of S).rules t rest.0 z rest.1 silent in
          (found.0, record { steps = rest.0; settles = found.1; barrier = found.2 })

  -- a line that names a job is the text of its release, which may come next
  pub only_release : (j : JobFacts) → named_item S l ≡ Some (JobItem j) → (l ≡ release_text S j) × (y : State)
      × MayRelease S floor z j y
  only_release j names =
      let follows : FollowsItems S.rules S.items (mark_after 0 S.items) (JobItem j ∷ []) =
      follows_more (JobItem j) names in
      let valid_K : IsValid (with_jobs (instance_of S) (j ∷ [])) =
      subst IsValid (job_instance S j) (session_jobs (valid_more (JobItem j) names)) in
      let ordered : mark_after 0 S.items ≤ j.release = follows.0.no_fall in
      let before : Reads S j.release =
      reads_later S (mark_after 0 S.items) j.release (reads_mark S sees.valid) ordered in
      let line : TraceLine = Printed (Release (length (admitted_jobs S.items)) j) in
      let begins : Begins (lines_at S j.release ++ line ∷ []) (all_lines (with_item S (JobItem j))) =
      begins_onward (lines_at S j.release ++ line ∷ []) (lines_at (with_item S (JobItem j)) j.release)
      (all_lines (with_item S (JobItem j)))
      (lines_job S j before valid_K)
      (lines_of_trace (with_item S (JobItem j)) j.release (reads_job S j before valid_K)) in
      let waits : (y : State) × WaitsUntil (instance_of S).rules j.release z y =
      only_waits (JobItem j) names j.release ordered line refl before begins in (
        only_text (JobItem j) names j.release ordered line refl before begins,
        waits.0,
        record {
          room = room_more (JobItem j) names;
          admitted = valid_admitted (instance_of S) j valid_K;
          not_full = follows.0.room;
          no_fall = only_later (JobItem j) names j.release ordered line refl before begins;
          waits = waits.1;
        },
      )

  -- a line that names a refused line is its text, and it may come next
  pub only_refused : (r : Refused) → named_item S l ≡ Some (RefusedItem r) → (l ≡ refused_text r) × (y : State)
      × MayRefuse S floor z r y
  only_refused r names =
      let follows : FollowsItems S.rules S.items (mark_after 0 S.items) (RefusedItem r ∷ []) =
      follows_more (RefusedItem r) names in
      let ordered : mark_after 0 S.items ≤ r.at = follows.0.no_fall in
      let before : Reads S r.at = reads_later S (mark_after 0 S.items) r.at (reads_mark S sees.valid) ordered in
      let line : TraceLine = Refuses r in
      let begins : Begins (lines_at S r.at ++ line ∷ []) (all_lines (with_item S (RefusedItem r))) =
      subst (λ xs. Begins xs (all_lines (with_item S (RefusedItem r)))) (lines_refused S r before)
      (lines_of_trace (with_item S (RefusedItem r)) r.at (reads_refused S r before)) in
      let waits : (y : State) × WaitsUntil (instance_of S).rules r.at z y =
      only_waits (RefusedItem r) names r.at ordered line refl before begins in (
        only_text (RefusedItem r) names r.at ordered line refl before begins,
        waits.0,
        record {
          room = room_more (RefusedItem r) names;
          refused = (may_be_refused-agrees S floor r).1 (record {
            no_fall = only_later (RefusedItem r) names r.at ordered line refl before begins;
            known = follows.0.known;
            line = follows.0.line;
          });
          waits = waits.1;
        },
      )

  -- a line that names a finish is the text of its completion, which may come next
  pub only_completion : (f : EarlyFinish) → named_item S l ≡ Some (FinishItem f)
      → (l ≡ completion_text f) × (y : State) × MayComplete S floor z f y
  only_completion f names =
      let follows : FollowsItems S.rules S.items (mark_after 0 S.items) (FinishItem f ∷ []) =
      follows_more (FinishItem f) names in
      let ordered : mark_after 0 S.items ≤ f.at = follows.0.no_fall in
      let before : Reads S f.at = reads_later S (mark_after 0 S.items) f.at (reads_mark S sees.valid) ordered in
      let it : Finishes S f = finishing_job S f follows.0.right in
      let line : TraceLine = Printed (Complete f.at it.job.number) in
      let begins : Begins (lines_at S f.at ++ line ∷ []) (all_lines (with_item S (FinishItem f))) =
      begins_onward (lines_at S f.at ++ line ∷ []) (lines_at (with_item S (FinishItem f)) f.at)
      (all_lines (with_item S (FinishItem f))) (lines_finish S f before it)
      (lines_of_trace (with_item S (FinishItem f)) f.at (reads_finish S f before it)) in
      let is : item_in S line ≡ Some (FinishItem f) = finish_is_named S f before it in
      let waits : (y : State) × WaitsUntil (instance_of S).rules f.at z y =
      only_waits (FinishItem f) names f.at ordered line is before begins in (
        only_text (FinishItem f) names f.at ordered line is before begins
            ∙ ap (λ (g : Finish). text_of (Complete f.at g.number)) (sym it.is),
        waits.0,
        record {
          room = room_more (FinishItem f) names;
          finishes = (may_finish-agrees S floor f).1 (record {
            no_fall = only_later (FinishItem f) names f.at ordered line is before begins;
            known = follows.0.known;
            right = follows.0.right;
          });
          waits = waits.1;
        },
      )

-- a line that continues a trace is the text of the next printed step, of a job that may be released, of a refused line
-- that may come, or of an early completion that may come
pub continues_only : (ls : List (List ℕ)) (S : Session) (floor : ℕ) (z : State) → Sees ls S floor z
    → (e : Event) (y : State)
    → PrintsNext (instance_of S).rules z e y → (l : List ℕ) → begins_trace (ls ++ l ∷ []) ≡ true
    → (l ≡ text_of e) ⊎ (IsReleaseNext S floor z l ⊎ (IsRefusedNext S floor z l ⊎ IsCompletionNext S floor z l))
continues_only ls S floor z sees e y next l passes = by_item (named_item S l) refl where
  by_item : (o : Option Item) → named_item S l ≡ o → (l ≡ text_of e)
      ⊎ (IsReleaseNext S floor z l ⊎ (IsRefusedNext S floor z l ⊎ IsCompletionNext S floor z l))
  by_item None none = inl (only_step ls S floor z sees l passes e y next none)
  by_item (Some (JobItem j)) names = let it = only_release ls S floor z sees l passes j names in
      inr (inl (j, it.0, it.1, it.2))
  by_item (Some (RefusedItem r)) names = let it = only_refused ls S floor z sees l passes r names in
      inr (inr (inl (r, it.0, it.1, it.2)))
  by_item (Some (FinishItem f)) names = let it = only_completion ls S floor z sees l passes f names in
      inr (inr (inr (f, it.0, it.1, it.2)))
