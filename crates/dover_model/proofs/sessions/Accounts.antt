-- What is due for a feed only grows, line by line, and the session of a feed that is ended is valid.
use Rattle.std.proofs.Common.{◌≡◌, ℕ, suc, ◌+◌, ◌≤◌, max, List, [], ◌∷◌, ◌++◌, length, length-append, map, refl, sym}
use Rattle.std.proofs.Common.{ap, ◌∙◌, subst, Bool, true, false, cond, ◌||◌, arith, Option, Some, None, is_some, ◌==◌}
use Rattle.std.proofs.Common.{nat_lt, nat_le, ◌<◌, ◌&&◌, fold, option_map, ltb-false, leb-true, leb-false, append_assoc}
use Rattle.std.proofs.Common.{append-nil}
use Rattle.std.specs.Bool.{then_some}
use Rattle.std.proofs.lemmas.Bool.{and_parts, and_right}
use Rattle.dover_model.specs.Common.{Late, Full, last_tick_in, most_lines, Version, One}
use Rattle.dover_model.specs.Common.{Three, Refusal, JobFacts, job_numbers, IsRatio, is_ratio, fraction, with_factor}
use Rattle.dover_model.specs.Common.{Declaration, with_jobs, AreShort, refusal_of, Item, JobItem, RefusedItem}
use Rattle.dover_model.specs.Common.{FinishItem, refused_at, Session, with_item, Refused, RefusedDone, refusal_at}
use Rattle.dover_model.specs.Common.{late_refusal, refused_done_at, early_at, is_right, with_named, RefusedJob}
use Rattle.dover_model.specs.Common.{early_finishes, EarlyFinish, may_finish_early, new_session, instance_of}
use Rattle.dover_model.specs.Common.{admitted_jobs, refuses_lines, IsValidSession, mark_after, refusal_in, refused_mark}
use Rattle.dover_model.specs.Common.{is_full, IsDeclarable, printed, settled, header, TraceLine, text_of_line}
use Rattle.dover_model.specs.Common.{texts_among, lines_of, is_too_long, fields_of, FeedLine, RatioLine, FactorLine}
use Rattle.dover_model.specs.Common.{JobLine, TickLine, EndLine, HasNumerals, line_of_fields, DoneLine, feed_line}
use Rattle.dover_model.specs.Common.{Cause, Lines, Line, Declared, Order, NotAdmitted, Standing, Open, Ended, Faulty}
use Rattle.dover_model.specs.Common.{factor_rules, declared_version, declared_rules, first_line_cause, cause_of}
use Rattle.dover_model.specs.Common.{most_lines_in, with_line, read_line, next_line, account, late_cause, NotDone}
use Rattle.dover_model.specs.Common.{Account, no_lines, rules_with, later_line_cause, with_fault, is_open}
use Rattle.dover_model.specs.Common.{with_refused_at, due_lines, fault_text, due, Begins}
use Rattle.dover_model.proofs.sessions.Fullness.{admitted_in, full_in, full_at, full_here}
use Rattle.dover_model.proofs.texts.ReadShort.{read_HasNumerals}
use Rattle.dover_model.proofs.lists.Beginnings.{begins_itself, begins_all, begins_onward, begins_behind, begins_map}
use Rattle.dover_model.proofs.lists.Beginnings.{begins_in_lines}
use Rattle.dover_model.proofs.sessions.Growing.{Reads, lines_at, all_lines, reads_new, reads_later, lines_later}
use Rattle.dover_model.proofs.sessions.Growing.{lines_of_trace, early_says, right_again, instance_with, reads_job}
use Rattle.dover_model.proofs.sessions.Growing.{lines_job, Finishes, finishing_job, reads_finish, lines_finish}
use Rattle.dover_model.proofs.sessions.Growing.{reads_refused, lines_refused}
use Rattle.dover_model.proofs.finishes.RightFinishes.{FinishSays}
use Rattle.dover_model.proofs.lists.Members.{some_same}
use Rattle.dover_model.proofs.lists.Tests.{none_is_some, never}
use Rattle.dover_model.proofs.finishes.Meeting.{finishing_valid}
use Rattle.dover_model.proofs.valid.Admitting.{Admitted, not_refused, admits}
use Rattle.dover_model.proofs.texts.GrowingTexts.{read_append}
use Rattle.dover_model.proofs.valid.Limiting.{items_of_lines}
use Rattle.dover_model.proofs.sessions.SessionParts.{MayRefuse, FollowsItems, session_from}
use Rattle.dover_model.proofs.valid.JobLimits.{job_limits}
use Rattle.dover_model.specs.declared.events.Version.TheVariants.{Four}

-- ---- items behind others

-- items that may stand behind others
pub follows_behind : (rules : Declaration) (before : List Item) (mark : ℕ) (items more : List Item)
    → FollowsItems rules before mark items
    → FollowsItems rules (before ++ items) (mark_after mark items) more
    → FollowsItems rules before mark (items ++ more)
follows_behind rules before mark [] more follows behind =
    subst (λ is. FollowsItems rules is mark more) (append-nil before) behind
follows_behind rules before mark (JobItem j ∷ items) more follows behind = (
  follows.0,
  follows_behind rules (before ++ JobItem j ∷ []) (max mark j.release) items more follows.1
      (subst (λ is. FollowsItems rules is (mark_after (max mark j.release) items) more)
      (sym (append_assoc before (JobItem j ∷ []) items)) behind),
)
follows_behind rules before mark (RefusedItem r ∷ items) more follows behind = (
  follows.0,
  follows_behind rules (before ++ RefusedItem r ∷ []) (max mark r.at) items more follows.1
      (subst (λ is. FollowsItems rules is (mark_after (max mark r.at) items) more)
      (sym (append_assoc before (RefusedItem r ∷ []) items)) behind),
)
follows_behind rules before mark (FinishItem f ∷ items) more follows behind = (
  follows.0,
  follows_behind rules (before ++ FinishItem f ∷ []) (max mark f.at) items more follows.1
      (subst (λ is. FollowsItems rules is (mark_after (max mark f.at) items) more)
      (sym (append_assoc before (FinishItem f ∷ []) items)) behind),
)

-- the mark after one item more
pub mark_behind : (mark : ℕ) (items : List Item) (item : Item)
    → mark_after mark (items ++ item ∷ []) ≡ mark_after (mark_after mark items) (item ∷ [])
mark_behind mark [] item = refl
mark_behind mark (JobItem j ∷ items) item = mark_behind (max mark j.release) items item
mark_behind mark (RefusedItem r ∷ items) item = mark_behind (max mark r.at) items item
mark_behind mark (FinishItem f ∷ items) item = mark_behind (max mark f.at) items item

-- ---- what an account keeps

-- an open account with a session: its rules may be declared, it is read up to the mark, its items follow each other,
-- and there are fewer than lines
pub record Holds (S : Session) (mark lines : ℕ) : Type 0 where
  pub declared : IsDeclarable S.rules
  pub reads : Reads S mark
  pub follows : FollowsItems S.rules [] 0 S.items
  pub last : mark_after 0 S.items ≤ mark
  pub known : mark ≤ last_tick_in S.rules.version
  pub few : length S.items + 1 ≤ lines

-- an ended account: its session is valid, and its lines were read up to some mark
pub record Closes (S : Session) : Type 0 where
  pub mark : ℕ
  pub reads : Reads S mark
  pub valid : IsValidSession S

-- what an open account keeps
abbrev pub HoldsOpen : Option Session → ℕ → ℕ → Type 0
HoldsOpen None mark lines = mark ≡ 0
HoldsOpen (Some S) mark lines = Holds S mark lines

-- what an ended one keeps
abbrev pub HoldsEnded : Option Session → Type 0
HoldsEnded None = ⊥
HoldsEnded (Some S) = Closes S

-- what an account keeps by its standing
abbrev pub HoldsBy : Standing → Option Session → ℕ → ℕ → Type 0
HoldsBy Open session mark lines = HoldsOpen session mark lines
HoldsBy Ended session mark lines = HoldsEnded session
HoldsBy (Faulty line cause) session mark lines = Unit {0}

-- what each account of a feed keeps
abbrev pub IsKept : Account → Type 0
IsKept a = HoldsBy a.standing a.session a.mark a.lines

-- the next account keeps it, and what was due begins what is due
abbrev pub GoesOn : Account → Account → Type 0
GoesOn a b = IsKept b × Begins (due_lines a) (due_lines b)

-- an account
abbrev pub account_with : ℕ → Option Session → ℕ → Standing → Account
account_with lines session mark standing = record { lines = lines; session = session; mark = mark; standing = standing }

-- lines of a trace that begin others, as texts behind the header
begins_texts : (rules : Declaration) (xs ys : List TraceLine) → Begins xs ys
    → Begins (header rules ∷ map text_of_line xs) (header rules ∷ map text_of_line ys)
begins_texts rules xs ys it =
    begins_behind (header rules ∷ []) (map text_of_line xs) (map text_of_line ys) (begins_map text_of_line xs ys it)

-- ---- the first line

-- the rules that are declared have a ratio, and may be declared
pub declared_good : (p q : ℕ) (version : Option ℕ) (rules : Declaration)
    → declared_rules (fraction p q) version ≡ Some rules → IsRatio rules.ratio × IsDeclarable rules
declared_good p q version rules declared = by_ratio (is_ratio (fraction p q)) refl declared where
  from_version : (v : Option Version) → is_ratio (fraction p q) ≡ true
      → option_map (rules_with (fraction p q)) v ≡ Some rules → IsRatio rules.ratio × IsDeclarable rules
  from_version None passes e = none_is_some e
  from_version (Some v) passes e = subst (λ (r : Declaration). IsRatio r.ratio × IsDeclarable r)
      (some_same (rules_with (fraction p q) v) rules e) (record { passes = passes }, refl)

  by_ratio : (b : Bool) → is_ratio (fraction p q) ≡ b
      → cond b (option_map (rules_with (fraction p q)) (declared_version version)) None ≡ Some rules
      → IsRatio rules.ratio × IsDeclarable rules
  by_ratio true passes e = from_version (declared_version version) passes e
  by_ratio false fails e = none_is_some e

-- so they have, and may, where a factor is declared
pub factor_good : (p q b c version : ℕ) (rules : Declaration)
    → factor_rules (with_factor (fraction p q) b c) version ≡ Some rules → IsRatio rules.ratio × IsDeclarable rules
factor_good p q b c version rules declared =
    by_ratio (is_ratio (with_factor (fraction p q) b c)) refl (version == 3) (version == 4) declared where
      by_ratio : (h : Bool) → is_ratio (with_factor (fraction p q) b c) ≡ h → (three four : Bool)
          → cond h (option_map (rules_with (with_factor (fraction p q) b c)) (cond three (Some Three)
          (then_some four Four))) None ≡ Some rules → IsRatio rules.ratio × IsDeclarable rules
      by_ratio true passes true four e = subst (λ (r : Declaration). IsRatio r.ratio × IsDeclarable r)
          (some_same (rules_with (with_factor (fraction p q) b c) Three) rules e) (record { passes = passes }, refl)
      by_ratio true passes false true e = subst (λ (r : Declaration). IsRatio r.ratio × IsDeclarable r)
          (some_same (rules_with (with_factor (fraction p q) b c) Four) rules e) (record { passes = passes }, refl)
      by_ratio true passes false false e = none_is_some e
      by_ratio false fails three four e = none_is_some e

module _ (lines mark lines2 : ℕ) (zero_mark : mark ≡ 0) where
  -- an account of no session goes on to any that keeps it
  from_none : (b : Account) → IsKept b → GoesOn (account_with lines None mark Open) b
  from_none b kept = (kept, (due_lines b, refl))

  -- a session of no items is held
  holds_new : (rules : Declaration) → IsRatio rules.ratio × IsDeclarable rules → 1 ≤ lines2
      → Holds (new_session rules) mark lines2
  holds_new rules good some = record {
    declared = good.1;
    reads = subst (Reads (new_session rules)) (sym zero_mark) (reads_new rules good.0);
    follows = tt;
    last =
        omega arith;
    known = omega arith;
    few = omega arith;
  }

  -- the first line that has a form
  first_goes : 1 ≤ lines2 → (line : FeedLine)
      → GoesOn (account_with lines None mark Open)
      (with_line (account_with lines2 None mark Open) line (first_line_cause line))
  first_goes some (RatioLine p q version) = by_rules (declared_rules
      (fraction p q) version) refl where
        by_rules : (o : Option Declaration) → declared_rules (fraction p q) version ≡ o
            → GoesOn (account_with lines None mark Open)
            (with_line (account_with lines2 None mark Open) (RatioLine p q version) (cond (is_some o) None
            (Some Declared)))
        by_rules None e = from_none (with_fault (account_with lines2 None mark Open) Declared) tt
        by_rules (Some rules) e =
            subst (λ o. GoesOn (account_with lines None mark Open)
            (account_with lines2 (option_map new_session o) mark Open))
            (sym e)
            (from_none (account_with lines2 (Some (new_session rules)) mark Open)
            (holds_new rules
            (declared_good p q version rules e) some))
  first_goes some (FactorLine p q version b c) = by_rules (factor_rules (with_factor (fraction p q) b c) version)
      refl where
        by_rules : (o : Option Declaration) → factor_rules (with_factor (fraction p q) b c) version ≡ o
            → GoesOn (account_with lines None mark Open)
            (with_line (account_with lines2 None mark Open) (FactorLine p q version b c) (cond (is_some o) None
            (Some Declared)))
        by_rules None e = from_none (with_fault (account_with lines2 None mark Open) Declared) tt
        by_rules (Some rules) e =
            subst (λ o. GoesOn (account_with lines None mark Open)
            (account_with lines2 (option_map new_session o) mark Open))
            (sym e)
            (from_none (account_with lines2 (Some (new_session rules)) mark Open)
            (holds_new rules (factor_good p q b c version rules e) some))
  first_goes some (DoneLine t n) = from_none (with_fault (account_with lines2 None mark Open) Line) tt
  first_goes some _ = from_none (with_fault (account_with lines2 None mark Open) Declared) tt

-- ---- later lines

module _ (S : Session) (mark lines : ℕ) (holds : Holds S mark lines) where
  -- the account so far
  abbrev so_far : Account
  so_far = account_with lines (Some S) mark Open

  -- with the next line counted
  abbrev counted : Account
  counted = account_with (suc lines) (Some S) mark Open

  -- what was due
  abbrev due_so_far : List (List ℕ)
  due_so_far = texts_among S (settled (instance_of S) mark)

  -- nothing else was due
  due_open : due_so_far ++ [] ≡ due_so_far
  due_open = append-nil due_so_far

  -- a fault comes behind what was due
  fault_goes : (cause : Cause) → GoesOn so_far (with_fault counted cause)
  fault_goes cause = (
    tt,
    subst (λ ls. Begins ls (due_so_far ++ fault_text (suc lines) cause ∷ [])) (sym due_open)
        (begins_all due_so_far (fault_text (suc lines) cause ∷ [])),
  )

  -- lines that begin others are due before them
  lines_go : (T : Session) (later : ℕ) → T.rules ≡ S.rules → Begins (lines_at S mark) (lines_at T later)
      → Begins (due_lines so_far) (texts_among T (settled (instance_of T) later) ++ [])
  lines_go T later same begins =
      subst (λ ls. Begins ls (texts_among T (settled (instance_of T) later) ++ [])) (sym due_open)
      (subst (Begins due_so_far) (sym (append-nil (texts_among T (settled (instance_of T) later))))
      (subst (λ rules. Begins due_so_far (header rules ∷ map text_of_line (lines_at T later))) (sym same)
      (begins_texts S.rules (lines_at S mark) (lines_at T later) begins)))

  -- a tick
  tick_goes : (t : ℕ) → mark ≤ t → t ≤ last_tick_in S.rules.version
      → GoesOn so_far (account_with (suc lines) (Some S) t Open)
  tick_goes t ordered known = (
    record {
      declared = holds.declared;
      reads = reads_later S mark t holds.reads ordered;
      follows = holds.follows;
      last = omega (arith, holds.last);
      known = known;
      few =
          omega (arith, holds.few);
    },
    lines_go S t refl (lines_later S mark t holds.reads ordered),
  )

  -- one item more than before
  one_item : (item : Item) → length (S.items ++ item ∷ []) + 1 ≤ suc lines
  one_item item = omega (arith, length-append S.items (item ∷ []), holds.few)

  -- a job that is admitted
  job_goes : (j : JobFacts) → mark ≤ j.release → refusal_in S j ≡ None
      → GoesOn so_far (account_with (suc lines) (Some (with_item S (JobItem j))) j.release Open)
  job_goes j ordered admitted_now =
      let both : (refusal_of S.rules (admitted_jobs S.items) j ≡ None) × (is_full (instance_of S) j.release ≡ false) =
      admitted_in S j admitted_now in
      let none : refusal_of S.rules (admitted_jobs S.items) j ≡ None = both.0 in
      let later : Reads S j.release = reads_later S mark j.release holds.reads ordered in
      let admitted : Admitted S.rules (admitted_jobs S.items) j =
      not_refused S.rules (admitted_jobs S.items) j none in
      let valid_more = finishing_valid (with_jobs (instance_with S.rules (admitted_jobs S.items)) (j ∷ []))
      (early_finishes S.items) (admits S.rules (admitted_jobs S.items) j
      (finishing_valid (instance_of S) [] later.valid) later.known none) in (
        record {
          declared = holds.declared;
          reads = reads_job S j later valid_more;
          follows = follows_behind S.rules [] 0 S.items (JobItem j ∷ []) holds.follows (
            record { no_fall = omega (arith, holds.last); room = both.1 },
            tt,
          );
          last = let at : mark_after 0 (S.items ++ JobItem j ∷ []) ≡ max (mark_after 0 S.items) j.release =
              mark_behind 0 S.items (JobItem j) in
              omega (arith, holds.last);
          known = omega (arith, (job_limits admitted.job).window, admitted.due);
          few = one_item (JobItem j);
        },
        lines_go (with_item S (JobItem j)) j.release refl
            (begins_onward (lines_at S mark) (lines_at S j.release) (lines_at (with_item S (JobItem j)) j.release)
            (lines_later S mark j.release holds.reads ordered)
            (begins_onward (lines_at S j.release) (lines_at S j.release ++ _)
            (lines_at (with_item S (JobItem j)) j.release)
            (begins_all (lines_at S j.release) _) (lines_job S j later valid_more))),
      )

  -- a line that is refused, at the mark or later
  line_refused : (r : Refused) → Reads S r.at → mark ≤ r.at → mark_after 0 S.items ≤ r.at
      → r.at ≤ last_tick_in S.rules.version
      → MayRefuse S r.at r.line
      → GoesOn so_far (account_with (suc lines) (Some (with_item S (RefusedItem r))) r.at Open)
  line_refused r reads ordered last known may = (
    record {
      declared = holds.declared;
      reads = reads_refused S r reads;
      follows = follows_behind S.rules [] 0 S.items (RefusedItem r ∷ []) holds.follows
          (record { no_fall = last; known = known; line = may }, tt);
      last = let at : mark_after 0 (S.items ++ RefusedItem r ∷ []) ≡ max (mark_after 0 S.items) r.at =
          mark_behind 0 S.items (RefusedItem r) in
          omega (arith, last);
      known = known;
      few = one_item (RefusedItem r);
    },
    lines_go (with_item S (RefusedItem r)) r.at refl
        (begins_onward (lines_at S mark) (lines_at S r.at) (lines_at (with_item S (RefusedItem r)) r.at)
        (lines_later S mark r.at holds.reads ordered)
        (subst (Begins (lines_at S r.at)) (sym (lines_refused S r reads)) (begins_all (lines_at S r.at) _))),
  )

  -- the account with a refused job line, and the mark behind it
  abbrev refused_account : ℕ → JobFacts → Refusal → Account
  refused_account at j refusal =
      account_with (suc lines) (Some (with_item S (refused_at at j refusal))) at Open

  -- a job line that is refused at the mark
  refused_here : (j : JobFacts) (refusal : Refusal) → refuses_lines S.rules.version ≡ true → AreShort (job_numbers j)
      → refusal_at S mark j ≡ Some refusal → refused_mark mark j refusal ≡ mark
      → GoesOn so_far (refused_account mark j refusal)
  refused_here j refusal two short cause stays =
      let r : Refused = record { at = mark; line = RefusedJob j refusal } in
      line_refused r holds.reads (omega arith) holds.last holds.known
      (record { version = two; numerals = short; cause = cause; raised = stays })

  -- one that is refused since too many jobs are ready at its release
  full_goes : (j : JobFacts) → refuses_lines S.rules.version ≡ true → AreShort (job_numbers j)
      → refusal_at S mark j ≡ Some Full → GoesOn so_far (refused_account j.release j Full)
  full_goes j two short cause =
      let r : Refused = record { at = j.release; line = RefusedJob j Full } in
      let it : (mark ≤ j.release) × (refusal_in S j ≡ Some Full) = full_at S mark j cause in
      let admitted : Admitted S.rules (admitted_jobs S.items) j =
      not_refused S.rules (admitted_jobs S.items) j (full_in S j it.1).0 in
      line_refused r (reads_later S mark j.release holds.reads it.0) it.0 (omega (arith, it.0, holds.last))
      (omega (arith, (job_limits admitted.job).window, admitted.due))
      (record { version = two; numerals = short; cause = full_here S j it.1; raised = refl })

  -- a job line that is refused
  refused_goes : (j : JobFacts) (refusal : Refusal) → refuses_lines S.rules.version ≡ true → AreShort (job_numbers j)
      → refusal_at S mark j ≡ Some refusal
      → GoesOn so_far (refused_account (refused_mark mark j refusal) j refusal)
  refused_goes j Full two short cause = full_goes j two short cause
  refused_goes j refusal two short cause = refused_here j refusal two short cause refl

  -- the end
  end_goes : suc lines ≤ most_lines S.rules.version → GoesOn so_far (account_with (suc lines) (Some S) mark Ended)
  end_goes low = (
    record {
      mark = mark;
      reads = holds.reads;
      valid =
          session_from (record {
            declared = holds.declared;
            jobs = holds.reads.valid;
            count = omega (arith, holds.few, low, items_of_lines S.rules.version);
            items = holds.follows;
          });
    },
    subst (λ ls. Begins ls (texts_among S (printed (instance_of S)) ++ [])) (sym due_open)
        (subst (Begins due_so_far) (sym (append-nil (texts_among S (printed (instance_of S)))))
        (begins_texts S.rules (lines_at S mark) (all_lines S) (lines_of_trace S mark holds.reads))),
  )

  -- a job line, by its cause
  job_line_goes : (j : JobFacts) → AreShort (job_numbers j)
      → GoesOn so_far (with_line counted (JobLine j) (later_line_cause S mark (JobLine j)))
  job_line_goes j short = by_order (nat_lt j.release mark) refl where
    -- why it is refused, where it isn't late
    not_late : (o : Option Refusal) → nat_lt j.release mark ≡ false
        → refusal_in S j ≡ o → refusal_at S mark j ≡ o
    not_late o ordered cause =
        ap (λ b. cond b (late_refusal S.rules.version) (refusal_in S j)) ordered ∙ cause

    by_version : (refusal : Refusal) → refusal_at S mark j ≡ Some refusal
        → (v : Version)
        → S.rules.version ≡ v
        → GoesOn so_far (cond (refuses_lines v)
        (with_refused_at counted (refused_mark mark j refusal) j refusal)
        (with_fault counted (NotAdmitted refusal)))
    by_version refusal cause One is = fault_goes (NotAdmitted refusal)
    by_version refusal cause _ is = refused_goes j refusal (ap refuses_lines is) short cause

    by_refusal : (o : Option Refusal) → nat_lt j.release mark ≡ false → refusal_in S j ≡ o
        → GoesOn so_far (with_line counted (JobLine j) (option_map NotAdmitted o))
    by_refusal None ordered none = job_goes j (ltb-false _ _ ordered) none
    by_refusal (Some refusal) ordered cause =
        by_version refusal (not_late (Some refusal) ordered cause) S.rules.version refl

    by_late : (v : Version) → S.rules.version ≡ v → nat_lt j.release mark ≡ true
        → GoesOn so_far (with_line counted (JobLine j) (Some (late_cause v)))
    by_late Three is late = subst (λ v. GoesOn so_far (cond (refuses_lines v)
        (with_refused_at counted mark j Late) (with_fault counted (NotAdmitted Late)))) (sym is)
        (refused_goes j Late (ap refuses_lines is) short
        (ap (λ b. cond b (late_refusal S.rules.version) (refusal_in S j)) late
        ∙ ap late_refusal is))
    by_late Four is late = subst (λ v. GoesOn so_far (cond (refuses_lines v)
        (with_refused_at counted mark j Late) (with_fault counted (NotAdmitted Late)))) (sym is)
        (refused_goes j Late (ap refuses_lines is) short
        (ap (λ b. cond b (late_refusal S.rules.version) (refusal_in S j)) late
        ∙ ap late_refusal is))
    by_late _ is late = fault_goes Order

    by_order : (b : Bool) → nat_lt j.release mark ≡ b
        → GoesOn so_far (with_line counted (JobLine j)
        (cond b (Some (late_cause S.rules.version))
        (option_map NotAdmitted (refusal_in S j))))
    by_order true late = by_late S.rules.version refl late
    by_order false ordered = by_refusal (refusal_in S j) ordered refl

  -- a tick line
  tick_line_goes : (t : ℕ)
      → GoesOn so_far (with_line counted (TickLine t) (later_line_cause S mark (TickLine t)))
  tick_line_goes t = by_tests (nat_lt t mark) (nat_lt (last_tick_in S.rules.version) t) refl refl where
    by_tests : (a b : Bool) → nat_lt t mark ≡ a → nat_lt (last_tick_in S.rules.version) t ≡ b
        → GoesOn so_far (with_line counted (TickLine t) (cond (a || b) (Some Order) None))
    by_tests true b falls x = fault_goes Order
    by_tests false true x high = fault_goes Order
    by_tests false false ordered low = tick_goes t (ltb-false _ _ ordered) (ltb-false _ _ low)

  -- a done line that is right
  finish_goes : (t n : ℕ) (f : EarlyFinish) → early_at S t n ≡ Some f → mark ≤ t → t ≤ last_tick_in S.rules.version
      → GoesOn so_far (account_with (suc lines) (Some (with_item S (FinishItem f))) t Open)
  finish_goes t n f right ordered known =
      let says : FinishSays (instance_of S) t n f = early_says S t n f right in
      let at : t ≡ f.at = ap (λ (g : EarlyFinish). g.at) says.is in
      let it : Finishes S f = finishing_job S f (right_again S t n f right) in
      let before : Reads S f.at = reads_later S mark f.at holds.reads (omega (arith, at)) in
      subst (λ u. GoesOn so_far (account_with (suc lines) (Some (with_item S (FinishItem f))) u Open))
      (sym at) (
        record {
          declared = holds.declared;
          reads = reads_finish S f before it;
          follows = follows_behind S.rules [] 0 S.items (FinishItem f ∷ []) holds.follows (
            record {
              no_fall = omega (arith, holds.last, at);
              known = omega (arith, at);
              right = right_again S t n f right;
            },
            tt,
          );
          last = let after : mark_after 0 (S.items ++ FinishItem f ∷ []) ≡ max (mark_after 0 S.items) f.at =
              mark_behind 0 S.items (FinishItem f) in
              omega (arith, holds.last, at);
          known = omega (arith, at);
          few = one_item (FinishItem f);
        },
        lines_go (with_item S (FinishItem f)) f.at refl
            (begins_onward (lines_at S mark) (lines_at S f.at) (lines_at (with_item S (FinishItem f)) f.at)
            (lines_later S mark f.at holds.reads (omega (arith, at)))
            (begins_onward (lines_at S f.at) (lines_at S f.at ++ _) (lines_at (with_item S (FinishItem f)) f.at)
            (begins_all (lines_at S f.at) _) (lines_finish S f before it))),
      )

  -- a done line that isn't
  not_done_goes : (t n : ℕ) → AreShort (n ∷ []) → may_finish_early S.rules.version ≡ true
      → t ≤ last_tick_in S.rules.version
      → is_right S mark t n ≡ false
      → GoesOn so_far
      (account_with (suc lines) (Some (with_item S (refused_done_at (max mark t) t n))) (max mark t) Open)
  not_done_goes t n short three known wrong =
      let r : Refused = record { at = max mark t; line = RefusedDone t n } in
      line_refused r (reads_later S mark (max mark t) holds.reads (omega arith)) (omega arith) (omega
      (arith, holds.last))
      (omega (arith, holds.known)) (record {
        version = three;
        numerals = short;
        no_later = omega arith;
        cause = ap (λ b. b && is_some (early_at S t n)) (same_test mark t) ∙ wrong;
      }) where
        same_test : (a b : ℕ) → nat_le (max a b) b ≡ nat_le a b
        same_test a b = by_tests (nat_le (max a b) b) (nat_le a b) refl refl where
          by_tests : (x y : Bool) → nat_le (max a b) b ≡ x → nat_le a b ≡ y → x ≡ y
          by_tests true true e f = refl
          by_tests false false e f = refl
          by_tests true false e f = let low : max a b ≤ b = leb-true _ _ e in let high : b < a = leb-false _ _ f in
              absurd (omega arith)
          by_tests false true e f = let high : b < max a b = leb-false _ _ e in let low : a ≤ b = leb-true _ _ f in
              absurd (omega arith)

  -- a done line
  done_line_goes : (t n : ℕ) → AreShort (t ∷ n ∷ [])
      → GoesOn so_far (with_line counted (DoneLine t n) (later_line_cause S mark (DoneLine t n)))
  done_line_goes t n short = by_tests (may_finish_early S.rules.version)
      (nat_lt (last_tick_in S.rules.version) t) (is_right S mark t n) refl refl refl where
        by_early : (o : Option EarlyFinish) → early_at S t n ≡ o → t ≤ last_tick_in S.rules.version
            → (nat_le mark t && is_some o) ≡ true
            → GoesOn so_far (account_with (suc lines) (Some (with_named S (option_map FinishItem o))) t Open)
        by_early None e known right = never (sym (and_right (nat_le mark t) false refl) ∙ right)
        by_early (Some f) e known right = finish_goes t n f e
            (leb-true _ _ (and_parts (nat_le mark t) true right).0) known

        by_tests : (v a b : Bool) → may_finish_early S.rules.version ≡ v → nat_lt (last_tick_in S.rules.version) t ≡ a
            → is_right S mark t n ≡ b
            → GoesOn so_far (with_line counted (DoneLine t n)
            (cond v (cond a (Some Order) (cond b None (Some NotDone))) (Some Line)))
        by_tests false a b three x right = fault_goes Line
        by_tests true true b three high right = fault_goes Order
        by_tests true false true three low right = by_early (early_at S t n) refl (ltb-false _ _ low) right
        by_tests true false false three low wrong = not_done_goes t n short.1 three (ltb-false _ _ low) wrong

  -- a later line that has a form
  later_goes : suc lines ≤ most_lines S.rules.version → (line : FeedLine) → HasNumerals line
      → GoesOn so_far (with_line counted line (later_line_cause S mark line))
  later_goes low (JobLine j) short = job_line_goes j short
  later_goes low (TickLine t) short = tick_line_goes t
  later_goes low (DoneLine t n) short = done_line_goes t n short
  later_goes low EndLine short = end_goes low
  later_goes low _ short = fault_goes Declared

-- ---- each line

-- an open account, with any line
open_goes : (lines : ℕ) (session : Option Session) (mark : ℕ) → HoldsOpen session mark lines → (bytes : List ℕ)
    → GoesOn (account_with lines session mark Open) (read_line (account_with
    (suc lines) session mark Open) bytes)
open_goes lines None mark zero_mark bytes = by_count (nat_lt 1 (suc lines)) (feed_line bytes) where
  by_count : (b : Bool) (o : Option FeedLine)
      → GoesOn (account_with lines None mark Open) (cond b (with_fault (account_with
      (suc lines) None mark Open) Lines)
      (elim o [
        | None ↦ with_fault (account_with (suc lines) None mark Open) Line
        | Some line ↦ with_line
            (account_with (suc lines) None mark Open) line (first_line_cause line)
      ]))
  by_count true o = from_none lines mark (suc lines) zero_mark
      (with_fault (account_with (suc lines) None mark Open) Lines) tt
  by_count false None = from_none lines mark (suc lines) zero_mark
      (with_fault (account_with (suc lines) None mark Open) Line) tt
  by_count false (Some line) = first_goes lines mark (suc lines) zero_mark (omega arith) line
open_goes lines (Some S) mark holds bytes = by_count (nat_lt most (suc lines)) (feed_line bytes) refl refl where
  most : ℕ
  most = most_lines S.rules.version

  by_count : (b : Bool) (o : Option FeedLine) → nat_lt most (suc lines) ≡ b → feed_line bytes ≡ o
      → GoesOn (account_with lines (Some S) mark Open)
      (cond b (with_fault (account_with (suc lines) (Some S) mark Open) Lines)
      (elim o [
        | None ↦ with_fault (account_with (suc lines) (Some S) mark Open) Line
        | Some line ↦ with_line
            (account_with (suc lines) (Some S) mark Open) line (later_line_cause S mark line)
      ]))
  by_count true o many read = fault_goes S mark lines holds Lines
  by_count false None few read = fault_goes S mark lines holds Line
  by_count false (Some line) few read =
      later_goes S mark lines holds (ltb-false _ _ few) line (read_HasNumerals bytes line read)

-- any account, with any line
line_goes : (lines : ℕ) (session : Option Session) (mark : ℕ) (standing : Standing)
    → HoldsBy standing session mark lines → (bytes : List ℕ)
    → GoesOn (account_with lines session mark standing) (next_line
    (account_with lines session mark standing) bytes)
line_goes lines session mark Open kept bytes = open_goes lines session mark kept bytes
line_goes lines session mark Ended kept bytes =
    (kept, begins_itself (due_lines (account_with lines session mark Ended)))
line_goes lines session mark (Faulty line cause) kept bytes =
    (tt, begins_itself (due_lines (account_with lines session mark (Faulty line cause))))

-- lines go on
pub lines_goes : (ls : List (List ℕ)) (a : Account) → IsKept a
    → GoesOn a (fold (next_line) a ls)
lines_goes [] a kept = (kept, begins_itself (due_lines a))
lines_goes (l ∷ ls) a kept =
    let one : GoesOn a (next_line a l) = line_goes a.lines a.session a.mark a.standing kept l in
    let rest : GoesOn (next_line a l) (fold (next_line)
    (next_line a l) ls) = lines_goes ls (next_line a l) one.0 in (
      rest.0,
      begins_onward (due_lines a) (due_lines (next_line a l))
          (due_lines (fold (next_line) (next_line a l) ls)) one.1 rest.1,
    )

-- ---- texts

-- the account after a line that was read
abbrev account_after : Account → Option FeedLine → Account
account_after a o = cond (is_open a)
    (cond (nat_lt (most_lines_in a.session) (suc a.lines)) (with_fault (record a { lines = suc a.lines }) Lines)
    (elim o [
      | None ↦ with_fault (record a { lines = suc a.lines }) Line
      | Some line ↦ with_line (record a { lines = suc a.lines }) line
          (cause_of (record a { lines = suc a.lines }) line)
    ])) a

-- a line that is too long isn't read
unread : (l : List ℕ) → is_too_long l ≡ true → feed_line l ≡ None
unread l long = ap (λ b. cond b None (line_of_fields (fields_of l))) long

-- lines that are too long count as one and the same
pub too_long_same : (a : Account) (l m : List ℕ) → is_too_long l ≡ true → is_too_long m ≡ true
    → next_line a l ≡ next_line a m
too_long_same a l m long_l long_m = ap (account_after a) (unread l long_l ∙ sym (unread m long_m))

-- the account of a text that grows is that of the text, with further lines
pub account_append : (F G : List ℕ)
    → (ls : List (List ℕ)) × (account (F ++ G) ≡ fold (next_line) (account F) ls)
account_append F G = read_append (next_line) no_lines too_long_same F G

-- each account of a feed keeps what accounts keep
pub account_kept : (F : List ℕ) → IsKept (account F)
account_kept F = (lines_goes (lines_of F) no_lines zero_mark).0 where
  zero_mark : no_lines.mark ≡ 0
  zero_mark = refl

-- what is due only grows
pub due_grows : (F G : List ℕ) → Begins (due F) (due (F ++ G))
due_grows F G =
    let it : (ls : List (List ℕ)) × (account (F ++ G)
    ≡ fold (next_line) (account F) ls) = account_append F G in
    begins_in_lines (due_lines (account F)) (due_lines (account (F ++ G)))
    (subst (λ a. Begins (due_lines (account F)) (due_lines a)) (sym it.1)
    (lines_goes it.0 (account F) (account_kept F)).1)
