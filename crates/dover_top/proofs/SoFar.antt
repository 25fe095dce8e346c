-- What stands of a feed so far, and of what was written for it.
use Rattle.std.proofs.Common.{◌≡◌, ◌⊎◌, inl, inr, ℕ, suc, List, [], ◌∷◌, ◌++◌, length, refl, sym, ap, ◌∙◌, subst, arith}
use Rattle.std.proofs.Common.{Bool, true, false, cond, Option, None, Some, nat_lt, fold}
use Rattle.dover_model.specs.Common.{Instance, IsValid, due, decided_lines, short_lines, Account, account, no_lines}
use Rattle.dover_model.specs.Common.{is_ended, next_line, with_line, with_good_line, with_fault, with_refused_at}
use Rattle.dover_model.specs.Common.{most_lines_in, cause_of, Cause, Lines, Line, Declared, Order, NotAdmitted, NotDone}
use Rattle.dover_model.specs.Common.{Standing, Open, Ended, Faulty, FeedLine, RatioLine, FactorLine, JobLine, TickLine}
use Rattle.dover_model.specs.Common.{DoneLine, EndLine, feed_line, JobFacts, in_lines, lines_of, whole_lines, run}
use Rattle.dover_model.specs.Common.{printed, event_of, Session, instance_of, refuses_lines, refused_mark, settled}
use Rattle.dover_model.specs.Common.{Each, IsMember, Move as Step, Prints, Waits, Ticks, takes_or_abandons, Begins}
use Rattle.dover_model.specs.declared.events.Refusal.{Refusal}
use Rattle.dover_model.specs.Due.{fault_lines}
use Rattle.dover_model.specs.Feed.{with_refused_job, Short}
use Rattle.dover_model.proofs.sessions.Accounts.{IsKept as KeepsAccount, lines_goes, HoldsBy}
use Rattle.dover_model.proofs.lists.Beginnings.{begins_itself, begins_all, begins_onward, begins_behind}
use Rattle.dover_model.proofs.lists.Beginnings.{in_lines-append}
use Rattle.dover_model.proofs.sessions.Growing.{settled_of_run}
use Rattle.dover_model.proofs.finishes.Meeting.{given_by}
use Rattle.dover_model.proofs.lists.Members.{some_same, member_front, heads, tails}
use Rattle.dover_model.proofs.runs.Runs.{none_lost}
use Rattle.dover_model.proofs.lists.Tests.{none_is_some}
use Rattle.dover_port.specs.declared.status.Status.{Status}
use Rattle.dover_port.specs.declared.status.Status.TheVariants.{Done, No, Refused, ReadFault, WriteFault, Memory, Usage}
use Rattle.dialogue.specs.Talk.{Talk, Ends}
use Rattle.dialogue.specs.Sizes.{size_text}
use Rattle.feed_words.specs.serve.Talk.{feed_talk, IsServedAs}
use Rattle.feed_words.specs.declared.serve.at_end.AtEnd.{AtEnd}
use Rattle.dover_top.specs.Promises.{IsKept, IsServedSoFar, Agree, decided}
use Rattle.dover_top.proofs.Keeping.{promises_of}

-- ---- the jobs of a session are valid, at a fault too

-- a line that is faulty leaves the session as it was
abbrev FaultKeeps : Option Session → Account → Type 0
FaultKeeps session b = elim b.standing [ Open ↦ Unit {0} | Ended ↦ Unit {0} | Faulty line cause ↦ b.session ≡ session ]

-- an open account
abbrev open_with : ℕ → Option Session → ℕ → Account
open_with lines session mark = record { lines = lines; session = session; mark = mark; standing = Open }

module _ (lines : ℕ) (session : Option Session) (mark : ℕ) where
  abbrev counted : Account
  counted = open_with lines session mark

  good_keeps : (line : FeedLine) → FaultKeeps session (with_good_line counted line)
  good_keeps (RatioLine p q version) = tt
  good_keeps (FactorLine p q version b c) = tt
  good_keeps (JobLine j) = tt
  good_keeps (TickLine t) = tt
  good_keeps (DoneLine t n) = tt
  good_keeps EndLine = tt

  done_keeps : (t n : ℕ) (cause : Cause) → FaultKeeps session (with_line counted (DoneLine t n) (Some cause))
  done_keeps t n Lines = refl
  done_keeps t n Line = refl
  done_keeps t n Declared = refl
  done_keeps t n Order = refl
  done_keeps t n (NotAdmitted refusal) = refl
  done_keeps t n NotDone = tt
  done_keeps t n Short = refl

-- a job line that isn't admitted
refused_keeps : (lines : ℕ) (session : Option Session) (mark : ℕ) (j : JobFacts) (refusal : Refusal)
    → FaultKeeps session (with_refused_job (open_with lines session mark) j refusal)
refused_keeps lines None mark j refusal = tt
refused_keeps lines (Some S) mark j refusal = by_version (refuses_lines S.rules.version) where
  by_version : (b : Bool) → FaultKeeps (Some S) (cond b
      (with_refused_at (open_with lines (Some S) mark) (refused_mark mark j refusal) j refusal)
      (with_fault (open_with lines (Some S) mark) (NotAdmitted refusal)))
  by_version true = tt
  by_version false = refl

job_keeps : (lines : ℕ) (session : Option Session) (mark : ℕ) (j : JobFacts) (cause : Cause)
    → FaultKeeps session (with_line (open_with lines session mark) (JobLine j) (Some cause))
job_keeps lines session mark j Lines = refl
job_keeps lines session mark j Line = refl
job_keeps lines session mark j Declared = refl
job_keeps lines session mark j Order = refl
job_keeps lines session mark j (NotAdmitted refusal) = refused_keeps lines session mark j refusal
job_keeps lines session mark j NotDone = refl
job_keeps lines session mark j Short = refl

line_keeps : (lines : ℕ) (session : Option Session) (mark : ℕ) (line : FeedLine) (o : Option Cause)
    → FaultKeeps session (with_line (open_with lines session mark) line o)
line_keeps lines session mark line None = good_keeps lines session mark line
line_keeps lines session mark (RatioLine p q version) (Some cause) = refl
line_keeps lines session mark (FactorLine p q version b c) (Some cause) = refl
line_keeps lines session mark (JobLine j) (Some cause) = job_keeps lines session mark j cause
line_keeps lines session mark (TickLine t) (Some cause) = refl
line_keeps lines session mark (DoneLine t n) (Some cause) = done_keeps lines session mark t n cause
line_keeps lines session mark EndLine (Some cause) = refl

next_keeps : (lines : ℕ) (session : Option Session) (mark : ℕ) (bytes : List ℕ)
    → FaultKeeps session (next_line (open_with lines session mark) bytes)
next_keeps lines session mark bytes = by_count (test (suc lines)) (feed_line bytes) where
  test : ℕ → Bool
  test n = nat_lt (most_lines_in session) n

  by_count : (b : Bool) (o : Option FeedLine) → FaultKeeps session
      (cond b (with_fault (open_with (suc lines) session mark) Lines)
      (elim o [
        | None ↦ with_fault (open_with (suc lines) session mark) Line
        | Some line ↦ with_line (open_with (suc lines) session mark) line
            (cause_of (open_with (suc lines) session mark) line)
      ]))
  by_count true o = refl
  by_count false None = refl
  by_count false (Some line) =
      line_keeps (suc lines) session mark line (cause_of (open_with (suc lines) session mark) line)

-- the jobs of the account's session are valid
abbrev HasValidJobs : Option Session → Type 0
HasValidJobs session = (S : Session) → session ≡ Some S → IsValid (instance_of S)

-- so they are by what the account keeps, or as they were before a fault
valid_by : (lines : ℕ) (session : Option Session) (mark : ℕ) (standing : Standing) (before : Option Session)
    → HoldsBy standing session mark lines
    → FaultKeeps before (record { lines = lines; session = session; mark = mark; standing = standing })
    → HasValidJobs before → HasValidJobs session
valid_by lines None mark standing before kept same was S some = none_is_some some
valid_by lines (Some T) mark Open before kept same was S some =
    subst (λ U. IsValid (instance_of U)) (some_same T S some) kept.reads.valid
valid_by lines (Some T) mark Ended before kept same was S some =
    subst (λ U. IsValid (instance_of U)) (some_same T S some) kept.reads.valid
valid_by lines (Some T) mark (Faulty line cause) before kept same was S some = was S (sym same ∙ some)

-- each line leaves them so
valid_next : (lines : ℕ) (session : Option Session) (mark : ℕ) (standing : Standing)
    → HoldsBy standing session mark lines → HasValidJobs session → (l : List ℕ)
    → HasValidJobs (next_line (record { lines = lines; session = session; mark = mark; standing = standing }) l).session
valid_next lines session mark Open kept valid l =
    let next = next_line (open_with lines session mark) l in
    valid_by next.lines next.session next.mark next.standing session
    (lines_goes (l ∷ []) (open_with lines session mark) kept).0 (next_keeps lines session mark l) valid
valid_next lines session mark Ended kept valid l = valid
valid_next lines session mark (Faulty line cause) kept valid l = valid

valid_lines : (ls : List (List ℕ)) (a : Account) → KeepsAccount a → HasValidJobs a.session
    → HasValidJobs (fold next_line a ls).session
valid_lines [] a kept valid = valid
valid_lines (l ∷ ls) a kept valid =
    valid_lines ls (next_line a l) (lines_goes (l ∷ []) a kept).0
    (valid_next a.lines a.session a.mark a.standing kept valid l)

feed_valid : (F : List ℕ) → HasValidJobs (account F).session
feed_valid F = valid_lines (lines_of F) no_lines refl (λ S some. none_is_some some)

-- ---- the steps that are decided

-- what stands of all steps stands of those that are printed
each_printed : (J : Instance) → Each (λ x. takes_or_abandons x.move ≡ false) (run J)
    → Each (λ e. takes_or_abandons (Prints e) ≡ false) (printed J)
each_printed J each e member = let it = given_by (λ x. event_of x.move) (run J) e member in
    by_move it.0.move it.2 (each it.0 it.1) where
      by_move : (m : Step) → event_of m ≡ Some e → takes_or_abandons m ≡ false → takes_or_abandons (Prints e) ≡ false
      by_move (Prints f) some none = subst (λ g. takes_or_abandons (Prints g) ≡ false) (some_same f e some) none
      by_move (Waits n) some none = none_is_some some
      by_move Ticks some none = none_is_some some

-- and of those that begin them
each_begins : {X : Type 0} (P : X → Type 0) (xs ys : List X) → Begins xs ys → Each P ys → Each P xs
each_begins P xs ys it each x member =
    each x (subst (IsMember x) (sym it.1) (member_front xs it.0 x member))

-- those that are decided begin the run
decided_begin : (a : Account) (S : Session) → IsValid (instance_of S)
    → Begins (decided a S) (printed (instance_of S))
decided_begin a S valid = by_end (is_ended a) where
  by_end : (b : Bool) → Begins (cond b (printed (instance_of S)) (settled (instance_of S) a.mark))
      (printed (instance_of S))
  by_end true = begins_itself (printed (instance_of S))
  by_end false = settled_of_run (instance_of S) a.mark valid

-- what stands of a feed so far
pub kept_so : (feed : List ℕ) → IsKept feed
kept_so feed S named =
    let valid : IsValid (instance_of S) = feed_valid feed S named in
    let begins = decided_begin (account feed) S valid in
    record {
      valid = valid;
      promises = promises_of (instance_of S) valid;
      begins = begins;
      none_lost = λ meets. each_begins _ (decided (account feed) S) (printed (instance_of S)) begins
          (each_printed (instance_of S) (none_lost (instance_of S) valid meets));
    }

-- ---- what was written

-- of two beginnings of a list one begins the other
pub begins_two : {X : Type 0} (xs ys zs : List X) → Begins xs zs → Begins ys zs → Begins xs ys ⊎ Begins ys xs
begins_two [] ys zs one other = inl (ys, refl)
begins_two (x ∷ xs) [] zs one other = inr (x ∷ xs, refl)
begins_two (x ∷ xs) (y ∷ ys) [] one other = absurd (omega (arith, ap length one.1))
begins_two {X} (x ∷ xs) (y ∷ ys) (z ∷ zs) one other = by_rest (begins_two xs ys zs
    (one.0, tails z x zs (xs ++ one.0) one.1) (other.0, tails z y zs (ys ++ other.0) other.1)) where
      same : x ≡ y
      same = sym (heads z x zs (xs ++ one.0) one.1) ∙ heads z y zs (ys ++ other.0) other.1

      by_rest : Begins xs ys ⊎ Begins ys xs → Begins (x ∷ xs) (y ∷ ys) ⊎ Begins (y ∷ ys) (x ∷ xs)
      by_rest (inl it) = inl (it.0, ap (λ l. y ∷ l) it.1 ∙ ap (λ v. v ∷ (xs ++ it.0)) (sym same))
      by_rest (inr it) = inr (it.0, ap (λ l. x ∷ l) it.1 ∙ ap (λ v. v ∷ (ys ++ it.0)) same)

-- the lines that are decided, as a text
abbrev pub decided_text : List ℕ → List ℕ
decided_text x = in_lines (decided_lines (account x))

-- what is due begins with them
pub due_has : (x : List ℕ) → Begins (decided_text x) (due x)
due_has x = let a = account x in
    (in_lines (fault_lines a.standing), in_lines-append (decided_lines a) (fault_lines a.standing))

due_then_has : (x rest : List ℕ) → Begins (decided_text x) (due x ++ rest)
due_then_has x rest =
    begins_onward (decided_text x) (due x) (due x ++ rest) (due_has x) (begins_all (due x) rest)

-- so does each text that answers
pub answer_has : (at_end : AtEnd) (x : List ℕ) (ended : Bool) (status : Status) (text : List ℕ)
    → IsServedAs at_end x ended status text → Begins (decided_text x) text
answer_has at_end x ended Done text (inl it) = subst (Begins (decided_text x)) (sym it.1) (due_has x)
answer_has at_end x ended Done text (inr it) =
    subst (Begins (decided_text x)) (sym it.2) (due_then_has x _)
answer_has at_end x ended Refused text (inl it) = subst (Begins (decided_text x)) (sym it.1)
    (due_then_has x (in_lines (short_lines (length (whole_lines x)) (account x))))
answer_has at_end x ended Refused text (inr it) =
    subst (Begins (decided_text x)) (sym it.2) (due_then_has x size_text)
answer_has at_end x ended No text it = absurd it
answer_has at_end x ended ReadFault text it = absurd it
answer_has at_end x ended WriteFault text it = absurd it
answer_has at_end x ended Memory text it = absurd it
answer_has at_end x ended Usage text it = absurd it

-- However a talk ended: what was put behind a front agrees with what all that is due, and each answer, begins with.
module _ (t : Talk) (got put : List ℕ) (ended : Bool) (front dec : List ℕ) (due_so : Begins dec (front ++ t.due got))
    (answers : (s : Status) (text : List ℕ) → t.answer got ended s text → Begins dec (front ++ text)) where
  -- a front of a text that begins so
  cut : (whole : List ℕ) → Begins put whole → Begins dec (front ++ whole) → Agree (front ++ put) dec
  cut whole some all = begins_two (front ++ put) dec (front ++ whole) (begins_behind front put whole some) all

  pub agrees : (status : Status) → Ends t status got put ended → Agree (front ++ put) dec
  agrees Done it = inr (answers Done put it.answer)
  agrees No it = inr (answers No put it.answer)
  agrees Refused it = inr (answers Refused put it.answer)
  agrees ReadFault it = inr (subst (λ p. Begins dec (front ++ p)) (sym it.text) due_so)
  agrees WriteFault (inl it) = cut (t.due got) (it.1.0, it.1.2) due_so
  agrees WriteFault (inr it) = cut it.text (it.front.0, it.front.2) (answers it.status it.text it.answer)
  agrees Memory it = cut (t.due got) it.text due_so
  agrees Usage it = absurd it

-- a feed that was served, or paused
pub served_so_far : (at_end : AtEnd) (status : Status) (x put : List ℕ) (ended : Bool)
    → Ends (feed_talk at_end) status x put ended → IsServedSoFar x put
served_so_far at_end status x put ended it = record {
  kept = kept_so x;
  text = agrees (feed_talk at_end) x put ended [] (decided_text x) (due_has x)
      (λ s text answer. answer_has at_end x ended s text answer) status it;
}
