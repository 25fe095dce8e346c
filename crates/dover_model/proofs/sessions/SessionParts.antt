-- A valid session's parts: what its test says of its items one by one, as facts.
use Rattle.std.proofs.Common.{◌≡◌, ℕ, ◌^◌, ◌<◌, ◌≤◌, ◌↔◌, List, [], ◌∷◌, ◌++◌, length, max, Option, Some, None, IsTrue}
use Rattle.std.proofs.Common.{refl, ap, subst, sym, ◌∙◌, Bool, true, false, not, eqb-true, eq-eqb, ◌==◌, ◌&&◌, nat_lt}
use Rattle.dover_model.proofs.lists.Tests.{never, both, at_most, below, each}
use Rattle.dover_model.specs.Common.{Refusal, BadJob, Count, Total, Ratio, Late, Full, last_tick_in, most_items}
use Rattle.dover_model.specs.Common.{JobFacts}
use Rattle.dover_model.specs.Common.{job_numbers, AreShort, Declaration, IsValid, Item, JobItem, RefusedItem}
use Rattle.dover_model.specs.Common.{RefusedJob, Session, instance_of, refuses_lines, refusal_at, early_at, is_right}
use Rattle.dover_model.specs.Common.{Refused, RefusedLine, RefusedDone, FinishItem, EarlyFinish, may_finish_early}
use Rattle.dover_model.specs.Common.{session_with, is_same_refusal, is_full, refused_mark, IsValidSession}
use Rattle.dover_model.specs.Common.{is_valid_session, may_be_refused, IsDeclarable, Factor, Version, Three}
use Rattle.dover_model.specs.Limits.{most_digits}
use Rattle.dover_model.specs.Session.{may_refuse, is_finish, is_refusal, may_be_admitted, follows_items, may_finish}
use Rattle.dover_model.specs.Session.{takes_factors}
use Rattle.dover_model.proofs.lists.Members.{some_same}
use Rattle.std.specs.List.{list_all}

-- a job line may be refused behind a session at this mark, which it has raised if it had to
pub record MayRefuseJob (S : Session) (mark : ℕ) (j : JobFacts) (refusal : Refusal) : Type 0 where
  pub version : refuses_lines S.rules.version ≡ true
  pub numerals : AreShort (job_numbers j)
  pub cause : refusal_at S mark j ≡ Some refusal
  pub raised : refused_mark mark j refusal ≡ mark

-- a done line may be refused behind a session at this mark, which it has raised
pub record MayRefuseDone (S : Session) (mark tick number : ℕ) : Type 0 where
  pub version : may_finish_early S.rules.version ≡ true
  pub numerals : AreShort (number ∷ [])
  pub no_later : tick ≤ mark
  pub cause : is_right S mark tick number ≡ false

-- the same of any line
abbrev pub MayRefuse : Session → ℕ → RefusedLine → Type 0
MayRefuse S mark (RefusedJob j refusal) = MayRefuseJob S mark j refusal
MayRefuse S mark (RefusedDone tick number) = MayRefuseDone S mark tick number

-- a refused line may stand behind a session, at this mark
pub record MayBeRefused (S : Session) (mark : ℕ) (r : Refused) : Type 0 where
  pub no_fall : mark ≤ r.at
  pub known : r.at ≤ last_tick_in S.rules.version
  pub line : MayRefuse S r.at r.line

-- a finish may stand behind a session, at this mark
pub record MayFinish (S : Session) (mark : ℕ) (f : EarlyFinish) : Type 0 where
  pub no_fall : mark ≤ f.at
  pub known : f.at ≤ last_tick_in S.rules.version
  pub right : early_at S f.at f.finish.number ≡ Some f

-- a job that is valid with those before it may stand behind a session, at this mark
pub record MayBeAdmitted (S : Session) (mark : ℕ) (j : JobFacts) : Type 0 where
  pub no_fall : mark ≤ j.release
  pub room : is_full (instance_of S) j.release ≡ false

-- each item may stand at this mark behind the items before it
abbrev pub FollowsItems : Declaration → List Item → ℕ → List Item → Type 0
FollowsItems rules before mark [] = Unit {0}
FollowsItems rules before mark (JobItem j ∷ items) = MayBeAdmitted (session_with rules before) mark j
    × FollowsItems rules (before ++ JobItem j ∷ []) (max mark j.release) items
FollowsItems rules before mark (RefusedItem r ∷ items) = MayBeRefused (session_with rules before) mark r
    × FollowsItems rules (before ++ RefusedItem r ∷ []) (max mark r.at) items
FollowsItems rules before mark (FinishItem f ∷ items) = MayFinish (session_with rules before) mark f
    × FollowsItems rules (before ++ FinishItem f ∷ []) (max mark f.at) items

-- what a session declares may be declared, its jobs are valid, its items aren't too many, and each may stand where it
-- stands
pub record SessionParts (S : Session) : Type 0 where
  pub declared : IsDeclarable S.rules
  pub jobs : IsValid (instance_of S)
  pub count : length S.items ≤ most_items S.rules.version
  pub items : FollowsItems S.rules [] 0 S.items

-- ---- the tests

-- numbers that have numerals
numerals_agree : (ns : List ℕ) → IsTrue (list_all (λ n. nat_lt n (10 ^ most_digits)) ns) ↔ AreShort ns
numerals_agree ns = each _ _ (λ n. below _ _) ns

-- a test that fails
not-agrees : (b : Bool) → IsTrue (not b) ↔ (b ≡ false)
not-agrees true = (λ h. never h, λ e. never (sym e))
not-agrees false = (λ h. refl, λ e. refl)

-- refusals that pass as the same are the same
same_refusal : (one other : Refusal) → IsTrue (is_same_refusal one other) → one ≡ other
same_refusal BadJob BadJob h = refl
same_refusal Count Count h = refl
same_refusal Total Total h = refl
same_refusal Ratio Ratio h = refl
same_refusal Late Late h = refl
same_refusal Full Full h = refl
same_refusal _ _ h = never h

-- each passes with itself
refusal_itself : (refusal : Refusal) → IsTrue (is_same_refusal refusal refusal)
refusal_itself BadJob = refl
refusal_itself _ = refl

-- the cause of a refusal
is_refusal-agrees : (cause : Option Refusal) (refusal : Refusal)
    → IsTrue (is_refusal cause refusal) ↔ (cause ≡ Some refusal)
is_refusal-agrees None refusal = (λ h. never h, λ e. absurd (let n : None ≡ Some refusal = e in cc))
is_refusal-agrees (Some cause) refusal = (
  λ h. ap Some (same_refusal cause refusal h),
  λ e. subst (λ r. IsTrue (is_same_refusal cause r))
      (let same : Some cause ≡ Some refusal = e in cc) (refusal_itself cause),
)

-- a line that may be refused
pub may_refuse-agrees : (S : Session) (mark : ℕ) (line : RefusedLine)
    → IsTrue (may_refuse S mark line) ↔ MayRefuse S mark line
may_refuse-agrees S mark (RefusedJob j refusal) = (
  λ h. let f = parts.0 h in record { version = f.0.0.0; numerals = f.0.0.1; cause = f.0.1; raised = f.1 },
  λ r. parts.1 (((r.version, r.numerals), r.cause), r.raised),
) where
  parts : IsTrue (may_refuse S mark (RefusedJob j refusal))
      ↔ ((((refuses_lines S.rules.version ≡ true) × AreShort (job_numbers j))
      × (refusal_at S mark j ≡ Some refusal)) × (refused_mark mark j refusal ≡ mark))
  parts = both _ _ (both _ _ (both _ _ (λ h. h, λ h. h) (numerals_agree (job_numbers j))) (is_refusal-agrees _ _))
      (λ h. eqb-true _ _ h, λ e. eq-eqb _ _ e)
may_refuse-agrees S mark (RefusedDone tick number) = (
  λ h. let f = parts.0 h in record { version = f.0.0.0; numerals = (f.0.0.1, tt); no_later = f.0.1; cause = f.1 },
  λ r. parts.1 (((r.version, r.numerals.0), r.no_later), r.cause),
) where
  parts : IsTrue (may_refuse S mark (RefusedDone tick number))
      ↔ ((((may_finish_early S.rules.version ≡ true) × (number < 10 ^ most_digits)) × (tick ≤ mark))
      × (is_right S mark tick number ≡ false))
  parts = both _ _ (both _ _ (both _ _ (λ h. h, λ h. h) (below _ _)) (at_most _ _))
      (not-agrees (is_right S mark tick number))

-- a refused line
pub may_be_refused-agrees : (S : Session) (mark : ℕ) (r : Refused)
    → IsTrue (may_be_refused S mark r) ↔ MayBeRefused S mark r
may_be_refused-agrees S mark r = (
  λ h. let f = parts.0 h in record { no_fall = f.0.0; known = f.0.1; line = f.1 },
  λ m. parts.1 ((m.no_fall, m.known), m.line),
) where
  parts : IsTrue (may_be_refused S mark r)
      ↔ (((mark ≤ r.at) × (r.at ≤ last_tick_in S.rules.version)) × MayRefuse S r.at r.line)
  parts = both _ _ (both _ _ (at_most _ _) (at_most _ _)) (may_refuse-agrees S r.at r.line)

-- the finish is that one
is_finish-agrees : (o : Option EarlyFinish) (f : EarlyFinish) → IsTrue (is_finish o f) ↔ (o ≡ Some f)
is_finish-agrees None f = (λ h. never h, λ e. absurd (let n : None ≡ Some f = e in cc))
is_finish-agrees (Some g) f = (
  λ h. same_finish (is_there.0 h),
  λ e. let same : Some g ≡ Some f = e in
      subst (λ x. IsTrue (is_finish (Some g) x)) (some_same g f same) (itself g),
) where
  is_there : IsTrue (is_finish (Some g) f)
      ↔ ((IsTrue (g.at == f.at) × IsTrue (g.finish.number == f.finish.number)) × IsTrue (g.finish.had == f.finish.had))
  is_there = both _ _ (both _ _ (λ h. h, λ h. h) (λ h. h, λ h. h)) (λ h. h, λ h. h)

  same_finish : (IsTrue (g.at == f.at) × IsTrue (g.finish.number == f.finish.number))
      × IsTrue (g.finish.had == f.finish.had)
      → Some g ≡ Some f
  same_finish it = ap (λ n. Some (record { at = n; finish = g.finish })) (eqb-true _ _ it.0.0)
      ∙ ap (λ n. Some (record { at = f.at; finish = record { number = n; had = g.finish.had } })) (eqb-true _ _ it.0.1)
      ∙ ap (λ n. Some (record { at = f.at; finish = record { number = f.finish.number; had = n } })) (eqb-true _ _ it.1)

  itself : (g : EarlyFinish) → IsTrue (is_finish (Some g) g)
  itself g = by_tests (g.at == g.at) (g.finish.number == g.finish.number) (g.finish.had == g.finish.had)
      (eq-eqb g.at g.at refl) (eq-eqb g.finish.number g.finish.number refl) (eq-eqb g.finish.had g.finish.had refl)
    where
      by_tests : (a b c : Bool) → a ≡ true → b ≡ true → c ≡ true → IsTrue (a && b && c)
      by_tests true true true ea eb ec = refl
      by_tests false b c ea eb ec = never ea
      by_tests true false c ea eb ec = never eb
      by_tests true true false ea eb ec = never ec

-- an early finish
pub may_finish-agrees : (S : Session) (mark : ℕ) (f : EarlyFinish) → IsTrue (may_finish S mark f) ↔ MayFinish S mark f
may_finish-agrees S mark f = (
  λ h. let it = parts.0 h in record { no_fall = it.0.0; known = it.0.1; right = it.1 },
  λ m. parts.1 ((m.no_fall, m.known), m.right),
) where
  parts : IsTrue (may_finish S mark f)
      ↔ (((mark ≤ f.at) × (f.at ≤ last_tick_in S.rules.version)) × (early_at S f.at f.finish.number ≡ Some f))
  parts = both _ _ (both _ _ (at_most _ _) (at_most _ _)) (is_finish-agrees _ _)

-- a job that may be admitted
pub may_be_admitted-agrees : (S : Session) (mark : ℕ) (j : JobFacts)
    → IsTrue (may_be_admitted S mark j) ↔ MayBeAdmitted S mark j
may_be_admitted-agrees S mark j = (
  λ h. let it = parts.0 h in record { no_fall = it.0; room = it.1 },
  λ m. parts.1 (m.no_fall, m.room),
) where
  parts : IsTrue (may_be_admitted S mark j) ↔ ((mark ≤ j.release) × (is_full (instance_of S) j.release ≡ false))
  parts = both _ _ (at_most _ _) (not-agrees (is_full (instance_of S) j.release))

-- items that follow each other
pub follows_items-agrees : (rules : Declaration) (before : List Item) (mark : ℕ) (items : List Item)
    → IsTrue (follows_items rules before mark items) ↔ FollowsItems rules before mark items
follows_items-agrees rules before mark [] = (λ h. tt, λ h. refl)
follows_items-agrees rules before mark (JobItem j ∷ items) =
    both _ _ (may_be_admitted-agrees (session_with rules before) mark j)
    (follows_items-agrees rules (before ++ JobItem j ∷ []) (max mark j.release) items)
follows_items-agrees rules before mark (RefusedItem r ∷ items) =
    both _ _ (may_be_refused-agrees (session_with rules before) mark r)
    (follows_items-agrees rules (before ++ RefusedItem r ∷ []) (max mark r.at) items)
follows_items-agrees rules before mark (FinishItem f ∷ items) =
    both _ _ (may_finish-agrees (session_with rules before) mark f)
    (follows_items-agrees rules (before ++ FinishItem f ∷ []) (max mark f.at) items)

-- ---- valid sessions

-- where jobs may finish early, a factor may be declared
pub early_declarable : (declared : Declaration) → may_finish_early declared.version ≡ true → IsDeclarable declared
early_declarable declared three = by declared.ratio.factor declared.version three where
  by : (o : Option Factor) (v : Version) → may_finish_early v ≡ true
      → elim o [ None ↦ true | Some f ↦ takes_factors v ] ≡ true
  by None v three = refl
  by (Some f) Three three = refl
  by (Some f) _ three = three

-- whether a session is valid, by its parts
session_agrees : (S : Session) → IsTrue (is_valid_session S) ↔ SessionParts S
session_agrees S = (
  λ h. let f = parts.0 h in record { declared = f.0.0.0; jobs = f.0.0.1; count = f.0.1; items = f.1 },
  λ r. parts.1 (((r.declared, r.jobs), r.count), r.items),
) where
  parts : IsTrue (is_valid_session S)
      ↔ (((IsDeclarable S.rules × IsValid (instance_of S)) × (length S.items ≤ most_items S.rules.version))
      × FollowsItems S.rules [] 0 S.items)
  parts = both _ _ (both _ _ (both _ _ (λ h. h, λ h. h) (λ h. record { passes = h }, λ valid. valid.passes))
      (at_most _ _)) (follows_items-agrees _ _ _ _)

-- the parts of a valid session
pub session_parts : {S : Session} → IsValidSession S → SessionParts S
session_parts {S} valid = (session_agrees S).0 valid.passes

-- among them what it declares
pub session_declared : {S : Session} → IsValidSession S → IsDeclarable S.rules
session_declared valid = (session_parts valid).declared

-- and its jobs
pub session_jobs : {S : Session} → IsValidSession S → IsValid (instance_of S)
session_jobs valid = (session_parts valid).jobs

-- a session with these parts is valid
pub session_from : {S : Session} → SessionParts S → IsValidSession S
session_from {S} parts = record { passes = (session_agrees S).1 parts }
