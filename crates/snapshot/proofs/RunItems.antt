-- A session without its refused lines, which has the same run.
use Rattle.std.proofs.Common.{◌≡◌, ℕ, ◌≤◌, max, inl, inr, List, [], ◌∷◌, ◌++◌, length, map, append-nil, refl, sym}
use Rattle.std.proofs.Common.{ap, ◌∙◌, subst, arith, cond, None}
use Rattle.dover_model.specs.Common.{Declaration, IsValid, under, most_items}
use Rattle.dover_model.specs.Common.{Item, JobItem, RefusedItem, FinishItem, Session}
use Rattle.dover_model.specs.Common.{IsValidSession, IsDeclarable, admitted_jobs, early_finishes, refused_of_item}
use Rattle.dover_model.specs.Common.{instance_of, session_with, may_finish_early, finish_at, is_full, mark_after}
use Rattle.dover_model.specs.Common.{places_after}
use Rattle.dover_model.proofs.lists.Tests.{none_is_some}
use Rattle.dover_model.proofs.sessions.SessionParts.{FollowsItems, session_from}
use Rattle.snapshot.specs.Stored.{NoneRefused}

-- items of which none is refused and none is a finish are the jobs
pub jobs_only : (items : List Item) → NoneRefused items → early_finishes items ≡ []
    → items ≡ map JobItem (admitted_jobs items)
jobs_only [] good none = refl
jobs_only (JobItem j ∷ items) good none =
    ap (λ is. JobItem j ∷ is) (jobs_only items (λ i m. good i (inr m)) none)
jobs_only (RefusedItem r ∷ items) good none = none_is_some (sym (good (RefusedItem r) (inl refl)))
jobs_only (FinishItem f ∷ items) good none = absurd (let clash : f.finish ∷ early_finishes items ≡ [] = none in cc)

-- ---- a session without its refused lines

-- the item, if it isn't refused, in front of these
abbrev kept_one : Item → List Item → List Item
kept_one (JobItem j) items = JobItem j ∷ items
kept_one (RefusedItem r) items = items
kept_one (FinishItem f) items = FinishItem f ∷ items

-- the items that aren't refused
abbrev pub kept : List Item → List Item
kept [] = []
kept (i ∷ items) = kept_one i (kept items)

pub kept_append : (items more : List Item) → kept (items ++ more) ≡ kept items ++ kept more
kept_append [] more = refl
kept_append (JobItem j ∷ items) more = ap (λ is. JobItem j ∷ is) (kept_append items more)
kept_append (RefusedItem r ∷ items) more = kept_append items more
kept_append (FinishItem f ∷ items) more = ap (λ is. FinishItem f ∷ is) (kept_append items more)

pub kept_jobs : (items : List Item) → admitted_jobs (kept items) ≡ admitted_jobs items
kept_jobs [] = refl
kept_jobs (JobItem j ∷ items) = ap (λ js. j ∷ js) (kept_jobs items)
kept_jobs (_ ∷ items) = kept_jobs items

pub kept_early : (items : List Item) → early_finishes (kept items) ≡ early_finishes items
kept_early [] = refl
kept_early (FinishItem f ∷ items) = ap (λ fs. f.finish ∷ fs) (kept_early items)
kept_early (_ ∷ items) = kept_early items

pub kept_good : (items : List Item) → NoneRefused (kept items)
kept_good [] i none = absurd none
kept_good (RefusedItem r ∷ items) i m = kept_good items i m
kept_good (_ ∷ items) i (inl e) = ap refused_of_item e
kept_good (_ ∷ items) i (inr m) = kept_good items i m

pub kept_few : (items : List Item) → length (kept items) ≤ length items
kept_few [] = omega arith
kept_few (JobItem j ∷ items) = omega (arith, kept_few items)
kept_few (_ ∷ items) = omega (arith, kept_few items)

-- where none is left out, all are kept
pub kept_all : (items : List Item) → length items ≤ length (kept items) → kept items ≡ items
kept_all [] all = refl
kept_all (JobItem j ∷ items) all = ap (λ is. JobItem j ∷ is) (kept_all items (omega (arith, all)))
kept_all (RefusedItem r ∷ items) all = absurd (omega (arith, all, kept_few items))
kept_all (FinishItem f ∷ items) all = ap (λ is. FinishItem f ∷ is) (kept_all items (omega (arith, all)))

-- the run is the same
pub kept_instance : (rules : Declaration) (items : List Item)
    → instance_of (session_with rules (kept items)) ≡ instance_of (session_with rules items)
kept_instance rules items =
    ap (λ jobs. record { rules = under rules (early_finishes (kept items)); jobs = jobs }) (kept_jobs items)
    ∙ ap (λ fs. record { rules = under rules fs; jobs = admitted_jobs items }) (kept_early items)

-- and each may stand where it stood
pub kept_follows : (rules : Declaration) (before : List Item) (mark low : ℕ) (items : List Item) → low ≤ mark
    → FollowsItems rules before mark items → FollowsItems rules (kept before) low (kept items)
kept_follows rules before mark low [] below follows = tt
kept_follows rules before mark low (JobItem j ∷ items) below follows = (
  record {
    no_fall = omega (arith, below, follows.0.no_fall);
    room = ap (λ J. is_full J j.release) (kept_instance rules before) ∙ follows.0.room;
  },
  subst (λ is. FollowsItems rules is (max low j.release) (kept items)) (kept_append before (JobItem j ∷ []))
      (kept_follows rules (before ++ JobItem j ∷ []) (max mark j.release) (max low j.release) items
      (omega (arith, below)) follows.1),
)
kept_follows rules before mark low (RefusedItem r ∷ items) below follows =
    subst (λ is. FollowsItems rules is low (kept items))
    (kept_append before (RefusedItem r ∷ []) ∙ append-nil (kept before))
    (kept_follows rules (before ++ RefusedItem r ∷ []) (max mark r.at) low items (omega (arith, below)) follows.1)
kept_follows rules before mark low (FinishItem f ∷ items) below follows = (
  record {
    no_fall = omega (arith, below, follows.0.no_fall);
    known = follows.0.known;
    right = ap (λ J. cond (may_finish_early rules.version)
        (finish_at J f.at f.finish.number) None) (kept_instance rules before)
        ∙ follows.0.right;
  },
  subst (λ is. FollowsItems rules is (max low f.at) (kept items)) (kept_append before (FinishItem f ∷ []))
      (kept_follows rules (before ++ FinishItem f ∷ []) (max mark f.at) (max low f.at) items
      (omega (arith, below)) follows.1),
)

-- a refused line alone has a place
pub no_places : (rules : Declaration) (before items : List Item) → NoneRefused items → places_after rules before items
    ≡ []
no_places rules before [] good = refl
no_places rules before (JobItem j ∷ items) good =
    no_places rules (before ++ JobItem j ∷ []) items (λ i m. good i (inr m))
no_places rules before (RefusedItem r ∷ items) good = none_is_some (sym (good (RefusedItem r) (inl refl)))
no_places rules before (FinishItem f ∷ items) good =
    no_places rules (before ++ FinishItem f ∷ []) items (λ i m. good i (inr m))

-- the mark behind the items that are kept isn't above that behind all
pub kept_mark : (mark low : ℕ) (items : List Item) → low ≤ mark → mark_after low (kept items) ≤ mark_after mark items
kept_mark mark low [] below = below
kept_mark mark low (JobItem j ∷ items) below =
    kept_mark (max mark j.release) (max low j.release) items (omega (arith, below))
kept_mark mark low (RefusedItem r ∷ items) below = kept_mark (max mark r.at) low items (omega (arith, below))
kept_mark mark low (FinishItem f ∷ items) below = kept_mark (max mark f.at) (max low f.at) items (omega (arith, below))

module _ (S : Session) (declared : IsDeclarable S.rules) (valid : IsValid (instance_of S))
    (follows : FollowsItems S.rules [] 0 S.items) (few : length (kept S.items) ≤ most_items S.rules.version) where
  -- without its refused lines
  abbrev pub kept_session : Session
  kept_session = session_with S.rules (kept S.items)

  pub kept_valid : IsValidSession kept_session
  kept_valid = session_from (record {
    declared = declared;
    jobs = subst IsValid (sym (kept_instance S.rules S.items)) valid;
    count = few;
    items = kept_follows S.rules [] 0 0 S.items (omega arith) follows;
  })
