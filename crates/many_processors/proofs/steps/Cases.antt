-- The cases of a step, each with what holds where it applies.
use Rattle.std.specs.Bool.{then_some}
use Rattle.std.proofs.Common.{◌≡◌, ◌≤◌, ◌<◌, ◌⊎◌, inl, inr, List, [], ◌∷◌, refl, sym, ap, ◌∙◌, subst}
use Rattle.std.proofs.Common.{Bool, true, false, cond, arith, filter, Option, Some, None, ◌==◌, ◌||◌}
use Rattle.std.proofs.Common.{nat_lt, ltb-true, ltb-false}
use Rattle.std.specs.List.{list_all}
use Rattle.dover_model.specs.declared.events.Event.TheVariants.{Run, Preempt, Take, Complete, Abandon, End, Release}
use Rattle.dover_model.specs.declared.events.Task.{Task}
use Rattle.dover_model.specs.Common.{Rules, Fraction, Finish, IsMember, Each, IsHeavy, is_heavy, first, earlier}
use Rattle.dover_model.specs.Common.{is_over, is_done}
use Rattle.dover_model.specs.State.{value_sum}
use Rattle.dover_model.specs.Common.{waiting_order, by_density, left, View, is_waiting, starts_before}
use Rattle.dover_model.specs.Common.{is_at_latest_start}
use Rattle.dover_model.specs.Finishes.{has_come_to, is_due}
use Rattle.dover_model.specs.Step as single
use Rattle.dover_model.proofs.lists.Tests.{never, none_is_some}
use Rattle.dover_model.proofs.lists.Members.{some_same, found, not_found, member_filter, reduce_least, reduce_none}
use Rattle.dover_model.proofs.lists.FirstOfTasks.{first_member}
use Rattle.dover_model.proofs.steps.Cases.{Settles, Busy, Free, NoneArrives, Case, Resumes, Starts, Begins, Preempts}
use Rattle.dover_model.proofs.steps.Cases.{Stays}
use Rattle.dover_model.proofs.steps.Cases.{Arrives, Takes, Abandons}
use Rattle.dover_model.proofs.bound.Calculus.{heavy_mono}
use Rattle.many_processors.specs.State.{State, tasks_of}
use Rattle.many_processors.specs.Step.{Move, Prints, Ticks, on, Seen, front, ◌or_else◌, ◌or_try◌, first_some}
use Rattle.many_processors.specs.Step.{for_one, placed, is_none, is_free, free_one, completion_of, finish_on, finishing}
use Rattle.many_processors.specs.Step.{completion, resumption_of, resumption, dispatch, deciding, decision, arrival}
use Rattle.many_processors.specs.Step.{alarm}
use Rattle.many_processors.specs.Step.{least_valued, ending, urgent_or, is_preempted, runs_longer}
use Rattle.many_processors.proofs.steps.Seeing.{Sees, whole}

-- ---- answers

-- there is an answer, or something else is done
pub or_split : {X : Type 0} (o : Option X) (other m : X) → (o or_else other) ≡ m
    → (o ≡ Some m) ⊎ ((o ≡ None) × (other ≡ m))
or_split None other m is = inr (refl, is)
or_split (Some x) other m is = inl (ap Some is)

-- the same of two answers
pub try_split : {X : Type 0} (o other : Option X) (m : X) → (o or_try other) ≡ Some m
    → (o ≡ Some m) ⊎ ((o ≡ None) × (other ≡ Some m))
try_split None other m is = inr (refl, is)
try_split (Some x) other m is = inl is

-- where neither is there
pub try_none : {X : Type 0} (o other : Option X) → (o or_try other) ≡ None → (o ≡ None) × (other ≡ None)
try_none None other is = (refl, is)
try_none (Some x) other is = none_is_some (sym is)

-- there is one, or none
some_or_none : {X : Type 0} (o : Option X) → (o ≡ None) ⊎ ((x : X) × (o ≡ Some x))
some_or_none None = inl refl
some_or_none (Some x) = inr (x, refl)

-- the first answer is that of a member
pub answered : {X Y : Type 0} (f : X → Option Y) (xs : List X) (y : Y) → first_some f xs ≡ Some y
    → (x : X) × IsMember x xs × (f x ≡ Some y)
answered f [] y is = none_is_some is
answered f (x ∷ xs) y is = by_first (try_split (f x) (first_some f xs) y is) (answered f xs y) where
  by_first : (f x ≡ Some y) ⊎ ((f x ≡ None) × (first_some f xs ≡ Some y))
      → (first_some f xs ≡ Some y → (z : _) × IsMember z xs × (f z ≡ Some y))
      → (z : _) × IsMember z (x ∷ xs) × (f z ≡ Some y)
  by_first (inl here) more = (x, inl refl, here)
  by_first (inr later) more = let it = more later.1 in (it.0, inr it.1, it.2)

-- where there is none, no member answers
pub unanswered : {X Y : Type 0} (f : X → Option Y) (xs : List X) → first_some f xs ≡ None → Each (λ x. f x ≡ None) xs
unanswered f [] none y member = absurd member
unanswered f (x ∷ xs) none y (inl e) = subst (λ z. f z ≡ None) (sym e) (try_none (f x) (first_some f xs) none).0
unanswered f (x ∷ xs) none y (inr member) = unanswered f xs (try_none (f x) (first_some f xs) none).1 y member

-- the answer for the one is that of some
pub for_some : {X Y : Type 0} (f : X → Option Y) (o : Option X) (y : Y) → for_one f o ≡ Some y
    → (x : X) × (o ≡ Some x) × (f x ≡ Some y)
for_some f None y is = none_is_some is
for_some f (Some x) y is = (x, refl, is)

-- a front is a member
pub front_member : {X : Type 0} (xs : List X) (x : X) → front xs ≡ Some x → IsMember x xs
front_member [] x is = none_is_some is
front_member (y ∷ xs) x is = inl (sym (some_same y x is))

-- where there is none there is no member
pub front_none : {X : Type 0} (xs : List X) → front xs ≡ None → Each (λ x. ⊥) xs
front_none [] none x member = member
front_none (y ∷ xs) none x member = none_is_some (sym none)

-- a test of an option
pub none_from : {X : Type 0} (o : Option X) → is_none o ≡ true → o ≡ None
none_from None is = refl
none_from (Some x) is = never is

pub some_from : {X : Type 0} (o : Option X) → is_none o ≡ false → (x : X) × (o ≡ Some x)
some_from None is = never (sym is)
some_from (Some x) is = (x, refl)

-- what an option gives where a test holds
then_parts : {X : Type 0} (b : Bool) (x y : X) → then_some b x ≡ Some y → (b ≡ true) × (x ≡ y)
then_parts true x y is = (refl, some_same x y is)
then_parts false x y is = none_is_some is

pub then_none : {X : Type 0} (b : Bool) (x : X) → then_some b x ≡ None → b ≡ false
then_none true x is = none_is_some (sym is)
then_none false x is = refl

-- ---- one processor

-- a job is abandoned
abbrev pub is_gone : single.Move → Bool
is_gone (single.Prints (Abandon at n)) = true
is_gone _ = false

-- the run ends
abbrev pub is_ending : single.Move → Bool
is_ending (single.Prints (End value)) = true
is_ending _ = false

-- the case of one processor that a move is, an abandonment or not. (What is done where none applies is out of reach:
-- the end of a run.)
pub record Acts (k : Fraction) (q : Seen) (gone : Bool) (m : Move) : Type 0 where
  pub move : single.Move
  pub is : m ≡ on q.processor move
  pub kind : is_gone move ≡ gone
  pub goes_on : is_ending move ≡ false
  pub case : Case k q.view (single.Prints (End 0)) move

-- the job has nothing left, or has come to a finish
abbrev pub is_finished : List Finish → Task → Bool
is_finished finishes t = left t == 0 || is_due finishes t

-- where a processor has one that completes
pub completion_acts : (finishes : List Finish) (q : Seen) (m : Move) (o : Option Task) → completion_of q o ≡ Some m
    → (t : Task) × (o ≡ Some t) × (is_finished finishes t ≡ true)
    × (m ≡ Prints q.processor (Complete q.view.clock t.number))
completion_acts finishes q m None some = none_is_some some
completion_acts finishes q m (Some t) some =
    let it = then_parts (left t == 0) _ m some in (t, refl, ap (λ b. b || is_due finishes t) it.0, sym it.1)

-- or one that comes to a finish
finish_acts : (finishes : List Finish) (f : Finish) → IsMember f finishes → (q : Seen) (m : Move) (o : Option Task)
    → finish_on f q o ≡ Some m
    → (t : Task) × (o ≡ Some t) × (is_finished finishes t ≡ true)
    × (m ≡ Prints q.processor (Complete q.view.clock t.number))
finish_acts finishes f member q m None some = none_is_some some
finish_acts finishes f member q m (Some t) some =
    let it = then_parts (has_come_to t f) _ m some in
    (t, refl, last (left t == 0) (is_due finishes t) (due_member finishes member it.0), sym it.1) where
      last : (a b : Bool) → b ≡ true → (a || b) ≡ true
      last true b e = refl
      last false b e = e

      due_member : (fs : List Finish) → IsMember f fs → has_come_to t f ≡ true → is_due fs t ≡ true
      due_member [] m h = absurd m
      due_member (g ∷ fs) (inl e) h = ap (λ b. b || is_due fs t) (ap (has_come_to t) (sym e) ∙ h)
      due_member (g ∷ fs) (inr m) h = last (has_come_to t g) (is_due fs t) (due_member fs m h)

-- where none comes to one, none is due
pub none_finishes : (finishes : List Finish) (all : List Seen) → first_some (finishing all) finishes ≡ None
    → Each (λ q. (t : Task) → q.view.running ≡ Some t → is_due finishes t ≡ false) all
none_finishes [] all none q member t runs = refl
none_finishes (f ∷ finishes) all none q member t runs =
    ap (λ b. b || is_due finishes t) (then_none _ _ here) ∙ none_finishes finishes all both.1 q member t runs where
      both : (finishing all f ≡ None) × (first_some (finishing all) finishes ≡ None)
      both = try_none (finishing all f) (first_some (finishing all) finishes) none

      here : finish_on f q (Some t) ≡ None
      here = subst (λ o. finish_on f q o
          ≡ None) runs (unanswered (λ q. finish_on f q q.view.running) all both.0 q member)

-- the move gives a processor to a job that waits or is held on it
abbrev pub is_run : Move → Bool
is_run (Prints q (Run at n)) = true
is_run _ = false

-- it gives it to one that takes it
abbrev pub is_take : Move → Bool
is_take (Prints q (Take at r n)) = true
is_take _ = false

-- cases 4 and 5 don't
decision_takes : (q : Seen) (m : Move) → decision q ≡ Some m → is_take m ≡ false
decision_takes q m some = by_parts q.view.running q.view.fresh some where
  by_parts : (ro f : Option Task) → placed q (single.decision q.view ro f) ≡ Some m → is_take m ≡ false
  by_parts ro None some = none_is_some some
  by_parts None (Some f) some = ap is_take (sym (some_same _ _ some))
  by_parts (Some r) (Some f) some = by_room (single.preempts q.view f r) some where
    by_room : (b : Bool)
        → placed q (Some (cond b (single.Prints (Preempt q.view.clock r.number f.number)) (single.Waits f.number)))
        ≡ Some m → is_take m ≡ false
    by_room true some = ap is_take (sym (some_same _ _ some))
    by_room false some = ap is_take (sym (some_same _ _ some))

arrival_takes : (q : Seen) (m : Move) → arrival q ≡ Some m → is_take m ≡ false
arrival_takes q m some = by_parts q.view.coming some where
  by_parts : (c : Option Task) → placed q (single.arrival q.view c) ≡ Some m → is_take m ≡ false
  by_parts None some = none_is_some some
  by_parts (Some c) some = by_time (c.job.release == q.view.clock) some where
    by_time : (b : Bool) → placed q (then_some b (single.Prints (Release c.number c.job))) ≡ Some m → is_take m ≡ false
    by_time false some = none_is_some some
    by_time true some = ap is_take (sym (some_same _ _ some))

-- cases 2 and 3 do
pub resumption_runs : (q : Seen) (m : Move) → resumption q ≡ Some m → is_run m ≡ true
resumption_runs q m some = by_held q.view.first_held some where
  by_parts : (ro : Option Task) (p : Task) → placed q (single.dispatch q.view ro (Some p) q.view.first_waiting) ≡ Some m
      → is_run m ≡ true
  by_parts (Some r) p some = none_is_some some
  by_parts None p some = ap is_run (sym (some_same _ _ some))

  by_held : (p : Option Task) → resumption_of q p ≡ Some m → is_run m ≡ true
  by_held None some = none_is_some some
  by_held (Some p) some = by_parts q.view.running p some

pub dispatch_runs : (q : Seen) (m : Move) → dispatch q ≡ Some m → is_run m ≡ true
dispatch_runs q m some = by_parts q.view.running q.view.first_held q.view.first_waiting some where
  by_parts : (ro p o : Option Task) → placed q (single.dispatch q.view ro p o) ≡ Some m → is_run m ≡ true
  by_parts (Some r) p o some = none_is_some some
  by_parts None (Some p) o some = ap is_run (sym (some_same _ _ some))
  by_parts None None (Some o) some = ap is_run (sym (some_same _ _ some))
  by_parts None None None some = none_is_some some

module _ (k : Fraction) (q : Seen) where
  -- what a processor with this running and this held job does
  abbrev resumed_by : Option Task → Option Task → Option Move
  resumed_by ro None = None
  resumed_by ro (Some p) = placed q (single.dispatch q.view ro (Some p) q.view.first_waiting)

  -- a processor that is free and holds a job
  resumption_acts : (m : Move) → resumption q ≡ Some m → Acts k q false m
  resumption_acts m some = by_held q.view.running q.view.first_held refl refl
      (same q.view.first_held some) where
        same : (p : Option Task) → resumption_of q p ≡ Some m → resumed_by q.view.running p ≡ Some m
        same None e = e
        same (Some p) e = e

        by_held : (ro p : Option Task) → q.view.running ≡ ro → q.view.first_held ≡ p → resumed_by ro p ≡ Some m
            → Acts k q false m
        by_held ro None e f some = none_is_some some
        by_held (Some r) (Some p) e f some = none_is_some some
        by_held None (Some p) e f some = record {
          move = single.runs q.view (single.resumed q.view p q.view.first_waiting);
          is = sym (some_same _ _ some);
          kind = refl;
          goes_on = refl;
          case = Resumes p e f;
        }

  -- where it isn't so, a free processor holds none
  resumption_none : resumption q ≡ None → q.view.running ≡ None → q.view.first_held ≡ None
  resumption_none none free = by_held q.view.running q.view.first_held free (same q.view.first_held none) where
    same : (p : Option Task) → resumption_of q p ≡ None → resumed_by q.view.running p ≡ None
    same None e = e
    same (Some p) e = e

    by_held : (ro p : Option Task) → ro ≡ None → resumed_by ro p ≡ None → p ≡ None
    by_held ro None e none = refl
    by_held None (Some p) e none = none_is_some (sym none)
    by_held (Some r) (Some p) e none = none_is_some (sym e)

  -- a processor that is free, where a job waits
  dispatch_acts : (m : Move) → dispatch q ≡ Some m → Acts k q false m
  dispatch_acts m some = by_parts q.view.running q.view.first_held q.view.first_waiting refl refl refl some where
    by_parts : (ro p o : Option Task) → q.view.running ≡ ro → q.view.first_held ≡ p → q.view.first_waiting ≡ o
        → placed q (single.dispatch q.view ro p o) ≡ Some m → Acts k q false m
    by_parts (Some r) p o e f g some = none_is_some some
    by_parts None (Some p) o e f g some = record {
      move = single.runs q.view (single.resumed q.view p o);
      is = sym (some_same _ _ some);
      kind = refl;
      goes_on = refl;
      case = subst (λ w. Case k q.view (single.Prints (End 0)) (single.runs q.view (single.resumed q.view p w))) g
          (Resumes p e f);
    }
    by_parts None None (Some o) e f g some = record {
      move = single.runs q.view o;
      is = sym (some_same _ _ some);
      kind = refl;
      goes_on = refl;
      case = Starts o e f g;
    }
    by_parts None None None e f g some = none_is_some some

  -- where it isn't so, none waits
  dispatch_none : is_free q ≡ true → dispatch q ≡ None → q.view.first_waiting ≡ None
  dispatch_none free none = by_parts q.view.running q.view.first_held q.view.first_waiting free none where
    by_parts : (ro p o : Option Task) → is_none ro ≡ true → placed q (single.dispatch q.view ro p o) ≡ None → o ≡ None
    by_parts (Some r) p o e none = never e
    by_parts None (Some p) o e none = none_is_some (sym none)
    by_parts None None (Some o) e none = none_is_some (sym none)
    by_parts None None None e none = refl

  -- cases 1 to 3 don't apply to it
  settles_at : completion q ≡ None → resumption q ≡ None
      → (is_free q ≡ true → q.view.first_waiting ≡ None) → Settles q.view q.view.running
  settles_at going holding waits = by_running q.view.running refl going waits where
    by_running : (ro : Option Task) → q.view.running ≡ ro → completion_of q ro ≡ None
        → (is_none ro ≡ true → q.view.first_waiting ≡ None) → Settles q.view ro
    by_running None e going waits = Free e (resumption_none holding e) (waits refl)
    by_running (Some r) e going waits = Busy r e (then_none _ _ going)

  -- a fresh job is decided on
  decision_acts : (m : Move) → Settles q.view q.view.running → decision q ≡ Some m → Acts k q false m
  decision_acts m settles some = by_parts q.view.running q.view.fresh settles refl some where
    by_parts : (ro f : Option Task) → Settles q.view ro → q.view.fresh ≡ f
        → placed q (single.decision q.view ro f) ≡ Some m → Acts k q false m
    by_parts ro None settles fresh some = none_is_some some
    by_parts None (Some f) settles fresh some = record {
      move = single.runs q.view f;
      is = sym (some_same _ _ some);
      kind = refl;
      goes_on = refl;
      case = Begins f settles fresh;
    }
    by_parts (Some r) (Some f) settles fresh some = by_room (single.preempts q.view f r) refl some where
      by_room : (b : Bool) → single.preempts q.view f r ≡ b
          → placed q (Some (cond b (single.Prints (Preempt q.view.clock r.number f.number)) (single.Waits f.number)))
          ≡ Some m → Acts k q false m
      by_room true fits some = record {
        move = single.Prints (Preempt q.view.clock r.number f.number);
        is = sym (some_same _ _ some);
        kind = refl;
        goes_on = refl;
        case = Preempts r f settles fresh fits;
      }
      by_room false tight some = record {
        move = single.Waits f.number;
        is = sym (some_same _ _ some);
        kind = refl;
        goes_on = refl;
        case = Stays r f settles fresh tight;
      }

  -- where it isn't so, none is fresh
  decision_none : decision q ≡ None → q.view.fresh ≡ None
  decision_none none = by_parts q.view.running q.view.fresh none where
    by_parts : (ro f : Option Task) → placed q (single.decision q.view ro f) ≡ None → f ≡ None
    by_parts ro None none = refl
    by_parts None (Some f) none = none_is_some (sym none)
    by_parts (Some r) (Some f) none = none_is_some (sym none)

  -- a job is released
  arrival_acts : (m : Move) → Settles q.view q.view.running → q.view.fresh ≡ None → arrival q ≡ Some m
      → Acts k q false m
  arrival_acts m settles stale some = by_coming q.view.coming refl some where
    by_coming : (c : Option Task) → q.view.coming ≡ c → placed q (single.arrival q.view c) ≡ Some m → Acts k q false m
    by_coming None e some = none_is_some some
    by_coming (Some c) e some = by_time (c.job.release == q.view.clock) refl some where
      by_time : (b : Bool) → (c.job.release == q.view.clock) ≡ b
          → placed q (then_some b (single.Prints (Release c.number c.job))) ≡ Some m → Acts k q false m
      by_time false later some = none_is_some some
      by_time true now some = record {
        move = single.Prints (Release c.number c.job);
        is = sym (some_same _ _ some);
        kind = refl;
        goes_on = refl;
        case = Arrives q.view.running c settles stale e now;
      }

  -- where it isn't so, none arrives
  arrival_none : arrival q ≡ None → NoneArrives q.view q.view.coming
  arrival_none none = by_coming q.view.coming none where
    by_coming : (c : Option Task) → placed q (single.arrival q.view c) ≡ None → NoneArrives q.view c
    by_coming None none = tt
    by_coming (Some c) none = by_time (c.job.release == q.view.clock) none where
      by_time : (b : Bool) → placed q (then_some b (single.Prints (Release c.number c.job))) ≡ None → b ≡ false
      by_time true none = none_is_some (sym none)
      by_time false none = refl

-- the job x goes at its latest start, where it isn't heavy against what the processor has
pub record Goes (k : Fraction) (q : Seen) (m : Move) : Type 0 where
  pub job : Task
  pub late : q.view.must_start ≡ Some job
  pub light : is_heavy k job.job.value q.view.privileged_value ≡ false
  pub is : m ≡ Prints q.processor (Abandon q.view.clock job.number)

-- there is one
abbrev IsSomeOne : Option Task → Type 0
IsSomeOne o = (x : Task) × (o ≡ Some x)

-- a job is at its latest start: one takes, or one goes
alarm_acts : (k : Fraction) (q : Seen) (m : Move) → Settles q.view q.view.running → q.view.fresh ≡ None
    → NoneArrives q.view q.view.coming → alarm k q ≡ Some m
    → (Acts k q false m × IsSomeOne q.view.must_start) ⊎ (Acts k q true m × Goes k q m)
alarm_acts k q m settles stale ahead some = by_parts q.view.running q.view.must_start settles refl some where
  by_parts : (ro x : Option Task) → Settles q.view ro → q.view.must_start ≡ x
      → placed q (single.alarm k q.view ro x) ≡ Some m → (Acts k q false m × IsSomeOne q.view.must_start)
      ⊎ (Acts k q true m × Goes k q m)
  by_parts ro None settles late some = none_is_some some
  by_parts None (Some x) settles late some = none_is_some some
  by_parts (Some r) (Some x) settles late some =
      by_value (is_heavy k x.job.value q.view.privileged_value) refl some where
        by_value : (b : Bool) → is_heavy k x.job.value q.view.privileged_value ≡ b
            → placed q (Some (single.Prints (cond b (Take q.view.clock r.number x.number)
            (Abandon q.view.clock x.number)))) ≡ Some m
            → (Acts k q false m × IsSomeOne q.view.must_start) ⊎ (Acts k q true m × Goes k q m)
        by_value true heavy some = inl (
          record {
            move = single.Prints (Take q.view.clock r.number x.number);
            is = sym (some_same _ _ some);
            kind = refl;
            goes_on = refl;
            case = Takes r x settles stale ahead late heavy;
          },
          (x, late),
        )
        by_value false light some = inr (
          record {
            move = single.Prints (Abandon q.view.clock x.number);
            is = sym (some_same _ _ some);
            kind = refl;
            goes_on = refl;
            case = Abandons r x settles stale ahead late light;
          },
          record { job = x; late = late; light = light; is = sym (some_same _ _ some) },
        )

-- where none goes or takes, none is late, or none runs there
alarm_none : (k : Fraction) (q : Seen) → alarm k q ≡ None → (q.view.running ≡ None) ⊎ (q.view.must_start ≡ None)
alarm_none k q none = by_parts q.view.running q.view.must_start refl refl none where
  by_parts : (ro x : Option Task) → q.view.running ≡ ro → q.view.must_start ≡ x
      → placed q (single.alarm k q.view ro x) ≡ None → (q.view.running ≡ None) ⊎ (q.view.must_start ≡ None)
  by_parts ro None e f none = inr f
  by_parts None (Some x) e f none = inl e
  by_parts (Some r) (Some x) e f none = none_is_some (sym none)

-- of two processors, the one of less value comes first
least_picks : (a x : Seen) → ((earlier (λ (a b : Seen). nat_lt a.view.privileged_value b.view.privileged_value) a x ≡ x)
    × (x.view.privileged_value ≤ a.view.privileged_value)) ⊎
    ((earlier (λ (a b : Seen). nat_lt a.view.privileged_value b.view.privileged_value) a x ≡ a)
    × (a.view.privileged_value ≤ x.view.privileged_value))
least_picks a x = by_test (nat_lt x.view.privileged_value a.view.privileged_value) refl where
  by_test : (b : Bool) → nat_lt x.view.privileged_value a.view.privileged_value ≡ b
      → ((cond b x a ≡ x) × (x.view.privileged_value ≤ a.view.privileged_value)) ⊎
      ((cond b x a ≡ a) × (a.view.privileged_value ≤ x.view.privileged_value))
  by_test true e = let less : x.view.privileged_value < a.view.privileged_value = ltb-true _ _ e in
      inl (refl, omega arith)
  by_test false e = let low : a.view.privileged_value ≤ x.view.privileged_value = ltb-false _ _ e in
      inr (refl, low)

-- ---- all processors

-- where no case but a tick applies
pub record IsQuiet (rules : Rules) (s : State) (all : List Seen) : Type 0 where
  pub going : Each (λ q. completion q ≡ None) all
  pub settles : Each (λ q. Settles q.view q.view.running) all
  pub holding : Each (λ q. q.view.running ≡ None → q.view.first_held ≡ None) all
  pub waiting : Each (λ q. is_free q ≡ true → q.view.first_waiting ≡ None) all
  pub stale : Each (λ q. q.view.fresh ≡ None) all
  pub ahead : Each (λ q. NoneArrives q.view q.view.coming) all
  pub early : Each (λ q. q.view.must_start ≡ None) all

-- no running job has come to a finish
abbrev pub NoneDue : Rules → List Seen → Type 0
NoneDue rules all = Each (λ q. (t : Task) → q.view.running ≡ Some t → is_due rules.finishes t ≡ false) all

-- a move of cases 2 and 3, or one behind them, where a take is one of the processor of least value while none is free
abbrev pub IsDecided : Rules → Seen → List Seen → Move → Type 0
IsDecided rules q all m = (is_run m ≡ true) ⊎ (NoneDue rules all × ((is_take m ≡ false)
    ⊎ Each (λ o. (is_free o ≡ false) × (q.view.privileged_value ≤ o.view.privileged_value)) all))

-- which case applies, where the run may end or not
pub data StepCase (may_end : Bool) (rules : Rules) (s : State) (all : List Seen) : Move → Type 0 where
  Completed : (q : Seen) → IsMember q all → (t : Task) → q.view.running ≡ Some t
      → is_finished rules.finishes t ≡ true
      → StepCase may_end rules s all (Prints q.processor (Complete q.view.clock t.number))
  Acted : (q : Seen) → IsMember q all → (m : Move) → Acts rules.ratio q false m
      → Each (λ o. completion o ≡ None) all → IsDecided rules q all m
      → StepCase may_end rules s all m
  Abandoned : (q : Seen) → IsMember q all → (m : Move) → Acts rules.ratio q true m → (it : Goes rules.ratio q m)
      → Each (λ o. completion o ≡ None) all
      → Each (λ o. (is_free o ≡ false) × (IsHeavy rules.ratio it.job.job.value o.view.privileged_value → ⊥)) all
      → StepCase may_end rules s all m
  Ended : may_end ≡ true → list_all is_over (tasks_of s.jobs) ≡ true
      → StepCase may_end rules s all (Prints 0 (End (value_sum (filter is_done (tasks_of s.jobs)))))
  Rested : IsQuiet rules s all → (may_end ≡ true → list_all is_over (tasks_of s.jobs) ≡ false)
      → StepCase may_end rules s all Ticks

module _ (rules : Rules) (s : State) (all : List Seen) (sees : Each (Sees rules.version s) all) where
  -- the free one is one of them, and free
  free_is : (q : Seen) → free_one all ≡ Some q → IsMember q all × (is_free q ≡ true)
  free_is q is = found is_free all q is

  -- where none is, none is free
  free_none : free_one all ≡ None → Each (λ q. is_free q ≡ false) all
  free_none none = not_found is_free all none

  -- where case 3 doesn't apply, none waits beside a free processor
  none_waits : for_one dispatch (free_one all) ≡ None → Each (λ q. is_free q ≡ true → q.view.first_waiting ≡ None) all
  none_waits none q member free = by_free (some_or_none (free_one all)) where
    by_free : (free_one all ≡ None) ⊎ ((x : Seen) × (free_one all ≡ Some x)) → q.view.first_waiting ≡ None
    by_free (inl not_free) = never (sym (free_none not_free q member) ∙ free)
    by_free (inr it) =
        let one : IsMember it.0 all × (is_free it.0 ≡ true) = free_is it.0 it.1 in
        let here : dispatch it.0 ≡ None = subst (λ o. for_one dispatch o ≡ None) it.1 none in
        (sees q member).first_waiting ∙ sym (sees it.0 one.0).first_waiting
        ∙ dispatch_none rules.ratio it.0 one.1 here

  -- who decides is one of them
  pub deciding_member : (q : Seen) → deciding all ≡ Some q → IsMember q all
  deciding_member q is = by_either (try_split (free_one all)
      (first runs_longer (filter is_preempted all) or_try front all) q is) where
        by_other : (first runs_longer (filter is_preempted all) ≡ Some q)
            ⊎ ((first runs_longer (filter is_preempted all) ≡ None) × (front all ≡ Some q))
            → IsMember q all
        by_other (inl longest) = (member_filter is_preempted all q
            (first_member runs_longer (filter is_preempted all) q longest)).0
        by_other (inr it) = front_member all q it.1

        by_either : (free_one all ≡ Some q)
            ⊎ ((free_one all ≡ None)
            × ((first runs_longer (filter is_preempted all) or_try front all) ≡ Some q))
            → IsMember q all
        by_either (inl free) = (free_is q free).0
        by_either (inr it) = by_other
            (try_split (first runs_longer (filter is_preempted all)) (front all) q it.1)

  -- where it doesn't decide, none is fresh
  none_fresh : for_one decision (deciding all) ≡ None → Each (λ q. q.view.fresh ≡ None) all
  none_fresh none q member = by_one (some_or_none (deciding all)) where
    by_one : (deciding all ≡ None) ⊎ ((x : Seen) × (deciding all ≡ Some x))
        → q.view.fresh ≡ None
    by_one (inl nobody) = absurd (front_none all (try_none
        (first runs_longer (filter is_preempted all)) (front all)
        (try_none (free_one all) _ nobody).1).1 q member)
    by_one (inr it) =
        let here : decision it.0 ≡ None = subst (λ o. for_one decision o ≡ None) it.1 none in
        (sees q member).fresh ∙ sym (sees it.0 (deciding_member it.0 it.1)).fresh
        ∙ decision_none rules.ratio it.0 here

  -- where case 5 doesn't apply, none arrives
  none_arrives : for_one arrival (front all) ≡ None → Each (λ q. NoneArrives q.view q.view.coming) all
  none_arrives none q member = by_one (some_or_none (front all)) where
    by_one : (front all ≡ None) ⊎ ((x : Seen) × (front all ≡ Some x)) → NoneArrives q.view q.view.coming
    by_one (inl nobody) = absurd (front_none all nobody q member)
    by_one (inr it) =
        let here : arrival it.0 ≡ None = subst (λ o. for_one arrival o ≡ None) it.1 none in
        let one : Sees rules.version s it.0 = sees it.0 (front_member all it.0 it.1) in
        alike (it.0).view q.view (one.coming ∙ sym (sees q member).coming) (one.clock ∙ sym (sees q member).clock)
        (arrival_none rules.ratio it.0 here) where
          alike : (v w : View) → v.coming ≡ w.coming → v.clock ≡ w.clock → NoneArrives v v.coming
              → NoneArrives w w.coming
          alike v w same at none = by_coming v.coming w.coming same none where
            by_coming : (a b : Option Task) → a ≡ b → NoneArrives v a → NoneArrives w b
            by_coming a None e none = tt
            by_coming None (Some c) e none = none_is_some e
            by_coming (Some d) (Some c) e none =
                let same_job : d ≡ c = some_same d c e in
                subst (λ (x : Task). (x.job.release == w.clock) ≡ false) same_job
                (subst (λ n. (d.job.release == n) ≡ false) at none)

  -- the one of least value is worth no more than any
  least_is : (q : Seen) → least_valued all ≡ Some q → IsMember q all
      × Each (λ o. q.view.privileged_value ≤ o.view.privileged_value) all
  least_is q is = reduce_least (earlier (λ (a b : Seen). nat_lt a.view.privileged_value b.view.privileged_value))
      (λ (a : Seen). a.view.privileged_value) least_picks all q is

  -- where case 6 doesn't apply, none is late
  none_late : Each (λ q. is_free q ≡ true → q.view.first_waiting ≡ None) all
      → for_one (alarm rules.ratio) (least_valued all) ≡ None → Each (λ q. q.view.must_start ≡ None) all
  none_late waits none q member = by_one (some_or_none (least_valued all)) where
    by_alarm : (x : Seen) → IsMember x all → (x.view.running ≡ None) ⊎ (x.view.must_start ≡ None)
        → q.view.must_start ≡ None
    by_alarm x x_member (inr late) = (sees q member).must_start ∙ sym (sees x x_member).must_start ∙ late
    by_alarm x x_member (inl free) = (sees q member).must_start ∙ none_first (filter is_waiting (tasks_of s.jobs))
        (sym (sees x x_member).first_waiting ∙ waits x x_member (ap is_none free)) where
          none_first : (ts : List Task)
              → first (waiting_order rules.version (by_density rules.version s.pressed)) ts ≡ None
              → first (starts_before rules.version) (filter (is_at_latest_start (whole s)) ts) ≡ None
          none_first [] none = refl
          none_first (t ∷ ts) none = none_is_some (sym none)

    by_one : (least_valued all ≡ None) ⊎ ((x : Seen) × (least_valued all ≡ Some x)) → q.view.must_start ≡ None
    by_one (inl nobody) = absurd (reduce_none
        (earlier (λ (a b : Seen). nat_lt a.view.privileged_value b.view.privileged_value)) all nobody q member)
    by_one (inr it) =
        let here : alarm rules.ratio it.0 ≡ None = subst (λ o. for_one (alarm rules.ratio) o ≡ None) it.1 none in
        by_alarm it.0 (least_is it.0 it.1).0 (alarm_none rules.ratio it.0 here)

  -- an answer of case 6
  alarm_case : (may_end : Bool) (m : Move) → Each (λ q. completion q ≡ None) all → NoneDue rules all
      → Each (λ q. Settles q.view q.view.running) all → Each (λ q. q.view.fresh ≡ None) all
      → Each (λ q. NoneArrives q.view q.view.coming) all
      → Each (λ q. is_free q ≡ true → q.view.first_waiting ≡ None) all
      → for_one (alarm rules.ratio) (least_valued all) ≡ Some m → StepCase may_end rules s all m
  alarm_case may_end m going calm settles stale ahead waits some =
      by_kind (alarm_acts rules.ratio one.0 m (settles one.0 least.0) (stale one.0 least.0) (ahead one.0 least.0)
      one.2) where
        one : (x : Seen) × (least_valued all ≡ Some x) × (alarm rules.ratio x ≡ Some m)
        one = for_some (alarm rules.ratio) (least_valued all) m some

        least : IsMember one.0 all × Each (λ o. one.0.view.privileged_value ≤ o.view.privileged_value) all
        least = least_is one.0 one.1

        -- a free processor would have the job
        none_free : IsSomeOne one.0.view.must_start → Each (λ o. is_free o ≡ false) all
        none_free it o o_member = by_test (is_free o) refl where
          none_first : (ts : List Task)
              → first (waiting_order rules.version (by_density rules.version s.pressed)) ts ≡ None
              → first (starts_before rules.version) (filter (is_at_latest_start (whole s)) ts) ≡ None
          none_first [] none = refl
          none_first (t ∷ ts) none = none_is_some (sym none)

          by_test : (b : Bool) → is_free o ≡ b → is_free o ≡ false
          by_test false e = e
          by_test true e = none_is_some (sym (none_first (filter is_waiting (tasks_of s.jobs))
              (sym (sees o o_member).first_waiting ∙ waits o o_member e))
              ∙ sym (sees one.0 least.0).must_start ∙ it.1)

        by_kind : (Acts rules.ratio one.0 false m × IsSomeOne one.0.view.must_start)
            ⊎ (Acts rules.ratio one.0 true m × Goes rules.ratio one.0 m)
            → StepCase may_end rules s all m
        by_kind (inl it) = Acted one.0 least.0 m it.0 going
            (inr (calm, inr (λ o o_member. (none_free it.1 o o_member, least.1 o o_member))))
        by_kind (inr it) = Abandoned one.0 least.0 m it.0 it.1 going (λ o o_member. (
          none_free (it.1.job, it.1.late) o o_member,
          λ heavy. never (sym it.1.light ∙ heavy_mono rules.ratio it.1.job.job.value one.0.view.privileged_value
              o.view.privileged_value (least.1 o o_member) heavy),
        ))

  -- some case applies, where what is done else is one
  step_case_by : (may_end : Bool) (other : Move) → (IsQuiet rules s all → StepCase may_end rules s all other)
      → StepCase may_end rules s all (urgent_or rules all other)
  step_case_by may_end other at_rest = from_first (urgent_or rules all other) refl where
    from_rest : (m : Move) → Each (λ q. completion q ≡ None) all
        → Each (λ q. q.view.running ≡ None → q.view.first_held ≡ None) all
        → Each (λ q. is_free q ≡ true → q.view.first_waiting ≡ None) all → Each (λ q. Settles q.view q.view.running) all
        → Each (λ q. q.view.fresh ≡ None) all → Each (λ q. NoneArrives q.view q.view.coming) all
        → (for_one (alarm rules.ratio) (least_valued all) ≡ None) × (other ≡ m)
        → StepCase may_end rules s all m
    from_rest m going holding waits settles stale ahead it = subst (StepCase may_end rules s all) it.1
        (at_rest (record {
          going = going;
          settles = settles;
          holding = holding;
          waiting = waits;
          stale = stale;
          ahead = ahead;
          early = none_late waits it.0;
        }))

    from_fourth : (m : Move) → Each (λ q. completion q ≡ None) all → NoneDue rules all
        → Each (λ q. q.view.running ≡ None → q.view.first_held ≡ None) all
        → Each (λ q. is_free q ≡ true → q.view.first_waiting ≡ None) all → Each (λ q. Settles q.view q.view.running) all
        → (for_one decision (deciding all) or_else for_one arrival (front all)
        or_else for_one (alarm rules.ratio) (least_valued all) or_else other) ≡ m → StepCase may_end rules s all m
    from_fourth m going calm holding waits settles is = by_fourth
        (or_split (for_one decision (deciding all)) _ m is) where
          by_sixth : Each (λ q. q.view.fresh ≡ None) all → Each (λ q. NoneArrives q.view q.view.coming) all
              → (for_one (alarm rules.ratio) (least_valued all) ≡ Some m)
              ⊎ ((for_one (alarm rules.ratio) (least_valued all) ≡ None)
              × (other ≡ m))
              → StepCase may_end rules s all m
          by_sixth stale ahead (inl some) = alarm_case may_end m going calm settles stale ahead waits some
          by_sixth stale ahead (inr it) = from_rest m going holding waits settles stale ahead it

          by_fifth : Each (λ q. q.view.fresh ≡ None) all → (for_one arrival (front all) ≡ Some m)
              ⊎ ((for_one arrival (front all) ≡ None)
              × ((for_one (alarm rules.ratio) (least_valued all) or_else other) ≡ m))
              → StepCase may_end rules s all m
          by_fifth stale (inl some) = let one = for_some arrival (front all) m some in
              let member : IsMember one.0 all = front_member all one.0 one.1 in
              Acted one.0 member m (arrival_acts rules.ratio one.0 m (settles one.0 member) (stale one.0 member) one.2)
              going
              (inr (calm, inl (arrival_takes one.0 m one.2)))
          by_fifth stale (inr it) = by_sixth stale (none_arrives it.0)
              (or_split (for_one (alarm rules.ratio) (least_valued all)) _ m it.1)

          by_fourth : (for_one decision (deciding all) ≡ Some m)
              ⊎ ((for_one decision (deciding all) ≡ None)
              × ((for_one arrival (front all) or_else for_one (alarm rules.ratio) (least_valued all)
              or_else other) ≡ m))
              → StepCase may_end rules s all m
          by_fourth (inl some) = let one = for_some decision (deciding all) m some in
              let member : IsMember one.0 all = deciding_member one.0 one.1 in
              Acted one.0 member m (decision_acts rules.ratio one.0 m (settles one.0 member) one.2) going
              (inr (calm, inl (decision_takes one.0 m one.2)))
          by_fourth (inr it) = by_fifth (none_fresh it.0) (or_split (for_one arrival (front all)) _ m it.1)

    from_third : (m : Move) → Each (λ q. completion q ≡ None) all
        → Each (λ q. resumption q ≡ None) all
        → (for_one dispatch (free_one all) or_else first_some (finishing all) rules.finishes
        or_else for_one decision (deciding all)
        or_else for_one arrival (front all) or_else for_one (alarm rules.ratio) (least_valued all) or_else other)
        ≡ m → StepCase may_end rules s all m
    from_third m going holding is = by_third (or_split (for_one dispatch (free_one all)) _ m is) where
      by_finish : Each (λ q. is_free q ≡ true → q.view.first_waiting ≡ None) all
          → (first_some (finishing all) rules.finishes ≡ Some m)
          ⊎ ((first_some (finishing all) rules.finishes ≡ None)
          × ((for_one decision (deciding all) or_else for_one arrival (front all)
          or_else for_one (alarm rules.ratio) (least_valued all) or_else other) ≡ m))
          → StepCase may_end rules s all m
      by_finish waits (inl some) =
          let f = answered (finishing all) rules.finishes m some in
          let one = answered (λ q. finish_on f.0 q q.view.running) all m f.2 in
          let it = finish_acts rules.finishes f.0 f.1 one.0 m (one.0).view.running one.2 in
          subst (StepCase may_end rules s all) (sym it.3) (Completed one.0 one.1 it.0 it.1 it.2)
      by_finish waits (inr it) = from_fourth m going (none_finishes rules.finishes all it.0)
          (λ q member free. resumption_none rules.ratio q (holding q member) free) waits
          (λ q member. settles_at rules.ratio q (going q member) (holding q member) (waits q member)) it.1

      by_third : (for_one dispatch (free_one all) ≡ Some m)
          ⊎ ((for_one dispatch (free_one all) ≡ None)
          × ((first_some (finishing all) rules.finishes or_else for_one decision (deciding all)
          or_else for_one arrival (front all)
          or_else for_one (alarm rules.ratio) (least_valued all) or_else other) ≡ m))
          → StepCase may_end rules s all m
      by_third (inl some) = let one = for_some dispatch (free_one all) m some in
          Acted one.0 (free_is one.0 one.1).0 m (dispatch_acts rules.ratio one.0 m one.2) going
          (inl (dispatch_runs one.0 m one.2))
      by_third (inr it) = by_finish (none_waits it.0) (or_split (first_some (finishing all) rules.finishes) _ m it.1)

    from_second : (m : Move) → Each (λ q. completion q ≡ None) all
        → (first_some resumption all or_else for_one dispatch (free_one all)
        or_else first_some (finishing all) rules.finishes or_else for_one decision (deciding all)
        or_else for_one arrival (front all) or_else for_one (alarm rules.ratio) (least_valued all) or_else other)
        ≡ m → StepCase may_end rules s all m
    from_second m going is = by_second (or_split (first_some resumption all) _ m is) where
      by_second : (first_some resumption all ≡ Some m)
          ⊎ ((first_some resumption all ≡ None)
          × ((for_one dispatch (free_one all) or_else first_some (finishing all) rules.finishes
          or_else for_one decision (deciding all)
          or_else for_one arrival (front all) or_else for_one (alarm rules.ratio) (least_valued all) or_else other)
          ≡ m))
          → StepCase may_end rules s all m
      by_second (inl some) = let one = answered resumption all m some in
          Acted one.0 one.1 m (resumption_acts rules.ratio one.0 m one.2) going
          (inl (resumption_runs one.0 m one.2))
      by_second (inr it) = from_third m going (unanswered resumption all it.0) it.1

    from_first : (m : Move) → urgent_or rules all other ≡ m → StepCase may_end rules s all m
    from_first m is = by_first (or_split (first_some completion all) _ m is) where
      by_first : (first_some completion all ≡ Some m)
          ⊎ ((first_some completion all ≡ None)
          × ((first_some resumption all or_else for_one dispatch (free_one all)
          or_else first_some (finishing all) rules.finishes or_else for_one decision (deciding all)
          or_else for_one arrival (front all) or_else for_one (alarm rules.ratio) (least_valued all) or_else other)
          ≡ m))
          → StepCase may_end rules s all m
      by_first (inl some) =
          let one = answered completion all m some in
          let it = completion_acts rules.finishes one.0 m (one.0).view.running one.2 in
          subst (StepCase may_end rules s all) (sym it.3) (Completed one.0 one.1 it.0 it.1 it.2)
      by_first (inr it) = from_second m (unanswered completion all it.0) it.1

  -- some case applies to the step of a state
  pub step_case : StepCase true rules s all (urgent_or rules all (ending s or_else Ticks))
  step_case = step_case_by true (ending s or_else Ticks) (by_end (list_all is_over (tasks_of s.jobs)) refl) where
    by_end : (b : Bool) → list_all is_over (tasks_of s.jobs) ≡ b → IsQuiet rules s all
        → StepCase true rules s all
        (then_some b (Prints 0 (End (value_sum (filter is_done (tasks_of s.jobs))))) or_else Ticks)
    by_end true over quiet = Ended refl over
    by_end false some quiet = Rested quiet (λ _. some)

  -- and to the open one
  pub open_case : StepCase false rules s all (urgent_or rules all Ticks)
  open_case = step_case_by false Ticks (λ quiet. Rested quiet (λ e. never e))
