-- The finishes that a run comes to with work left are right where they come.
use Rattle.std.proofs.Common.{◌≡◌, ℕ, suc, ◌+◌, ◌≤◌, ◌<◌, ◌⊎◌, inl, inr, List, [], ◌∷◌, ◌++◌, length, map}
use Rattle.std.proofs.Common.{refl, sym, ap, ◌∙◌, subst, Bool, true, false, cond, arith, append_assoc}
use Rattle.std.proofs.Common.{length-append, not}
use Rattle.std.specs.Prelude.{Option, Some, None, nat_lt, nat_le, ◌==◌, ◌&&◌}
use Rattle.std.specs.Bool.{then_some}
use Rattle.std.specs.Option.{option_or}
use Rattle.std.specs.List.{AllByRecursion, filter, find, list_all, cons_option}
use Rattle.std.proofs.lemmas.Bool.{eq-eqb, and_right, lt-ltb, ltb-true, ltb-false, le-leb, lt-leb}
use Rattle.std.proofs.lemmas.Bool.{false_from_ne_true}
use Rattle.std.proofs.lemmas.List.Folds.{find-append}
use Rattle.dover_model.specs.Common.{JobFacts, Release, Complete, Coming, Fresh}
use Rattle.dover_model.specs.Common.{Running, Task, Finish, is_finish_of, has_come_to, is_due, goes_on, Instance}
use Rattle.dover_model.specs.Common.{IsValid, declared_by, having, State, opening, to_come, with_later, is_coming}
use Rattle.dover_model.specs.Common.{is_running, is_over, running, left, Move, Prints, Ticks, View, view}
use Rattle.dover_model.specs.Common.{completion, dispatch, decision, arrival, alarm, ◌or_else◌, ending, due_finish}
use Rattle.dover_model.specs.Common.{finish_or, declared_step, step, open_step, after, ticked, Step, is_end, step_at}
use Rattle.dover_model.specs.Common.{open_at, IsBarrier, waits_for_mark, settled_steps, settled_state, finish_now}
use Rattle.dover_model.specs.Common.{AllComeFrom, is_complete, IsPath, IsOpenPath, NoneBefore, IsMember, Each, Keeps}
use Rattle.dover_model.specs.Common.{Item, JobItem, FinishItem, EarlyFinish, Session, instance_of}
use Rattle.dover_model.specs.Common.{session_with, admitted_jobs, early_finishes, finish_of_item, may_finish_early}
use Rattle.dover_model.specs.Common.{finish_at, early_at, handed_by}
use Rattle.dover_model.proofs.lists.Members.{all_each, each_cons, found, not_found, some_same, on_map, member_front}
use Rattle.dover_model.proofs.steps.Roles.{passes, is_running_role, is_coming_role}
use Rattle.dover_model.proofs.steps.Moves.{says}
use Rattle.dover_model.proofs.steps.Kept.{open_deed, step_kept, open_kept, opening_keeps, come_coming}
use Rattle.dover_model.proofs.finishes.Readiness.{going, step_decides, open_decides, opening_ready}
use Rattle.dover_model.proofs.finishes.Finishing.{IsDue, finish_due}
use Rattle.dover_model.proofs.finishes.OverFor.{due_member}
use Rattle.dover_model.proofs.steps.Deeds.{Deed, Completed, Resumed, Started, Began, Preempted, Stayed, Arrived, Taken}
use Rattle.dover_model.proofs.steps.Deeds.{Abandoned, Rested}
use Rattle.dover_model.proofs.settled.Prefixes.{step_open, same_after, come_from, come_append}
use Rattle.dover_model.proofs.settled.Later.{same_step}
use Rattle.dover_model.proofs.valid.Valid.{valid_front}
use Rattle.dover_model.proofs.finishes.Meeting.{Neither, Both, same_finish, given_in, given_by, finishing_valid}
use Rattle.dover_model.proofs.runs.Ending.{clock_after, later_clock}
use Rattle.dover_model.proofs.settled.Settling.{settled_is_run}
use Rattle.dover_model.proofs.settled.Paths.{path_settles, one_settled_run}
use Rattle.dover_model.proofs.settled.Barriers.{state_after}
use Rattle.dover_model.proofs.rest.Resting.{path_state, numbers_apart, end_step}
use Rattle.dover_model.proofs.finishes.RightFinishes.{right_finish}
use Rattle.dover_model.proofs.finishes.Early.{first_of_clock}
use Rattle.dover_model.proofs.finishes.Further.{less_all}
use Rattle.dover_model.proofs.lists.Tests.{never, none_is_some, each, below}
use Rattle.dover_model.proofs.steps.Shown.{complete_event, complete_shows, early_shown, Shows, early_says, come_to_now}
use Rattle.dover_model.proofs.steps.Shown.{coming_in, deed_in, items_of, items_cons}
use Rattle.dover_model.specs.Common.{state_at}

module _ (J : Instance) (valid : IsValid J) where
  -- ---- steps of the run

  -- before a step that isn't End some job isn't over
  pub not_all_over : (s : State) → Keeps J s → is_end (step J.rules s) ≡ false → list_all is_over s.tasks ≡ false
  not_all_over s keeps on = false_from_ne_true (list_all is_over s.tasks)
      (λ all. never (sym on ∙ ap is_end (end_step J valid s keeps (all_each is_over s.tasks all))))

  -- so it is an open one
  pub as_open : (s : State) → Keeps J s → is_end (step J.rules s) ≡ false → step J.rules s ≡ open_step J.rules s
  as_open s keeps on = step_open J.rules s (not_all_over s keeps on)

  -- an early completion comes of a finish of the job
  pub early_due : (s : State) → Keeps J s → (r : Task) → running s ≡ Some r → is_complete (step J.rules s) ≡ true
      → 1 ≤ left r → IsMember (finish_now r) J.rules.finishes
  early_due s keeps r is complete some =
      let it = found is_running s.tasks r is in
      let ends : goes_on J.rules.finishes r ≡ false =
      (step_decides s keeps.sound J.rules).ends complete r it.0 (is_running_role r it.1) in
      let due : is_due J.rules.finishes r ≡ true = by_due (is_due J.rules.finishes r)
      (ap (λ b. b && not (is_due J.rules.finishes r)) (sym (lt-ltb 0 (left r) (omega arith))) ∙ ends) in
      let f = due_member J.rules.finishes r due in
      subst (λ g. IsMember g J.rules.finishes) (come_to_now r f.0 f.2) f.1 where
        by_due : (b : Bool) → (true && not b) ≡ false → b ≡ true
        by_due true e = refl
        by_due false e = never (sym e)

  -- with finishes of its own, among them that of the running job where it completes early, the step is the same
  pub same_here : (fs : List Finish) → Each (λ f. IsMember f J.rules.finishes) fs → (s : State)
      → ((r : Task) → running s ≡ Some r → is_complete (step J.rules s) ≡ true → 1 ≤ left r
      → IsMember (finish_now r) fs)
      → step (having J.rules fs) s ≡ step J.rules s
  same_here fs own s covers = by_due (due_finish fs s) (due_finish J.rules.finishes s) refl refl where
    m : Move
    m = declared_step J.rules s

    clash : (r : Task) (f : Finish) → running s ≡ Some r → has_come_to r f ≡ true → due_finish fs s ≡ None
        → IsMember (finish_now r) fs → (fin : Move) → fin ≡ step J.rules s
    clash r f is comes none member fin = never (sym (not_found (is_finish_of (running s)) fs none (finish_now r) member)
        ∙ ap (λ o. is_finish_of o (finish_now r)) is
        ∙ subst (λ g. has_come_to r g ≡ true) (come_to_now r f comes) comes)

    by_left : (f : Finish) (it : IsDue J.rules.finishes s f) → due_finish fs s ≡ None
        → due_finish J.rules.finishes s ≡ Some f → (b : Bool) → nat_lt 0 (left it.job) ≡ b
        → step (having J.rules fs) s ≡ step J.rules s
    by_left f it none e true some = clash it.job f it.is it.comes none
        (covers it.job it.is (ap (λ o. is_complete (finish_or s.clock o m)) e)
        (let above : 0 < left it.job = ltb-true _ _ some in omega arith)) (step (having J.rules fs) s)
    by_left f it none e false no_work = ap (λ o. finish_or s.clock o m) none ∙ done
        ∙ ap (λ n. Prints (Complete s.clock n)) (sym it.number) ∙ sym (ap (λ o. finish_or s.clock o m) e) where
          v : View
          v = view J.rules.version s

          zero : (left it.job == 0) ≡ true
          zero = eq-eqb (left it.job) 0 (let low : left it.job ≤ 0 = ltb-false _ _ no_work in omega arith)

          done : m ≡ Prints (Complete s.clock it.job.number)
          done = ap (λ o. completion v o or_else dispatch v v.running v.first_held v.first_waiting
              or_else decision v v.running v.fresh or_else arrival v v.coming
              or_else alarm J.rules.ratio v v.running v.must_start or_else (ending s or_else Ticks)) it.is
              ∙ ap (λ b. then_some b (Prints (Complete s.clock it.job.number))
              or_else dispatch v v.running v.first_held v.first_waiting
              or_else decision v v.running v.fresh or_else arrival v v.coming
              or_else alarm J.rules.ratio v v.running v.must_start or_else (ending s or_else Ticks)) zero

    by_due : (o p : Option Finish) → due_finish fs s ≡ o → due_finish J.rules.finishes s ≡ p
        → step (having J.rules fs) s ≡ step J.rules s
    by_due None None e f = same_finish fs J.rules.finishes s (Neither e f) m
    by_due (Some g) (Some f) e ef =
        let one : IsDue fs s g = finish_due fs s g e in
        let other : IsDue J.rules.finishes s f = finish_due J.rules.finishes s f ef in
        same_finish fs J.rules.finishes s (Both g f e ef (one.number
        ∙ ap (λ (r : Task). r.number) (some_same one.job other.job (sym one.is ∙ other.is)) ∙ sym other.number)) m
    by_due (Some g) None e none =
        let it : IsMember g fs × (is_finish_of (running s) g ≡ true) = found (is_finish_of (running s)) fs g e in
        never (sym (not_found (is_finish_of (running s)) J.rules.finishes none g (own g it.0)) ∙ it.1)
    by_due None (Some f) none ef = let it = finish_due J.rules.finishes s f ef in
        by_left f it none ef (nat_lt 0 (left it.job)) refl

  -- ---- the finishes that steps show

  -- the steps are of the run
  abbrev pub AreOf : List Step → Type 0
  AreOf xs = Each (λ x. Keeps J x.before × (x ≡ step_at J.rules x.before)) xs

  -- each is one of the run's
  pub shown_own : (xs : List Step) → AreOf xs → Each (λ f. IsMember f J.rules.finishes) (early_finishes (items_of xs))
  shown_own xs are f member = by_item item.0 item.1 item.2 where
    item : (i : Item) × IsMember i (items_of xs) × (finish_of_item i ≡ Some f)
    item = given_by finish_of_item (items_of xs) f member

    by_move : (s : State) (keeps : Keeps J s) (g : EarlyFinish) (m : Move) → step J.rules s ≡ m
        → handed_by (record { before = s; move = m }) ≡ Some (FinishItem g) → IsMember g.finish J.rules.finishes
    by_move s keeps g (Prints (Complete at n)) is e =
        let says = early_says s.clock (running s) (FinishItem g) e in
        let same : finish_now says.job ≡ g.finish = finish_of says.job g says.shown in
        subst (λ h. IsMember h J.rules.finishes) same
        (early_due s keeps says.job says.is (ap is_complete is) says.some) where
          finish_of : (r : Task) (g : EarlyFinish)
              → FinishItem (record { at = s.clock; finish = finish_now r }) ≡ FinishItem g
              → finish_now r ≡ g.finish
          finish_of r g e = some_same (finish_now r) g.finish (ap finish_of_item e)
    by_move s keeps g (Prints (Release n j)) is e = absurd (let h : Some (JobItem j) ≡ Some (FinishItem g) = e in cc)
    by_move s keeps g _ is e = none_is_some e

    by_item : (i : Item) → IsMember i (items_of xs) → finish_of_item i ≡ Some f → IsMember f J.rules.finishes
    by_item (FinishItem g) there e =
        let x = given_by handed_by xs (FinishItem g) there in
        subst (λ h. IsMember h J.rules.finishes) (some_same g.finish f e)
        (by_move x.0.before (are x.0 x.1).0 g (step J.rules x.0.before) refl
        (ap handed_by (sym (are x.0 x.1).1) ∙ x.2))
    by_item _ there e = none_is_some e

  -- and each early completion among the steps shows its own
  pub shown_all : (xs : List Step) (s : State) → IsMember (step_at J.rules s) xs → (r : Task) → running s ≡ Some r
      → is_complete (step J.rules s) ≡ true → 1 ≤ left r → IsMember (finish_now r) (early_finishes (items_of xs))
  shown_all xs s there r is complete some =
      given_in finish_of_item (items_of xs) (FinishItem (record { at = s.clock; finish = finish_now r })) (finish_now r)
      (given_in handed_by xs (step_at J.rules s) (FinishItem (record { at = s.clock; finish = finish_now r })) there
      (complete_shows s (step J.rules s) complete ∙ early_shown s.clock (running s) r is some)) refl

  -- ---- paths of steps

  -- the steps of a path are of the run
  pub path_of : (xs : List Step) (s t : State) → Keeps J s → IsPath J.rules s xs t → AreOf xs × Keeps J t
  path_of [] s t keeps here = ((λ x member. absurd member), subst (Keeps J) (sym here) keeps)
  path_of (x ∷ xs) s t keeps path =
      let rest = path_of xs (after s (step J.rules s)) t (step_kept J valid s keeps J.rules) path.2 in
      let here : Keeps J x.before × (x ≡ step_at J.rules x.before) =
      subst (λ (z : Step). Keeps J z.before × (z ≡ step_at J.rules z.before)) (sym path.0) (keeps, refl) in
      (each_cons (λ (z : Step). Keeps J z.before × (z ≡ step_at J.rules z.before)) x xs here rest.0, rest.1)

  -- clocks don't fall on it
  pub path_clock : (xs : List Step) (s t : State) → IsPath J.rules s xs t → s.clock ≤ t.clock
  path_clock [] s t here = let same : t.clock ≡ s.clock = ap (λ (z : State). z.clock) here in omega arith
  path_clock (x ∷ xs) s t path =
      let rest : (after s (step J.rules s)).clock ≤ t.clock = path_clock xs (after s (step J.rules s)) t path.2 in
      let here : s.clock ≤ (after s (step J.rules s)).clock = later_clock s (step J.rules s) in omega arith

  -- it is one of open steps, before the barrier of a later mark
  pub path_open : (mark : ℕ) (xs : List Step) (s t : State) → Keeps J s → IsPath J.rules s xs t → t.clock < mark
      → IsOpenPath J.rules mark s xs t
  path_open mark [] s t keeps here low = here
  path_open mark (x ∷ xs) s t keeps path low =
      let same : step J.rules s ≡ open_step J.rules s = as_open s keeps path.1 in
      let early : s.clock < mark = (let up : s.clock ≤ t.clock = path_clock (x ∷ xs) s t path in omega arith) in (
        path.0 ∙ ap (λ m. let y : Step = record { before = s; move = m } in y) same,
        and_right (waits_for_mark (open_step J.rules s)) (nat_le mark s.clock) (lt-leb mark s.clock early),
        subst (λ m. IsOpenPath J.rules mark (after s m) xs t) same
            (path_open mark xs (after s (step J.rules s)) t (step_kept J valid s keeps J.rules) path.2 low),
      )

  -- the jobs that its steps show, and those to come behind it, are those to come before it
  pub path_in : (xs : List Step) (s t : State) → Keeps J s → IsPath J.rules s xs t
      → admitted_jobs (items_of xs) ++ coming_in t.tasks ≡ coming_in s.tasks
  path_in [] s t keeps here = ap (λ (z : State). coming_in z.tasks) here
  path_in (x ∷ xs) s t keeps path =
      ap (λ js. js ++ coming_in t.tasks) (items_cons x xs)
      ∙ append_assoc (admitted_jobs (cons_option (handed_by x) [])) (admitted_jobs (items_of xs)) (coming_in t.tasks)
      ∙ ap (λ js. admitted_jobs (cons_option (handed_by x) []) ++ js)
      (path_in xs (after s (step J.rules s)) t (step_kept J valid s keeps J.rules) path.2)
      ∙ ap (λ (y : Step). admitted_jobs (cons_option (handed_by y) []) ++ coming_in (after s
      (step J.rules s)).tasks) path.0
      ∙ ap (λ m. admitted_jobs (cons_option (handed_by (record { before = s; move = m })) []) ++ coming_in
      (after s m).tasks)
      (as_open s keeps path.1)
      ∙ deed_in J.rules.ratio s keeps.sound (open_step J.rules s) (open_deed J valid s keeps J.rules)

  -- at the opening all are to come
  pub opening_in : (n : ℕ) (jobs : List JobFacts) → coming_in (to_come n jobs) ≡ jobs
  opening_in n [] = refl
  opening_in n (j ∷ jobs) = ap (λ js. j ∷ js) (opening_in (suc n) jobs)

  -- ---- at an early completion

  module _ (front : List Step) (s : State) (path : IsPath J.rules (opening J.jobs) front s) (r : Task)
      (is : running s ≡ Some r) (complete : is_complete (step J.rules s) ≡ true) (some : 1 ≤ left r) where
    keeps : Keeps J s
    keeps = (path_of front (opening J.jobs) s (opening_keeps J) path).1

    r_there : IsMember r s.tasks × (is_running r ≡ true)
    r_there = found is_running s.tasks r is

    -- the session so far
    abbrev items : List Item
    items = items_of front

    abbrev so_far : Session
    so_far = session_with (declared_by J.rules) items

    abbrev fs : List Finish
    fs = early_finishes items

    abbrev K : Instance
    K = instance_of so_far

    -- the jobs that come later
    abbrev rest : List JobFacts
    rest = coming_in s.tasks

    all_jobs : admitted_jobs items ++ rest ≡ J.jobs
    all_jobs = path_in front (opening J.jobs) s (opening_keeps J) path ∙ opening_in 0 J.jobs

    abbrev ks : List Task
    ks = to_come (length (admitted_jobs items)) rest

    late_in : (tasks : List Task) → Each (λ t. t.role ≡ Coming → s.clock ≤ t.job.release) tasks
        → NoneBefore s.clock (coming_in tasks)
    late_in [] all = λ j member. absurd member
    late_in (t ∷ tasks) all = by_test (is_coming t) refl (late_in tasks (λ u m. all u (inr m))) where
      by_job : NoneBefore s.clock (coming_in tasks) → is_coming t ≡ true → NoneBefore s.clock (t.job ∷ coming_in tasks)
      by_job more e j (inr member) = more j member
      by_job more e j (inl same) = subst (λ (i : JobFacts). s.clock ≤ i.release) (sym same)
          (all t (inl refl) (is_coming_role t e))

      by_test : (b : Bool) → is_coming t ≡ b → NoneBefore s.clock (coming_in tasks)
          → NoneBefore s.clock (map (λ (u : Task). u.job)
          (cond b (t ∷ filter is_coming tasks) (filter is_coming tasks)))
      by_test false e more = more
      by_test true e more = by_job more e

    late : NoneBefore s.clock rest
    late = late_in s.tasks (λ t member comes. (says s keeps.sound t member Coming comes).1)

    come : AllComeFrom s.clock ks
    come = come_from s.clock (length (admitted_jobs items)) rest late

    valid_K : IsValid K
    valid_K = valid_front K rest (finishing_valid (record { rules = J.rules; jobs = admitted_jobs items ++ rest }) fs
        (subst (λ js. IsValid (record { rules = J.rules; jobs = js })) (sym all_jobs) valid))

    own : Each (λ f. IsMember f J.rules.finishes) fs
    own = shown_own front (path_of front (opening J.jobs) s (opening_keeps J) path).0

    -- the steps so far are taken at earlier clocks
    early : Each (λ x. x.before.clock < s.clock) front
    early = let at = complete_event (step J.rules s) complete in
        first_of_clock J valid (s.clock + 1) at.0 at.1 front (opening J.jobs) s (opening_keeps J)
        (opening_ready J.rules.finishes J.jobs)
        (path_open (s.clock + 1) front (opening J.jobs) s (opening_keeps J) path (omega arith))
        (sym (as_open s keeps (ap is_end at.2)) ∙ at.2)

    -- ---- the same steps without the later jobs and finishes

    record Alone (v t : State) : Type 0 where
      here : State
      splits : t ≡ with_later here ks
      kept : Keeps K here
      steps : List Step
      alone : IsOpenPath K.rules s.clock v steps here
      low : AllByRecursion (λ x. x.before.clock < s.clock) steps

    goes_alone : (ys : List Step) (v t : State) → Keeps K v → Keeps J (with_later v ks)
        → IsPath J.rules (with_later v ks) ys t → Each (λ x. x.before.clock < s.clock) ys
        → Each (λ x. IsMember x front) ys → Alone v t
    goes_alone [] v t kept keeps_w here low members =
        record { here = v; splits = here; kept = kept; steps = []; alone = refl; low = tt }
    goes_alone (y ∷ ys) v t kept keeps_w path_y low members =
        by_next (goes_alone ys (after v (open_step K.rules v)) t) where
          w : State
          w = with_later v ks

          clock_low : v.clock < s.clock
          clock_low = subst (λ (x : Step). x.before.clock < s.clock) path_y.0 (low y (inl refl))

          same_finishes : step K.rules w ≡ step J.rules w
          same_finishes = same_here fs own w (λ q q_is q_complete q_some. shown_all front w
              (subst (λ (x : Step). IsMember x front) path_y.0 (members y (inl refl))) q q_is q_complete q_some)

          same_move : step J.rules w ≡ open_step K.rules v
          same_move = sym same_finishes
              ∙ step_open K.rules w (not_all_over w keeps_w path_y.1)
              ∙ same_step K.rules v ks s.clock come.0 come.1 (λ _. clock_low)

          next : after w (step J.rules w) ≡ with_later (after v (open_step K.rules v)) ks
          next = ap (after w) same_move ∙ same_after K.rules.ratio v ks come.0 (numbers_apart K v kept rest)
              (open_step K.rules v) (open_deed K valid_K v kept K.rules)

          by_next : (Keeps K (after v (open_step K.rules v)) → Keeps J (with_later (after v (open_step K.rules v)) ks)
              → IsPath J.rules (with_later (after v (open_step K.rules v)) ks) ys t
              → Each (λ x. x.before.clock < s.clock) ys → Each (λ x. IsMember x front) ys
              → Alone (after v (open_step K.rules v)) t)
              → Alone v t
          by_next alone_then =
              let more : Alone (after v (open_step K.rules v)) t = alone_then (open_kept K valid_K v kept K.rules)
              (subst (Keeps J) next (step_kept J valid w keeps_w J.rules))
              (subst (λ z. IsPath J.rules z ys t) next path_y.2) (λ x m. low x (inr m)) (λ x m. members x (inr m)) in
              record {
                here = more.here;
                splits = more.splits;
                kept = more.kept;
                steps = open_at K.rules v ∷ more.steps;
                alone = (
                  refl,
                  and_right (waits_for_mark (open_step K.rules v)) (nat_le s.clock v.clock)
                      (lt-leb s.clock v.clock clock_low),
                  more.alone,
                );
                low = (clock_low, more.low);
              }

    begins : opening J.jobs ≡ with_later (opening (admitted_jobs items)) ks
    begins = ap opening (sym all_jobs) ∙ ap (λ ts. state_at 0 ts)
        (come_append 0 (admitted_jobs items) rest
        ∙ ap (λ n. to_come 0 (admitted_jobs items) ++ to_come n rest) (omega arith))

    alone_here : Alone (opening (admitted_jobs items)) s
    alone_here = goes_alone front (opening (admitted_jobs items)) s (opening_keeps K)
        (subst (Keeps J) begins (opening_keeps J))
        (subst (λ z. IsPath J.rules z front s) begins path) early (λ x member. member)

    -- no step so far shows a finish of what the job has had now
    shown_before : IsMember (finish_now r) fs → ⊥
    shown_before member = by_item item.0 item.1 item.2 where
      item : (i : Item) × IsMember i items × (finish_of_item i ≡ Some (finish_now r))
      item = given_by finish_of_item items (finish_now r) member

      less : Each (λ x. (q : Task) → IsMember q x.before.tasks → q.number ≡ r.number → q.had + 1 ≤ r.had) front
      less x there q q_there same = less_all J valid (s.clock + 1) r (is_running_role r r_there.1) front
          (opening J.jobs) s
          (opening_keeps J) (path_open (s.clock + 1) front (opening J.jobs) s (opening_keeps J) path (omega arith))
          r_there.0 early x there q q_there same

      by_shown : (x : Step) → IsMember x front → (g : EarlyFinish) → g.finish ≡ finish_now r
          → Shows x.before.clock (running x.before) (FinishItem g) → ⊥
      by_shown x there g same says =
          let now : finish_now says.job ≡ finish_now r = some_same (finish_now says.job) g.finish
          (ap finish_of_item says.shown) ∙ same in
          let low : says.job.had + 1 ≤ r.had =
          less x there says.job (found is_running x.before.tasks says.job says.is).0
          (ap (λ (f : Finish). f.number) now) in
          let had : says.job.had ≡ r.had = ap (λ (f : Finish). f.had) now in
          omega (arith, low, had)

      by_move : (x : Step) → IsMember x front → (g : EarlyFinish) → g.finish ≡ finish_now r → (m : Move) → x.move ≡ m
          → handed_by (record { before = x.before; move = m }) ≡ Some (FinishItem g) → ⊥
      by_move x there g same (Prints (Complete at n)) e shown =
          by_shown x there g same (early_says x.before.clock (running x.before) (FinishItem g) shown)
      by_move x there g same (Prints (Release n j)) e shown =
          absurd (let h : Some (JobItem j) ≡ Some (FinishItem g) = shown in cc)
      by_move x there g same _ e shown = none_is_some shown

      by_item : (i : Item) → IsMember i items → finish_of_item i ≡ Some (finish_now r) → ⊥
      by_item (FinishItem g) there e =
          let x = given_by handed_by front (FinishItem g) there in
          by_move x.0 x.1 g (some_same g.finish (finish_now r) e) x.0.move refl x.2
      by_item _ there e = none_is_some e

    -- the job runs there too
    running_here : running alone_here.here ≡ Some r
    running_here = by_front (running alone_here.here) refl where
      none_behind : (n : ℕ) (jobs : List JobFacts) → find is_running (to_come n jobs) ≡ None
      none_behind n [] = refl
      none_behind n (j ∷ jobs) = none_behind (suc n) jobs

      both : option_or (running alone_here.here) (find is_running ks) ≡ Some r
      both = sym (find-append is_running alone_here.here.tasks ks)
          ∙ ap (λ (z : State). find is_running z.tasks) (sym alone_here.splits) ∙ is

      by_front : (o : Option Task) → running alone_here.here ≡ o → o ≡ Some r
      by_front (Some q) e = sym (ap (λ o. option_or o (find is_running ks)) e) ∙ both
      by_front None e = none_is_some (sym (none_behind (length (admitted_jobs items)) rest)
          ∙ sym (ap (λ o. option_or o (find is_running ks)) e) ∙ both)

    clock_here : alone_here.here.clock ≡ s.clock
    clock_here = ap (λ (z : State). z.clock) (sym alone_here.splits)

    -- none is fresh, since the last step was a tick
    fresh_not : (xs : List Step) (v t : State) → Keeps J v → IsPath J.rules v xs t
        → (xs ≡ [] → Each (λ u. u.role ≡ Fresh → ⊥) t.tasks) → Each (λ x. x.before.clock < t.clock) xs
        → Each (λ u. u.role ≡ Fresh → ⊥) t.tasks
    fresh_not [] v t kept path_v none low = none refl
    fresh_not (x ∷ []) v t kept path_v none low = by_clock (clock_after v (step J.rules v)) where
      t_is : t ≡ after v (step J.rules v)
      t_is = path_v.2

      less : v.clock < (after v (step J.rules v)).clock
      less = subst (λ (z : State). v.clock < z.clock) t_is
          (subst (λ (y : Step). y.before.clock < t.clock) path_v.0 (low x (inl refl)))

      by_ticks : (m : Move) → Deed J.rules.ratio v Ticks m → m ≡ Ticks → Each (λ u. u.role ≡ Fresh → ⊥) v.tasks
      by_ticks m (Rested quiet) e = quiet.stale
      by_ticks m _ e = absurd (cc)

      by_clock : ((after v (step J.rules v)).clock ≡ v.clock)
          ⊎ ((step J.rules v ≡ Ticks) × ((after v (step J.rules v)).clock ≡ v.clock + 1))
          → Each (λ u. u.role ≡ Fresh → ⊥) t.tasks
      by_clock (inl same) = absurd (omega (arith, less, same))
      by_clock (inr it) = subst (λ (z : State). Each (λ u. u.role ≡ Fresh → ⊥) z.tasks)
          (sym (t_is ∙ ap (after v) it.0))
          (on_map ticked (λ u. u.role ≡ Fresh → ⊥) v.tasks
          (by_ticks (open_step J.rules v) (open_deed J valid v kept J.rules) (sym (as_open v kept path_v.1) ∙ it.0)))
    fresh_not (x ∷ y ∷ ys) v t kept path_v none low =
        fresh_not (y ∷ ys) (after v (step J.rules v)) t (step_kept J valid v kept J.rules) path_v.2
        (λ e. absurd (let no : y ∷ ys ≡ [] = e in cc)) (λ z there. low z (inr there))

    none_fresh : Each (λ u. u.role ≡ Fresh → ⊥) s.tasks
    none_fresh = fresh_not front (opening J.jobs) s (opening_keeps J) path (λ empty. absurd
        (none_runs empty)) early where
          none_runs : front ≡ [] → ⊥
          none_runs empty =
              let same : s ≡ opening J.jobs = subst (λ xs. IsPath J.rules (opening J.jobs) xs s) empty path in
              let coming : r.role ≡ Coming = (come_coming 0 J.jobs r
              (subst (λ (z : State). IsMember r z.tasks) same r_there.0)).0 in
              let runs : r.role ≡ Running = is_running_role r r_there.1 in absurd (cc)

    fresh_here : Each (λ u. u.role ≡ Fresh → ⊥) alone_here.here.tasks
    fresh_here u member = none_fresh u (subst (λ (z : State). IsMember u z.tasks) (sym alone_here.splits)
        (member_front alone_here.here.tasks ks u member))

    -- and none is to come
    none_comes : Each (λ u. u.role ≡ Coming → ⊥) alone_here.here.tasks
    none_comes u member comes = some_in alone_here.here.tasks member no_jobs where
      both : (xs ys : List Task) → coming_in (xs ++ ys) ≡ coming_in xs ++ coming_in ys
      both [] ys = refl
      both (x ∷ xs) ys = by_test (is_coming x) (both xs ys) where
        by_test : (b : Bool) → coming_in (xs ++ ys) ≡ coming_in xs ++ coming_in ys
            → map (λ (q : Task). q.job) (cond b (x ∷ filter is_coming (xs ++ ys)) (filter is_coming (xs ++ ys)))
            ≡ map (λ (q : Task). q.job) (cond b (x ∷ filter is_coming xs) (filter is_coming xs)) ++ coming_in ys
        by_test true same = ap (λ js. x.job ∷ js) same
        by_test false same = same

      no_jobs : length (coming_in alone_here.here.tasks) ≡ 0
      no_jobs =
          let all : rest ≡ coming_in alone_here.here.tasks ++ rest = ap (λ
          (z : State). coming_in z.tasks) alone_here.splits
          ∙ both alone_here.here.tasks ks
          ∙ ap (λ js. coming_in alone_here.here.tasks ++ js) (opening_in (length (admitted_jobs items)) rest) in
          let count : length rest ≡ length (coming_in alone_here.here.tasks) + length rest =
          ap length all ∙ length-append (coming_in alone_here.here.tasks) rest in
          omega (arith, count)

      some_in : (xs : List Task) → IsMember u xs → length (coming_in xs) ≡ 0 → ⊥
      some_in [] there none = there
      some_in (x ∷ xs) (inl e) none = absurd (by_test (is_coming x)
          (ap is_coming (sym e) ∙ passes is_coming u Coming true comes refl) none) where
            by_test : (b : Bool) → b ≡ true
                → length (map (λ (q : Task). q.job) (cond b (x ∷ filter is_coming xs) (filter is_coming xs))) ≡ 0 → ⊥
            by_test true f zero = omega (arith, zero)
            by_test false f zero = never f
      some_in (x ∷ xs) (inr there) none = by_test (is_coming x) none (some_in xs there) where
        by_test : (b : Bool)
            → length (map (λ (q : Task). q.job) (cond b (x ∷ filter is_coming xs) (filter is_coming xs))) ≡ 0
            → (length (coming_in xs) ≡ 0 → ⊥) → ⊥
        by_test true zero more = omega (arith, zero)
        by_test false zero more = more zero

    -- it is the barrier: no job is fresh, none is to come, and the running job goes on
    late_here : waits_for_mark (open_step K.rules alone_here.here) ≡ true
    late_here = by_deed (open_step K.rules alone_here.here)
        (open_deed K valid_K alone_here.here alone_here.kept K.rules) refl where
          h : State
          h = alone_here.here

          there : IsMember r h.tasks
          there = (found is_running h.tasks r running_here).0

          runs : r.role ≡ Running
          runs = is_running_role r r_there.1

          not_due : is_due fs r ≡ false
          not_due = false_from_ne_true (is_due fs r) (λ due. let f = due_member fs r due in
              shown_before (subst (λ g. IsMember g fs) (come_to_now r f.0 f.2) f.1))

          by_deed : (m : Move) → Deed K.rules.ratio h Ticks m → open_step K.rules h ≡ m → waits_for_mark m ≡ true
          by_deed m (Completed q member q_runs) e = never (sym ((open_decides h alone_here.kept.sound K.rules).ends
              (ap is_complete e) r there runs) ∙ going fs r some not_due)
          by_deed m (Resumed p member held none least why) e = absurd (none r there runs)
          by_deed m (Started o member waiting none first fits next) e = absurd (none r there runs)
          by_deed m (Began f member fresh none free) e = absurd (none r there runs)
          by_deed m (Preempted q f member q_runs q_some f_member fresh before fits) e = absurd
              (fresh_here f f_member fresh)
          by_deed m (Stayed q f member q_runs q_some f_member fresh why) e = absurd (fresh_here f f_member fresh)
          by_deed m (Arrived c member comes now first stale busy free) e = absurd (none_comes c member comes)
          by_deed m (Taken q x member q_runs q_some x_member waiting now stale heavy) e = refl
          by_deed m (Abandoned q x member q_runs q_some x_member waiting now stale light) e = refl
          by_deed m (Rested quiet) e = refl

    -- so the finish is right
    pub right_there : may_finish_early J.rules.version ≡ true
        → early_at so_far s.clock r.number ≡ Some (record { at = s.clock; finish = finish_now r })
    right_there three =
        ap (λ b. cond b (finish_at K s.clock r.number) None) three
        ∙ right_finish K s.clock r (ap running at_here ∙ running_here)
        (ap (list_all (λ x. nat_lt x.before.clock s.clock)) all_steps ∙ all_low)
      where
        barrier : IsBarrier K.rules s.clock alone_here.here
        barrier = ap (λ b. b && nat_le s.clock alone_here.here.clock) late_here
            ∙ le-leb s.clock alone_here.here.clock (omega (arith, clock_here))

        all_steps : settled_steps K s.clock ≡ alone_here.steps
        all_steps = one_settled_run K.rules s.clock (settled_steps K s.clock) alone_here.steps
            (opening (admitted_jobs items)) (settled_is_run K s.clock valid_K)
            (path_settles K.rules s.clock alone_here.steps (opening (admitted_jobs items)) alone_here.here
            alone_here.alone barrier)

        at_here : settled_state K s.clock ≡ alone_here.here
        at_here = ap (state_after (opening (admitted_jobs items))) all_steps
            ∙ path_state K.rules s.clock alone_here.steps (opening
            (admitted_jobs items)) alone_here.here alone_here.alone

        all_low : list_all (λ x. nat_lt x.before.clock s.clock) alone_here.steps ≡ true
        all_low = (each (λ (x : Step). nat_lt x.before.clock s.clock) (λ x. x.before.clock < s.clock)
            (λ x. below x.before.clock s.clock) alone_here.steps).1 alone_here.low
