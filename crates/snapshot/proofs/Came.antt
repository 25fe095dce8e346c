-- The early finishes of a session are those of the jobs that are done with work left at its mark.
use Rattle.std.proofs.Common.{◌≡◌, ◌⊎◌, ℕ, ◌+◌, ◌≤◌, ◌<◌, inl, inr, List, [], ◌∷◌, ◌++◌, length, length-append}
use Rattle.std.proofs.Common.{append-nil, refl, sym, ap, ◌∙◌, subst, arith, Bool, true, false, cond, eqb}
use Rattle.std.proofs.lemmas.Bool.{eq-eqb, and_parts, ltb-true, lt-ltb}
use Rattle.std.proofs.lemmas.List.Elements.{filter_map-append}
use Rattle.std.specs.Prelude.{nat_lt, ◌==◌, ◌&&◌, not}
use Rattle.dover_model.specs.Common.{JobFacts, Finish, is_due, goes_on, Declaration, Instance, IsValid, with_jobs}
use Rattle.dover_model.specs.Common.{with_finishes, HasPrinted, is_complete, Item, JobItem, RefusedItem, FinishItem}
use Rattle.dover_model.specs.Common.{Session, admitted_jobs, early_finishes, job_of_item, finish_of_item}
use Rattle.dover_model.specs.Common.{instance_of, session_with, EarlyFinish, Refused, waits_for_mark, settled}
use Rattle.dover_model.specs.Common.{settled_state, finish_now, RunsAtMark, IsMember, Each, Keeps, State, is_over, left}
use Rattle.dover_model.specs.Common.{with_later, to_come, Move, Prints, Ticks, open_step, after, with_role}
use Rattle.dover_model.specs.declared.events.Event.TheVariants.{Complete}
use Rattle.dover_model.specs.declared.events.Role.{Role}
use Rattle.dover_model.specs.declared.events.Role.TheVariants.{Done, Running}
use Rattle.dover_model.specs.declared.events.Task.{Task}
use Rattle.dover_model.proofs.settled.Barriers.{AtBarrier, settled_at_barrier}
use Rattle.dover_model.proofs.steps.Deeds.{Deed, Taken}
use Rattle.dover_model.proofs.steps.Deeds.{Abandoned, Rested}
use Rattle.dover_model.proofs.finishes.Further.{next_at_mark, printed_at_mark}
use Rattle.dover_model.proofs.sessions.Growing.{job_instance, refused_instance, finish_instance, Finishes}
use Rattle.dover_model.proofs.steps.Kept.{open_deed}
use Rattle.dover_model.proofs.finishes.Meeting.{finishing_valid}
use Rattle.dover_model.proofs.lists.Members.{on_map, member_either, each_append}
use Rattle.dover_model.proofs.finishes.OverFor.{due_member}
use Rattle.dover_model.proofs.settled.Paths.{printed_behind}
use Rattle.dover_model.proofs.finishes.Readiness.{open_decides}
use Rattle.dover_model.proofs.rest.Resting.{come_above, numbers_below}
use Rattle.dover_model.proofs.steps.Roles.{one_number}
use Rattle.dover_model.proofs.settled.Settling.{at_barrier}
use Rattle.dover_model.proofs.lists.Tests.{never}
use Rattle.dover_model.proofs.valid.Valid.{valid_front}
use Rattle.snapshot.proofs.Paces.{HasCome, comes, printed_later}

-- ---- the job that runs at a barrier

-- it has work left
pub runner_left : (J : Instance) → IsValid J → (mark : ℕ) (r : Task) → IsMember r (settled_state J mark).tasks
    → r.role ≡ Running → 1 ≤ left r
runner_left J valid mark r member runs =
    by_deed (open_step J.rules s) (open_deed J valid s bar.keeps J.rules)
    (at_barrier (waits_for_mark (open_step J.rules s)) mark s.clock bar.barrier).0 where
      s : State
      s = settled_state J mark

      bar : AtBarrier J mark s
      bar = settled_at_barrier J valid mark

      as_other : (q : Task) → IsMember q s.tasks → q.role ≡ Running → 1 ≤ left q → 1 ≤ left r
      as_other q there ran some = subst (λ (t : Task). 1 ≤ left t)
          (one_number 0 s.tasks bar.keeps.sound.numbered q r there member
          (bar.keeps.sound.one_runs q r there member ran runs)) some

      by_deed : (m : Move) → Deed J.rules.ratio s Ticks m → waits_for_mark m ≡ true → 1 ≤ left r
      by_deed m (Taken q x there ran some x_there waiting now stale heavy) late = as_other q there ran some
      by_deed m (Abandoned q x there ran some x_there waiting now stale light) late = as_other q there ran some
      by_deed m (Rested quiet) late = quiet.busy r member runs
      by_deed m _ late = never late

-- where it may finish, it has had some ticks
had_some : (J : Instance) → IsValid J → (mark : ℕ) (r : Task) → RunsAtMark J mark r → 0 < r.had
had_some J valid mark r at = by_due (is_due K.rules.finishes r) refl where
  K : Instance
  K = with_finishes J (finish_now r ∷ [])

  s : State
  s = settled_state J mark

  bar : AtBarrier J mark s
  bar = settled_at_barrier J valid mark

  keeps : Keeps K s
  keeps = record { sound = bar.keeps.sound; jobs = bar.keeps.jobs; pressed = bar.keeps.pressed }

  ends : goes_on K.rules.finishes r ≡ false
  ends = (open_decides s keeps.sound K.rules).ends
      (ap is_complete (next_at_mark J valid mark r at)) r at.member at.runs

  by_due : (b : Bool) → is_due K.rules.finishes r ≡ b → 0 < r.had
  by_due true due = let it = due_member K.rules.finishes r due in
      ltb-true 0 r.had (and_parts ((it.0.number == r.number) && (it.0.had == r.had)) (nat_lt 0 r.had) it.2).1
  by_due false none = never (sym ends ∙ ap (λ b. nat_lt 0 (left r) && not b) none
      ∙ ap (λ b. b && true) (lt-ltb 0 (left r)
      (let some : 1 ≤ left r = runner_left J valid mark r at.member at.runs in omega arith)))

-- ---- item by item

-- behind these items, each of their early finishes has come at the mark, and is of one of their jobs
abbrev pub HaveCome : Declaration → List Item → ℕ → Type 0
HaveCome rules items mark = Each (λ f. (0 < f.had) × (f.number < length (admitted_jobs items))
    × HasCome f (settled_state (instance_of (session_with rules items)) mark)) (early_finishes items)

module _ (rules : Declaration) where
  abbrev session : List Item → Session
  session items = session_with rules items

  -- at a later mark
  pub come_later : (items : List Item) (mark later : ℕ) → IsValid (instance_of (session items)) → mark ≤ later
      → HaveCome rules items mark → HaveCome rules items later
  come_later items mark later valid ordered it f member =
      let was = it f member in (
        was.0,
        was.1,
        comes (instance_of (session items)) valid later (settled_state (instance_of (session items)) mark)
            (settled (instance_of (session items)) mark)
            (printed_later (instance_of (session items)) valid mark later ordered) f was.2,
      )

  -- with a job
  pub come_job : (items : List Item) (j : JobFacts) → IsValid (instance_of (session (items ++ JobItem j ∷ [])))
      → HaveCome rules items j.release → HaveCome rules (items ++ JobItem j ∷ []) j.release
  come_job items j valid it = by_finishes (filter_map-append finish_of_item items (JobItem j ∷ [])
      ∙ append-nil (early_finishes items)) where
        J : Instance
        J = instance_of (session items)

        K : Instance
        K = with_jobs J (j ∷ [])

        is : instance_of (session (items ++ JobItem j ∷ [])) ≡ K
        is = job_instance (session items) j

        valid_K : IsValid K
        valid_K = subst IsValid is valid

        late : Each (λ (i : JobFacts). j.release ≤ i.release) (j ∷ [])
        late i (inl e) = subst (λ (x : JobFacts). j.release ≤ x.release) (sym e) (omega arith)
        late i (inr none) = absurd none

        s : State
        s = settled_state J j.release

        there : HasPrinted K j.release (with_later s (to_come (length J.jobs) (j ∷ []))) (settled J j.release)
        there = printed_behind J (j ∷ []) j.release s (settled J j.release) valid_K late
            (printed_later J (valid_front J (j ∷ []) valid_K) j.release j.release (omega arith))

        other : (f : Finish) → f.number < length J.jobs → (t : Task) → IsMember t (to_come (length J.jobs) (j ∷ []))
            → t.number ≡ f.number → ⊥
        other f low t member same = let above : length J.jobs ≤ t.number =
            come_above (length J.jobs) (j ∷ []) t member in omega (arith, low)

        come_there : (f : Finish) → f.number < length J.jobs → HasCome f s
            → HasCome f (with_later s (to_come (length J.jobs) (j ∷ [])))
        come_there f low come = (
          each_append (λ t. t.number ≡ f.number → (f.had ≤ t.had) × (f.had < t.job.work)) s.tasks
              (to_come (length J.jobs) (j ∷ [])) come.0 (λ t member same. absurd (other f low t member same)),
          λ g m. each_append (λ t. t.number ≡ g.number → is_over t ≡ true) s.tasks (to_come (length J.jobs) (j ∷ []))
              (come.1 g m) (λ t member same. absurd (other f low t member (same ∙ number_of g m))),
        ) where
          number_of : (g : Finish) → IsMember g (f ∷ []) → g.number ≡ f.number
          number_of g (inl e) = ap (λ (x : Finish). x.number) e
          number_of g (inr none) = absurd none

        more : length (admitted_jobs (items ++ JobItem j ∷ [])) ≡ length J.jobs + 1
        more = omega (arith, ap (λ (L : Instance). length L.jobs) is, length-append J.jobs (j ∷ []))

        by_finishes : early_finishes (items ++ JobItem j ∷ []) ≡ early_finishes items
            → HaveCome rules (items ++ JobItem j ∷ []) j.release
        by_finishes same f member =
            let was = it f (subst (IsMember f) same member) in (
              was.0,
              omega (arith, was.1, more),
              subst (λ L. HasCome f (settled_state L j.release)) (sym is)
                  (comes K valid_K j.release (with_later s (to_come (length J.jobs) (j ∷ []))) (settled J j.release)
                  there f (come_there f was.1 was.2)),
            )

  -- with a refused line
  pub come_refused : (items : List Item) (r : Refused) (mark : ℕ) → HaveCome rules items mark
      → HaveCome rules (items ++ RefusedItem r ∷ []) mark
  come_refused items r mark it f member =
      let is : instance_of (session (items ++ RefusedItem r ∷ [])) ≡ instance_of (session items) =
      refused_instance (session items) r in
      let was = it f (subst (IsMember f) (ap (λ (L : Instance). L.rules.finishes) is) member) in (
        was.0,
        omega (arith, was.1, ap (λ (L : Instance). length L.jobs) is),
        subst (λ L. HasCome f (settled_state L mark)) (sym is) was.2,
      )

  -- with an early finish
  pub come_finish : (items : List Item) (e : EarlyFinish) → IsValid (instance_of (session items))
      → Finishes (session items) e → HaveCome rules items e.at
      → HaveCome rules (items ++ FinishItem e ∷ []) e.at
  come_finish items e valid says it = λ f member. by_member f
      (member_either (early_finishes items) (e.finish ∷ []) f
      (subst (IsMember f) (ap (λ (L : Instance). L.rules.finishes) is) member)) where
        J : Instance
        J = instance_of (session items)

        r : Task
        r = says.job

        s : State
        s = settled_state J e.at

        is : instance_of (session (items ++ FinishItem e ∷ [])) ≡ with_finishes J (e.finish ∷ [])
        is = finish_instance (session items) e

        K : Instance
        K = with_finishes J (finish_now r ∷ [])

        is_K : instance_of (session (items ++ FinishItem e ∷ [])) ≡ K
        is_K = is ∙ ap (λ f. with_finishes J (f ∷ [])) says.is

        valid_K : IsValid K
        valid_K = finishing_valid J (J.rules.finishes ++ finish_now r ∷ []) valid

        bar : AtBarrier J e.at s
        bar = settled_at_barrier J valid e.at

        z : State
        z = after s (Prints (Complete e.at r.number))

        role_now : Task → Role
        role_now t = cond (eqb t.number r.number) Done t.role

        over_still : (t : Task) → is_over t ≡ true → is_over (with_role t (role_now t)) ≡ true
        over_still t over = by_number (eqb t.number r.number) where
          by_number : (b : Bool) → is_over (with_role t (cond b Done t.role)) ≡ true
          by_number true = refl
          by_number false = over

        over_now : (t : Task) → t.number ≡ r.number → is_over (with_role t (role_now t)) ≡ true
        over_now t same = ap (λ b. is_over (with_role t (cond b Done t.role))) (eq-eqb t.number r.number same)

        old_there : (f : Finish) → HasCome f s → HasCome f z
        old_there f come = (
          on_map (λ t. with_role t (role_now t)) (λ t. t.number ≡ f.number → (f.had ≤ t.had) × (f.had < t.job.work))
              s.tasks come.0,
          λ g m. on_map (λ t. with_role t (role_now t)) (λ t. t.number ≡ g.number → is_over t ≡ true) s.tasks
              (λ t member same. over_still t (come.1 g m t member same)),
        )

        same_job : (t : Task) → IsMember t s.tasks → t.number ≡ r.number → t ≡ r
        same_job t member same = one_number 0 s.tasks bar.keeps.sound.numbered t r member says.runs.member same

        left_r : 1 ≤ left r
        left_r = runner_left J valid e.at r says.runs.member says.runs.runs

        new_there : HasCome (finish_now r) z
        new_there = (
          on_map (λ t. with_role t (role_now t)) (λ t. t.number ≡ r.number → (r.had ≤ t.had) × (r.had < t.job.work))
              s.tasks (λ t member same. subst (λ (x : Task). (r.had ≤ x.had) × (r.had < x.job.work))
              (sym (same_job t member same)) (omega arith, omega (arith, left_r))),
          λ g m. on_map (λ t. with_role t (role_now t)) (λ t. t.number ≡ g.number → is_over t ≡ true) s.tasks
              (λ t member same. over_now t (same ∙ number_of g m)),
        ) where
          number_of : (g : Finish) → IsMember g (finish_now r ∷ []) → g.number ≡ r.number
          number_of g (inl e) = ap (λ (x : Finish). x.number) e
          number_of g (inr none) = absurd none

        at_barrier_K : (f : Finish) → HasCome f z
            → HasCome f (settled_state (instance_of (session (items ++ FinishItem e ∷ []))) e.at)
        at_barrier_K f come = subst (λ L. HasCome f (settled_state L e.at)) (sym is_K)
            (comes K valid_K e.at z (settled J e.at ++ Complete e.at r.number ∷ [])
            (printed_at_mark J valid e.at r says.runs) f come)

        count : length (admitted_jobs (items ++ FinishItem e ∷ [])) ≡ length J.jobs
        count = ap (λ (L : Instance). length L.jobs) is

        by_member : (f : Finish) → IsMember f (early_finishes items) ⊎ IsMember f (e.finish ∷ [])
            → (0 < f.had) × (f.number < length (admitted_jobs (items ++ FinishItem e ∷ [])))
            × HasCome f (settled_state (instance_of (session (items ++ FinishItem e ∷ []))) e.at)
        by_member f (inl old) = let was = it f old in
            (was.0, omega (arith, was.1, count), at_barrier_K f (old_there f was.2))
        by_member f (inr (inr none)) = absurd none
        by_member f (inr (inl new)) = subst (λ g. (0 < g.had)
            × (g.number < length (admitted_jobs (items ++ FinishItem e ∷ [])))
            × HasCome g (settled_state (instance_of (session (items ++ FinishItem e ∷ []))) e.at))
            (sym (new ∙ says.is)) (
              had_some J valid e.at r says.runs,
              omega (arith, count, numbers_below J s bar.keeps r says.runs.member),
              at_barrier_K (finish_now r) new_there,
            )

  -- the jobs of the first items are valid
  pub front_valid : (items more : List Item) → IsValid (instance_of (session (items ++ more)))
      → IsValid (instance_of (session items))
  front_valid items more valid = finishing_valid front (early_finishes items) (valid_front front (admitted_jobs more)
      (subst (λ jobs. IsValid (record { rules = all.rules; jobs = jobs }))
      (filter_map-append job_of_item items more) valid)) where
        all : Instance
        all = instance_of (session (items ++ more))

        front : Instance
        front = record { rules = all.rules; jobs = admitted_jobs items }
