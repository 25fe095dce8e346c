-- A run comes to rest: by the work that isn't due by a tick, each tick that some job has is one less.
use Rattle.std.proofs.Common.{◌≡◌, ℕ, suc, ◌+◌, ◌-◌, ◌*◌, ◌≤◌, ◌<◌, ◌⊎◌, inl, inr, List, [], ◌∷◌, map, refl, sym, ap}
use Rattle.std.proofs.Common.{subst, Bool, true, false, cond, arith, eqb, nat_lt, nat_le, ◌&&◌}
use Rattle.std.proofs.Common.{MatchBool, sum_by, count_by, ltb-true, ltb-false, leb-true, leb-false}
use Rattle.std.proofs.lemmas.Bool.{le-leb, lt-ltb, and_parts, and_from}
use Rattle.std.proofs.lemmas.List.Sums.{sum_by-cons}
use Rattle.dover_model.specs.Common.{JobFacts}
use Rattle.dover_model.specs.declared.events.Role.{Role}
use Rattle.dover_model.specs.declared.events.Role.TheVariants.{Coming, Fresh, Waiting, Held, Running, Done, Gone}
use Rattle.dover_model.specs.declared.events.Event.{Event}
use Rattle.dover_model.specs.declared.events.Task.{Task}
use Rattle.dover_model.specs.Common.{Instance, IsValid, State, opening, to_come, is_over, is_running}
use Rattle.dover_model.specs.Common.{is_privileged, is_ready_behind, left, Move, Prints, Waits, Ticks}
use Rattle.dover_model.specs.Common.{step, after, with_role, role_after, ticked, Step, is_end, run, IsWholeRun, step_at}
use Rattle.dover_model.specs.Common.{role_then, IsMember, Each, NoneRuns, IsSound, Keeps, one_if}
use Rattle.task_laws.specs.Recovery.{work_due_behind, RestsWithin}
use Rattle.dover_model.proofs.lists.Members.{sum_le, sum_map, term_le_sum}
use Rattle.dover_model.proofs.steps.Roles.{passes}
use Rattle.dover_model.proofs.steps.Moves.{says, active_slack}
use Rattle.dover_model.proofs.steps.Ticking.{Quiet}
use Rattle.dover_model.proofs.steps.Deeds.{tick_quiet}
use Rattle.dover_model.proofs.steps.Kept.{step_deed, step_kept, opening_keeps}
use Rattle.dover_model.proofs.runs.Ending.{run_is_whole, end_over}
use Rattle.dover_model.proofs.runs.Once.{rest_of}
use Rattle.dover_model.proofs.steps.Deeds.{Deed, Completed, Resumed, Started, Began, Preempted, Stayed, Arrived, Taken}
use Rattle.dover_model.proofs.steps.Deeds.{Abandoned, Rested}
use Rattle.dover_model.proofs.steps.Roles.{is_coming_role, one_number, is_running_role}
use Rattle.dover_model.proofs.steps.Kept.{come_coming}
use Rattle.dover_model.proofs.lists.Members.{found, not_found, on_map}
use Rattle.std.proofs.Common.{zero, Option, Some, None, ◌∙◌}
use Rattle.dover_model.specs.Common.{Fraction, is_complete, is_coming, running}
use Rattle.dover_model.specs.declared.events.Event.TheVariants.{Complete}
use Rattle.std.proofs.Common.{inl, inr}
use Rattle.task_laws.proofs.switches.OneJob.{alive}
use Rattle.task_laws.proofs.switches.Switching.{step_turned}
use Rattle.std.proofs.Math.Nat.{mul-le-mul_left}
use Rattle.task_laws.specs.Switches.{AreOfTask}
use Rattle.task_laws.proofs.switches.Families.{within, implied, both_hold, few_come}
use Rattle.dover_model.proofs.lists.Tests.{never}

-- where one term is less, the sum is
sum_less : (f g : Task → ℕ) (xs : List Task) (x : Task) → IsMember x xs → Each (λ y. g y ≤ f y) xs → g x + 1 ≤ f x
    → sum_by g xs + 1 ≤ sum_by f xs
sum_less f g [] x member all less = absurd member
sum_less f g (y ∷ xs) x (inl e) all less =
    let here : g y + 1 ≤ f y = subst (λ z. g z + 1 ≤ f z) e less in
    omega (arith, here, sum_by-cons f y xs, sum_by-cons g y xs, sum_le g f xs (λ z m. all z (inr m)))
sum_less f g (y ∷ xs) x (inr member) all less = omega (
  arith,
  all y (inl refl),
  sum_by-cons f y xs,
  sum_by-cons g y xs,
  sum_less f g xs x member (λ z m. all z (inr m)) less,
)

-- a job is over or alive
over_is : (t : Task) → one_if (is_over t) + alive t.role ≡ 1
over_is t = by_role t.role refl where
  by_role : (role : Role) → t.role ≡ role → one_if (is_over t) + alive t.role ≡ 1
  by_role Done e = omega (arith, ap one_if (passes is_over t Done true e refl), ap alive e)
  by_role Gone e = omega (arith, ap one_if (passes is_over t Gone true e refl), ap alive e)
  by_role role e = omega (arith, ap one_if (passes is_over t role false e refl), ap alive e)

-- what is still to be had of a job
abbrev open_left : Task → ℕ
open_left t = cond (is_over t) 0 (left t)

-- by a step that changes its role alone it is no more
role_left : (t : Task) (new : Role) → alive new ≤ alive t.role → open_left (with_role t new) ≤ open_left t
role_left t new less = by_tests (is_over (with_role t new)) (is_over t) (over_is (with_role t new)) (over_is t) where
  by_tests : (a b : Bool) → one_if a + alive new ≡ 1 → one_if b + alive t.role ≡ 1
      → cond a 0 (left t) ≤ cond b 0 (left t)
  by_tests true b e e2 = omega arith
  by_tests false false e e2 = omega arith
  by_tests false true e e2 = absurd (omega (arith, e, e2, less))

-- nor by a tick
tick_left : (t : Task) → open_left (ticked t) ≤ open_left t
tick_left t = by_tests (is_over t) (is_running t) where
  by_tests : (a b : Bool) → cond a 0 (t.job.work - cond b (t.had + 1) t.had) ≤ cond a 0 (t.job.work - t.had)
  by_tests true b = omega arith
  by_tests false true = omega arith
  by_tests false false = omega arith

-- and it is less by its own
own_left : (t : Task) → is_running t ≡ true → is_over t ≡ false → 1 ≤ left t → open_left (ticked t) + 1 ≤ open_left t
own_left t runs goes some = by_tests (is_over t) (is_running t) goes runs where
  by_tests : (a b : Bool) → a ≡ false → b ≡ true
      → cond a 0 (t.job.work - cond b (t.had + 1) t.had) + 1 ≤ cond a 0 (t.job.work - t.had)
  by_tests false true e e2 = omega (arith, some)
  by_tests true b e e2 = never (sym e)
  by_tests false false e e2 = never e2

module _ (from due until : ℕ) (ordered : from ≤ due) where
  -- whether the job is released before the one tick, and due behind the other
  abbrev counts : JobFacts → Bool
  counts j = nat_lt j.release until && nat_lt due j.deadline

  -- what is still to be had of it then
  abbrev counted : Task → ℕ
  counted t = cond (counts t.job) (open_left t) 0

  -- where less is to be had, less is counted
  counted_less : (t u : Task) → u.job ≡ t.job → open_left u ≤ open_left t → counted u ≤ counted t
  counted_less t u same less = by_test (counts u.job) (counts t.job) (ap counts same) where
    by_test : (a b : Bool) → a ≡ b → cond a (open_left u) 0 ≤ cond b (open_left t) 0
    by_test true true e = less
    by_test false b e = omega arith
    by_test true false e = never (sym e)

  -- and where it counts, all of it is
  counted_all : (t : Task) → t.job.release < until → due < t.job.deadline → counts t.job ≡ true
  counted_all t early late = and_from _ _ (lt-ltb _ _ early) (lt-ltb _ _ late)

  counted_is : (t : Task) → counts t.job ≡ true → counted t ≡ open_left t
  counted_is t e = ap (λ b. cond b (open_left t) 0) e

  -- of all of them
  abbrev demand : List Task → ℕ
  demand tasks = sum_by counted tasks

  -- from which tick on time counts
  abbrev later : ℕ → ℕ
  later clock = cond (nat_le from clock) clock from

  later_low : (clock : ℕ) → clock < from → later clock ≡ from
  later_low clock less = by_test (nat_le from clock) refl where
    by_test : (b : Bool) → nat_le from clock ≡ b → cond b clock from ≡ from
    by_test true e = absurd (let low : from ≤ clock = leb-true _ _ e in omega (arith, low, less))
    by_test false e = refl

  later_high : (clock : ℕ) → from ≤ clock → later clock ≡ clock
  later_high clock low = ap (λ b. cond b clock from) (le-leb _ _ low)

  later_from : (clock : ℕ) → (from ≤ later clock) × (clock ≤ later clock)
  later_from clock = by_test (nat_le from clock) refl where
    by_test : (b : Bool) → nat_le from clock ≡ b → (from ≤ cond b clock from) × (clock ≤ cond b clock from)
    by_test true e = (leb-true _ _ e, omega arith)
    by_test false e = let less : clock < from = leb-false _ _ e in (omega arith, omega (arith, less))

  -- enough ticks are left for what is to be had
  abbrev HasTime : State → Type 0
  HasTime s = (due - later s.clock) + demand s.tasks + later s.clock ≤ until

  -- the job is over, or comes at the tick or later
  abbrev IsStill : ℕ → Task → Type 0
  IsStill tick t = (is_over t ≡ true) ⊎ ((is_coming t ≡ true) × (tick ≤ t.job.release))

  -- at the last tick no job of that tick was released yet, where one is ready
  abbrev IsEarly : State → Type 0
  IsEarly s = until ≤ s.clock
      → Each (λ t. (is_over t ≡ true) ⊎ (is_coming t ≡ true) ⊎ (t.job.release < until)) s.tasks

  -- some state of these steps is at rest
  abbrev Found : List Step → Type 0
  Found xs = (tick : ℕ) × (from ≤ tick) × (tick ≤ until) × (x : Step) × IsMember x xs × (x.before.clock ≤ tick)
      × Each (λ t. IsStill tick t) x.before.tasks

  -- so it is with a step in front
  found_behind : (x : Step) (xs : List Step) → Found xs → Found (x ∷ xs)
  found_behind x xs it = (it.0, it.1, it.2, it.3, inr it.4, it.5, it.6)

  -- two jobs that run are one
  module _ (s : State) (sound : IsSound s) where
    not_both : (t r : Task) → IsMember t s.tasks → t.role ≡ Running → 1 ≤ left t → IsMember r s.tasks
        → r.role ≡ Running → left r ≡ 0 → ⊥
    not_both t r member runs some r_member e none =
        let same : t ≡ r = one_number 0 s.tasks sound.numbered t r member r_member
        (sound.one_runs t r member r_member runs e) in
        omega (arith, some, none, ap left same)

  module _ (s : State) (sound : IsSound s) (time : HasTime s) (full : until ≤ s.clock) (early : IsEarly s) where
    -- at the last tick nothing is to be had of a job that was released before
    none_late : (t : Task) → IsMember t s.tasks → t.job.release < until → is_over t ≡ false → 1 ≤ left t
        → s.clock + left t ≤ t.job.deadline → ⊥
    none_late t member before goes some slack =
        let at : (from ≤ later s.clock) × (s.clock ≤ later s.clock) = later_from s.clock in
        let done : due ≤ s.clock = omega (arith, time, at.1, full) in
        let all : counted t ≡ open_left t = counted_is t (counted_all t before (omega (arith, done, some, slack))) in
        omega (
          arith,
          time,
          at.1,
          full,
          all,
          some,
          term_le_sum counted s.tasks t member,
          ap (λ b. cond b 0 (left t)) goes,
        )

    -- so each job is over or comes, but for one that runs and has nothing left
    last_still : (t : Task) → IsMember t s.tasks → IsStill s.clock t ⊎ ((t.role ≡ Running) × (left t ≡ 0))
    last_still t member = by_early (early full t member) where
      by_left : t.role ≡ Running → t.job.release < until → (l : ℕ) → left t ≡ l
          → IsStill s.clock t ⊎ ((t.role ≡ Running) × (left t ≡ 0))
      by_left e before zero none = inr (e, none)
      by_left e before (suc more) some = absurd (none_late t member before (passes is_over t Running false e refl)
          (omega (arith, some)) (active_slack s sound t member (passes is_privileged t Running true e refl)))

      by_role : t.job.release < until → (role : Role) → t.role ≡ role
          → IsStill s.clock t ⊎ ((t.role ≡ Running) × (left t ≡ 0))
      by_role before Coming e = inl (inr (passes is_coming t Coming true e refl, (says s sound t member Coming e).1))
      by_role before Fresh e =
          let it : (t.had ≡ 0) × (1 ≤ left t) × (t.job.release ≤ s.clock) × (s.clock + left t ≤ t.job.deadline) =
          says s sound t member Fresh e in
          absurd (none_late t member before (passes is_over t Fresh false e refl) it.1 it.3)
      by_role before Waiting e =
          let it : (1 ≤ left t) × (t.job.release ≤ s.clock) × (s.clock + left t ≤ t.job.deadline) =
          says s sound t member Waiting e in
          absurd (none_late t member before (passes is_over t Waiting false e refl) it.0 it.2)
      by_role before Held e =
          let it : (1 ≤ left t) × (t.job.release ≤ s.clock) = says s sound t member Held e in
          absurd (none_late t member before (passes is_over t Held false e refl) it.0
          (active_slack s sound t member (passes is_privileged t Held true e refl)))
      by_role before Running e = by_left e before (left t) refl
      by_role before Done e = inl (inl (passes is_over t Done true e refl))
      by_role before Gone e = inl (inl (passes is_over t Gone true e refl))

      by_early : (is_over t ≡ true) ⊎ (is_coming t ≡ true) ⊎ (t.job.release < until)
          → IsStill s.clock t ⊎ ((t.role ≡ Running) × (left t ≡ 0))
      by_early (inl over) = inl (inl over)
      by_early (inr (inl comes)) =
          inl (inr (comes, (says s sound t member Coming (is_coming_role t comes)).1))
      by_early (inr (inr before)) = by_role before t.role refl

    -- where one runs with nothing left, it is done next
    completes : (k : Fraction) (other : Move) → (m : Move) → Deed k s other m → (r : Task) → IsMember r s.tasks
        → r.role ≡ Running → left r ≡ 0 → (Quiet s → is_complete other ≡ true) → is_complete m ≡ true
    completes k other m (Completed t member runs) r r_member e none rests = refl
    completes k other m (Resumed p member held free least why) r r_member e none rests = absurd (free r r_member e)
    completes k other m (Started o member waiting free ahead room next) r r_member e none rests =
        absurd (free r r_member e)
    completes k other m (Began f member fresh free behind) r r_member e none rests = absurd (free r r_member e)
    completes k other m (Preempted t f member runs some f_member fresh before room) r r_member e none rests =
        absurd (not_both s sound t r member runs some r_member e none)
    completes k other m (Stayed t f member runs some f_member fresh why) r r_member e none rests =
        absurd (not_both s sound t r member runs some r_member e none)
    completes k other m (Taken t x member runs some x_member waiting now stale heavy) r r_member e none rests =
        absurd (not_both s sound t r member runs some r_member e none)
    completes k other m (Abandoned t x member runs some x_member waiting now stale light) r r_member e none rests =
        absurd (not_both s sound t r member runs some r_member e none)
    completes k other m (Arrived c member comes now least stale busy behind) r r_member e none rests =
        absurd (omega (arith, busy r r_member e, none))
    completes k other m (Rested quiet) r r_member e none rests = rests quiet

  module _ (s : State) (sound : IsSound s) (quiet : Quiet s) where
    -- where none runs, each is over or comes later
    idle_still : NoneRuns s.tasks → Each (IsStill s.clock) s.tasks
    idle_still none t member = by_role t.role refl where
      by_role : (role : Role) → t.role ≡ role → IsStill s.clock t
      by_role Coming e = inr (passes is_coming t Coming true e refl, omega (arith, quiet.ahead t member e))
      by_role Fresh e = absurd (quiet.stale t member e)
      by_role Waiting e = absurd (quiet.free none t member (passes is_ready_behind t Waiting true e refl))
      by_role Held e = absurd (quiet.free none t member (passes is_ready_behind t Held true e refl))
      by_role Running e = absurd (none t member e)
      by_role Done e = inl (passes is_over t Done true e refl)
      by_role Gone e = inl (passes is_over t Gone true e refl)

    -- behind a tick before the last one no job of the last one was released
    tick_early : s.clock < until → IsEarly (after s Ticks)
    tick_early more full = on_map ticked
        (λ t. (is_over t ≡ true) ⊎ (is_coming t ≡ true) ⊎ (t.job.release < until)) s.tasks
        (λ t member. by_role t member t.role refl) where
          by_role : (t : Task) → IsMember t s.tasks → (role : Role) → t.role ≡ role
              → (is_over t ≡ true) ⊎ (is_coming t ≡ true) ⊎ (t.job.release < until)
          by_role t member Coming e = inr (inl (passes is_coming t Coming true e refl))
          by_role t member Fresh e = absurd (quiet.stale t member e)
          by_role t member Waiting e = inr (inr (omega (arith, more, (says s sound t member Waiting e).1)))
          by_role t member Held e = inr (inr (omega (arith, more, (says s sound t member Held e).1)))
          by_role t member Running e = inr (inr (let low : t.job.release ≤ s.clock = says s sound t member Running e in
              omega (arith, more, low)))
          by_role t member Done e = inl (passes is_over t Done true e refl)
          by_role t member Gone e = inl (passes is_over t Gone true e refl)

    -- a tick brings what is counted no higher
    tick_less : demand (after s Ticks).tasks ≤ demand s.tasks
    tick_less = omega (
      arith,
      sum_map ticked counted s.tasks,
      sum_le (λ t. counted (ticked t)) counted s.tasks (λ t member. counted_less t (ticked t) refl (tick_left t)),
    )

    -- before time counts, it stays
    tick_before : HasTime s → s.clock < from → HasTime (after s Ticks)
    tick_before time less = by_test (nat_le from (s.clock + 1)) refl where
      by_test : (b : Bool) → nat_le from (s.clock + 1) ≡ b
          → (due - cond b (s.clock + 1) from) + demand (after s Ticks).tasks + cond b (s.clock + 1) from ≤ until
      by_test true e = let low : from ≤ s.clock + 1 = leb-true _ _ e in
          omega (arith, time, tick_less, later_low s.clock less, low, less)
      by_test false e = omega (arith, time, tick_less, later_low s.clock less)

    -- then each tick that a job has is one less
    tick_behind : HasTime s → from ≤ s.clock → s.clock < until → (r : Task) → IsMember r s.tasks → r.role ≡ Running
        → HasTime (after s Ticks)
    tick_behind time low more r member runs = by_due (nat_lt due r.job.deadline) refl where
      some : 1 ≤ left r
      some = quiet.busy r member runs

      slack : s.clock + left r ≤ r.job.deadline
      slack = active_slack s sound r member (passes is_privileged r Running true runs refl)

      by_due : (b : Bool) → nat_lt due r.job.deadline ≡ b → HasTime (after s Ticks)
      by_due true e =
          let late : due < r.job.deadline = ltb-true _ _ e in
          let released : r.job.release ≤ s.clock = says s sound r member Running runs in
          let is : counts r.job ≡ true = counted_all r (omega (arith, released, more)) late in
          let one : counted (ticked r) + 1 ≤ counted r = omega (
            arith,
            counted_is r is,
            counted_is (ticked r) is,
            own_left r (passes is_running r Running true runs refl) (passes is_over r Running false runs refl) some,
          ) in
          omega (
            arith,
            time,
            later_high s.clock low,
            later_high (s.clock + 1) (omega (arith, low)),
            sum_map ticked counted s.tasks,
            sum_less counted (λ t. counted (ticked t)) s.tasks r member
                (λ t m. counted_less t (ticked t) refl (tick_left t)) one,
          )
      by_due false e =
          let soon : r.job.deadline ≤ due = ltb-false _ _ e in
          omega (
            arith,
            time,
            later_high s.clock low,
            later_high (s.clock + 1) (omega (arith, low)),
            tick_less,
            soon,
            slack,
            some,
          )

  module _ (J : Instance) (valid : IsValid J) where
    -- a step that is no tick brings what is counted no higher
    role_less : (s : State) → Keeps J s → (m : Move) → step J.rules s ≡ m → (t : Task) → IsMember t s.tasks
        → counted (with_role t (role_then m t)) ≤ counted t
    role_less s keeps m is t member = counted_less t (with_role t (role_then m t)) refl
        (role_left t (role_then m t) (subst (λ n. alive (role_then n t) ≤ alive t.role) is
        (omega (arith, (step_turned J valid t.number s keeps t member refl).alive))))

    printed_less : (s : State) → Keeps J s → (e : Event) → step J.rules s ≡ Prints e
        → demand (after s (Prints e)).tasks ≤ demand s.tasks
    printed_less s keeps e is = omega (
      arith,
      sum_map (λ t. with_role t (role_after e t.number t.role)) counted s.tasks,
      sum_le (λ t. counted (with_role t (role_after e t.number t.role))) counted s.tasks
          (role_less s keeps (Prints e) is),
    )

    waits_less : (s : State) → Keeps J s → (n : ℕ) → step J.rules s ≡ Waits n
        → demand (after s (Waits n)).tasks ≤ demand s.tasks
    waits_less s keeps n is = omega (
      arith,
      sum_map (λ t. with_role t (cond (eqb t.number n) Waiting t.role)) counted s.tasks,
      sum_le (λ t. counted (with_role t (cond (eqb t.number n) Waiting t.role))) counted s.tasks
          (role_less s keeps (Waits n) is),
    )

    -- a completion at the last tick leaves it early
    complete_early : (s : State) → IsEarly s → (m : Move) → is_complete m ≡ true → IsEarly (after s m)
    complete_early s early (Prints (Complete at n)) e = λ full. on_map
        (λ t. with_role t (cond (eqb t.number n) Done t.role))
        (λ t. (is_over t ≡ true) ⊎ (is_coming t ≡ true) ⊎ (t.job.release < until)) s.tasks
        (λ t member. by_test t (eqb t.number n) (early full t member)) where
          by_test : (t : Task) → (b : Bool) → (is_over t ≡ true) ⊎ (is_coming t ≡ true) ⊎ (t.job.release < until)
              → (is_over (with_role t (cond b Done t.role)) ≡ true)
              ⊎ (is_coming (with_role t (cond b Done t.role)) ≡ true)
              ⊎ (t.job.release < until)
          by_test t true it = inl refl
          by_test t false it = it
    complete_early s early _ e = never e

    -- from a state that has time, some state is at rest
    rests_from : (xs : List Step) (s : State) → Keeps J s → HasTime s → IsEarly s → IsWholeRun J.rules s xs → Found xs
    rests_from [] s keeps time early whole = absurd whole
    rests_from (x ∷ xs) s keeps time early whole = by_end (is_end (step J.rules s)) refl whole.1
        (λ m is time2 early2 rest. found_behind x xs (rests_from xs (after s m)
        (subst (λ n. Keeps J (after s n)) is (step_kept J valid s keeps J.rules)) time2 early2
        (subst (λ n. IsWholeRun J.rules (after s n) xs) is rest))) where
          here : (tick : ℕ) → from ≤ tick → tick ≤ until → s.clock ≤ tick → Each (IsStill tick) s.tasks
              → Found (x ∷ xs)
          here tick low high past still = (tick, low, high, step_at J.rules s, inl (sym whole.0), past, still)

          the_deed : Deed J.rules.ratio s (rest_of s) (step J.rules s)
          the_deed = step_deed J valid s keeps J.rules

          by_move : s.clock < until → (m : Move) → step J.rules s ≡ m
              → ((m : Move) → step J.rules s ≡ m → HasTime (after s m) → IsEarly (after s m) → Found (x ∷ xs))
              → Found (x ∷ xs)
          by_move less (Prints e) is more = more (Prints e) is (omega (arith, time, printed_less s keeps e is))
              (λ full. absurd (omega (arith, full, less)))
          by_move less (Waits n) is more = more (Waits n) is (omega (arith, time, waits_less s keeps n is))
              (λ full. absurd (omega (arith, full, less)))
          by_move less Ticks is more = by_clock (nat_le from s.clock) refl where
            quiet : Quiet s
            quiet = tick_quiet J.rules.ratio s (rest_of s) (step J.rules s) the_deed is

            by_clock : (b : Bool) → nat_le from s.clock ≡ b → Found (x ∷ xs)
            by_clock false e = more Ticks is (tick_before s keeps.sound quiet time (leb-false _ _ e))
                (tick_early s keeps.sound quiet less)
            by_clock true e = by_runs quiet.runs_or_none where
              low : from ≤ s.clock
              low = leb-true _ _ e

              by_runs : ((r : Task) × IsMember r s.tasks × (r.role ≡ Running)) ⊎ NoneRuns s.tasks → Found (x ∷ xs)
              by_runs (inl it) = more Ticks is (tick_behind s keeps.sound quiet time low less it.0 it.1 it.2)
                  (tick_early s keeps.sound quiet less)
              by_runs (inr none) = here s.clock low (omega (arith, less)) (omega arith)
                  (idle_still s keeps.sound quiet none)

          by_runner : until ≤ s.clock → (o : Option Task) → running s ≡ o
              → ((m : Move) → step J.rules s ≡ m → HasTime (after s m) → IsEarly (after s m) → Found (x ∷ xs))
              → Found (x ∷ xs)
          by_runner full None none more = here s.clock
              (let at : (from ≤ later s.clock) × (s.clock ≤ later s.clock) = later_from s.clock in
              omega (arith, time, at.0, full))
              (let at : (from ≤ later s.clock) × (s.clock ≤ later s.clock) = later_from s.clock in
              omega (arith, time, at.1)) (omega arith)
              (λ t member. by_still t member (last_still s keeps.sound time full early t member)) where
                by_still : (t : Task) → IsMember t s.tasks → IsStill s.clock t ⊎ ((t.role ≡ Running) × (left t ≡ 0))
                    → IsStill s.clock t
                by_still t member (inl still) = still
                by_still t member (inr runs) = never (sym (not_found is_running s.tasks none t member)
                    ∙ passes is_running t Running true runs.0 refl)
          by_runner full (Some r) some more =
              let it : IsMember r s.tasks × (is_running r ≡ true) = found is_running s.tasks r some in
              by_last (last_still s keeps.sound time full early r it.0) it.0 (is_running_role r it.1) where
                by_complete : (m : Move) → step J.rules s ≡ m → is_complete m ≡ true → Found (x ∷ xs)
                by_complete (Prints e) is done = more (Prints e) is (omega (arith, time, printed_less s keeps e is))
                    (complete_early s early (Prints e) done)
                by_complete (Waits n) is done = never done
                by_complete Ticks is done = never done

                by_last : IsStill s.clock r ⊎ ((r.role ≡ Running) × (left r ≡ 0)) → IsMember r s.tasks
                    → r.role ≡ Running → Found (x ∷ xs)
                by_last (inl (inl over)) member runs = never (sym (passes is_over r Running false runs refl) ∙ over)
                by_last (inl (inr comes)) member runs =
                    never (sym (passes is_coming r Running false runs refl) ∙ comes.0)
                by_last (inr last) member runs = by_complete (step J.rules s) refl
                    (completes s keeps.sound time full early J.rules.ratio (rest_of s) (step J.rules s) the_deed
                    r member
                    runs last.1 (λ quiet. absurd (omega (arith, quiet.busy r member runs, last.1))))

          by_full : (b : Bool) → nat_le until s.clock ≡ b
              → ((m : Move) → step J.rules s ≡ m → HasTime (after s m) → IsEarly (after s m) → Found (x ∷ xs))
              → Found (x ∷ xs)
          by_full true e more = by_runner (leb-true _ _ e) (running s) refl more
          by_full false e more = by_move (leb-false _ _ e) (step J.rules s) refl more

          by_end : (b : Bool) → is_end (step J.rules s) ≡ b
              → MatchBool b (xs ≡ []) (IsWholeRun J.rules (after s (step J.rules s)) xs)
              → ((m : Move) → step J.rules s ≡ m → HasTime (after s m) → IsEarly (after s m)
              → IsWholeRun J.rules (after s (step J.rules s)) xs → Found (x ∷ xs))
              → Found (x ∷ xs)
          by_end true e none more = here (later s.clock) (later_from s.clock).0 (omega (arith, time))
              (later_from s.clock).1 (λ t member. inl ((end_over J valid s keeps J.rules e).1 t member))
          by_end false e rest more = by_full (nat_le until s.clock) refl
              (λ m is time2 early2. more m is time2 early2 rest)

    -- at the opening all work is to be had
    opening_demand : (n : ℕ) (jobs : List JobFacts) → demand (to_come n jobs) ≡ sum_by (work_due_behind due until) jobs
    opening_demand n [] = refl
    opening_demand n (j ∷ jobs) = omega (
      arith,
      sum_by-cons counted (record { number = n; job = j; role = Coming; had = 0 }) (to_come (suc n) jobs),
      sum_by-cons (work_due_behind due until) j jobs,
      opening_demand (suc n) jobs,
      by_test (counts j),
    ) where
      by_test : (b : Bool) → cond b (j.work - 0) 0 ≡ cond b j.work 0
      by_test true = omega arith
      by_test false = refl

    -- so the run comes to rest
    pub comes_to_rest : due + sum_by (work_due_behind due until) J.jobs ≤ until → RestsWithin J from until
    comes_to_rest fits =
        let first : later 0 ≡ from = by_test (nat_le from 0) refl in
        let it : Found (run J) = rests_from (run J) (opening J.jobs) (opening_keeps J)
        (omega (arith, fits, first, ordered, opening_demand 0 J.jobs))
        (λ full t member. inr (inl (passes is_coming t Coming true (come_coming 0 J.jobs t member).0 refl)))
        (run_is_whole J valid) in
        (it.0, it.1, it.2, (it.3, it.4, it.5, it.6)) where
          by_test : (b : Bool) → nat_le from 0 ≡ b → cond b 0 from ≡ from
          by_test true e = let low : from ≤ 0 = leb-true _ _ e in omega (arith, low)
          by_test false e = refl

-- ---- the jobs of one task

-- a job that counts
abbrev is_due_behind : (due until : ℕ) → ℕ × JobFacts → Bool
is_due_behind due until (n, j) = nat_lt j.release until && nat_lt due j.deadline

-- their work is no more than so much for each of them
work_most : (work due until : ℕ) (jobs : List (ℕ × JobFacts)) → Each (λ n_j. n_j.1.work ≤ work) jobs
    → sum_by (λ n_j. work_due_behind due until n_j.1) jobs ≤ work * count_by (is_due_behind due until) jobs
work_most work due until [] most = omega arith
work_most work due until (n_j ∷ jobs) most =
    by_test (is_due_behind due until n_j) (sum_by-cons (λ (m_i : ℕ × JobFacts). work_due_behind due until m_i.1)
    n_j jobs)
    (ap (λ c. work * c) (sum_by-cons (λ m_i. one_if (is_due_behind due until m_i)) n_j jobs)) (most n_j (inl refl))
    (work_most work due until jobs (λ m_i m. most m_i (inr m))) where
      by_test : (b : Bool)
          → sum_by (λ m_i. work_due_behind due until m_i.1) (n_j ∷ jobs)
          ≡ cond b n_j.1.work 0 + sum_by (λ m_i. work_due_behind due until m_i.1) jobs
          → work * count_by (is_due_behind due until) (n_j ∷ jobs)
          ≡ work * (one_if b + count_by (is_due_behind due until) jobs)
          → n_j.1.work ≤ work
          → sum_by (λ m_i. work_due_behind due until m_i.1) jobs ≤ work * count_by (is_due_behind due until) jobs
          → sum_by (λ m_i. work_due_behind due until m_i.1) (n_j ∷ jobs)
          ≤ work * count_by (is_due_behind due until) (n_j ∷ jobs)
      by_test true works counts low rest = omega (arith, works, counts, low, rest)
      by_test false works counts low rest = omega (arith, works, counts, rest)

-- few of them come
module _ (distance after work due until : ℕ) (jobs : List (ℕ × JobFacts)) (some : 1 ≤ distance)
    (task : AreOfTask distance after jobs) where
  few_count : distance * count_by (is_due_behind due until) jobs
      ≤ (until - (due + 1 - after)) + (distance - 1)
  few_count =
      let less : count_by (is_due_behind due until) jobs
      ≤ count_by (within (due + 1 - after) until) (map (λ n_j. n_j.1.release) jobs) = omega (
        arith,
        sum_le (λ n_j. one_if (is_due_behind due until n_j))
            (λ n_j. one_if (within (due + 1 - after) until n_j.1.release)) jobs
            (λ n_j member. implied (is_due_behind due until n_j) (within (due + 1 - after) until n_j.1.release)
            (λ e.
            let parts : (nat_lt n_j.1.release until ≡ true) × (nat_lt due n_j.1.deadline ≡ true) =
            and_parts (nat_lt n_j.1.release until) (nat_lt due n_j.1.deadline) e in
            let late : due < n_j.1.deadline = ltb-true _ _ parts.1 in
            both_hold (due + 1 - after) until n_j.1.release (omega (arith, late, task.ends n_j member))
            (ltb-true _ _ parts.0))),
        sum_map (λ (n_j : ℕ × JobFacts). n_j.1.release) (λ r. one_if (within (due + 1 - after) until r)) jobs,
      ) in
      let times : distance * count_by (is_due_behind due until) jobs
      ≤ distance * count_by (within (due + 1 - after) until) (map (λ n_j. n_j.1.release) jobs) =
      mul-le-mul_left distance less in
      omega (arith, times, few_come distance (due + 1 - after) until (map (λ n_j. n_j.1.release) jobs) some task.spaced)

  -- so their work is little
  pub few_work : Each (λ n_j. n_j.1.work ≤ work) jobs
      → distance * sum_by (λ n_j. work_due_behind due until n_j.1) jobs
      ≤ work * ((until - (due + 1 - after)) + (distance - 1))
  few_work most =
      let first : distance * sum_by (λ n_j. work_due_behind due until n_j.1) jobs
      ≤ distance * (work * count_by (is_due_behind due until) jobs) =
      mul-le-mul_left distance (work_most work due until jobs most) in
      let second : work * (distance * count_by (is_due_behind due until) jobs)
      ≤ work * ((until - (due + 1 - after)) + (distance - 1)) = mul-le-mul_left work few_count in
      by_count (count_by (is_due_behind due until) jobs) ((until - (due + 1 - after)) + (distance - 1))
      first second where
        by_count : (c m : ℕ)
            → distance * sum_by (λ n_j. work_due_behind due until n_j.1) jobs ≤ distance * (work * c)
            → work * (distance * c) ≤ work * m
            → distance * sum_by (λ n_j. work_due_behind due until n_j.1) jobs ≤ work * m
        by_count c m first second = omega (arith, first, second)
