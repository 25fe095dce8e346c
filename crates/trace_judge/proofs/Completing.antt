-- How the judge takes an early completion.
use Rattle.std.proofs.Common.{◌≡◌, ℕ, ◌+◌, ◌*◌, ◌≤◌, ◌<◌, List, [], ◌∷◌, ◌++◌, length, length-append, refl, sym, ap}
use Rattle.std.proofs.Common.{◌∙◌, subst, Bool, true, false, cond, arith, Option, Some, None, is_some, nat_lt, nat_le}
use Rattle.std.proofs.Common.{◌&&◌, le-leb, le-ltb, lt-ltb, ltb-true, ltb-false, option_map, filter}
use Rattle.std.proofs.lemmas.Bool.{false_from_ne_true}
use Rattle.std.proofs.lemmas.List.Elements.{filter_map-append}
use Rattle.ready_jobs.proofs.Courses.{follows_count}
use Rattle.waiting_pool.proofs.Reordering.{as_many}
use Rattle.dover_model.specs.Common.{is_ready, Instance, with_finishes, last_tick_in, most_items, IsMember, State}
use Rattle.dover_model.specs.Common.{running}
use Rattle.dover_model.specs.Common.{is_running, is_over, Prints, after, printed_of, settled, settled_state, last_of}
use Rattle.dover_model.specs.Common.{finish_now, FinishItem, EarlyFinish, Session, instance_of, admitted_jobs}
use Rattle.dover_model.specs.Common.{with_item, job_of_item, finish_at, early_at, may_finish_early, ready_at, text_of}
use Rattle.dover_model.specs.Common.{named_item, begins_trace, WaitsUntil, IsBarrier}
use Rattle.dover_model.specs.declared.events.Event.{Event}
use Rattle.dover_model.specs.declared.events.Event.TheVariants.{Complete}
use Rattle.dover_model.specs.declared.events.Role.TheVariants.{Running}
use Rattle.dover_model.specs.declared.events.Task.{Task}
use Rattle.dover_model.proofs.sessions.Growing.{finish_instance}
use Rattle.dover_model.proofs.settled.LastSteps.{last_tells}
use Rattle.dover_model.proofs.lists.Members.{found, some_same, by_bool}
use Rattle.dover_model.proofs.finishes.RightFinishes.{all_before, FinishSays, finish_says, right_finish, none_late}
use Rattle.dover_model.proofs.finishes.RightFinishes.{none_other}
use Rattle.dover_model.proofs.steps.Roles.{passes, is_running_role}
use Rattle.dover_model.proofs.lists.Tests.{never}
use Rattle.dover_model.proofs.settled.Waiting.{some_goes_on}
use Rattle.line_text.specs.declared.traces.lines.TraceLine.TheVariants.{Step as StepLine}
use Rattle.line_text.specs.traces.Form.{HasForm}
use Rattle.ready_jobs.specs.Course.{Course, Follows, Finishes, Runs, RunsNowhere}
use Rattle.trace_judge.specs.Reading.{completion_text}
use Rattle.trace_judge.specs.declared.stage.TraceStage.TheVariants.{Going}
use Rattle.trace_judge.specs.Reads.{Reading, Goes, ReadsAhead, Reads, StaysAhead, IsReader, HasSpare, Took, Followed}
use Rattle.trace_judge.specs.Reads.{Waited, at_tick, CanComplete, MayNotComplete}
use Rattle.trace_judge.proofs.Continuing.{sees_completion, printed_there, state_there, SeesWith}
use Rattle.trace_judge.proofs.Naming.{step_named}
use Rattle.trace_judge.proofs.Only.{only_completion}
use Rattle.trace_judge.proofs.Readings.{goes_of, here_of, reads_of, reads_ahead, room_kept, room_left, version_kept}
use Rattle.trace_judge.proofs.Readings.{room_for, GoesHere, here_reader, goes_some, item_more, no_job}
use Rattle.trace_judge.proofs.Seeing.{sees_rest}
use Rattle.dover_model.proofs.sessions.SessionParts.{MayFinish, session_jobs}
use Rattle.trace_judge.proofs.Follows.{finish_parts}

-- ---- whether a finish is right

-- a right finish behind a session is one of its instance, in a version in which jobs may finish early
early_finish : (S : Session) (t n : ℕ) (f : EarlyFinish) → early_at S t n ≡ Some f
    → (may_finish_early S.rules.version ≡ true) × (finish_at (instance_of S) t n ≡ Some f)
early_finish S t n f = by_version (may_finish_early S.rules.version) where
  by_version : (b : Bool) → cond b (finish_at (instance_of S) t n) None ≡ Some f
      → (b ≡ true) × (finish_at (instance_of S) t n ≡ Some f)
  by_version true is = (refl, is)
  by_version false is = absurd (let clash : None ≡ Some f = is in cc)

module _ (r : Reading) (at : ℕ) (ls : List (List ℕ)) (S : Session) (z y : State) (waited : Waited r at ls S z y) where
  -- the jobs of the session
  abbrev J : Instance
  J = instance_of S

  -- the barrier
  abbrev there : State
  there = at_tick at y

  -- no more is printed then
  last_is : last_of (settled J at) ≡ r.last
  last_is = ap last_of (printed_there ls S r.floor z waited.goes.sees at there waited.no_fall waited.waits)
      ∙ sym waited.goes.last

  -- the state there
  pub state_is : settled_state J at ≡ there
  state_is = state_there ls S r.floor z waited.goes.sees at there waited.no_fall waited.waits

  -- as many jobs are ready there as the course keeps
  pub ready_is : length r.course.ready ≡ ready_at J at
  ready_is = as_many (filter is_ready y.tasks) r.course.ready waited.goes.follows.ready
      ∙ ap (λ (s : State). length (filter is_ready s.tasks)) (sym state_is)

  -- the job that runs there
  pub running_is : running (settled_state J at) ≡ running y
  running_is = ap running state_is

  -- all steps were taken before the tick just where the last printed one was
  tells : (t : Task) → running y ≡ Some t → all_before J at ≡ nat_lt r.last at
  tells t some = last_tells J (session_jobs waited.goes.sees.valid) at t (running_is ∙ some)
      ∙ ap (λ n. nat_lt n at) last_is

  -- a step was printed in the tick
  pub late_wrong : (n : ℕ) → at ≤ r.last → false ≡ is_some (finish_at J at n)
  late_wrong n late = by_runner (running y) refl where
    by_runner : (o : Option Task) → running y ≡ o → false ≡ is_some (finish_at J at n)
    by_runner None none = ap is_some (sym (none_other J at n (λ t some same.
        absurd (let clash : None ≡ Some t = sym none ∙ sym running_is ∙ some in cc))))
    by_runner (Some t) some = ap is_some (sym (none_late J at n (tells t some ∙ le-ltb r.last at late)))

  -- none was
  pub early_right : (n : ℕ) (b : Bool) → r.last < at → (b ≡ true → Runs r.course n)
      → (b ≡ false → RunsNowhere r.course n)
      → b ≡ is_some (finish_at J at n)
  early_right n true early runs nowhere =
      let it = runs refl J y waited.goes.follows in
      let right : finish_at J at it.0.number ≡ Some (record { at = at; finish = finish_now it.0 }) =
      right_finish J at it.0 (running_is ∙ it.1) (tells it.0 it.1 ∙ lt-ltb r.last at early) in
      ap is_some (sym (ap (finish_at J at) (sym it.2) ∙ right))
  early_right n false early runs nowhere =
      ap is_some (sym (none_other J at n (λ t some same.
      nowhere refl J y waited.goes.follows t (sym running_is ∙ some) same)))

-- the same of a done line that isn't above the mark
pub right_at : (K : Instance) (at tick n : ℕ) (b : Bool) → tick ≤ at → at ≤ tick → b ≡ is_some (finish_at K at n)
    → b ≡ (nat_le at tick && is_some (finish_at K tick n))
right_at K at tick n b low high is =
    let same : at ≡ tick = omega (arith, low, high) in
    is ∙ ap (λ t. is_some (finish_at K t n)) same
    ∙ ap (λ a. a && is_some (finish_at K tick n)) (sym (le-leb at tick high))

-- ---- the early completion

-- the reading with it
abbrev completed : Reading → Course → (at : ℕ) → List Event → (room : ℕ) → Reading
completed r d at steps room = record r {
  course = d;
  items = r.items + 1;
  floor = at;
  steps = steps;
  room = room;
  last = at;
}

module _ (r : Reading) (at number : ℕ) (ls : List (List ℕ)) (can : CanComplete r at number ls) where
  -- the session so far, and its jobs
  abbrev S : Session
  S = can.session

  abbrev J_here : Instance
  J_here = instance_of S

  -- where the run has gone on to
  abbrev y : State
  y = can.state

  -- what the finish says
  pub says : FinishSays J_here at number can.finish
  says = finish_says J_here at number can.finish can.right

  -- the job runs
  runs : running y ≡ Some says.job
  runs = sym (running_is r at ls S can.from y can.waited) ∙ says.runs

  -- so the clock is at the tick
  at_clock : y.clock ≡ at
  at_clock =
      let it : IsMember says.job y.tasks × (is_running says.job ≡ true) = found is_running y.tasks says.job runs in
      can.waited.there (some_goes_on y says.job it.0
      (passes is_over says.job Running false (is_running_role says.job it.1) refl))

  -- and that of the course
  pub done_clock : r.course.clock ≡ at
  done_clock = sym can.waited.goes.follows.clock ∙ at_clock

  -- no step was printed at it
  pub done_low : r.last < r.course.clock
  done_low = by_bool _ (nat_lt r.last at)
      (λ low. omega (arith, ltb-true r.last at low, done_clock))
      (λ late. never (late_wrong r at ls S can.from y can.waited number (ltb-false r.last at late)
      ∙ ap is_some can.right))

  -- the finish of the job that runs
  abbrev f : EarlyFinish
  f = record { at = at; finish = finish_now says.job }

  -- it is right
  right_f : early_at S f.at f.finish.number ≡ Some f
  right_f = ap (λ b. cond b (finish_at J_here at says.job.number) None) can.version
      ∙ ap (finish_at J_here at) says.number ∙ can.right ∙ ap Some (sym says.is)

  -- so it may stand there
  may_f : MayFinish S r.floor f
  may_f = record { no_fall = can.waited.no_fall; known = can.known; right = right_f }

  -- the barrier is where the run has gone on to
  barrier_f : IsBarrier J_here.rules at y
  barrier_f = subst (λ c. IsBarrier J_here.rules at (record y { clock = c })) (sym at_clock)
      can.waited.waits.barrier

  -- the session with it
  abbrev S_done : Session
  S_done = with_item S (FinishItem f)

  -- the state after it
  abbrev y_done : State
  y_done = after y (Prints (Complete f.at f.finish.number))

  -- the lines with its completion
  abbrev sees : SeesWith (ls ++ completion_text f ∷ []) S_done at y_done
      (printed_of can.waited.goes.sees.steps ++ Complete at says.job.number ∷ [])
  sees = sees_completion ls S r.floor can.from can.waited.goes.sees f can.waited.goes.idles.0 y can.room may_f
      can.waited.goes.idles.1 at_clock barrier_f

  -- there is room for it
  pub done_room : HasSpare r → r.keep ≡ true → length r.steps < r.room
  done_room spare keep =
      let rest = sees_rest (ls ++ completion_text f ∷ []) S_done at y_done sees.0 in
      room_for r ls S can.from y can.waited.goes spare keep (instance_of S_done) (session_jobs sees.0.valid)
      (omega (
        arith,
        ap length rest.2,
        length-append (printed_of sees.0.steps) (printed_of rest.0),
        ap length sees.1,
        length-append (printed_of can.waited.goes.sees.steps) (Complete at says.job.number ∷ []),
      ))
      (omega (
        arith,
        follows_count r.course J_here y can.waited.goes.follows,
        ap length (filter_map-append job_of_item S.items (FinishItem f ∷ [])),
        length-append (admitted_jobs S.items) [],
      ))

  module _ (d : Course) (o : Bool) (yes : o ≡ true → Finishes r.course number d)
      (no : o ≡ false → RunsNowhere r.course number × (d ≡ r.course)) (steps : List Event) (room : ℕ)
      (more : steps ≡ cond r.keep (r.steps ++ Complete at number ∷ []) r.steps) where
    -- the job finishes
    finishes : (b : Bool) → o ≡ b → Finishes r.course number d
    finishes true is = yes is
    finishes false is = absurd ((no is).0 J_here y can.waited.goes.follows says.job runs says.number)

    -- the run goes on behind it
    follows_done : Follows d (instance_of S_done) y_done
    follows_done =
        let it = finishes o refl J_here y can.waited.goes.follows in
        let same : it.0 ≡ says.job = some_same it.0 says.job (sym it.1 ∙ runs) in
        subst (λ I. Follows d I y_done) (sym (finish_instance S f))
        (subst (λ t. Follows d (with_finishes J_here (finish_now t ∷ [])) y_done) same
        (subst (λ e. Follows d (with_finishes J_here (finish_now it.0 ∷ [])) (after y (Prints e)))
        (ap (λ c. Complete c number) at_clock ∙ ap (Complete at) (sym says.number)) it.3))

    -- it is kept of the lines with its text
    pub completed_goes : GoesHere (completed r d at steps room) (ls ++ text_of (Complete at number) ∷ [])
    completed_goes =
        let so_far : List Event = printed_of can.waited.goes.sees.steps in
        let text : SeesWith (ls ++ text_of (Complete at number) ∷ []) S_done at y_done
        (so_far ++ Complete at number ∷ []) =
        subst (λ n. SeesWith (ls ++ text_of (Complete at n) ∷ []) S_done at y_done (so_far ++ Complete at n ∷ []))
        says.number sees in (
          S_done,
          y_done,
          item_more r ls S can.from y can.waited.goes (FinishItem f) (completed r d at steps room)
              (ls ++ text_of (Complete at number) ∷ []) y_done (Complete at number ∷ []) text follows_done
              (no_job r.kept) refl refl refl more (omega arith) refl,
        )

-- a reading under another name, and a completion that was taken in it
module _ (r w : Reading) (same : r ≡ w) (going_w : w.stage ≡ Going) (at number : ℕ) (d : Course) (o : Bool)
    (yes : o ≡ true → Finishes r.course number d) (no : o ≡ false → RunsNowhere r.course number × (d ≡ r.course))
    (steps : List Event) (room : ℕ) (more : steps ≡ cond r.keep (r.steps ++ Complete at number ∷ []) r.steps) where
  -- the trace goes on
  pub named_reads : (ls : List (List ℕ)) → CanComplete w at number ls
      → Reads (completed r d at steps room) (ls ++ text_of (Complete at number) ∷ [])
  named_reads ls can =
      let it = completed_goes r at number ls (subst (λ v. CanComplete v at number ls) (sym same) can) d o yes no steps
      room more in
      reads_of (completed r d at steps room) (ls ++ text_of (Complete at number) ∷ [])
      (ap (λ (v : Reading). v.stage) same ∙ going_w) it.0 it.1 it.2

  -- and it is kept of some lines
  pub named_reader : (ls : List (List ℕ)) → CanComplete w at number ls → IsReader r
      → d ≡ record r.course { pressed = d.pressed; ready = d.ready; done = d.done }
      → length d.ready ≤ length r.course.ready → room ≡ r.room
      → IsReader (completed r d at steps room)
  named_reader ls can old kept fewer same_room = here_reader (completed r d at steps room)
      (ap (λ (v : Reading). v.stage) same ∙ going_w) (record {
        ready = omega (arith, old.spare.ready, fewer, ap (λ (c : Course). c.room) kept);
        steps = λ keep. let before : 5 * (r.course.jobs + r.spare) + 1 ≤ r.room = old.spare.steps keep in
            omega (arith, ap (λ (c : Course). c.jobs) kept, same_room);
      }) (ls ++ text_of (Complete at number) ∷ [])
      (completed_goes r at number ls (subst (λ v. CanComplete v at number ls) (sym same) can) d o yes no steps room
      more)

-- ---- whether it is one

module _ (w : Reading) (going : w.stage ≡ Going) (at number : ℕ) where
  -- in a version in which jobs don't finish early none is
  pub not_early : may_finish_early w.kept.rules.version ≡ false → MayNotComplete w at number
  not_early none ls S z goes f y may is_at is_number = never (sym (ap may_finish_early (version_kept w ls S z z goes)
      ∙ none) ∙ (early_finish S f.at f.finish.number f (finish_parts may).right).0)

  -- above the last tick none is
  pub not_known : last_tick_in w.kept.rules.version < at → MayNotComplete w at number
  not_known high ls S z goes f y may is_at is_number =
      absurd (omega (arith, (finish_parts may).known, ap last_tick_in (version_kept w ls S z z goes), high, is_at))

  -- where there are as many items as may be none is
  pub not_roomy : most_items w.kept.rules.version ≤ w.items → MayNotComplete w at number
  not_roomy full ls S z goes f y may is_at is_number =
      absurd (omega (arith, full, room_kept w ls S z z goes may.room))

  -- where something comes before its tick none is
  pub not_there : (w.floor ≤ at → (ls : List (List ℕ)) (S : Session) (z : State) → Goes w ls S z z → (x : State)
      → WaitsUntil (instance_of S).rules at z x → ⊥) → MayNotComplete w at number
  not_there none ls S z goes f y may is_at is_number =
      none (omega (arith, (finish_parts may).no_fall, is_at)) ls S z goes y
      (subst (λ t. WaitsUntil (instance_of S).rules t z y) is_at may.waits)

  -- where the finish isn't right none is
  pub not_right : (v : Reading)
      → ((ls : List (List ℕ)) (S : Session) (z y : State) → Goes w ls S z y → (x : State) × Waited v at ls S z x)
      → ((ls : List (List ℕ)) (S : Session) (z y : State) → Waited v at ls S z y
      → false ≡ is_some (finish_at (instance_of S) at number)) → MayNotComplete w at number
  not_right v waits wrong ls S z goes f y may is_at is_number =
      let there = waits ls S z z goes in
      never (wrong ls S z there.0 there.1
      ∙ ap is_some (ap (λ t. finish_at (instance_of S) t number) (sym is_at)
      ∙ ap (finish_at (instance_of S) f.at) (sym is_number)
      ∙ (early_finish S f.at f.finish.number f (finish_parts may).right).1))

-- ---- it is one

-- what there is
some_of : {X : Type 0} (o : Option X) → true ≡ is_some o → (x : X) × (o ≡ Some x)
some_of None is = never (sym is)
some_of (Some x) is = (x, refl)

module _ (w v : Reading) (at number : ℕ) (kept : v ≡ record w { course = v.course })
    (early : may_finish_early w.kept.rules.version ≡ true) (known : at ≤ last_tick_in w.kept.rules.version)
    (few : w.items < most_items w.kept.rules.version)
    (waits : (ls : List (List ℕ)) (S : Session) (z y : State) → Goes w ls S z y → (x : State) × Waited v at ls S z x)
    (right : (ls : List (List ℕ)) (S : Session) (z y : State) → Waited v at ls S z y
    → true ≡ is_some (finish_at (instance_of S) at number)) where
  -- the job may finish early, once the run has gone on
  pub right_can : (ls : List (List ℕ)) (S : Session) (z y : State) → Goes w ls S z y → CanComplete v at number ls
  right_can ls S z y goes =
      let there : (x : State) × Waited v at ls S z x = waits ls S z y goes in
      let some = some_of (finish_at (instance_of S) at number) (right ls S z there.0 there.1) in
      record {
        session = S;
        from = z;
        state = there.0;
        waited = there.1;
        version = ap may_finish_early (version_kept w ls S z y goes) ∙ early;
        known = omega (arith, known, ap last_tick_in (version_kept w ls S z y goes));
        room = room_left w ls S z y goes few;
        finish = some.0;
        right = some.1;
      }

  -- some lines were read
  pub right_some : w.stage ≡ Going → (r : Reading) → r ≡ w → IsReader r → (ls : List (List ℕ))
      × CanComplete v at number ls
  right_some going r same old =
      let it : (S : Session) × (z : State) × (y : State) × Goes w old.lines S z y =
      goes_of w old.lines going (subst (λ u. ReadsAhead u old.lines) same old.reads) in
      (old.lines, right_can old.lines it.0 it.1 it.2 it.3)

  -- so the trace goes on
  pub right_took : w.stage ≡ Going → (t : Reading)
      → ((ls : List (List ℕ)) → CanComplete v at number ls → Reads t (ls ++ text_of (Complete at number) ∷ []))
      → Took w t (text_of (Complete at number)) true
  right_took going t reads_more = goes_some w t (text_of (Complete at number)) going
      (λ ls S z goes. reads_more ls (right_can ls S z z goes))

-- ---- a completion

module _ (w : Reading) (going : w.stage ≡ Going) (at number : ℕ) (form : HasForm (StepLine (Complete at number))) where
  -- it isn't an early one, and the run prints it next or it doesn't
  pub completion_took : (v new : Reading) (good : Bool) → v.stage ≡ Going → MayNotComplete w at number → StaysAhead w v
      → Followed v new (Complete at number) good → Took w new (text_of (Complete at number)) good
  completion_took v new good going_v none ahead it = record {
    yes = λ is ls reads. it.yes is ls (ahead ls (reads_ahead w ls reads));
    no = λ is ls reads.
        let here : (S : Session) × (z : State) × Goes w ls S z z = here_of w ls going reads in
        let on : (S : Session) × (z : State) × (y : State) × Goes v ls S z y =
        goes_of v ls going_v (ahead ls (reads_ahead w ls reads)) in
        let same : on.0 ≡ here.0 =
        some_same on.0 here.0 (sym on.3.sees.named ∙ here.2.sees.named) in (
          by_early ls here.0 here.1 here.2 is (early_at here.0 at number) refl
              (λ names. it.no is ls on.0 on.1 on.2 on.3
              (ap (λ T. named_item T (text_of (Complete at number))) same ∙ names)),
          it.ahead is ls (ahead ls (reads_ahead w ls reads)),
        );
  } where
    by_early : (ls : List (List ℕ)) (S : Session) (z : State) → Goes w ls S z z → good ≡ false
        → (o : Option EarlyFinish)
        → early_at S at number ≡ o
        → (named_item S (text_of (Complete at number)) ≡ None
        → begins_trace (ls ++ text_of (Complete at number) ∷ []) ≡ false)
        → begins_trace (ls ++ text_of (Complete at number) ∷ []) ≡ false
    by_early ls S z goes is None wrong follow = follow (step_named S (Complete at number) form refl
        ∙ ap (option_map FinishItem) wrong)
    by_early ls S z goes is (Some f) right follow = false_from_ne_true _ (λ passes.
        let says : FinishSays (instance_of S) at number f =
        finish_says (instance_of S) at number f (early_finish S at number f right).1 in
        let may = only_completion ls S w.floor z goes.sees (text_of (Complete at number)) passes f
        (step_named S (Complete at number) form refl ∙ ap (option_map FinishItem) right) in
        none ls S z goes f may.1 may.2 (sym (ap (λ (g : EarlyFinish). g.at) says.is))
        (sym (ap (λ (g : EarlyFinish). g.finish.number) says.is) ∙ says.number))
