-- How the judge takes the line of a release.
use Rattle.std.proofs.Common.{◌≡◌, ℕ, ◌+◌, ◌*◌, ◌≤◌, ◌<◌, List, [], ◌∷◌, ◌++◌, length, length-append, refl, sym, ap}
use Rattle.std.proofs.Common.{◌∙◌, subst, true, false, cond, arith, None, leb-false}
use Rattle.std.proofs.lemmas.List.Elements.{filter_map-append}
use Rattle.admission.specs.Kept as admission
use Rattle.dover_model.specs.Common.{Instance, last_tick, most_items, most_ready, JobFacts, refusal_of, Keeps, State}
use Rattle.dover_model.specs.Common.{printed_of, JobItem, Session, instance_of, admitted_jobs, with_item, job_of_item}
use Rattle.dover_model.specs.Common.{text_of, begins_trace, WaitsUntil, with_fresh, is_full, ready_at}
use Rattle.dover_model.specs.declared.events.Event.{Event}
use Rattle.dover_model.specs.declared.events.Event.TheVariants.{Release}
use Rattle.dover_model.proofs.valid.Admitting.{Admitted, not_refused}
use Rattle.dover_model.proofs.valid.Limiting.{jobs_most}
use Rattle.dover_model.proofs.sessions.Growing.{job_instance}
use Rattle.line_text.specs.declared.traces.lines.TraceLine.TheVariants.{Step as StepLine}
use Rattle.line_text.specs.traces.Form.{HasForm}
use Rattle.trace_judge.specs.Reading.{MayRelease, release_text}
use Rattle.trace_judge.proofs.Continuing.{sees_release, SeesWith}
use Rattle.trace_judge.proofs.Seeing.{sees_keeps, sees_rest}
use Rattle.trace_judge.proofs.Only.{only_release}
use Rattle.trace_judge.specs.declared.stage.TraceStage.TheVariants.{Going}
use Rattle.ready_jobs.specs.Course.{Course, Follows, IsCourse, with_release, fresh_job}
use Rattle.waiting_pool.specs.Reordered.{IsReordered}
use Rattle.waiting_pool.proofs.Reordering.{as_many}
use Rattle.trace_judge.specs.Reads.{Reading, Goes, Reads, StaysAhead, HasSpare, IsReader, Took, Waited, CanRelease}
use Rattle.trace_judge.specs.Reads.{at_tick}
use Rattle.ready_jobs.proofs.Courses.{follows_count, follows_order}
use Rattle.ready_jobs.proofs.Releasing as course
use Rattle.trace_judge.proofs.Forms.{one_form}
use Rattle.trace_judge.proofs.Readings.{reads_of, with_room, room_kept, room_left, room_goes, room_for, GoesHere}
use Rattle.trace_judge.proofs.Readings.{here_reader, goes_none, goes_some, item_more}
use Rattle.trace_judge.proofs.Naming.{item_named}
use Rattle.dover_model.proofs.lists.Tests.{never}
use Rattle.trace_judge.proofs.Completing.{ready_is}
use Rattle.dover_model.proofs.sessions.SessionParts.{session_jobs}
use Rattle.dover_model.proofs.valid.JobLimits.{job_limits}

-- ---- the line alone

-- where the text of a release continues a trace, the job may be released, under the next number
pub release_only : (r : Reading) (ls : List (List ℕ)) (S : Session) (z : State) → Goes r ls S z z
    → (n : ℕ) (j : JobFacts)
    → HasForm (StepLine (Release n j)) → begins_trace (ls ++ text_of (Release n j) ∷ []) ≡ true
    → (n ≡ r.course.jobs) × (y : State) × MayRelease S r.floor z j y
release_only r ls S z goes n j form passes =
    let it : (text_of (Release n j) ≡ release_text S j) × (y : State) × MayRelease S r.floor z j y =
    only_release ls S r.floor z goes.sees (text_of (Release n j)) passes j
    (item_named S (StepLine (Release n j)) (JobItem j) form refl) in
    let admitted : Admitted S.rules (admitted_jobs S.items) j =
    not_refused S.rules (admitted_jobs S.items) j it.2.admitted in
    let low : length (admitted_jobs S.items) < 4_000_000_000 =
    omega (arith, admitted.count, jobs_most S.rules.version) in
    let next : HasForm (StepLine (Release (length (admitted_jobs S.items)) j)) =
    ((omega (arith, low), form.0.1), (omega (arith, low), admitted.job)) in
    let same : StepLine (Release n j) ≡ StepLine (Release (length (admitted_jobs S.items)) j) =
    one_form _ _ form next it.0 in
    let number : n ≡ length (admitted_jobs S.items) = cc in
    (number ∙ sym (follows_count r.course (instance_of S) z goes.follows), it.1, it.2)

-- ---- the job

-- the job may be released, once the run has gone on to its release
pub can_release : (r : Reading) (j : JobFacts) (ls : List (List ℕ)) (S : Session) (z y : State)
    → Waited r j.release ls S z y → r.items < most_items r.kept.rules.version
    → refusal_of r.kept.rules (admitted_jobs S.items) j ≡ None → is_full (instance_of S) j.release ≡ false
    → CanRelease r j ls
can_release r j ls S z y waited few admitted not_full = record {
  session = S;
  from = z;
  state = y;
  waited = waited;
  may = record {
    room = room_left r ls S z y waited.goes few;
    admitted = subst (λ k. refusal_of k (admitted_jobs S.items) j ≡ None) waited.goes.rules admitted;
    not_full = not_full;
    no_fall = waited.no_fall;
    waits = waited.waits;
  };
}

-- it may with other room as well
pub room_release : (r : Reading) (j : JobFacts) (ls : List (List ℕ)) (ready spare room : ℕ) → CanRelease r j ls
    → CanRelease (with_room r ready spare room) j ls
room_release r j ls ready spare room can = record {
  session = can.session;
  from = can.from;
  state = can.state;
  waited = record {
    goes = room_goes r ready spare room ls can.session can.from can.state can.waited.goes;
    no_fall = can.waited.no_fall;
    low = can.waited.low;
    there = can.waited.there;
    waits = can.waited.waits;
  };
  may = can.may;
}

module _ (r : Reading) (j : JobFacts) (room : ℕ) (ls : List (List ℕ)) (can : CanRelease r j ls) where
  -- the session so far
  abbrev S : Session
  S = can.session

  -- with the job
  abbrev S_more : Session
  S_more = with_item S (JobItem j)

  -- the number of the job
  abbrev n : ℕ
  n = length (admitted_jobs S.items)

  -- the state before its release
  abbrev y : State
  y = at_tick j.release can.state

  -- the lines with its release
  abbrev sees : SeesWith (ls ++ release_text S j ∷ []) S_more j.release (with_fresh y n j)
      (printed_of can.waited.goes.sees.steps ++ Release n j ∷ [])
  sees = sees_release ls S r.floor can.from can.waited.goes.sees j y can.may

  -- its number is the next one
  next_number : r.course.jobs ≡ n
  next_number = follows_count r.course (instance_of S) can.state can.waited.goes.follows

  -- the run with it
  pub release_follows : Follows (with_release r.course j room) (instance_of S_more) (with_fresh y n j)
  release_follows = subst (λ m. Follows (with_release r.course j room) (instance_of S_more) (with_fresh y m j))
      next_number
      (course.release_follows r.course (instance_of S) can.state can.waited.goes.follows (instance_of S_more) j room
      (ap (λ (I : Instance). I.rules) (job_instance S j)) (session_jobs sees.0.valid)
      (subst (λ m. Keeps (instance_of S_more) (with_fresh y m j)) (sym next_number)
      (sees_keeps (ls ++ release_text S j ∷ []) S_more j.release (with_fresh y n j) sees.0)) known) where
        known : j.release ≤ last_tick
        known = let admitted : Admitted S.rules (admitted_jobs S.items) j =
            not_refused S.rules (admitted_jobs S.items) j can.may.admitted in
            let window : j.release + j.work ≤ j.deadline = (job_limits admitted.job).window in
            let due : j.deadline ≤ 10_000_000_000_000_000 = (job_limits admitted.job).due in
            omega arith

  -- the course with it
  pub release_course : IsCourse (with_release r.course j room)
  release_course = (instance_of S_more, with_fresh y n j, release_follows)

  -- there may be one ready job more
  pub one_more_ready : length r.course.ready < most_ready
  one_more_ready = omega (
    arith,
    ready_is r j.release ls S can.from can.state can.waited,
    leb-false most_ready (ready_at (instance_of S) j.release) can.may.not_full,
  )

  -- there is room for it
  pub release_room : HasSpare r → 0 < r.spare → r.keep ≡ true → length r.steps < r.room
  release_room spare some keep =
      let rest = sees_rest (ls ++ release_text S j ∷ []) S_more j.release (with_fresh y n j) sees.0 in
      room_for r ls S can.from can.state can.waited.goes spare keep (instance_of S_more) (session_jobs sees.0.valid)
      (omega (
        arith,
        ap length rest.2,
        length-append (printed_of sees.0.steps) (printed_of rest.0),
        ap length sees.1,
        length-append (printed_of can.waited.goes.sees.steps) (Release n j ∷ []),
      ))
      (omega (
        arith,
        some,
        next_number,
        ap length (filter_map-append job_of_item S.items (JobItem j ∷ [])),
        length-append (admitted_jobs S.items) (j ∷ []),
      ))

-- a release that was taken in a reading, which has another name
module _ (r w : Reading) (same : r ≡ w) (going_w : w.stage ≡ Going) (j : JobFacts) (d : Course) (number floor : ℕ)
    (kept : admission.Kept) (items : ℕ) (steps : List Event) (spare steps_room : ℕ)
    (is_d : d ≡ record (with_release r.course j r.course.room) { ready = d.ready })
    (order : IsReordered (r.course.ready ++ fresh_job r.course j ∷ []) d.ready) (is_number : number ≡ r.course.jobs)
    (is_floor : floor ≡ j.release)
    (stands : (jobs : List JobFacts) → admission.StandsFor r.kept jobs → admission.StandsFor kept (jobs ++ j ∷ []))
    (rules : kept.rules ≡ r.kept.rules) (counted : items ≡ r.items + 1)
    (more : steps ≡ cond r.keep (r.steps ++ Release number j ∷ []) r.steps) where
  -- the reading with it
  abbrev taken : Reading
  taken = record r {
    course = d;
    kept = kept;
    items = items;
    floor = floor;
    steps = steps;
    spare = spare;
    room = steps_room;
    last = floor;
  }

  -- the stage
  going : r.stage ≡ Going
  going = ap (λ (v : Reading). v.stage) same ∙ going_w

  -- it is kept of the lines with its text
  taken_goes : (ls : List (List ℕ)) → CanRelease w j ls
      → GoesHere taken (ls ++ text_of (Release w.course.jobs j) ∷ [])
  taken_goes ls can_w =
      let can : CanRelease r j ls = subst (λ v. CanRelease v j ls) (sym same) can_w in
      let S : Session = can.session in
      let n : ℕ = length (admitted_jobs S.items) in
      let z : State = with_fresh (at_tick j.release can.state) n j in
      let S_more : Session = with_item S (JobItem j) in
      let so_far : List Event = printed_of can.waited.goes.sees.steps in
      let is_n : n ≡ number = sym (is_number ∙ next_number r j 0 ls can) in
      let is_w : n ≡ w.course.jobs =
      sym (next_number r j 0 ls can) ∙ ap (λ (v : Reading). v.course.jobs) same in
      let sees : SeesWith (ls ++ text_of (Release w.course.jobs j) ∷ []) S_more floor z
      (so_far ++ Release number j ∷ []) =
      subst (λ t. SeesWith (ls ++ text_of (Release w.course.jobs j) ∷ []) S_more t z (so_far ++ Release number j ∷ []))
      (sym is_floor)
      (subst (λ m. SeesWith (ls ++ text_of (Release m j) ∷ []) S_more j.release z (so_far ++ Release number j ∷ []))
      is_w
      (subst (λ m. SeesWith (ls ++ release_text S j ∷ []) S_more j.release z (so_far ++ Release m j ∷ [])) is_n
      (sees_release ls S r.floor can.from can.waited.goes.sees j (at_tick j.release can.state) can.may))) in (
        S_more,
        z,
        item_more r ls S can.from can.state can.waited.goes (JobItem j) taken
            (ls ++ text_of (Release w.course.jobs j) ∷ []) z (Release number j ∷ []) sees
            (subst (λ c. Follows c (instance_of S_more) z) (sym is_d)
            (follows_order (with_release r.course j r.course.room) d.ready (instance_of S_more) z
            (release_follows r j r.course.room ls can) order))
            stands rules counted refl more (omega arith) is_floor,
      )

  -- so the trace goes on
  pub taken_reads : (ls : List (List ℕ)) → CanRelease w j ls
      → Reads taken (ls ++ text_of (Release w.course.jobs j) ∷ [])
  taken_reads ls can =
      let it = taken_goes ls can in
      reads_of taken (ls ++ text_of (Release w.course.jobs j) ∷ []) going it.0 it.1 it.2

  -- and what is kept is kept of some lines
  pub taken_reader : IsReader r → (ls : List (List ℕ)) → CanRelease w j ls → spare + 1 ≡ r.spare → steps_room ≡ r.room
      → IsReader taken
  taken_reader old ls can less same_steps = here_reader taken going (record {
    ready = omega (
      arith,
      old.spare.ready,
      less,
      ap (λ (c : Course). c.room) is_d,
      as_many (r.course.ready ++ fresh_job r.course j ∷ []) d.ready order,
      length-append r.course.ready (fresh_job r.course j ∷ []),
    );
    steps = λ keep. let before : 5 * (r.course.jobs + r.spare) + 1 ≤ r.room = old.spare.steps keep in
        omega (arith, less, same_steps, ap (λ (c : Course). c.jobs) is_d);
  }) (ls ++ text_of (Release w.course.jobs j) ∷ []) (taken_goes ls can)

-- ---- whether it goes on

module _ (w : Reading) (going : w.stage ≡ Going) (n : ℕ) (j : JobFacts) (form : HasForm (StepLine (Release n j))) where
  -- it may not come, as far as the run has gone on
  not_released : (v : Reading) → StaysAhead w v
      → ((ls : List (List ℕ)) (S : Session) (z : State) → Goes w ls S z z → n ≡ w.course.jobs → (y : State)
      → MayRelease S w.floor z j y → ⊥) → Took w v (text_of (Release n j)) false
  not_released v ahead none = goes_none w v (text_of (Release n j)) going ahead (λ ls S z goes passes.
      let it : (n ≡ w.course.jobs) × (y : State) × MayRelease S w.floor z j y =
      release_only w ls S z goes n j form passes in
      none ls S z goes it.0 it.1 it.2)

  -- the job isn't admitted
  pub not_admitted : (n ≡ w.course.jobs → w.items < most_items w.kept.rules.version → (jobs : List JobFacts)
      → admission.StandsFor w.kept jobs
      → refusal_of w.kept.rules jobs j ≡ None → ⊥) → Took w w (text_of (Release n j)) false
  not_admitted none = not_released w (λ ls reads. reads) (λ ls S z goes number y may.
      none number (room_kept w ls S z z goes may.room) (admitted_jobs S.items) goes.kept
      (subst (λ k. refusal_of k (admitted_jobs S.items) j ≡ None) (sym goes.rules) may.admitted))

  -- as many jobs are ready at its release as may be at once
  pub not_roomy : (v : Reading) → StaysAhead w v
      → ((ls : List (List ℕ)) (S : Session) (z y : State) → Goes w ls S z y
      → (x : State) × Waited v j.release ls S z x)
      → ((at : ℕ) (ls : List (List ℕ)) (S : Session) (z y : State) → Waited v at ls S z y
      → true ≡ is_full (instance_of S) at) → Took w v (text_of (Release n j)) false
  not_roomy v ahead waits full = not_released v ahead (λ ls S z goes number y may.
      let there = waits ls S z z goes in
      never (sym (full j.release ls S z there.0 there.1 ∙ may.not_full)))

  -- something comes before its release
  pub not_waited : (v : Reading)
      → (w.floor ≤ j.release → (ls : List (List ℕ)) (S : Session) (z : State) → Goes w ls S z z → (x : State)
      → WaitsUntil (instance_of S).rules j.release z x → ⊥) → StaysAhead w v → Took w v (text_of (Release n j)) false
  not_waited v none ahead = not_released v ahead
      (λ ls S z goes number y may. none may.no_fall ls S z goes y may.waits)

-- the job may be released, once the run has gone on and there is room
pub reserved_can : (w v u : Reading) (j : JobFacts) → v ≡ record w { course = v.course }
    → u ≡ with_room v u.course.room u.spare u.room
    → ((ls : List (List ℕ)) (S : Session) (z y : State) → Goes w ls S z y → (x : State) × Waited v j.release ls S z x)
    → w.items < most_items w.kept.rules.version → ((jobs : List JobFacts) → admission.StandsFor w.kept jobs
    → refusal_of w.kept.rules jobs j ≡ None)
    → ((at : ℕ) (ls : List (List ℕ)) (S : Session) (z y : State) → Waited v at ls S z y
    → false ≡ is_full (instance_of S) at)
    → (ls : List (List ℕ)) (S : Session) (z y : State) → Goes w ls S z y → CanRelease u j ls
reserved_can w v u j kept same waits few admits roomy ls S z y goes =
    let waited : (x : State) × Waited v j.release ls S z x = waits ls S z y goes in
    subst (λ t. CanRelease t j ls) (sym same) (room_release v j ls u.course.room u.spare u.room
    (can_release v j ls S z waited.0 waited.1
    (subst (λ (t : Reading). t.items < most_items t.kept.rules.version) (sym kept) few)
    (subst (λ (t : Reading). refusal_of t.kept.rules (admitted_jobs S.items) j ≡ None) (sym kept)
    (admits (admitted_jobs S.items) goes.kept))
    (sym (roomy j.release ls S z waited.0 waited.1))))

-- so the trace goes on
pub reserved_took : (w u t : Reading) (n : ℕ) (j : JobFacts) → w.stage ≡ Going → n ≡ u.course.jobs
    → ((ls : List (List ℕ)) (S : Session) (z y : State) → Goes w ls S z y → CanRelease u j ls)
    → ((ls : List (List ℕ)) → CanRelease u j ls → Reads t (ls ++ text_of (Release u.course.jobs j) ∷ []))
    → Took w t (text_of (Release n j)) true
reserved_took w u t n j going number can reads_more = goes_some w t (text_of (Release n j)) going (λ ls S z goes.
    subst (λ m. Reads t (ls ++ text_of (Release m j) ∷ [])) (sym number) (reads_more ls (can ls S z z goes)))
