-- A roll at a mark has all jobs as they stand, and what a server has printed can be read into it.
use Rattle.std.proofs.Common.{◌≡◌, inl, inr, ℕ, suc, ◌+◌, ◌-◌, ◌≤◌, ◌<◌, ◌^◌, List, [], ◌∷◌, ◌++◌, length}
use Rattle.std.proofs.Common.{length-append, map, set, refl, sym, ap, ◌∙◌, subst, Option, Some, None, Bool, true, false}
use Rattle.std.proofs.Common.{arith, ltb-true, ltb-false, nat_lt, slice_get, fold}
use Rattle.std.specs.List.{AllByRecursion}
use Rattle.std.proofs.lemmas.List.Sums.{fold-append}
use Rattle.std.proofs.lemmas.Option.{slice_get_within}
use Rattle.dover_model.specs.declared.events.Event.{Event}
use Rattle.dover_model.specs.declared.events.Event.TheVariants.{Release, Preempt, Take, Complete, Abandon}
use Rattle.dover_model.specs.declared.events.Role.{Role}
use Rattle.dover_model.specs.declared.events.Role.TheVariants.{Coming, Fresh, Waiting, Held, Done, Gone}
use Rattle.dover_model.specs.declared.events.Task.{Task}
use Rattle.dover_model.specs.Common.{JobFacts, Rules, Instance, IsValid, IsOpenPath, HasPrinted, Step, settled}
use Rattle.dover_model.specs.Common.{settled_state, settled_steps, IsSettledRun, Begins, IsMember, Each, IsNumberedFrom}
use Rattle.dover_model.specs.Common.{Keeps, State, opening, is_coming, open_step, after, with_role, due_by}
use Rattle.dover_model.proofs.settled.Barriers.{AtBarrier, settled_at_barrier, state_after}
use Rattle.dover_model.proofs.runs.Honest.{count_jobs}
use Rattle.dover_model.proofs.lists.Members.{some_same}
use Rattle.dover_model.proofs.steps.Roles.{passes, numbers_above}
use Rattle.dover_model.proofs.settled.Settling.{settled_is_run}
use Rattle.dover_model.proofs.lists.Tests.{never}
use Rattle.dover_model.specs.declared.horizon.Horizon.{Horizon}
use Rattle.dover_model.specs.declared.horizon.Horizon.TheVariants.{Mark}
use Rattle.dover_model.proofs.settled.Horizons.{due_few}
use Rattle.dover_model.proofs.valid.Limiting.{jobs_most}
use Rattle.ready_server.specs.Serving as ready
use Rattle.ready_server.specs.declared.server.ReadyServer.{ReadyServer}
use Rattle.ready_server.specs.Roster.{Roll, ListedJob, stopped, released, job_at, with_event, empty_roll, roll_of}
use Rattle.ready_server.specs.Roster.{with_stop, halted, with_finish, finish_here}
use Rattle.ready_server.specs.declared.roster.ListedFinish.{ListedFinish}
use Rattle.ready_server.proofs.Present.{none_to_come}
use Rattle.ready_server.proofs.Rolls.{calm, calm_role, length_set, Follows}
use Rattle.ready_server.proofs.RollRuns.{numbered_task, roll_follows}

-- ---- all jobs at a mark

-- a list that has each task under its number has all of them
all_listed : (f : ListedJob → Task) (n : ℕ) (tasks : List Task) (jobs : List ListedJob) → IsNumberedFrom n tasks
    → ((t : Task) → IsMember t tasks → (e : ListedJob) × (slice_get jobs (t.number - n) ≡ Some e) × (f e ≡ t))
    → length jobs ≤ length tasks → map f jobs ≡ tasks
all_listed f n [] [] numbered there few = refl
all_listed f n [] (e ∷ jobs) numbered there few = absurd (omega (arith, few))
all_listed f n (t ∷ tasks) [] numbered there few =
    let it = there t (inl refl) in absurd (let no : None ≡ Some it.0 = it.1 in cc)
all_listed f n (t ∷ tasks) (e ∷ jobs) numbered there few =
    let it = there t (inl refl) in
    let first : t.number - n ≡ 0 = omega (arith, numbered.0) in
    let same : e ≡ it.0 = some_same e it.0 (sym (ap (slice_get (e ∷ jobs)) first) ∙ it.1) in
    ap (λ u. u ∷ map f jobs) (ap f same ∙ it.2)
    ∙ ap (λ ts. t ∷ ts) (all_listed f (suc n) tasks jobs numbered.1 (λ u m. later u m (there u (inr m)))
    (omega (arith, few))) where
      later : (u : Task) → IsMember u tasks
          → (x : ListedJob) × (slice_get (e ∷ jobs) (u.number - n) ≡ Some x) × (f x ≡ u)
          → (x : ListedJob) × (slice_get jobs (u.number - suc n) ≡ Some x) × (f x ≡ u)
      later u m (x, at, is) =
          let low : suc n ≤ u.number = numbers_above (suc n) tasks numbered.1 u m in
          let next : u.number - n ≡ suc (u.number - suc n) = omega (arith, low) in
          (x, sym (ap (slice_get (e ∷ jobs)) next) ∙ at, is)

-- a settled run is a path
settled_path : (rules : Rules) (mark : ℕ) (xs : List Step) (s : State) → IsSettledRun rules mark s xs
    → IsOpenPath rules mark s xs (state_after s xs)
settled_path rules mark [] s run = refl
settled_path rules mark (x ∷ xs) s run = (
  run.0,
  run.1,
  subst (λ z. IsOpenPath rules mark (after s (open_step rules s)) xs (state_after z xs))
      (sym (ap (λ (y : Step). after y.before y.move) run.0))
      (settled_path rules mark xs (after s (open_step rules s)) run.2),
)

-- a job that isn't fresh is in the roll as it is
calm_is : (t : Task) → (t.role ≡ Fresh → ⊥) → calm t ≡ t
calm_is t stale = ap (with_role t) (by t.role refl) where
  by : (role : Role) → t.role ≡ role → calm_role role ≡ role
  by Fresh e = absurd (stale e)
  by _ e = refl

module _ (J : Instance) (valid : IsValid J) (mark : ℕ) where
  abbrev s : State
  s = settled_state J mark

  bar : AtBarrier J mark s
  bar = settled_at_barrier J valid mark

  printed_there : HasPrinted J mark s (settled J mark)
  printed_there = record {
    steps = settled_steps J mark;
    path = settled_path J.rules mark (settled_steps J mark) (opening J.jobs) (settled_is_run J mark valid);
    prints = refl;
  }

  follows : Follows s (roll_of (settled J mark))
  follows = roll_follows J valid mark s (settled J mark) printed_there

  -- the roll of the settled steps has the jobs in the state that they lead to
  pub settled_jobs : AllByRecursion (λ j. j.release ≤ mark) J.jobs
      → map (job_at (roll_of (settled J mark)) mark) (roll_of (settled J mark)).jobs ≡ s.tasks
  settled_jobs known = all_listed (job_at (roll_of (settled J mark)) mark) 0 s.tasks (roll_of (settled J mark)).jobs
      bar.keeps.sound.numbered there follows.few where
        there : (t : Task) → IsMember t s.tasks
            → (e : ListedJob) × (slice_get (roll_of (settled J mark)).jobs (t.number - 0) ≡ Some e)
            × (job_at (roll_of (settled J mark)) mark e ≡ t)
        there t m =
            let it = follows.here t m (none_to_come J valid mark known t m) in
            let off : t.number - 0 ≡ t.number = omega arith in (
              it.listed,
              ap (slice_get (roll_of (settled J mark)).jobs) off ∙ it.there,
              ap (λ c. job_at (roll_of (settled J mark)) c it.listed) (sym bar.clock) ∙ it.is
                  ∙ calm_is t (bar.none_fresh t m),
            )

-- ---- a server's events

-- one event more
pub roll_more : (events : List Event) (e : Event) → roll_of (events ++ e ∷ []) ≡ with_event (roll_of events) e
roll_more events e = fold-append with_event empty_roll events (e ∷ [])

-- a stop is no take
stop_takes : (p : Roll) (n ticks : ℕ) (role : Role) → (with_stop p n ticks role).takes ≡ p.takes
stop_takes p n ticks role = by (slice_get p.jobs n) where
  by : (o : Option ListedJob) → (let q : Roll = elim o
      [ None ↦ p | Some e ↦ record p { jobs = set p.jobs n (stopped ticks role p.takes e) } ] in q.takes) ≡ p.takes
  by None = refl
  by (Some x) = refl

halt_takes : (p : Roll) (at : ℕ) (role : Role) → (halted p at role).takes ≡ p.takes
halt_takes p at role = by p.turn where
  by : (o : Option ℕ) → (let q : Roll = elim o
      [ None ↦ p | Some n ↦ record (with_stop p n (at - p.since) role) { turn = None } ] in q.takes) ≡ p.takes
  by None = refl
  by (Some n) = stop_takes p n (at - p.since) role

-- so a finish is
finish_takes : (q : Roll) (o : Option ListedFinish) → (with_finish q o).takes ≡ q.takes
finish_takes q None = refl
finish_takes q (Some f) = refl

-- each step is at most one
one_take : (p : Roll) (e : Event) → (with_event p e).takes ≤ suc p.takes
one_take p (Preempt at stops starts) = omega (arith, halt_takes p at Held)
one_take p (Take at stops starts) = omega (arith, halt_takes p at Waiting)
one_take p (Complete at n) =
    omega (arith, finish_takes (halted p at Done) (finish_here p at), halt_takes p at Done)
one_take p (Abandon at n) = omega (arith, stop_takes p n 0 Gone)
one_take p _ = omega arith

takes_from : (events : List Event) (p : Roll) → (fold with_event p events).takes ≤ p.takes + length events
takes_from [] p = omega arith
takes_from (e ∷ events) p = omega (arith, takes_from events (with_event p e), one_take p e)

-- a stop leaves as many jobs
pub stop_count : (p : Roll) (n ticks : ℕ) (role : Role) → length (with_stop p n ticks role).jobs ≡ length p.jobs
stop_count p n ticks role = by (slice_get p.jobs n) where
  by : (o : Option ListedJob) → (let q : Roll = elim o
      [ None ↦ p | Some e ↦ record p { jobs = set p.jobs n (stopped ticks role p.takes e) } ] in length q.jobs)
      ≡ length p.jobs
  by None = refl
  by (Some x) = length_set p.jobs n (stopped ticks role p.takes x)

pub halt_count : (p : Roll) (at : ℕ) (role : Role) → length (halted p at role).jobs ≡ length p.jobs
halt_count p at role = by p.turn where
  by : (o : Option ℕ) → (let q : Roll = elim o
      [ None ↦ p | Some n ↦ record (with_stop p n (at - p.since) role) { turn = None } ] in length q.jobs)
      ≡ length p.jobs
  by None = refl
  by (Some n) = stop_count p n (at - p.since) role

-- and a finish
pub finish_count : (q : Roll) (o : Option ListedFinish) → length (with_finish q o).jobs ≡ length q.jobs
finish_count q None = refl
finish_count q (Some f) = refl

-- so does each step that isn't a release
pub same_count : (p : Roll) (e : Event) → ((n : ℕ) (job : JobFacts) → e ≡ Release n job → ⊥)
    → length (with_event p e).jobs ≡ length p.jobs
same_count p (Release n job) other = absurd (other n job refl)
same_count p (Preempt at stops starts) other = halt_count p at Held
same_count p (Take at stops starts) other = halt_count p at Waiting
same_count p (Complete at n) other =
    finish_count (halted p at Done) (finish_here p at) ∙ halt_count p at Done
same_count p (Abandon at n) other = stop_count p n 0 Gone
same_count p _ other = refl

-- and none takes a job away
one_more : (p : Roll) (e : Event) → length p.jobs ≤ length (with_event p e).jobs
one_more p (Release n job) = omega (arith, length-append p.jobs (released n job ∷ []))
one_more p e = omega (arith, same_count p e (λ n job is. absurd (let no : e ≡ Release n job = is in cc)))

jobs_more : (events : List Event) (p : Roll) → length p.jobs ≤ length (fold with_event p events).jobs
jobs_more [] p = omega arith
jobs_more (e ∷ events) p = omega (arith, jobs_more events (with_event p e), one_more p e)

-- so steps that were settled release no more jobs than there are
pub few_jobs : (J : Instance) → IsValid J → (mark : ℕ) (events : List Event) → Begins events (settled J mark)
    → length (roll_of events).jobs ≤ length J.jobs
few_jobs J valid mark events (rest, is) = omega (
  arith,
  jobs_more rest (roll_of events),
  ap (λ es. length (roll_of es).jobs) is,
  ap (λ (p : Roll). length p.jobs) (fold-append with_event empty_roll events rest),
  (follows J valid mark).few,
  count_jobs (settled_state J mark).tasks,
  ap length (bar J valid mark).keeps.jobs,
)

-- there are few takes
pub takes_low : (J : Instance) (to : Horizon) (events : List Event) → IsValid J → Begins events (due_by J to)
    → (roll_of events).takes < 2 ^ 64 - 1
takes_low J to events valid begins = omega (
  arith,
  takes_from events empty_roll,
  due_few J to valid,
  jobs_most J.rules.version,
  ap length begins.1,
  length-append events begins.0,
)

-- where all jobs were released, the roll has as many
all_here : (z : State) (p : Roll) → IsNumberedFrom 0 z.tasks → Follows z p → Each (λ t. is_coming t ≡ false) z.tasks
    → length z.tasks ≤ length p.jobs
all_here z p numbered follows came = by_test (nat_lt (length p.jobs) (length z.tasks)) refl where
  by_test : (b : Bool) → nat_lt (length p.jobs) (length z.tasks) ≡ b → length z.tasks ≤ length p.jobs
  by_test false e = ltb-false _ _ e
  by_test true e =
      let less : length p.jobs < length z.tasks = ltb-true _ _ e in
      let t = numbered_task 0 (length p.jobs) z.tasks numbered (omega arith) (omega (arith, less)) in
      let out : t.0.role ≡ Coming → ⊥ = λ is. never (sym (came t.0 t.1) ∙ passes is_coming t.0 Coming true is refl) in
      let it = follows.here t.0 t.1 out in
      absurd (omega (arith, slice_get_within p.jobs t.0.number it.listed it.there, t.2))

-- as many jobs as the instance
pub tasks_count : (J : Instance) (z : State) → Keeps J z → length z.tasks ≡ length J.jobs
tasks_count J z keeps = omega (arith, count_jobs z.tasks, ap length keeps.jobs)

-- no release comes by a step
pub no_release : (v w : ReadyServer) (J : Instance) (m mark : ℕ) (events : List Event) (n : ℕ) (job : JobFacts)
    → ready.Serves v J (Mark m) events → ready.Serves w J (Mark mark) (events ++ Release n job ∷ []) → ⊥
no_release v w J m mark events n job served next =
    let p = roll_of events in
    let before = roll_follows J served.follows.valid m served.state events served.given.1 in
    let behind = roll_follows J next.follows.valid mark next.state (events ++ Release n job ∷ []) next.given.1 in
    let more : length (roll_of (events ++ Release n job ∷ [])).jobs ≡ length p.jobs + 1 =
    ap (λ (q : Roll). length q.jobs) (roll_more events (Release n job)) ∙ length-append p.jobs (released n job ∷ []) in
    absurd (omega (
      arith,
      all_here served.state p served.follows.keeps.sound.numbered before served.follows.released,
      behind.few,
      more,
      tasks_count J served.state served.follows.keeps,
      tasks_count J next.state next.follows.keeps,
    ))
