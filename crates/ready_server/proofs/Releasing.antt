-- What a server has given with the release of a job.
use Rattle.std.proofs.Common.{◌≡◌, ℕ, ◌≤◌, List, [], ◌∷◌, ◌++◌, inl, inr, length, refl, sym, ap, ◌∙◌, subst, true}
use Rattle.std.proofs.Common.{false, arith, ◌+◌, ◌&&◌, nat_le}
use Rattle.std.specs.List.{AllByRecursion}
use Rattle.dover_model.specs.declared.events.Event.TheVariants.{Release}
use Rattle.dover_model.specs.declared.events.Role.{Role}
use Rattle.dover_model.specs.declared.events.Role.TheVariants.{Coming, Fresh, Running, Done}
use Rattle.dover_model.specs.declared.events.Task.{Task}
use Rattle.dover_model.specs.Common.{JobFacts, IsJob, last_tick, Instance, IsValid, with_jobs, State, opening}
use Rattle.dover_model.specs.Common.{with_later, is_coming, Prints, open_step, waits_for_mark, settled}
use Rattle.dover_model.specs.Common.{IsBefore, HasPrinted, IsMember, Each, FitsRole, IsSound, Keeps, with_fresh}
use Rattle.dover_model.proofs.steps.Kept.{opening_keeps}
use Rattle.dover_model.proofs.settled.Paths.{path_keeps, printed_behind}
use Rattle.dover_model.proofs.settled.Releasing.{coming_task, barrier_releases}
use Rattle.dover_model.proofs.steps.Roles.{passes}
use Rattle.dover_model.proofs.settled.Settling.{at_barrier}
use Rattle.dover_model.proofs.lists.Tests.{never}
use Rattle.dover_model.proofs.runs.Released.{after_release}
use Rattle.dover_model.specs.declared.horizon.Horizon.TheVariants.{Mark}
use Rattle.waiting_pool.specs.Reordered.{IsReordered}
use Rattle.ready_jobs.specs.Course.{Course, Follows, IsCourse, fresh_job, with_release}
use Rattle.ready_jobs.proofs.Courses.{follows_count, follows_order}
use Rattle.ready_jobs.proofs.Releasing.{release_follows}
use Rattle.ready_server.specs.Serving.{Serves, Rests}
use Rattle.ready_server.specs.declared.server.ReadyServer.{ReadyServer}
use Rattle.ready_server.proofs.Stepping.{printed_event, printed_low, last_more}
use Rattle.dover_model.proofs.valid.ValidParts.{valid_parts}
use Rattle.dover_model.proofs.valid.JobLimits.{job_limits}

-- a job that isn't to come was released
pub not_ahead : (s : State) → IsSound s → (t : Task) → IsMember t s.tasks → is_coming t ≡ false
    → t.job.release ≤ s.clock
not_ahead s sound t member came = by_role t.role refl (sound.roles t member) where
  by_role : (r : Role) → t.role ≡ r → FitsRole s.clock r t → t.job.release ≤ s.clock
  by_role Coming is fits = never (sym came ∙ passes is_coming t Coming true is refl)
  by_role Fresh is fits = fits.2
  by_role Running is fits = fits
  by_role Done is fits = fits
  by_role _ is fits = fits.1

-- what holds of each job holds of the last
of_last : (P : JobFacts → Type 0) (jobs : List JobFacts) (j : JobFacts) → AllByRecursion P (jobs ++ j ∷ []) → P j
of_last P [] j all = all.0
of_last P (i ∷ jobs) j all = of_last P jobs j all.1

module _ (s : ReadyServer) (J : Instance) (j : JobFacts) (rests : Rests s J (Mark j.release))
    (valid : IsValid (with_jobs J (j ∷ []))) where
  -- the jobs with the new one
  abbrev K : Instance
  K = with_jobs J (j ∷ [])

  -- its number
  abbrev n : ℕ
  n = length J.jobs

  -- the state before its release
  abbrev there : State
  there = record rests.state { clock = j.release }

  -- it is a sound one of the jobs so far
  keeps_there : Keeps J there
  keeps_there = let waits = rests.given.1.waits in
      path_keeps J rests.follows.valid j.release waits.steps (opening J.jobs) there (opening_keeps J) waits.path

  -- with the job behind, nothing more was printed
  coming : HasPrinted K j.release (with_later there (coming_task n j ∷ [])) (settled J j.release)
  coming = printed_behind J (j ∷ []) j.release there (settled J j.release) valid late rests.given.1.waits where
    late : Each (λ (i : JobFacts). j.release ≤ i.release) (j ∷ [])
    late i (inl e) = subst (λ (x : JobFacts). j.release ≤ x.release) (sym e) (omega arith)
    late i (inr m) = absurd m

  -- its release comes
  comes : open_step K.rules (with_later there (coming_task n j ∷ [])) ≡ Prints (Release n j)
  comes = barrier_releases J there keeps_there K.rules
      (λ t m. not_ahead there keeps_there.sound t m (rests.follows.released t m))
      (at_barrier (waits_for_mark (open_step J.rules there)) j.release j.release rests.given.1.barrier).0 n j refl

  -- once it is printed, the job is fresh
  printed_release : HasPrinted K j.release (with_fresh there n j) (settled J j.release ++ Release n j ∷ [])
  printed_release = subst (λ z. HasPrinted K j.release z (settled J j.release ++ Release n j ∷ []))
      (after_release J there keeps_there j refl)
      (printed_event K j.release (with_later there (coming_task n j ∷ [])) (settled J j.release) (Release n j) coming
      before comes) where
        before : IsBefore K.rules j.release (with_later there (coming_task n j ∷ []))
        before = ap (λ m. waits_for_mark m && nat_le j.release j.release) comes

  -- its number is the next one of the server
  pub next_number : s.ready.jobs ≡ n
  next_number = follows_count s.ready J rests.state rests.follows

  -- with the server's number
  printed_next : HasPrinted K j.release (with_fresh there s.ready.jobs j)
      (settled J j.release ++ Release s.ready.jobs j ∷ [])
  printed_next = subst (λ m. HasPrinted K j.release (with_fresh there m j) (settled J j.release ++ Release m j ∷ []))
      (sym next_number) printed_release

  -- the ready jobs with the new one
  follows_next : Follows (with_release s.ready j s.ready.room) K (with_fresh there s.ready.jobs j)
  follows_next = release_follows s.ready J rests.state rests.follows K j s.ready.room refl valid
      (path_keeps K valid j.release printed_next.steps (opening K.jobs) (with_fresh there s.ready.jobs j)
      (opening_keeps K) printed_next.path) known where
        known : j.release ≤ last_tick
        known = let job : IsJob j = of_last IsJob J.jobs j (valid_parts valid).each in
            let window : j.release + j.work ≤ j.deadline = (job_limits job).window in
            let due : j.deadline ≤ 10_000_000_000_000_000 = (job_limits job).due in omega arith

  -- they are those of a run
  pub release_course : IsCourse (with_release s.ready j s.ready.room)
  release_course = (K, with_fresh there s.ready.jobs j, follows_next)

  -- the clock isn't behind the release
  pub release_ahead : s.ready.clock ≤ j.release
  release_ahead = omega (
    arith,
    printed_low J rests.follows.valid j.release rests.state (settled J j.release) rests.given.1.here,
    rests.follows.clock,
  )

  -- once it is taken, it was given
  pub release_given : (d : Course) → d ≡ record (with_release s.ready j s.ready.room) { ready = d.ready }
      → IsReordered (s.ready.ready ++ fresh_job s.ready j ∷ []) d.ready
      → (last : ℕ) → last ≡ j.release → Serves (record s { ready = d; last = last }) K (Mark j.release)
      (settled J j.release ++ Release s.ready.jobs j ∷ [])
  release_given d is order last now = record {
    state = with_fresh there s.ready.jobs j;
    follows = subst (λ c. Follows c K (with_fresh there s.ready.jobs j)) (sym is)
        (follows_order (with_release s.ready j s.ready.room) d.ready K (with_fresh there s.ready.jobs j) follows_next
        order);
    given = (rests.given.0, printed_next);
    last = now ∙ sym (last_more (settled J j.release) (Release s.ready.jobs j));
  }
