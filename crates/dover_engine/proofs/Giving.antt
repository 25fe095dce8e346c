-- What an engine gives, call by call.
use Rattle.std.proofs.Common.{◌≡◌, ℕ, ◌≤◌, List, [], ◌∷◌, ◌++◌, append-nil, refl, sym, ap, ◌∙◌, subst, arith, inl, inr}
use Rattle.std.proofs.Common.{Bool, true, false, ◌||◌, Option, Some, None, IfSome, IsNone, option_to_list}
use Rattle.std.specs.List.{AllByRecursion}
use Rattle.dover_model.specs.declared.events.Event.{Event}
use Rattle.dover_model.specs.declared.events.Task.{Task}
use Rattle.dover_model.specs.declared.events.Version.{Version}
use Rattle.dover_model.specs.Common.{Fraction, JobFacts, Instance, IsValid, with_jobs, with_finishes, Finish}
use Rattle.dover_model.specs.Common.{refusal_of, Prints, is_end, settled, Each, jobs_of, MayFollow, is_ready_after}
use Rattle.dover_model.specs.Common.{no_jobs, due_by, Gives}
use Rattle.admission.proofs.Joining.{admitted_valid}
use Rattle.admission.specs.Kept.{Kept, StandsFor}
use Rattle.dover_model.specs.declared.horizon.Horizon.{Horizon}
use Rattle.dover_model.specs.declared.horizon.Horizon.TheVariants.{Mark, End}
use Rattle.ready_server.specs.Serving.{Serves, Rests}
use Rattle.ready_server.specs.declared.server.ReadyServer.{ReadyServer}
use Rattle.ready_server.proofs.Stepping.{serves_later, rests_serves, printed_low}
use Rattle.ready_server.proofs.Releasing.{not_ahead}
use Rattle.dover_engine.specs.Life.{life_with, Life, IsReadyFor, has_ended}
use Rattle.dover_engine.specs.Given.{GaveSince}

-- ---- the beginning

-- a new engine gave nothing
pub fresh_gave : (version : Version) (k : Fraction) (s : ReadyServer) (kept : Kept)
    → Serves s (no_jobs version k) (Mark 0) [] → StandsFor kept []
    → kept.rules ≡ record { ratio = k; version = version }
    → GaveSince (life_with s kept (Mark 0) false None 0 0) (no_jobs version k) []
fresh_gave version k s kept serves stands rules = record {
  admission = stands;
  rules = rules;
  serves = serves;
  settled = λ e. absurd (let f : false ≡ true = e in cc);
  unended = tt;
  known = (omega arith, omega arith);
}

-- ---- a job

-- each of the tasks, each of their jobs
each_job : (n : ℕ) (tasks : List Task) → Each (λ (t : Task). t.job.release ≤ n) tasks
    → AllByRecursion (λ (j : JobFacts). j.release ≤ n) (jobs_of tasks)
each_job n [] each = tt
each_job n (t ∷ tasks) each = (each t (inl refl), each_job n tasks (λ u m. each u (inr m)))

-- no job that was released is behind the mark
known_at : (s : ReadyServer) (J : Instance) (mark : ℕ) (events : List Event) → Serves s J (Mark mark) events
    → AllByRecursion (λ (j : JobFacts). j.release ≤ mark) J.jobs
known_at s J mark events serves =
    subst (AllByRecursion (λ (j : JobFacts). j.release ≤ mark)) serves.follows.keeps.jobs
    (each_job mark serves.state.tasks (λ t m. here t (not_ahead serves.state serves.follows.keeps.sound t m
    (serves.follows.released t m)))) where
      here : (t : Task) → t.job.release ≤ serves.state.clock → t.job.release ≤ mark
      here t low =
          omega (arith, low, printed_low J serves.follows.valid mark serves.state events serves.given.1)

-- of two that are the same, both are ready
pub ready_too : {u v : Life} {at : ℕ} → v ≡ u → IsReadyFor u at → IsReadyFor v at
ready_too {u} {v} {at} same = subst (λ w. IsReadyFor w at) (sym same)

-- where all that is settled at a mark was given, the server rests there
pub rests_now : (v : Life) (J : Instance) (events : List Event) (g : GaveSince v J events) {mark : ℕ}
    → IsReadyFor v mark → Rests v.server J (Mark mark)
rests_now v J events g ready = subst (Rests v.server J) ready.1 (g.settled ready.0).rests

module _ (v : Life) (J : Instance) (events : List Event) (g : GaveSince v J events) (job : JobFacts)
    (ready : IsReadyFor v job.release) where
  -- all that is settled at the release was given
  pub rests_there : Rests v.server J (Mark job.release)
  rests_there = rests_now v J events g ready

  pub all_there : events ≡ settled J job.release
  all_there = (g.settled ready.0).all ∙ ap (due_by J) ready.1

  -- a job that isn't refused may be admitted
  pub may_admit : refusal_of v.admission.rules J.jobs job ≡ None → IsValid (with_jobs J (job ∷ []))
  may_admit none = admitted_valid J job rests_there.follows.valid
      (known_at v.server J job.release (settled J job.release) (rests_serves v.server J (Mark job.release) rests_there))
      (ap (λ rules. refusal_of rules J.jobs job) (sym g.rules) ∙ none)

  -- what was given stays, and its release is to come
  pub job_gave : (s : ReadyServer) (kept : Kept) (e : Event)
      → Serves s (with_jobs J (job ∷ [])) (Mark job.release) (settled J job.release ++ e ∷ [])
      → StandsFor kept (J.jobs ++ job ∷ []) → kept.rules ≡ v.admission.rules → is_end (Prints e) ≡ false
      → GaveSince (life_with s kept v.last false (Some e) v.forgotten v.earned)
      (with_jobs J (job ∷ [])) events
  job_gave s kept e serves stands rules no_end = record {
    admission = stands;
    rules = rules ∙ g.rules;
    serves = subst (λ es. Serves s (with_jobs J (job ∷ [])) v.last (es ++ e ∷ [])) (sym all_there)
        (subst (λ to. Serves s (with_jobs J (job ∷ [])) to (settled J job.release ++ e ∷ [])) (sym ready.1) serves);
    settled = λ f. absurd (let f2 : false ≡ true = f in cc);
    unended = (serves.given.0, no_end);
    known = g.known;
  }

-- ---- an early finish

-- what was given stays, and the completion is to come
pub finish_gave : (v : Life) (J : Instance) (events : List Event) (g : GaveSince v J events) (at : ℕ)
    → IsReadyFor v at → (s : ReadyServer) (f : Finish) (e : Event)
    → Serves s (with_finishes J (f ∷ [])) (Mark at) (settled J at ++ e ∷ []) → is_end (Prints e) ≡ false
    → GaveSince (life_with s v.admission v.last false (Some e) v.forgotten v.earned) (with_finishes J (f ∷ [])) events
finish_gave v J events g at ready s f e serves no_end = record {
  admission = g.admission;
  rules = g.rules;
  serves = subst (λ es. Serves s (with_finishes J (f ∷ [])) v.last (es ++ e ∷ []))
      (sym ((g.settled ready.0).all ∙ ap (due_by J) ready.1))
      (subst (λ to. Serves s (with_finishes J (f ∷ [])) to (settled J at ++ e ∷ [])) (sym ready.1) serves);
  settled = λ i. absurd (let clash : false ≡ true = i in cc);
  unended = (serves.given.0, no_end);
  known = g.known;
}

-- ---- a step

-- a horizon that follows is known
known_next : (last to : Horizon) → MayFollow last to → MayFollow (Mark 0) to
known_next (Mark m) (Mark t) may = (omega arith, may.1)
known_next (Mark m) End may = tt
known_next End (Mark t) may = absurd may
known_next End End may = tt

-- a horizon isn't reached by a step that gives something
not_reached : (to : Horizon) (e : Event) → is_ready_after to (Some e) ≡ false
not_reached (Mark t) e = refl
not_reached End e = refl

module _ (v : Life) (J : Instance) (events : List Event) (g : GaveSince v J events) (to : Horizon)
    (may : MayFollow v.last to) where
  -- the release of the job that is coming
  pub came_gave : (e : Event) → v.coming ≡ Some e
      → GaveSince (life_with v.server v.admission to false None v.forgotten v.earned) J
      (events ++ e ∷ [])
  came_gave e some = record {
    admission = g.admission;
    rules = g.rules;
    serves = subst (Serves v.server J to) (sym (append-nil (events ++ e ∷ [])))
        (serves_later v.server J v.last to (events ++ e ∷ [])
        (subst (λ o. Serves v.server J v.last (events ++ option_to_list o)) some g.serves) may);
    settled = λ f. absurd (let f2 : false ≡ true = f in cc);
    unended = tt;
    known = known_next v.last to may;
  }

  -- it isn't the End
  pub came_last : (e : Event) → v.coming ≡ Some e → is_end (Prints e) ≡ false
  came_last e some =
      let none : (has_ended v ≡ false) × (is_end (Prints e) ≡ false) =
      subst (λ o. IfSome o (λ d. (has_ended v ≡ false) × (is_end (Prints d) ≡ false))) some g.unended in none.1

  -- End wasn't given, nor is it by this
  pub came_open : (e : Event) → v.coming ≡ Some e → has_ended v ≡ (has_ended v || is_end (Prints e))
  came_open e some =
      let none : (has_ended v ≡ false) × (is_end (Prints e) ≡ false) =
      subst (λ o. IfSome o (λ d. (has_ended v ≡ false) × (is_end (Prints d) ≡ false))) some g.unended in
      both (has_ended v) (is_end (Prints e)) none.0 none.1 where
        both : (a b : Bool) → a ≡ false → b ≡ false → a ≡ (a || b)
        both false false x y = refl
        both false true x y = absurd (let f : true ≡ false = y in cc)
        both true b x y = refl

  module _ (none : v.coming ≡ None) where
    -- what was served
    pub served : Serves v.server J v.last events
    served = subst (Serves v.server J v.last) (append-nil events)
        (subst (λ o. Serves v.server J v.last (events ++ option_to_list o)) none g.serves)

    -- with what the server gives
    pub step_gave : (s : ReadyServer) (o : Option Event)
        → Gives (Serves s J to) (Rests s J to) (due_by J to) events o
        → GaveSince (life_with s v.admission to (is_ready_after to o) None v.forgotten v.earned) J
        (events ++ option_to_list o)
    step_gave s None it = record {
      admission = g.admission;
      rules = g.rules;
      serves = subst (Serves s J to) (sym (append-nil (events ++ []) ∙ append-nil events ∙ it.0))
          (rests_serves s J to it.1);
      settled = λ f. record {
        all = append-nil events ∙ it.0;
        none = refl;
        rests = it.1;
        marked = λ last. let f2 : false ≡ true = ap (λ h. is_ready_after h None) (sym last) ∙ f in cc;
      };
      unended = tt;
      known = known_next v.last to may;
    }
    step_gave s (Some e) it = record {
      admission = g.admission;
      rules = g.rules;
      serves = subst (Serves s J to) (sym (append-nil (events ++ e ∷ []))) it;
      settled = λ f. absurd (let f2 : true ≡ false = sym f ∙ not_reached to e in cc);
      unended = tt;
      known = known_next v.last to may;
    }

-- where the server gives nothing, all was given
pub all_given : (s : ReadyServer) (J : Instance) (to : Horizon) (events : List Event) (o : Option Event)
    → Gives (Serves s J to) (Rests s J to) (due_by J to) events o → IsNone o → events ≡ due_by J to
all_given s J to events None it none = it.0
all_given s J to events (Some e) it none = absurd (let f : true ≡ false = none in cc)
