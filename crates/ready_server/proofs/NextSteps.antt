-- When a server that has given all up to a mark is to be called again.
use Rattle.std.proofs.Common.{◌≡◌, ℕ, suc, ◌≤◌, ◌<◌, inl, List, [], ◌∷◌, ◌++◌, refl, sym, ap, ◌∙◌, arith, append-nil}
use Rattle.std.proofs.Common.{Bool, true, false, cond, not, Option, Some, None, IfSome}
use Rattle.dover_model.specs.declared.events.Event.{Event}
use Rattle.dover_model.specs.declared.events.Role.TheVariants.{Coming, Fresh, Running, Done, Gone}
use Rattle.dover_model.specs.declared.events.Task.{Task}
use Rattle.dover_model.specs.Common.{Fraction, Instance, IsValid, PrintsNext, is_ready, printed, printed_of}
use Rattle.dover_model.specs.Common.{last_deadline, settled, settled_steps, waits_for_mark, Each, IsMember, NoneRuns}
use Rattle.dover_model.specs.Common.{State, opening, is_over, is_coming, is_ready_behind, Move, Prints, Ticks}
use Rattle.dover_model.specs.Common.{open_step, with_role, HasPrinted}
use Rattle.dover_model.specs.declared.horizon.Horizon.TheVariants.{Mark}
use Rattle.dover_model.proofs.settled.Barriers.{late_none_fresh}
use Rattle.dover_model.proofs.steps.Deeds.{Deed, Taken}
use Rattle.dover_model.proofs.steps.Deeds.{Abandoned, Rested}
use Rattle.dover_model.proofs.runs.Ending.{potential, ends}
use Rattle.dover_model.proofs.steps.Kept.{open_deed, opening_keeps}
use Rattle.dover_model.proofs.settled.LastSteps.{prints_clock}
use Rattle.dover_model.proofs.settled.Leading.{prints_first, prints_goes_on, stops_before}
use Rattle.dover_model.proofs.lists.Members.{filter_member, member_filter}
use Rattle.dover_model.proofs.settled.Paths.{one_settled_run, path_keeps, path_later, path_ready, path_then_settled}
use Rattle.dover_model.proofs.settled.Paths.{printed_then_run}
use Rattle.dover_model.proofs.settled.Prefixes.{step_open}
use Rattle.dover_model.proofs.finishes.Readiness.{IsReady, opening_ready}
use Rattle.dover_model.proofs.steps.Roles.{passes, by_role}
use Rattle.dover_model.proofs.runs.Runs.{printed_append}
use Rattle.dover_model.proofs.settled.Settling.{at_barrier, settles, settled_is_run}
use Rattle.dover_model.proofs.lists.Tests.{never}
use Rattle.ready_jobs.specs.Course.{Follows}
use Rattle.ready_jobs.specs.NextTick.{IsUnderWay, PrintsAt}
use Rattle.ready_server.specs.NextStep.{ComesAt}
use Rattle.ready_server.specs.Serving.{Rests}
use Rattle.ready_server.specs.declared.server.ReadyServer.{ReadyServer}
use Rattle.ready_server.proofs.Stepping.{printed_low}

-- ---- at the barrier of a mark, a job runs where any is ready

-- the jobs that are ready, none of which is fresh or to come, run, wait or are held
pub ready_behind : (t : Task) → is_ready t ≡ true → (t.role ≡ Fresh → ⊥) → (t.role ≡ Running → ⊥)
    → (t.role ≡ Coming → ⊥) → is_ready_behind t ≡ true
ready_behind t ready fresh runs comes =
    by_role (λ u role. not (is_over u) ≡ true → (role ≡ Fresh → ⊥) → (role ≡ Running → ⊥) → (role ≡ Coming → ⊥)
    → is_ready_behind u ≡ true) t by_each ready fresh runs comes where
      by_each : (role : _) → not (is_over (with_role t role)) ≡ true → (role ≡ Fresh → ⊥) → (role ≡ Running → ⊥)
          → (role ≡ Coming → ⊥) → is_ready_behind (with_role t role) ≡ true
      by_each Coming ready fresh runs comes = absurd (comes refl)
      by_each Fresh ready fresh runs comes = absurd (fresh refl)
      by_each Running ready fresh runs comes = absurd (runs refl)
      by_each Done ready fresh runs comes = never ready
      by_each Gone ready fresh runs comes = never ready
      by_each _ ready fresh runs comes = refl

-- where a late step is taken and no job runs, none waits or is held
pub late_free : (k : Fraction) (s : State) (m : Move) → Deed k s Ticks m → waits_for_mark m ≡ true → NoneRuns s.tasks
    → Each (λ t. is_ready_behind t ≡ true → ⊥) s.tasks
late_free k s m (Taken r x member runs some x_member waiting now stale heavy) late none = absurd (none r member runs)
late_free k s m (Abandoned r x member runs some x_member waiting now stale light) late none =
    absurd (none r member runs)
late_free k s m (Rested quiet) late none = quiet.free none
late_free k s m _ late none = never late

-- a list with no members
no_members : (ts : List Task) → ((t : Task) → IsMember t ts → ⊥) → ts ≡ []
no_members [] none = refl
no_members (t ∷ ts) none = absurd (none t (inl refl))

module _ (s : ReadyServer) (J : Instance) (mark : ℕ) (rests : Rests s J (Mark mark)) where
  abbrev z : State
  z = rests.state

  abbrev valid : IsValid J
  valid = rests.follows.valid

  here : HasPrinted J mark z (settled J mark)
  here = rests.given.1.here

  -- the state at the barrier
  abbrev there : State
  there = record z { clock = mark }

  deed : Deed J.rules.ratio there Ticks (open_step J.rules there)
  deed = open_deed J valid there (path_keeps J valid mark rests.given.1.waits.steps (opening J.jobs) there
      (opening_keeps J) rests.given.1.waits.path) J.rules

  late : waits_for_mark (open_step J.rules there) ≡ true
  late = (at_barrier (waits_for_mark (open_step J.rules there)) mark there.clock rests.given.1.barrier).0

  -- a ready job is one of the instance that isn't over
  known : (t : Task) → IsMember t s.ready.ready → IsMember t z.tasks × (is_ready t ≡ true)
  known t m = member_filter is_ready z.tasks t (rests.follows.ready.back t m)

  stale : Each (λ t. t.role ≡ Fresh → ⊥) z.tasks
  stale = late_none_fresh J.rules.ratio there (open_step J.rules there) deed late

  pub under_way : IsUnderWay s.ready
  under_way = record {
    decided = λ t m. stale t (known t m).0;
    busy = λ none. no_members s.ready.ready (λ t m. nobody none t (known t m) m);
  } where
    runs_nowhere : NoneRuns s.ready.ready → NoneRuns z.tasks
    runs_nowhere none t m runs =
        none t
        (rests.follows.ready.there t (filter_member is_ready z.tasks t m (passes is_ready t Running true runs refl)))
        runs

    comes_not : (t : Task) → IsMember t z.tasks → t.role ≡ Coming → ⊥
    comes_not t m comes = never (sym (rests.follows.released t m) ∙ passes is_coming t Coming true comes refl)

    nobody : NoneRuns s.ready.ready → (t : Task) → IsMember t z.tasks × (is_ready t ≡ true)
        → IsMember t s.ready.ready → ⊥
    nobody none t it m =
        late_free J.rules.ratio there (open_step J.rules there) deed late (runs_nowhere none) t it.0
        (ready_behind t it.1 (stale t it.0) (none t m) (comes_not t it.0))

  -- ---- what comes next

  ready : IsReady J.rules.finishes z
  ready = path_ready J valid mark here.steps (opening J.jobs) z (opening_keeps J)
      (opening_ready J.rules.finishes J.jobs) here.path

  module _ (tick : ℕ) (it : PrintsAt s.ready tick) where
    next : (y : State) × Follows it.there J y × PrintsNext J.rules z it.event y
    next = it.comes J z rests.follows

    abbrev y : State
    y = next.0

    abbrev e : Event
    e = it.event

    -- it is the open step there
    opens : open_step J.rules y ≡ Prints e
    opens = sym (step_open J.rules y (prints_goes_on J valid J.rules y e next.1.keeps next.2.prints it.goes_on))
        ∙ next.2.prints

    rest : (more : List Event) × (printed J ≡ settled J mark ++ e ∷ more)
    rest =
        let run = ends J valid J.rules (potential J.rules.finishes (last_deadline J.jobs) z) z rests.follows.keeps
        ready (omega arith) in
        let first = prints_first J valid J.rules next.2.steps run.0 z y e rests.follows.keeps next.2.idles
        next.2.prints run.1 in (
          first.0,
          printed_then_run J mark z (settled J mark) run.0 valid here run.1
              ∙ ap (λ es. settled J mark ++ es) first.1,
        )

    -- nothing comes before
    quiet : (later : ℕ) → mark ≤ later → later < tick → settled J later ≡ settled J mark
    quiet later on before =
        let run = settles J valid J.rules later (potential J.rules.finishes later z) z rests.follows.keeps ready
        (omega arith) in
        let silent : printed_of run.0 ≡ [] =
        stops_before J valid J.rules later next.2.steps run.0 z y e rests.follows.keeps
        (omega (arith, on, printed_low J valid mark z (settled J mark) here)) next.2.idles opens
        (below (waits_for_mark (Prints e)) (omega (arith, before, next.1.clock, it.clock))) run.1 in
        let steps : settled_steps J later ≡ here.steps ++ run.0 =
        one_settled_run J.rules later (settled_steps J later) (here.steps ++ run.0) (opening J.jobs)
        (settled_is_run J later valid)
        (path_then_settled J.rules later here.steps run.0 (opening J.jobs) z
        (path_later J.rules mark later on here.steps (opening J.jobs) z here.path) run.1) in
        ap printed_of steps ∙ printed_append here.steps run.0
        ∙ ap (λ es. printed_of here.steps ++ es) silent ∙ append-nil (printed_of here.steps) ∙ here.prints where
          below : (b : Bool) → later < y.clock → later < cond b (suc y.clock) y.clock
          below true less = omega (arith, less)
          below false less = less

    pub comes_at : ComesAt J mark (settled J mark) tick
    comes_at = record {
      quiet = quiet;
      next = e;
      rest = rest.0;
      prints = rest.1;
      at = prints_clock J.rules.ratio y (open_step J.rules y) (open_deed J valid y next.1.keeps J.rules) e opens
          ∙ next.1.clock ∙ it.clock;
      goes_on = it.goes_on;
    }

-- the answer of a server
pub comes_next : (s : ReadyServer) (J : Instance) (mark : ℕ) (rests : Rests s J (Mark mark)) (o : Option ℕ)
    → IfSome o (λ tick. IsUnderWay s.ready → PrintsAt s.ready tick)
    → IfSome o (λ tick. ComesAt J mark (settled J mark) tick)
comes_next s J mark rests None it = tt
comes_next s J mark rests (Some tick) it = comes_at s J mark rests tick (it (under_way s J mark rests))
