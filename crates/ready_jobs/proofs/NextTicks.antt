-- How long it is till the run prints its next step.
use Rattle.std.proofs.Common.{◌≡◌, ℕ, [], ◌∷◌, ◌-◌, ◌+◌, ◌≤◌, ◌<◌, List, length, refl, sym, ap, ◌∙◌, arith}
use Rattle.std.specs.Prelude.{Option, Some, None}
use Rattle.dover_model.specs.Common.{last_tick, Fraction, Instance, starts_before, first, State, is_fresh, is_running}
use Rattle.dover_model.specs.Common.{left, latest_start, Move, Prints, open_step, is_end, Each}
use Rattle.dover_model.specs.declared.events.Event.{Event}
use Rattle.dover_model.specs.declared.events.Role.TheVariants.{Running}
use Rattle.dover_model.specs.declared.events.Task.{Task}
use Rattle.dover_model.proofs.lists.Members.{found, not_found}
use Rattle.dover_model.proofs.settled.Prefixes.{open_goes_on}
use Rattle.dover_model.proofs.steps.Roles.{fails, is_fresh_role}
use Rattle.ready_jobs.specs.Course.{Course, Follows, IsCourse, Reached, ComesNext, course_of}
use Rattle.ready_jobs.specs.Dues.{still_ticks}
use Rattle.ready_jobs.specs.NextTick.{IsUnderWay, PrintsAt}
use Rattle.ready_jobs.specs.Parts.{Parted, HaveRoles, ready_of, state_of}
use Rattle.ready_jobs.proofs.Courses.{course_part}
use Rattle.ready_jobs.proofs.SilentCourses.{course_reaches, reached_comes}
use Rattle.ready_jobs.proofs.Following.{parts_later}
use Rattle.ready_jobs.proofs.Seeing.{seen_fresh, seen_running}
use Rattle.ready_jobs.proofs.Silences.{Jump, jump, jump_settles, jump_stops}

-- a list that has a first is longer than none
pub some_length : (ts : List Task) → (ts ≡ [] → ⊥) → 0 < length ts
some_length [] some = absurd (some refl)
some_length (t ∷ ts) some = omega arith

module _ (k : Fraction) (p : Parted) (jobs done n : ℕ) (roles : HaveRoles p)
    (old : IsCourse (course_of k p jobs done)) (some : ready_of p ≡ [] → ⊥)
    (within : n ≤ last_tick - p.clock)
    (still : Each (λ t. p.clock < latest_start t) p.waiting → n ≡ still_ticks (last_tick - p.clock) (state_of p))
    (busy : (r : Task) → p.running ≡ Some r → n ≤ left r)
    (ahead : (x : Task) → first (starts_before p.version) p.waiting ≡ Some x → n ≤ latest_start x - p.clock)
    (under : IsUnderWay (course_of k p jobs done)) where
  abbrev q : Parted
  q = parts_later n p

  abbrev c : Course
  c = course_of k p jobs done

  abbrev d : Course
  d = course_of k q jobs done

  abbrev m : Move
  m = open_step (record { ratio = k; version = p.version; finishes = [] }) (state_of q)

  stale : p.fresh ≡ None
  stale = by_fresh p.fresh refl where
    by_fresh : (o : Option Task) → p.fresh ≡ o → p.fresh ≡ None
    by_fresh None is = is
    by_fresh (Some f) is = let it = found is_fresh (ready_of p) f (seen_fresh p roles ∙ is) in
        absurd (under.decided f it.0 (is_fresh_role f it.1))

  runs : p.running ≡ None → ⊥
  runs none = some (under.busy (λ t m. fails is_running t Running refl
      (not_found is_running (ready_of p) (seen_running p roles ∙ none) t m)))

  low : p.clock ≤ last_tick
  low = omega (arith, old.2.known, old.2.clock)

  it : Jump k last_tick n p roles
  it = jump k last_tick n p roles (course_part k p jobs done old) stale (λ none. absurd (runs none)) still busy ahead

  reaches : (J : Instance) (z : State) → Follows c J z → Reached d J z last_tick m
  reaches = course_reaches k p q jobs done last_tick m refl (some_length (ready_of p) some)
      (jump_settles k last_tick n p roles it low) refl
      (jump_stops k last_tick n p roles it low stale m refl) (omega (arith, within, low)) (omega arith)

  comes : (e : Event) × (m ≡ Prints e) × ComesNext c d e
  comes = reached_comes c d m reaches old

  pub prints_at : PrintsAt c (p.clock + n)
  prints_at =
      let there : Reached d old.0 old.1 last_tick m = reaches old.0 old.1 old.2 in record {
        event = comes.0;
        goes_on = ap is_end (sym comes.1) ∙ ap is_end (sym there.comes)
            ∙ open_goes_on old.0 there.follows.valid old.0.rules there.state there.follows.keeps;
        there = d;
        comes = comes.2;
        clock = refl;
      }
