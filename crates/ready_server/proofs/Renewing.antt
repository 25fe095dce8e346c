-- A server whose jobs are over serves the run of no jobs.
use Rattle.std.proofs.Common.{◌≡◌, ℕ, List, [], length, refl, sym, ap, ◌∙◌, subst, true, arith, nat_le, ◌&&◌, le-leb}
use Rattle.dover_model.specs.declared.events.Event.{Event}
use Rattle.dover_model.specs.Common.{Rules, Instance, IsValid, bare, State, state_at, is_over, Ticks, open_step}
use Rattle.dover_model.specs.Common.{waits_for_mark}
use Rattle.dover_model.specs.Common.{settled, last_of, IsBarrier, HasPrinted, instead_with, Each}
use Rattle.dover_model.proofs.steps.Deeds.{over_rests}
use Rattle.dover_model.proofs.steps.Kept.{open_deed}
use Rattle.dover_model.proofs.settled.Paths.{printed_more, printed_settled}
use Rattle.dover_model.proofs.rest.Resting.{printed_none}
use Rattle.dover_model.specs.declared.horizon.Horizon.TheVariants.{Mark}
use Rattle.ready_jobs.specs.Course.{Course, Follows}
use Rattle.ready_jobs.proofs.Courses.{none_keeps, renewed_follows}
use Rattle.ready_server.specs.Serving.{Rests}
use Rattle.ready_server.specs.declared.server.ReadyServer.{ReadyServer}
use Rattle.ready_server.proofs.Stepping.{printed_low}
use Rattle.dover_model.proofs.lists.Tests.{never}

-- no events
abbrev none : List Event
none = []

-- the state of no jobs
abbrev at : ℕ → State
at clock = state_at clock []

module _ (rules : Rules) (valid : IsValid (record { rules = rules; jobs = [] })) where
  -- the run of no jobs
  abbrev empty : Instance
  empty = record { rules = rules; jobs = [] }

  -- nothing of it is printed up to any tick
  printed_to : (clock : ℕ) → HasPrinted empty clock (at clock) none
  printed_to clock = printed_none empty valid clock (λ j member. absurd member)

  over : (clock : ℕ) → Each (λ t. is_over t ≡ true) (at clock).tasks
  over clock t member = absurd member

  barrier : (mark : ℕ) → IsBarrier rules mark (at mark)
  barrier mark = ap (λ m. waits_for_mark m && nat_le mark mark)
      (over_rests rules.ratio (at mark) Ticks (over mark) (open_step rules (at mark))
      (open_deed empty valid (at mark) (none_keeps rules valid mark) rules))
      ∙ le-leb mark mark (omega arith)

  -- nor is any of it settled
  pub none_settled : (mark : ℕ) → none ≡ settled empty mark
  none_settled mark = printed_settled empty mark (at mark) none valid (printed_to mark) (barrier mark)

module _ (s : ReadyServer) (J : Instance) (mark : ℕ) (rests : Rests s J (Mark mark)) (idle : length s.ready.ready ≡ 0)
  where
    abbrev K : Instance
    K = instead_with J [] []

    follows : Follows (record s.ready { jobs = 0; done = 0 }) K (at s.ready.clock)
    follows = subst (λ (rules : Rules). Follows (record s.ready { jobs = 0; done = 0 })
        (let I : Instance = record { rules = rules; jobs = [] } in I) (at s.ready.clock)) (sym rests.follows.rules)
        (renewed_follows s.ready (J, rests.state, rests.follows) idle)

    valid : IsValid K
    valid = follows.valid

    here : HasPrinted K mark (at s.ready.clock) none
    here = printed_more K s.ready.clock mark (at s.ready.clock) (at s.ready.clock) none []
        (printed_to (bare J.rules) valid s.ready.clock)
        (omega (
          arith,
          printed_low J rests.follows.valid mark rests.state (settled J mark) rests.given.1.here,
          rests.follows.clock,
        )) refl

    -- all that is settled of it was given
    pub rests_anew : (d : Course) → d ≡ record s.ready { jobs = 0; done = 0 }
        → Rests (record s { ready = d; last = 0 }) K (Mark mark)
    rests_anew d is = record {
      state = at s.ready.clock;
      follows = subst (λ c. Follows c K (at s.ready.clock)) (sym is) follows;
      given = (
        rests.given.0,
        record {
          here = subst (HasPrinted K mark (at s.ready.clock)) (none_settled (bare J.rules) valid mark) here;
          waits = subst (HasPrinted K mark (at mark)) (none_settled (bare J.rules) valid mark)
              (printed_to (bare J.rules) valid mark);
          barrier = barrier (bare J.rules) valid mark;
          clock = λ on. never (sym on);
        },
      );
      last = ap last_of (none_settled (bare J.rules) valid mark);
    }
