-- What a roster beside a server has read after a step.
use Rattle.std.proofs.Common.{◌≡◌, ◌<◌, ◌-◌, ◌^◌, ℕ, List, [], ◌∷◌, ◌++◌, length, ◌≤◌, IsSome, sym, ap, ◌∙◌, subst}
use Rattle.std.proofs.Common.{arith}
use Rattle.dover_model.specs.declared.events.Event.{Event}
use Rattle.dover_model.specs.declared.events.Event.TheVariants.{Release, Complete}
use Rattle.dover_model.specs.Common.{JobFacts, Instance, settled}
use Rattle.dover_model.specs.declared.horizon.Horizon.{Horizon}
use Rattle.dover_model.specs.declared.horizon.Horizon.TheVariants.{Mark}
use Rattle.ready_jobs.proofs.Courses.{follows_count}
use Rattle.ready_server.specs.Serving as ready
use Rattle.ready_server.specs.declared.server.ReadyServer.{ReadyServer}
use Rattle.ready_server.specs.Roster.{Roll, Kept, with_event, roll_of, finish_here, HasLine, IsRollOf}
use Rattle.ready_server.specs.Rostering.{Serves, Rests}
use Rattle.ready_server.proofs.Stepping.{serves_begins, rests_serves}
use Rattle.ready_server.proofs.RollSettled.{roll_more, takes_low, same_count}
use Rattle.ready_server.proofs.RollFinishes.{finish_fits, few_finishes}

-- one step more
pub more_read : (k l : Kept) (events : List Event) (e : Event) → IsRollOf events k → l.roll ≡ with_event k.roll e
    → IsRollOf (events ++ e ∷ []) l
more_read k l events e it is = is ∙ ap (λ p. with_event p e) it ∙ sym (roll_more events e)

-- a step that isn't a release leaves the room
pub line_left : (k l : Kept) (e : Event) → ((n : ℕ) (job : JobFacts) → e ≡ Release n job → ⊥)
    → l.roll ≡ with_event k.roll e → l.room ≡ k.room → HasLine k → HasLine l
line_left k l e other is same room =
    omega (arith, ap (λ (p : Roll). length p.jobs) is, same_count k.roll e other, same, room)

-- there were few takes
pub few_takes : (s : ReadyServer) (k : Kept) (J : Instance) (mark : ℕ) (events : List Event) → Serves s k J mark events
    → k.roll.takes < 2 ^ 64 - 1
few_takes s k J mark events it = subst (λ (p : Roll). p.takes < 2 ^ 64 - 1) (sym it.read)
    (takes_low J (Mark mark) events it.served.follows.valid (serves_begins s J (Mark mark) events it.served))

-- a server at rest has printed all that is due
pub roster_rests : (s : ReadyServer) (k : Kept) (J : Instance) (mark : ℕ) → Rests s k J mark
    → Serves s k J mark (settled J mark)
roster_rests s k J mark it = record { served = rests_serves s J (Mark mark) it.rests; read = it.read }

-- a server has as many jobs as were admitted
pub served_jobs : (s : ReadyServer) (J : Instance) (to : Horizon) (events : List Event) → ready.Serves s J to events
    → s.ready.jobs ≡ length J.jobs
served_jobs s J to events it = follows_count s.ready J it.state it.follows

-- where there is room for the finish of each job, there is for the one that comes with the next step
pub finish_room : (k : Kept) (s : ReadyServer) (J : Instance) (mark : ℕ) (events : List Event) → IsRollOf events k
    → (e : Event) (at n : ℕ) → e ≡ Complete at n → ready.Serves s J (Mark mark) (events ++ e ∷ [])
    → IsSome (finish_here k.roll at) → length J.jobs ≤ k.finish_room → length k.roll.finishes < k.finish_room
finish_room k s J mark events read e at n is next some room = subst (λ (p : Roll). length p.finishes < k.finish_room)
    (sym read) (omega (
      arith,
      room,
      finish_fits (roll_of events) at n (length J.jobs)
          (subst (λ (p : Roll). length p.finishes ≤ length J.jobs)
          (roll_more events e ∙ ap (with_event (roll_of events)) is)
          (few_finishes J next.follows.valid mark next.state (events ++ e ∷ []) next.given.1))
          (subst (λ (p : Roll). IsSome (finish_here p at)) read some),
    ))
