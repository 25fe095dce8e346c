-- How a server is taken to a mark, step by step, and a job more is admitted there.
use Rattle.std.proofs.Common.{◌≤◌, ◌+◌, ℕ, List, [], ◌∷◌, ◌++◌, length, length-append, ap, ◌≡◌, true, false, arith}
use Rattle.std.proofs.Common.{Result, Ok, Err, IsErr, OnOk, OnErr, sym, subst, ◌∙◌}
use Rattle.dover_model.specs.declared.events.Event.{Event}
use Rattle.dover_model.specs.declared.events.Event.TheVariants.{Release, Complete}
use Rattle.dover_model.specs.JobFacts.{JobFacts}
use Rattle.dover_model.specs.Common.{Instance, MayFollow}
use Rattle.dover_model.specs.declared.horizon.Horizon.TheVariants.{Mark}
use Rattle.dover_model.proofs.settled.Horizons.{due_few}
use Rattle.dover_model.proofs.valid.Limiting.{jobs_most}
use Rattle.ready_server.proofs.Stepping.{serves_begins}
use Rattle.ready_server.specs.Serving as ready
use Rattle.ready_server.specs.Rostering.{Serves}
use Rattle.ready_server.proofs.RollSettled.{no_release}
use Rattle.ready_server.proofs.Rostered.{more_read}
use Rattle.ready_server.specs.declared.server.ReadyServer.{ReadyServer}
use Rattle.ready_server.specs.Roster.{Kept, with_event}

-- so many steps at least were printed on the way to a mark
pub record IsOnTheWay (s : ReadyServer) (k : Kept) (J : Instance) (mark steps : ℕ) : Type 0 where
  pub from : ℕ
  pub events : List Event
  pub served : Serves s k J from events
  pub follows : MayFollow (Mark from) (Mark mark)
  pub many : steps ≤ length events

-- a step more
pub one_further : (s t : ReadyServer) (k l : Kept) (J : Instance) (mark steps : ℕ) (it : IsOnTheWay s k J mark steps)
    (e : Event) → ready.Serves t J (Mark mark) (it.events ++ e ∷ []) → l.roll ≡ with_event k.roll e
    → IsOnTheWay t l J mark (steps + 1)
one_further s t k l J mark steps it e next is = record {
  from = mark;
  events = it.events ++ e ∷ [];
  served = record { served = next; read = more_read k l it.events e it.served.read is };
  follows = (omega arith, it.follows.1);
  many = omega (arith, it.many, length-append it.events (e ∷ []));
}

-- it is no release
pub unreleased : (s t : ReadyServer) (k : Kept) (J : Instance) (mark steps : ℕ) (it : IsOnTheWay s k J mark steps)
    (e : Event) → ready.Serves t J (Mark mark) (it.events ++ e ∷ []) → (n : ℕ) (job : JobFacts) → e ≡ Release n job → ⊥
unreleased s t k J mark steps it e next n job is = no_release s t J it.from mark it.events n job it.served.served
    (subst (λ x. ready.Serves t J (Mark mark) (it.events ++ x ∷ [])) is next)

-- nor is a completion
pub is_completion : (at n : ℕ) (e : Event) → e ≡ Complete at n → (m : ℕ) (job : JobFacts) → e ≡ Release m job → ⊥
is_completion at n e right m job is = absurd (let clash : Complete at n ≡ Release m job = sym right ∙ is in cc)

-- there are not so many
pub too_many : (s : ReadyServer) (k : Kept) (J : Instance) (mark steps : ℕ) → IsOnTheWay s k J mark steps
    → 20_000_000_002 ≤ steps → ⊥
too_many s k J mark steps it many =
    let begins = serves_begins s J (Mark it.from) it.events it.served.served in
    absurd (omega (
      arith,
      many,
      it.many,
      due_few J (Mark it.from) it.served.served.follows.valid,
      jobs_most J.rules.version,
      ap length begins.1,
      length-append it.events begins.0,
    ))

-- what is said of an error
pub on_err : {X E : Type 0} (r : Result X E) (P : Type 0) → P → OnErr r P
on_err (Ok x) P it = tt
on_err (Err e) P it = it

-- where there is an error, nothing is said of a value
pub no_ok : {X E : Type 0} (r : Result X E) (P : Type 0) → IsErr r → OnOk r P
no_ok (Err e) P it = tt
no_ok (Ok x) P it = absurd (let clash : false ≡ true = it in cc)
