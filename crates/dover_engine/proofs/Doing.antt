-- What a job says that is done early.
use Rattle.std.proofs.Common.{◌≡◌, ℕ, ◌+◌, ◌≤◌, ◌<◌, List, [], ◌∷◌, ◌++◌, map, refl, sym, ap, ◌∙◌, subst, arith, true}
use Rattle.std.proofs.Common.{false, Option, Some, None, option_map}
use Rattle.dover_model.specs.declared.events.Event.{Event}
use Rattle.dover_model.specs.declared.events.Event.TheVariants as events
use Rattle.dover_model.specs.Common.{Instance, with_finishes, is_end, settled, last_of, EarlyFinish, finish_at}
use Rattle.dover_model.specs.Common.{may_finish_early, Finish, runner_of, Prints, behind, behind_finish}
use Rattle.dover_model.proofs.finishes.Processors.{finish_prints, late_prints}
use Rattle.dover_model.proofs.finishes.RightFinishes.{finish_says}
use Rattle.dover_model.specs.declared.horizon.Horizon.{Horizon}
use Rattle.dover_model.specs.declared.horizon.Horizon.TheVariants.{Mark, End}
use Rattle.ready_server.specs.Serving.{Rests, Finishes, GoesOnWith}
use Rattle.ready_server.proofs.Successors.{successor_next}
use Rattle.ready_server.specs.declared.server.ReadyServer.{ReadyServer}
use Rattle.dover_engine.specs.Life.{life_with, Life, IsReadyFor, clock_of, spare_of, successor_of}
use Rattle.ready_jobs.specs.Course as course
use Rattle.dover_model.proofs.lists.Members.{some_same}
use Rattle.dover_model.proofs.lists.Tests.{none_is_some}
use Rattle.dover_engine.specs.Given.{Gave, IsSince}
use Rattle.dover_engine.specs.Calls.{Holds, HasProcessor, HasNoProcessor, MayBeDone, IsDone}
use Rattle.ready_server.proofs.Finishing.{one_finish}
use Rattle.dover_engine.proofs.Giving.{rests_now, finish_gave}
use Rattle.dover_engine.proofs.Lives.{two_behind, K as K_of, before, moved, all_of, done_gave, version_given}
use Rattle.dover_engine.proofs.Lives.{told_there, runner_given, last_given, settled_all}

-- where jobs may finish early and all was given
pub may_be_done : (v : Life) (at : ℕ) → IsReadyFor v at → may_finish_early v.server.ready.rules.version ≡ true
    → MayBeDone v at
may_be_done v at ready early =
    record { early = λ J es g. ap may_finish_early (version_given v J es g) ∙ early; ready = ready }

-- a number behind others is theirs and one more number
named_behind : (k number : ℕ) (o : Option ℕ) → option_map (λ m. k + m) o ≡ Some number
    → (n : ℕ) × (o ≡ Some n) × (k + n ≡ number)
named_behind k number None same = none_is_some same
named_behind k number (Some n) same = (n, refl, some_same (k + n) number same)

module _ (v : Life) (at number own : ℕ) (is : number ≡ v.forgotten + own) where
  -- the server says whether the job has the processor
  pub has_processor : IsReadyFor v at → ((K : Instance) → Rests v.server K (Mark at)
      → runner_of (settled K at) ≡ Some own) → HasProcessor v number
  has_processor ready it J es g = runner_given v J es g at ready
      ∙ ap (option_map (λ m. v.forgotten + m)) (it (K_of v J es g) (rests_now v (K_of v J es g) g.told g.gave ready))
      ∙ ap Some (sym is)

  pub no_processor : IsReadyFor v at → ((K : Instance) → Rests v.server K (Mark at)
      → runner_of (settled K at) ≡ Some own → ⊥) → HasNoProcessor v number
  no_processor ready other J es g has =
      let (n, runs, sum) = named_behind v.forgotten number (runner_of (settled (K_of v J es g) at))
      (sym (runner_given v J es g at ready) ∙ has) in
      other (K_of v J es g) (rests_now v (K_of v J es g) g.told g.gave ready)
      (runs ∙ ap Some (let one : n ≡ own = omega (arith, sum, is) in one))

-- what goes on so for some jobs does for them behind others
goes_on_behind : (front : List Event) (n value : ℕ) (J K : Instance) (at : ℕ) (fs : List Event) (o : Option ℕ)
    → settled J at ≡ front ++ map (behind n value) (settled K at) → GoesOnWith K at fs o
    → GoesOnWith J at (front ++ map (behind n value) fs) (option_map (λ m. n + m) o)
goes_on_behind front n value J K at fs None same goes =
    same ∙ ap (λ es. front ++ map (behind n value) es) goes
goes_on_behind front n value J K at fs (Some m) same goes = (
  map (behind n value) goes.0,
  same ∙ ap (λ es. front ++ map (behind n value) es) goes.1
      ∙ two_behind front _ (behind n value) (fs ++ events.Run at m ∷ []) goes.0
      (sym (two_behind front _ (behind n value) fs (events.Run at m ∷ []) refl)),
)

-- the job is done, where the server finishes it
module _ (v : Life) (at number own : ℕ) (is : number ≡ v.forgotten + own) (ready : IsReadyFor v at) (J0 : Instance)
    (es0 : List Event) (g0 : Gave v J0 es0) (s : ReadyServer) (e : Event)
    (it : (K : Instance) → Rests v.server K (Mark at) → Finishes v.server s K at own (Some e)) where
  abbrev rests_since : (J : Instance) (es : List Event) (g : Gave v J es) → Rests v.server (K_of v J es g) (Mark at)
  rests_since J es g = rests_now v (K_of v J es g) g.told g.gave ready

  abbrev finish_since : (J : Instance) (es : List Event) (g : Gave v J es)
      → Finishes v.server s (K_of v J es g) at own (Some e)
  finish_since J es g = it (K_of v J es g) (rests_since J es g)

  -- what it had
  abbrev pub had_then : ℕ
  had_then = (finish_since J0 es0 g0).0.finish.had

  abbrev finish : Finish
  finish = record { number = number; had = had_then }

  abbrev w : Life
  w = life_with s v.admission v.last false (Some e) v.forgotten v.earned

  -- it is the same in all that was given
  same_finish : (J : Instance) (es : List Event) (g : Gave v J es)
      → behind_finish v.forgotten (finish_since J es g).0.finish ≡ finish
  same_finish J es g =
      let fin = finish_since J es g in
      let says = finish_says (K_of v J es g) at own fin.0 fin.1 in
      let own_is : fin.0.finish.number ≡ own =
      sym (ap (λ (f : EarlyFinish). f.finish.number) says.is) ∙ says.number in
      let sum : v.forgotten + fin.0.finish.number ≡ number = omega (arith, own_is, is) in
      ap (λ n. record { number = n; had = fin.0.finish.had }) sum
      ∙ ap (λ (f : EarlyFinish). record { number = number; had = f.finish.had })
      (one_finish v.server at (K_of v J es g) (rests_since J es g) (K_of v J0 es0 g0) (rests_since J0 es0 g0) own
      fin.0 (finish_since J0 es0 g0).0 fin.1 (finish_since J0 es0 g0).1)

  prints : (J : Instance) (es : List Event) (g : Gave v J es) → (runner_of (settled (K_of v J es g) at) ≡ Some own)
      × (last_of (settled (K_of v J es g) at) < at)
  prints J es g = let fin = finish_since J es g in
      finish_prints (K_of v J es g) g.gave.serves.follows.valid at own fin.0 fin.1

  -- behind it the processor goes to the one that the server names
  succeeds : Holds v (λ J es. GoesOnWith (with_finishes J (finish ∷ [])) at (es ++ events.Complete at number ∷ [])
      (successor_of v))
  unfolding done_gave
  succeeds J es g =
      let fin = finish_since J es g in
      let K : Instance = K_of v J es g in
      let f : Finish = fin.0.finish in
      let J2 : Instance = with_finishes J (behind_finish v.forgotten f ∷ []) in
      let gave : Gave w J2 es = done_gave v J es g s f e
      (finish_gave v K g.told g.gave at ready s f e fin.3 (ap (λ d. is_end (Prints d)) fin.2)) in
      let low : IsSince g.tick (Mark at) = subst (IsSince g.tick) ready.1 g.passed in
      let all : settled J2 at ≡ all_of v J es g (settled (with_finishes K (f ∷ [])) at) =
      settled_all w J2 es gave at low in
      let given : all_of v J es g (settled K at ++ events.Complete at own ∷ []) ≡ es ++ events.Complete at number ∷ [] =
      two_behind (before v J es g) es (moved v J es g) (settled K at) (events.Complete at own ∷ [])
      (g.all_events ∙ ap (all_of v J es g) (told_there v J es g at ready))
      ∙ ap (λ n. es ++ events.Complete at n ∷ []) (sym is) in
      subst (λ d. GoesOnWith (with_finishes J (d ∷ [])) at (es ++ events.Complete at number ∷ []) (successor_of v))
      (same_finish J es g)
      (subst (λ fs. GoesOnWith J2 at fs (successor_of v)) given
      (goes_on_behind (before v J es g) v.forgotten v.earned J2 (with_finishes K (f ∷ [])) at
      (settled K at ++ events.Complete at own ∷ []) (course.successor_of v.server.ready) all
      (successor_next v.server K at (rests_since J es g) own fin.0 fin.1)))

  pub is_done : MayBeDone v at → spare_of v ≤ spare_of w → s.ready.room ≡ v.server.ready.room → s.ready.clock ≡ at
      → IsDone v w at (record { number = number; had = had_then })
  is_done may spare room clock = record {
    may = may;
    runs = λ J es g. runner_given v J es g at ready
        ∙ ap (option_map (λ m. v.forgotten + m)) (prints J es g).0 ∙ ap Some (sym is);
    before = λ J es g. subst (λ n. n < at) (sym (last_given v J es g at ready own (prints J es g).0))
        (prints J es g).1;
    gave = λ J es g.
        let fin = finish_since J es g in
        subst (λ f. Gave w (with_finishes J (f ∷ [])) es) (same_finish J es g)
        (done_gave v J es g s fin.0.finish e
        (finish_gave v (K_of v J es g) g.told g.gave at ready s fin.0.finish e fin.3
        (ap (λ d. is_end (Prints d)) fin.2)));
    next = ap (λ d. Some (behind v.forgotten v.earned d)) (finish_since J0 es0 g0).2
        ∙ ap (λ n. Some (events.Complete at n)) (sym is);
    successor = succeeds;
    last = refl;
    clock = clock_then v.last ∙ clock;
    spare = spare;
    room = room;
  } where
    clock_then : (to : Horizon) → clock_of (life_with s v.admission to false (Some e) v.forgotten v.earned)
        ≡ s.ready.clock
    clock_then (Mark t) = refl
    clock_then End = refl

-- where it doesn't, though the job has the processor, a decision of the tick was given
pub behind_given : (v : Life) (at own : ℕ) → IsReadyFor v at
    → ((K : Instance) → Rests v.server K (Mark at) → finish_at K at own ≡ None)
    → ((K : Instance) → Rests v.server K (Mark at) → runner_of (settled K at) ≡ Some own)
    → Holds v (λ J es. at ≤ last_of es)
behind_given v at own ready wrong runs J es g =
    let K : Instance = K_of v J es g in
    let rests : Rests v.server K (Mark at) = rests_now v K g.told g.gave ready in
    subst (λ n. at ≤ n) (sym (last_given v J es g at ready own (runs K rests)))
    (late_prints K g.gave.serves.follows.valid at own (wrong K rests) (runs K rests))

-- a job with a number below those since hasn't it
pub no_processor_below : (v : Life) (at number : ℕ) → number < v.forgotten → IsReadyFor v at → HasNoProcessor v number
no_processor_below v at number low ready J es g has =
    let (n, runs, sum) = named_behind v.forgotten number (runner_of (settled (K_of v J es g) at))
    (sym (runner_given v J es g at ready) ∙ has) in
    omega (arith, sum, low)
