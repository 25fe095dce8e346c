-- What a server has given after a step.
use Rattle.std.proofs.Common.{◌≡◌, ℕ, ◌≤◌, List, [], ◌∷◌, ◌++◌, refl, sym, ap, ◌∙◌, subst, Bool, true, false, arith}
use Rattle.std.proofs.Common.{append_assoc, ◌+◌, ◌<◌, length, min, Option, Some, None, Result, Ok, Err, OnOk, IfSome}
use Rattle.std.proofs.Common.{IsTrue, nat_lt, MatchBool, ltb-true, ltb-false, append-nil}
use Rattle.std.specs.List.{cons_option}
use Rattle.std.proofs.lemmas.List.Sums.{fold-append}
use Rattle.dover_model.specs.declared.events.Event.{Event}
use Rattle.dover_model.specs.declared.events.Event.TheVariants as events
use Rattle.dover_model.specs.declared.Memory.{Memory}
use Rattle.dover_model.specs.Common.{last_tick, most_ready, Rules, Instance, IsValid, State, opening, Prints}
use Rattle.dover_model.specs.Common.{step, open_step, after, Step, is_end, event_of, printed, printed_of, last_deadline}
use Rattle.dover_model.specs.Common.{settled, AreOverFor, tick_of_event, last_of, open_at, IsBefore, IsWholeRun, Begins}
use Rattle.dover_model.specs.Common.{IsOpenPath, HasPrinted, Keeps, Settles, Idles, GoesOn, WaitsUntil, PrintsNext}
use Rattle.dover_model.specs.Common.{MayFollow, is_end_given, due_by, Gives}
use Rattle.dover_model.proofs.finishes.OverFor.{over_ready}
use Rattle.dover_model.proofs.settled.LastSteps.{open_clock}
use Rattle.dover_model.proofs.lists.Members.{some_same}
use Rattle.dover_model.proofs.lists.Tests.{none_is_some, never}
use Rattle.dover_model.proofs.runs.Ending.{potential, ends}
use Rattle.dover_model.proofs.steps.Kept.{open_kept}
use Rattle.dover_model.proofs.settled.Paths.{printed_more, printed_settled, printed_then_run, printed_begins, path_low}
use Rattle.dover_model.proofs.settled.Prefixes.{step_open, open_goes_on}
use Rattle.dover_model.proofs.traces.ShortNumbers.{step_short, IsShortMove}
use Rattle.dover_model.proofs.settled.Leading.{idles_settles, settles_silent}
use Rattle.dover_model.specs.declared.horizon.Horizon.{Horizon}
use Rattle.dover_model.specs.declared.horizon.Horizon.TheVariants.{Mark, End}
use Rattle.ready_jobs.specs.Course.{Course, Follows, Comes, ComesNext, Settled, StepsBefore}
use Rattle.ready_server.specs.Serving.{LeavesRest, HasGiven, IsLastOf, Serves, Rests, HasPlace, HasPlaceUnlessFull}
use Rattle.ready_server.specs.Serving.{HasShortValue}
use Rattle.ready_server.specs.declared.server.ReadyServer.{ReadyServer}

-- ---- to a mark

-- silent steps are a path
settles_path : (rules : Rules) (mark : ℕ) (xs : List Step) (s z : State) → Settles rules mark s xs z
    → IsOpenPath rules mark s xs z
settles_path rules mark [] s z settles = sym settles
settles_path rules mark (x ∷ xs) s z settles =
    (settles.0, settles.1, settles_path rules mark xs (after s (open_step rules s)) z settles.3)

-- nothing more is printed by silent steps
printed_still : (J : Instance) (mark mark2 : ℕ) (s z : State) (events : List Event) (xs : List Step)
    → HasPrinted J mark s events → mark ≤ mark2 → Settles J.rules mark2 s xs z → HasPrinted J mark2 z events
printed_still J mark mark2 s z events xs it later settles = subst (HasPrinted J mark2 z)
    (ap (λ es. events ++ es) (settles_silent J.rules mark2 xs s z settles) ∙ append-nil events)
    (printed_more J mark mark2 s z events xs it later (settles_path J.rules mark2 xs s z settles))

-- the tick of the last event, with one event more
pub last_more : (events : List Event) (e : Event) → last_of (events ++ e ∷ []) ≡ tick_of_event e
last_more events e = fold-append (λ tick x. tick_of_event x) 0 events (e ∷ [])

-- an event more by a step that prints it
pub printed_event : (J : Instance) (mark : ℕ) (s : State) (events : List Event) (e : Event)
    → HasPrinted J mark s events → IsBefore J.rules mark s → open_step J.rules s ≡ Prints e
    → HasPrinted J mark (after s (Prints e)) (events ++ e ∷ [])
printed_event J mark s events e it before prints =
    subst (λ m. HasPrinted J mark (after s m) (events ++ cons_option (event_of m) [])) prints
    (printed_more J mark mark s (after s (open_step J.rules s)) events (open_at J.rules s ∷ []) it (omega arith)
    (refl, before, refl))

-- the clock of what was printed before a mark isn't behind it
pub printed_low : (J : Instance) → IsValid J → (mark : ℕ) (s : State) (events : List Event) → HasPrinted J mark s events
    → s.clock ≤ mark
printed_low J valid mark s events it = path_low J valid mark it.steps (opening J.jobs) s (omega arith) it.path

-- a server that may go on to a mark is on the way to an earlier one
pub before_mark : (s : ReadyServer) (J : Instance) (from : Horizon) (mark : ℕ) (events : List Event)
    → (serves : Serves s J from events) → MayFollow from (Mark mark)
    → (s.ended ≡ false) × (m : ℕ) × HasPrinted J m serves.state events × (m ≤ mark) × (mark ≤ last_tick)
before_mark s J (Mark m) mark events serves follows =
    (serves.given.0, m, serves.given.1, follows.0, follows.1)
before_mark s J End mark events serves follows = absurd follows

-- so the clock of a server isn't behind a mark to which it may go on
pub mark_low : (s : ReadyServer) (J : Instance) (from : Horizon) (mark : ℕ) (events : List Event)
    → Serves s J from events → MayFollow from (Mark mark) → s.ready.clock ≤ mark
mark_low s J from mark events serves follows =
    let way = before_mark s J from mark events serves follows in
    omega (arith, printed_low J serves.follows.valid way.1 serves.state events way.2, way.3, serves.follows.clock)

module _ (s : ReadyServer) (d : Course) (mark : ℕ) (o : Option Event)
    (settled_at : (J : Instance) (z : State) → Follows s.ready J z → Settled d J z mark o) (low : d.clock ≤ mark)
    (J : Instance) (from : Horizon) (events : List Event) (serves : Serves s J from events)
    (follows : MayFollow from (Mark mark)) where
  -- where the server stood
  way : (s.ended ≡ false) × (m : ℕ) × HasPrinted J m serves.state events × (m ≤ mark) × (mark ≤ last_tick)
  way = before_mark s J from mark events serves follows

  -- where it stands now
  it : Settled d J serves.state mark o
  it = settled_at J serves.state serves.follows

  -- nothing more was printed till there
  still : HasPrinted J mark it.state events
  still = printed_still J way.1 mark serves.state it.state events it.idles.0 way.2 way.3
      (idles_settles J.rules mark it.idles.0 serves.state it.state it.idles.1 (omega (arith, it.follows.clock)))

  -- where nothing comes, all was given
  mark_reached : o ≡ None → (events ≡ settled J mark) × Rests (record s { ready = d }) J (Mark mark)
  mark_reached none = (
    all,
    record {
      state = it.state;
      follows = it.follows;
      given = (
        way.0,
        record {
          here = subst (HasPrinted J mark it.state) all still;
          waits = subst (HasPrinted J mark there) all waits;
          barrier = comes.barrier;
          clock = comes_now.1;
        },
      );
      last = subst (λ es. s.last ≡ last_of es) all (last_before from serves.last follows);
    },
  ) where
    there : State
    there = record it.state { clock = mark }

    comes_now : WaitsUntil J.rules mark serves.state there × (GoesOn it.state → it.state.clock ≡ mark)
    comes_now = subst (Comes J serves.state mark it.state) none it.comes

    comes : WaitsUntil J.rules mark serves.state there
    comes = comes_now.0

    last_before : (h : Horizon) → IsLastOf h s.last events → MayFollow h (Mark mark) → s.last ≡ last_of events
    last_before (Mark m) is may = is
    last_before End is may = absurd may

    waits : HasPrinted J mark there events
    waits = printed_still J way.1 mark serves.state there events comes.steps way.2 way.3 comes.settles

    all : events ≡ settled J mark
    all = printed_settled J mark there events serves.follows.valid waits comes.barrier

  module _ (e : Event) (some : o ≡ Some e) where
    -- an event comes
    comes_now : (open_step J.rules it.state ≡ Prints e) × IsBefore J.rules mark it.state × GoesOn it.state
    comes_now = subst (Comes J serves.state mark it.state) some it.comes

    -- once it is taken, it was given
    mark_given : (f : Course) (last : ℕ) → last ≡ f.clock
        → ((I : Instance) (z : State) → Follows d I z → Follows f I (after z (Prints e)))
        → Serves (record s { ready = f; last = last }) J (Mark mark) (events ++ e ∷ [])
    mark_given f last now takes = record {
      state = after it.state (Prints e);
      follows = takes J it.state it.follows;
      given = (way.0, printed_event J mark it.state events e still comes_now.1 comes_now.0);
      last = now ∙ sym (takes J it.state it.follows).clock
          ∙ sym (open_clock J serves.follows.valid J.rules it.state it.follows.keeps e comes_now.0)
          ∙ sym (last_more events e);
    }

-- where nothing comes before a mark, all was given
pub mark_rested : (s : ReadyServer) (d : Course) (mark : ℕ) (o : Option Event) → o ≡ None
    → StepsBefore s.ready mark d o
    → (J : Instance) (from : Horizon) (events : List Event) → Serves s J from events → MayFollow from (Mark mark)
    → Gives (Serves (record s { ready = d }) J (Mark mark)) (Rests (record s { ready = d }) J (Mark mark))
    (due_by J (Mark mark)) events None
mark_rested s d mark None none steps J from events serves follows =
    mark_reached s d mark None steps.0 steps.1 J from events serves follows refl
mark_rested s d mark (Some e) none steps J from events serves follows = none_is_some (sym none)

-- a step that comes before it was given
pub mark_stepped : (s : ReadyServer) (d : Course) (mark : ℕ) (o : Option Event) (e : Event) → o ≡ Some e
    → StepsBefore s.ready mark d o → (last : ℕ) → last ≡ d.clock
    → (J : Instance) (from : Horizon) (events : List Event) → Serves s J from events → MayFollow from (Mark mark)
    → Gives (Serves (record s { ready = d; last = last }) J (Mark mark))
    (Rests (record s { ready = d; last = last }) J (Mark mark)) (due_by J (Mark mark)) events (Some e)
mark_stepped s d mark None e some steps last now J from events serves follows = none_is_some some
mark_stepped s d mark (Some f) e some steps last now J from events serves follows =
    subst (λ x. Gives (Serves (record s { ready = d; last = last }) J (Mark mark))
    (Rests (record s { ready = d; last = last }) J (Mark mark)) (due_by J (Mark mark)) events (Some x))
    (some_same f e some)
    (mark_given s steps.0 mark (Some f) steps.1 steps.2 J from events serves follows f refl d last now steps.3)

-- no End comes before a mark
pub no_end_before : (s : ReadyServer) (J : Instance) (from : Horizon) (events : List Event) → Serves s J from events
    → (mark : ℕ) (d : Course) (o : Option Event) → StepsBefore s.ready mark d o → is_end_given o ≡ false
no_end_before s J from events serves mark d None steps = refl
no_end_before s J from events serves mark d (Some e) steps =
    let at : Settled steps.0 J serves.state mark (Some e) = steps.1 J serves.state serves.follows in
    ap is_end (sym at.comes.0)
    ∙ open_goes_on J serves.follows.valid J.rules at.state at.follows.keeps

-- ---- to the end

-- what is printed next in a whole run, and what is left behind it
runs_on : (J : Instance) → IsValid J → (rules : Rules) (e : Event) (xs ys : List Step) (s z : State) → Keeps J s
    → Idles rules s xs z → step rules z ≡ Prints e → IsWholeRun rules s ys
    → (zs : List Step) × MatchBool (is_end (Prints e)) (zs ≡ []) (IsWholeRun rules (after z (Prints e)) zs)
    × (printed_of ys ≡ e ∷ printed_of zs)
runs_on J valid rules e xs [] s z keeps idles prints whole = absurd whole
runs_on J valid rules e [] (y ∷ ys) s z keeps idles prints whole =
    let here : step rules s ≡ Prints e = ap (step rules) idles ∙ prints in (
      ys,
      subst (λ u. MatchBool (is_end (Prints e)) (ys ≡ []) (IsWholeRun rules (after u (Prints e)) ys)) idles
          (subst (λ m. MatchBool (is_end m) (ys ≡ []) (IsWholeRun rules (after s m) ys)) here whole.1),
      ap (λ (v : Step). cons_option (event_of v.move) (printed_of ys)) whole.0
          ∙ ap (λ m. cons_option (event_of m) (printed_of ys)) here,
    )
runs_on J valid rules e (x ∷ xs) (y ∷ ys) s z keeps idles prints whole =
    let same : step rules s ≡ open_step rules s = step_open rules s idles.2 in
    let on : IsWholeRun rules (after s (step rules s)) ys =
    subst (λ b. MatchBool b (ys ≡ []) (IsWholeRun rules (after s (step rules s)) ys))
    (ap is_end same ∙ open_goes_on J valid rules s keeps) whole.1 in
    let rest = runs_on J valid rules e xs ys (after s (open_step rules s)) z (open_kept J valid s keeps rules) idles.3
    prints (subst (λ m. IsWholeRun rules (after s m) ys) same on) in (
      rest.0,
      rest.1,
      ap (λ (v : Step). cons_option (event_of v.move) (printed_of ys)) whole.0
          ∙ ap (λ m. cons_option (event_of m) (printed_of ys)) same
          ∙ ap (λ o. cons_option o (printed_of ys)) idles.1 ∙ rest.2,
    )

-- behind what was printed before a mark, the run leaves a rest
marked_rest : (J : Instance) (mark : ℕ) (z : State) (events : List Event) → IsValid J → AreOverFor J.rules.finishes z
    → Keeps J z → HasPrinted J mark z events → LeavesRest J z events
marked_rest J mark z events valid over keeps it =
    let rest = ends J valid J.rules (potential J.rules.finishes (last_deadline J.jobs) z) z keeps
    (over_ready J.rules.finishes z over) (omega arith) in record {
      steps = rest.0;
      whole = rest.1;
      prints = printed_then_run J mark z events rest.0 valid it rest.1;
    }

module _ (s : ReadyServer) (J : Instance) (from : Horizon) (events : List Event) (serves : Serves s J from events) where
  -- before End, the run leaves a rest
  rest_left : s.ended ≡ false → LeavesRest J serves.state events
  rest_left goes_on = by_horizon from serves.given where
    by_horizon : (to : Horizon) → HasGiven s.ended J serves.state to events → LeavesRest J serves.state events
    by_horizon (Mark m) given =
        marked_rest J m serves.state events serves.follows.valid serves.follows.over serves.follows.keeps given.1
    by_horizon End given =
        subst (λ b. MatchBool b (events ≡ printed J) (LeavesRest J serves.state events)) goes_on given

  module _ (goes_on : s.ended ≡ false) (d : Course) (e : Event)
      (next : (I : Instance) (z : State) → Follows s.ready I z
      → (y : State) × Follows d I y × PrintsNext I.rules z e y) where
    -- where the event is printed
    now : (y : State) × Follows d J y × PrintsNext J.rules serves.state e y
    now = next J serves.state serves.follows

    -- what is left behind it
    behind : (zs : List Step)
        × MatchBool (is_end (Prints e)) (zs ≡ []) (IsWholeRun J.rules (after now.0 (Prints e)) zs)
        × (printed J ≡ events ++ e ∷ printed_of zs)
    behind =
        let left = rest_left goes_on in
        let it = runs_on J serves.follows.valid J.rules e now.2.steps left.steps serves.state now.0
        serves.follows.keeps now.2.idles now.2.prints left.whole in
        (it.0, it.1, left.prints ∙ ap (λ es. events ++ es) it.2)

    -- where it is End, all was given
    pub end_given : is_end (Prints e) ≡ true → (last : ℕ)
        → Serves (record s { ready = d; ended = true; last = last }) J End (events ++ e ∷ [])
    end_given is last_tick_given = record {
      state = now.0;
      follows = now.1;
      given =
          let last : behind.0 ≡ [] = subst
          (λ b. MatchBool b (behind.0 ≡ []) (IsWholeRun J.rules (after now.0 (Prints e)) behind.0)) is behind.1 in
          sym (behind.2 ∙ ap (λ zs. events ++ e ∷ printed_of zs) last);
      last = tt;
    }

    -- where it isn't, it was given once it is taken
    pub event_given : is_end (Prints e) ≡ false → (f : Course) (last : ℕ)
        → ((I : Instance) (z : State) → Follows d I z → Follows f I (after z (Prints e)))
        → Serves (record s { ready = f; last = last }) J End (events ++ e ∷ [])
    event_given is f last takes = record {
      state = after now.0 (Prints e);
      follows = takes J now.0 now.1;
      given = subst (λ b. MatchBool b (events ++ e ∷ [] ≡ printed J)
          (LeavesRest J (after now.0 (Prints e)) (events ++ e ∷ []))) (sym goes_on) (record {
            steps = behind.0;
            whole = subst
                (λ b. MatchBool b (behind.0 ≡ []) (IsWholeRun J.rules (after now.0 (Prints e)) behind.0)) is behind.1;
            prints = behind.2 ∙ sym (append_assoc events (e ∷ []) (printed_of behind.0));
          });
      last = tt;
    }

-- the value that the next step names at the end is short
pub next_short : (c d : Course) (J : Instance) (z : State) → Follows c J z → (e : Event) → ComesNext c d e
    → HasShortValue e
next_short c d J z follows e next = by_event e (subst IsShortMove here.2.prints
    (step_short J here.1.valid here.0 here.1.keeps (omega (arith, here.1.known)) J.rules)) where
      here : (y : State) × Follows d J y × PrintsNext J.rules z e y
      here = next J z follows

      by_event : (f : Event) → IsShortMove (Prints f) → HasShortValue f
      by_event (events.End value) short = short.0
      by_event _ short = tt

-- an event that isn't the End names no value
pub open_short : (e : Event) → is_end (Prints e) ≡ false → HasShortValue e
open_short (events.End value) none = absurd (let f : true ≡ false = none in cc)
open_short _ none = tt

-- nor does an answer that isn't
pub open_shorts : (o : Option Event) → is_end_given o ≡ false → IfSome o HasShortValue
open_shorts None none = tt
open_shorts (Some e) none = open_short e none

-- ---- what holds of each

-- what is served towards a horizon is served towards a later one
pub serves_later : (s : ReadyServer) (J : Instance) (from to : Horizon) (events : List Event) → Serves s J from events
    → MayFollow from to → Serves s J to events
serves_later s J (Mark m) (Mark t) events serves may = record {
  state = serves.state;
  follows = serves.follows;
  given = (
    serves.given.0,
    subst (HasPrinted J t serves.state) (append-nil events)
        (printed_more J m t serves.state serves.state events [] serves.given.1 may.0 refl),
  );
  last = serves.last;
}
serves_later s J (Mark m) End events serves may = record {
  state = serves.state;
  follows = serves.follows;
  given = subst (λ b. MatchBool b (events ≡ printed J) (LeavesRest J serves.state events)) (sym serves.given.0)
      (marked_rest J m serves.state events serves.follows.valid serves.follows.over serves.follows.keeps
      serves.given.1);
  last = tt;
}
serves_later s J End (Mark t) events serves may = absurd may
serves_later s J End End events serves may = serves

-- what was given begins what is due
pub serves_begins : (s : ReadyServer) (J : Instance) (to : Horizon) (events : List Event) → Serves s J to events
    → Begins events (due_by J to)
serves_begins s J (Mark t) events serves =
    printed_begins J t serves.state events serves.follows.valid serves.given.1
serves_begins s J End events serves = by_ended s.ended serves.given where
  by_ended : (b : Bool) → MatchBool b (events ≡ printed J) (LeavesRest J serves.state events)
      → Begins events (printed J)
  by_ended true all = ([], sym all ∙ sym (append-nil events))
  by_ended false left = (printed_of left.steps, left.prints)

-- a server at rest has given all
pub rests_serves : (s : ReadyServer) (J : Instance) (to : Horizon) → Rests s J to → Serves s J to (due_by J to)
rests_serves s J (Mark t) rests = record {
  state = rests.state;
  follows = rests.follows;
  given = (rests.given.0, rests.given.1.here);
  last = rests.last;
}
rests_serves s J End rests = record {
  state = rests.state;
  follows = rests.follows;
  given = subst (λ b. MatchBool b (printed J ≡ printed J) (LeavesRest J rests.state (printed J))) (sym rests.given)
      refl;
  last = tt;
}

-- what is served is served with other room
pub serves_roomy : (s : ReadyServer) (d : Course) → d ≡ record s.ready { room = d.room } → (J : Instance) (to : Horizon)
    (events : List Event) → Serves s J to events → Serves (record s { ready = d }) J to events
serves_roomy s d same J to events serves =
    let it = serves.follows in
    record {
      state = serves.state;
      follows = subst (λ c. Follows c J serves.state) (sym same) (record {
        valid = it.valid;
        keeps = it.keeps;
        rules = it.rules;
        own = it.own;
        over = it.over;
        clock = it.clock;
        pressed = it.pressed;
        ready = it.ready;
        jobs = it.jobs;
        done = it.done;
        known = it.known;
        released = it.released;
      });
      given = serves.given;
      last = serves.last;
    }

-- ---- room

-- there is as much room behind a step by which no more jobs are ready
pub place_behind : (c d : Course) → length d.ready ≤ length c.ready → d.room ≡ c.room
    → min (length c.ready + 1) most_ready ≤ c.room → min (length d.ready + 1) most_ready ≤ d.room
place_behind c d fewer same place =
    let made : min (length c.ready + 1) 1_000_000 ≤ c.room = place in
    let left : min (length d.ready + 1) 1_000_000 ≤ d.room = omega (arith, fewer, same) in left

-- there is room for one ready job more, unless as many are ready as may be, once it is made
pub place_made : (s : ReadyServer) (d : Course) (more : ℕ) (r : Result Unit Memory)
    → d ≡ record s.ready { room = d.room } → OnOk r (min (length s.ready.ready + more) most_ready ≤ d.room) → 1 ≤ more
    → OnOk r (min (length d.ready + 1) most_ready ≤ d.room)
place_made s d more (Ok x) same room some =
    let made : min (length s.ready.ready + more) 1_000_000 ≤ d.room = room in
    omega (arith, ap (λ (c : Course). length c.ready) same)
place_made s d more (Err e) same room some = room

-- so there is room for one more where fewer are ready
pub place_where_few : (s : ReadyServer) → HasPlaceUnlessFull s → length s.ready.ready < most_ready → HasPlace s
place_where_few s place few =
    let made : min (length s.ready.ready + 1) 1_000_000 ≤ s.ready.room = place in omega (arith, few)

-- fewer are ready where it isn't full
pub few_ready : (b : Bool) (n : ℕ) → b ≡ false → (most_ready ≤ n → IsTrue b) → n < most_ready
few_ready b n not_full full = by_test (nat_lt n most_ready) refl where
  by_test : (less : Bool) → nat_lt n most_ready ≡ less → n < most_ready
  by_test true is = ltb-true _ _ is
  by_test false is = never (sym not_full ∙ full (ltb-false _ _ is))

-- also where it was made by a call
pub place_given : (s v : ReadyServer) (r : Result Unit Memory) → OnOk r (HasPlaceUnlessFull v)
    → v.ready.ready ≡ s.ready.ready → length s.ready.ready < most_ready → OnOk r (HasPlace v)
place_given s v (Ok x) place same few = place_where_few v place (omega (arith, few, ap length same))
place_given s v (Err e) place same few = place
