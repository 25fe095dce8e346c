-- What an engine gives of all jobs that were ever admitted, call by call.
use Rattle.std.proofs.Common.{◌≡◌, ℕ, ◌+◌, ◌*◌, ◌≤◌, ◌<◌, ◌^◌, List, [], ◌∷◌, ◌++◌, length, map, refl, sym, ap, ◌∙◌}
use Rattle.std.proofs.Common.{subst, arith, inl, inr, Bool, true, false, append-nil, append_assoc, length-append}
use Rattle.std.proofs.Common.{Option, Some, None, IsNone, IfSome, is_some, option_to_list, drop, option_map, filter}
use Rattle.std.proofs.Common.{fold, drop_at}
use Rattle.std.proofs.lemmas.List.{map-append}
use Rattle.std.proofs.lemmas.Nat.{mul-le}
use Rattle.dover_model.specs.declared.events.Event.{Event}
use Rattle.dover_model.specs.declared.events.Event.TheVariants as events
use Rattle.dover_model.specs.declared.events.Task.{Task}
use Rattle.dover_model.specs.Common.{is_held, Fraction, JobFacts, most_jobs, Rules, Declaration, Instance, IsValid}
use Rattle.dover_model.specs.Common.{declared_by, bare, having, with_jobs, with_finishes, is_end, printed, settled}
use Rattle.dover_model.specs.Common.{tick_of_event, last_of, Finish, runner_of, Prints, Begins, IsTurn, NoneBefore}
use Rattle.dover_model.specs.Common.{Turn, behind, behind_finish, completed_value, end_tick, before_end}
use Rattle.dover_model.specs.Common.{completed_turns, instead_with, one_run, turn_under, turns_finishes, turns_jobs}
use Rattle.dover_model.specs.Common.{refusal_of, MayFollow, is_ready_after, is_end_given, no_jobs, due_by, waits_among}
use Rattle.dover_model.proofs.rest.RestTick.{rests_from}
use Rattle.dover_model.proofs.runs.Runs.{last_value, value_last}
use Rattle.dover_model.specs.declared.events.Refusal.{Refusal}
use Rattle.dover_model.specs.declared.events.Refusal.TheVariants as plain
use Rattle.dover_model.specs.declared.events.Version.{Version}
use Rattle.dover_model.specs.Processor.{runner_after}
use Rattle.dover_model.proofs.settled.LastSteps.{last_from}
use Rattle.dover_model.proofs.finishes.Processors.{runner_behind, runner_behind_turns}
use Rattle.std.proofs.lemmas.List.Sums.{fold-append}
use Rattle.dover_model.proofs.rest.Apart.{end_at_rest}
use Rattle.dover_model.proofs.rest.InTurns.{one_run_prints, settled_of_last}
use Rattle.dover_model.proofs.rest.TurnsGrowing.{before_end_of_last, completed_behind, ends_behind, finishes_behind}
use Rattle.dover_model.proofs.rest.TurnsGrowing.{jobs_behind, printed_of_last}
use Rattle.admission.specs.declared.refused.Refused.{Refused}
use Rattle.admission.specs.declared.refused.Refused.TheVariants as refused
use Rattle.admission.specs.Answers.{refusal_of_refused, NamesOther, IsOther}
use Rattle.admission.specs.Kept.{Kept, StandsFor}
use Rattle.dover_model.specs.declared.horizon.Horizon.{Horizon}
use Rattle.dover_model.specs.declared.horizon.Horizon.TheVariants.{Mark, End}
use Rattle.ready_jobs.specs.Spending.{wait_again_by}
use Rattle.ready_jobs.proofs.Courses.{follows_count}
use Rattle.ready_server.specs.NextStep.{ComesAt}
use Rattle.ready_server.specs.Serving.{Serves, Rests}
use Rattle.ready_server.proofs.Stepping.{serves_begins}
use Rattle.ready_server.specs.declared.server.ReadyServer.{ReadyServer}
use Rattle.dover_engine.specs.declared.decision.Decision.{Decision}
use Rattle.dover_engine.specs.Decisions.{event_in}
use Rattle.dover_engine.specs.Life.{life_with, Life, IsReadyFor, IsAtRest, HasPaid, CostsOnce, done_value, has_ended}
use Rattle.ready_jobs.specs.Course.{state_of_course}
use Rattle.dover_model.proofs.lists.Tests.{never, none_is_some}
use Rattle.dover_engine.specs.Given.{GaveSince, Gave, IsSince, IsPrompt}
use Rattle.dover_engine.specs.Calls.{since_rest, HasCause, IsBreaker, IsCause, cause_behind, IsDueAt}
use Rattle.dover_engine.proofs.Giving.{fresh_gave, rests_now}
use Rattle.dover_model.proofs.valid.ValidParts.{valid_parts}
use Rattle.dover_engine.proofs.Since as since

-- ---- the beginning

-- a turn of no jobs
abbrev no_turn : Turn
no_turn = record { jobs = []; finishes = [] }

-- a new engine gave nothing
pub new_gave : (version : Version) (k : Fraction) (s : ReadyServer) (kept : Kept)
    → Serves s (no_jobs version k) (Mark 0) [] → StandsFor kept []
    → kept.rules ≡ record { ratio = k; version = version }
    → Gave (life_with s kept (Mark 0) false None 0 0) (no_jobs version k) []
new_gave version k s kept serves stands rules = record {
  turns = [];
  tick = 0;
  over = omega arith;
  since = no_turn;
  later = λ j member. absurd member;
  passed = omega arith;
  all = refl;
  forgotten = refl;
  earned = refl;
  told = [];
  gave = fresh_gave version k s kept serves stands rules;
  all_events = ap (λ es. before_end es ++ [])
      (sym (one_run_prints (record { ratio = k; version = version; finishes = [] }) [] 0 (omega arith)));
}

-- ---- turns

-- a job more in the last turn
abbrev with_job : Turn → JobFacts → Turn
with_job turn job = record { jobs = turn.jobs ++ job ∷ []; finishes = turn.finishes }

-- is one more of all
one_with_job : (rules : Rules) (turns : List Turn) (turn : Turn) (job : JobFacts)
    → with_jobs (one_run rules (turns ++ turn ∷ [])) (job ∷ []) ≡ one_run rules (turns ++ with_job turn job ∷ [])
one_with_job rules turns turn job =
    ap (λ js. record { rules = having rules (turns_finishes (turns ++ turn ∷ [])); jobs = js })
    (ap (λ js. js ++ job ∷ []) (jobs_behind turns turn) ∙ append_assoc (turns_jobs turns) turn.jobs (job ∷ [])
    ∙ sym (jobs_behind turns (with_job turn job)))
    ∙ ap (λ fs. record { rules = having rules fs; jobs = turns_jobs (turns ++ with_job turn job ∷ []) })
    (finishes_behind turns turn ∙ sym (finishes_behind turns (with_job turn job)))

-- a finish more in the last turn
abbrev with_finish : Turn → Finish → Turn
with_finish turn f = record { jobs = turn.jobs; finishes = turn.finishes ++ f ∷ [] }

-- is one more of all
pub one_with_finish : (rules : Rules) (turns : List Turn) (turn : Turn) (f : Finish)
    → with_finishes (one_run rules (turns ++ turn ∷ [])) (behind_finish (length (turns_jobs turns)) f ∷ [])
    ≡ one_run rules (turns ++ with_finish turn f ∷ [])
one_with_finish rules turns turn f =
    ap (λ js. record { rules = having rules (turns_finishes (turns ++ turn ∷ []) ++ number f ∷ []); jobs = js })
    (jobs_behind turns turn ∙ sym (jobs_behind turns (with_finish turn f)))
    ∙ ap (λ fs. record { rules = having rules fs; jobs = turns_jobs (turns ++ with_finish turn f ∷ []) })
    (ap (λ fs. fs ++ number f ∷ []) (finishes_behind turns turn)
    ∙ append_assoc (turns_finishes turns) (map number turn.finishes) (number f ∷ [])
    ∙ ap (λ fs. turns_finishes turns ++ fs) (sym (map-append number turn.finishes (f ∷ [])))
    ∙ sym (finishes_behind turns (with_finish turn f))) where
      number : Finish → Finish
      number = behind_finish (length (turns_jobs turns))

-- and a turn of none leaves all
one_with_none : (rules : Rules) (turns : List Turn) → one_run rules (turns ++ no_turn ∷ []) ≡ one_run rules turns
one_with_none rules turns =
    ap (λ js. record { rules = having rules (turns_finishes (turns ++ no_turn ∷ [])); jobs = js })
    (jobs_behind turns no_turn ∙ append-nil (turns_jobs turns))
    ∙ ap (λ fs. record { rules = having rules fs; jobs = turns_jobs turns })
    (finishes_behind turns no_turn ∙ append-nil (turns_finishes turns))

-- all jobs are those of the turns and those since
pub jobs_given : (v : Life) (J : Instance) (es : List Event) (g : Gave v J es)
    → J.jobs ≡ turns_jobs g.turns ++ g.since.jobs
jobs_given v J es g = ap (λ (I : Instance). I.jobs) g.all ∙ jobs_behind g.turns g.since

-- ---- a job

-- those since the last moment of rest
pub since_given : (v : Life) (J : Instance) (es : List Event) (g : Gave v J es) → since_rest v J ≡ g.since.jobs
since_given v J es g = ap (drop v.forgotten) (jobs_given v J es g)
    ∙ drop_at (turns_jobs g.turns) g.since.jobs v.forgotten (sym g.forgotten)

module _ (v : Life) (job : JobFacts) where
  -- why it may not follow them
  pub has_cause : (cause : Option Refusal) → ((jobs : List JobFacts) → StandsFor v.admission jobs
      → refusal_of v.admission.rules jobs job ≡ cause) → HasCause v job cause
  has_cause cause it J es g = ap (λ js. refusal_of (declared_by J.rules) js job) (since_given v J es g)
      ∙ ap (λ rules. refusal_of rules g.since.jobs job) (sym g.gave.rules) ∙ it g.since.jobs g.gave.admission

  -- the job that is named
  breaker : (other : ℕ) → ((jobs : List JobFacts) → StandsFor v.admission jobs
      → IsOther v.admission.rules.ratio jobs job other) → (J : Instance) (es : List Event) → Gave v J es
      → IsBreaker v J job (v.forgotten + other)
  breaker other it J es g = record {
    number = other;
    numbered = refl;
    is = subst (λ js. IsOther J.rules.ratio js job other) (sym (since_given v J es g))
        (subst (λ (rules : Declaration). IsOther rules.ratio g.since.jobs job other) g.gave.rules
        (it g.since.jobs g.gave.admission));
  }

  -- a refusal is a cause
  pub refused_cause : (refused : Refused) → IsReadyFor v job.release
      → ((jobs : List JobFacts) → StandsFor v.admission jobs
      → refusal_of v.admission.rules jobs job ≡ Some (refusal_of_refused refused))
      → ((jobs : List JobFacts) → StandsFor v.admission jobs → NamesOther v.admission.rules.ratio jobs job refused)
      → IsCause v job (cause_behind v.forgotten refused)
  refused_cause refused.BadJob ready why other = (ready, has_cause (Some plain.BadJob) why)
  refused_cause refused.Count ready why other = (ready, has_cause (Some plain.Count) why)
  refused_cause refused.Total ready why other = (ready, has_cause (Some plain.Total) why)
  refused_cause (refused.Ratio number) ready why other =
      (ready, has_cause (Some plain.Ratio) why, breaker number other)

-- none of these jobs comes before, nor one more
one_later : (tick : ℕ) (jobs : List JobFacts) (job : JobFacts) → NoneBefore tick jobs → tick ≤ job.release
    → NoneBefore tick (jobs ++ job ∷ [])
one_later tick [] job all low j (inl e) = subst (λ (i : JobFacts). tick ≤ i.release) (sym e) low
one_later tick [] job all low j (inr m) = absurd m
one_later tick (i ∷ jobs) job all low j (inl e) = all j (inl e)
one_later tick (i ∷ jobs) job all low j (inr m) = one_later tick jobs job (λ h at. all h (inr at)) low j m

-- its tick stays, whatever the numbers, and End is no other
tick_behind : (n value : ℕ) (e : Event) → tick_of_event (behind n value e) ≡ tick_of_event e
tick_behind n value (events.Release m job) = refl
tick_behind n value e = refl

last_behind : (n value tick : ℕ) (es : List Event)
    → last_from tick (map (behind n value) es) ≡ last_from tick es
last_behind n value tick [] = refl
last_behind n value tick (e ∷ es) = ap (λ t. last_from t (map (behind n value) es)) (tick_behind n value e)
    ∙ last_behind n value (tick_of_event e) es

end_stays : (n value : ℕ) (e : Event) → is_end (Prints (behind n value e)) ≡ is_end (Prints e)
end_stays n value (events.Release m job) = refl
end_stays n value e = refl

-- a list behind others, in two parts
pub two_behind : (front es : List Event) (moved : Event → Event) (xs ys : List Event) → es ≡ front ++ map moved xs
    → front ++ map moved (xs ++ ys) ≡ es ++ map moved ys
two_behind front es moved xs ys e = ap (λ fs. front ++ fs) (map-append moved xs ys)
    ∙ sym (append_assoc front (map moved xs) (map moved ys)) ∙ ap (λ fs. fs ++ map moved ys) (sym e)

module _ (v : Life) (J : Instance) (es : List Event) (g : Gave v J es) where
  -- the jobs since
  abbrev pub K : Instance
  K = turn_under J.rules g.since

  -- what the lists print, and behind it what is printed of the jobs since
  abbrev pub before : List Event
  before = before_end (printed (one_run J.rules g.turns))

  abbrev pub moved : Event → Event
  moved = behind v.forgotten v.earned

  abbrev pub all_of : List Event → List Event
  all_of fs = before ++ map moved fs

  -- what was given stays with a job more
  pub admit_gave : (job : JobFacts) (ready : IsReadyFor v job.release) (s : ReadyServer) (kept : Kept) (e : Event)
      → GaveSince (life_with s kept v.last false (Some e) v.forgotten v.earned) (with_jobs K (job ∷ [])) g.told
      → Gave (life_with s kept v.last false (Some e) v.forgotten v.earned) (with_jobs J (job ∷ [])) es
  admit_gave job ready s kept e gave = record {
    turns = g.turns;
    tick = g.tick;
    over = g.over;
    since = with_job g.since job;
    later = one_later g.tick g.since.jobs job g.later (subst (IsSince g.tick) ready.1 g.passed);
    passed = g.passed;
    all = ap (λ I. with_jobs I (job ∷ [])) g.all ∙ one_with_job J.rules g.turns g.since job;
    forgotten = g.forgotten;
    earned = g.earned;
    told = g.told;
    gave = gave;
    all_events = g.all_events;
  }

  -- ---- an early finish

  -- what was given stays with a finish more
  unfoldable pub done_gave : (s : ReadyServer) (f : Finish) (e : Event)
      → GaveSince (life_with s v.admission v.last false (Some e) v.forgotten v.earned) (with_finishes K (f ∷ [])) g.told
      → Gave (life_with s v.admission v.last false (Some e) v.forgotten v.earned)
      (with_finishes J (behind_finish v.forgotten f ∷ [])) es
  done_gave s f e gave = record {
    turns = g.turns;
    tick = g.tick;
    over = g.over;
    since = with_finish g.since f;
    later = g.later;
    passed = g.passed;
    all = ap (λ I. with_finishes I (behind_finish v.forgotten f ∷ [])) g.all
        ∙ ap (λ n. with_finishes (one_run J.rules (g.turns ++ g.since ∷ [])) (behind_finish n f ∷ [])) g.forgotten
        ∙ one_with_finish J.rules g.turns g.since f;
    forgotten = g.forgotten;
    earned = g.earned;
    told = g.told;
    gave = gave;
    all_events = g.all_events;
  }

  -- the version is the engine's
  pub version_given : J.rules.version ≡ v.server.ready.rules.version
  version_given = ap (λ (rules : Rules). rules.version) g.gave.serves.follows.rules

  module _ (at : ℕ) (ready : IsReadyFor v at) where
    pub told_there : g.told ≡ settled K at
    told_there = (g.gave.settled ready.0).all ∙ ap (due_by K) ready.1

    -- a job has the processor in all where it has it among those since
    pub runner_given : runner_of es ≡ option_map (λ m. v.forgotten + m) (runner_of (settled K at))
    runner_given = ap runner_of g.all_events ∙ fold-append runner_after None before (map moved g.told)
        ∙ ap (λ o. fold runner_after o (map moved g.told)) (runner_behind_turns (bare J.rules) g.turns g.tick g.over)
        ∙ runner_behind v.forgotten v.earned None g.told
        ∙ ap (λ fs. option_map (λ m. v.forgotten + m) (runner_of fs)) told_there

    -- and then the last decision is the last of those since
    pub last_given : (n : ℕ) → runner_of (settled K at) ≡ Some n → last_of es ≡ last_of (settled K at)
    last_given n runs = ap last_of g.all_events ∙ by_told g.told told_there where
      by_told : (fs : List Event) → fs ≡ settled K at → last_of (all_of fs) ≡ last_of (settled K at)
      by_told [] same = none_is_some (ap runner_of same ∙ runs)
      by_told (f ∷ fs) same = fold-append (λ tick e. tick_of_event e) 0 before (map moved (f ∷ fs))
          ∙ last_behind v.forgotten v.earned (last_of before) (f ∷ fs) ∙ ap last_of same

  -- ---- a step

  -- the horizon isn't before the last moment of rest
  passed_to : (to : Horizon) → MayFollow v.last to → IsSince g.tick to
  passed_to to may = by_horizon v.last to may g.passed where
    by_horizon : (last next : Horizon) → MayFollow last next → IsSince g.tick last → IsSince g.tick next
    by_horizon (Mark m) (Mark t) follows low = omega (arith, follows.0, low)
    by_horizon (Mark m) End follows low = tt
    by_horizon End (Mark t) follows low = absurd follows
    by_horizon End End follows low = tt

  -- what was given stays, with an answer more
  pub decide_gave : (to : Horizon) → MayFollow v.last to → (s : ReadyServer) (settles : Bool) (o : Option Event)
      → GaveSince (life_with s v.admission to settles None v.forgotten v.earned) K (g.told ++ option_to_list o)
      → Gave (life_with s v.admission to settles None v.forgotten v.earned) J (es ++ option_to_list (option_map
      (behind v.forgotten v.earned) o))
  decide_gave to may s settles o gave = record {
    turns = g.turns;
    tick = g.tick;
    over = g.over;
    since = g.since;
    later = g.later;
    passed = passed_to to may;
    all = g.all;
    forgotten = g.forgotten;
    earned = g.earned;
    told = g.told ++ option_to_list o;
    gave = gave;
    all_events = ap (λ fs. es ++ fs) (mapped o)
        ∙ sym (two_behind before es moved g.told (option_to_list o) g.all_events);
  } where
    mapped : (p : Option Event) → option_to_list (option_map moved p) ≡ map moved (option_to_list p)
    mapped None = refl
    mapped (Some e) = refl

  -- ---- what the events of all jobs are

  joins : (fs : List Event) → before ++ map (behind (length (turns_jobs g.turns)) (completed_turns J.rules g.turns)) fs
      ≡ all_of fs
  joins fs = ap (λ n. before ++ map (behind n (completed_turns J.rules g.turns)) fs) (sym g.forgotten)
      ∙ ap (λ value. before ++ map (behind v.forgotten value) fs) (sym g.earned)

  valid : IsValid K
  valid = g.gave.serves.follows.valid

  pub turn : IsTurn (bare J.rules) g.tick g.since
  turn = (valid, g.gave.serves.follows.own, g.later)

  -- all that is printed is what the turns print, and what those since do
  printed_all : printed J ≡ all_of (printed K)
  printed_all = ap printed g.all ∙ printed_of_last (bare J.rules) g.since g.tick turn g.turns g.over ∙ joins (printed K)

  pub settled_all : (t : ℕ) → IsSince g.tick (Mark t) → settled J t ≡ all_of (settled K t)
  settled_all t low = ap (λ I. settled I t) g.all
      ∙ settled_of_last (bare J.rules) g.since valid g.tick g.later g.turns t g.over low ∙ joins (settled K t)

  -- all that is due was given, where it was of the jobs since
  pub due_given : (to : Horizon) → MayFollow v.last to → g.told ≡ due_by K to → es ≡ due_by J to
  due_given (Mark t) may given = g.all_events ∙ ap all_of given ∙ sym (settled_all t (passed_to (Mark t) may))
  due_given End may given = g.all_events ∙ ap all_of given ∙ sym printed_all

  pub ended_given : has_ended v ≡ true → es ≡ printed J
  ended_given ended = g.all_events ∙ ap all_of (since.since_all v K g.told g.gave ended) ∙ sym printed_all

  -- what was given begins what is printed
  pub given_begins : Begins es (printed J)
  given_begins = let begins = since.since_begins v K g.told g.gave in (
    map moved begins.0,
    printed_all ∙ ap all_of begins.1 ∙ two_behind before es moved g.told begins.0 g.all_events,
  )

  -- up to a mark, it begins what is settled there
  pub given_due : (t : ℕ) → v.last ≡ Mark t → Begins es (settled J t)
  given_due t last =
      let begins : Begins (g.told ++ option_to_list v.coming) (settled K t) = subst
      (λ to. Begins (g.told ++ option_to_list v.coming) (due_by K to)) last
      (serves_begins v.server K v.last (g.told ++ option_to_list v.coming) g.gave.serves) in
      let rest : List Event = option_to_list v.coming ++ begins.0 in (
        map moved rest,
        settled_all t (subst (IsSince g.tick) last g.passed)
            ∙ ap all_of (begins.1 ∙ append_assoc g.told (option_to_list v.coming) begins.0)
            ∙ two_behind before es moved g.told rest g.all_events,
      )

  -- what comes next of all jobs is what comes next of those since
  pub comes_given : (mark tick : ℕ) → IsReadyFor v mark → ComesAt K mark (settled K mark) tick → ComesAt J mark es tick
  comes_given mark tick ready it = record {
    quiet = λ later on sooner. settled_all later (since_mark later on)
        ∙ ap all_of (it.quiet later on sooner) ∙ sym here;
    next = moved it.next;
    rest = map moved it.rest;
    prints = printed_all ∙ ap all_of it.prints
        ∙ two_behind before es moved (settled K mark) (it.next ∷ it.rest) here;
    at = tick_behind v.forgotten v.earned it.next ∙ it.at;
    goes_on = end_stays v.forgotten v.earned it.next ∙ it.goes_on;
  } where
    here : es ≡ all_of (settled K mark)
    here = g.all_events ∙ ap all_of (told_there mark ready)

    since_mark : (later : ℕ) → mark ≤ later → IsSince g.tick (Mark later)
    since_mark later on =
        let low : g.tick ≤ mark = subst (IsSince g.tick) ready.1 g.passed in omega (arith, low, on)

  -- ---- rest

  -- what is printed before the End
  before_all : all_of (before_end (printed K)) ≡ before_end (printed J)
  before_all = sym (joins (before_end (printed K)))
      ∙ sym (before_end_of_last (bare J.rules) g.since g.tick turn g.turns g.over)
      ∙ ap (λ I. before_end (printed I)) (sym g.all)

  -- the End is the last that is printed, with what is completed
  pub whole_end : printed J ≡ before_end (printed J) ++ (events.End (completed_value J) ∷ [])
  whole_end = so ∙ ap (λ value. before_end (printed J) ++ (events.End value ∷ [])) (sym worth) where
    value : ℕ
    value = v.earned + completed_value K

    so : printed J ≡ before_end (printed J) ++ (events.End value ∷ [])
    so = printed_all
        ∙ ap all_of (end_at_rest K (end_tick K) valid (rests_from K valid (end_tick K) (omega arith)))
        ∙ two_behind before (before_end (printed J)) moved (before_end (printed K))
        (events.End (completed_value K) ∷ []) (sym before_all)

    worth : completed_value J ≡ value
    worth = ap (last_value 0) so ∙ value_last 0 value (before_end (printed J))

  module _ (still : IsAtRest v) where
    abbrev t : ℕ
    t = (since.marked v K g.told g.gave still).0

    last : v.last ≡ Mark t
    last = (since.marked v K g.told g.gave still).1

    -- what was given since is all but End
    told_but_end : es ≡ all_of (before_end (printed K))
    told_but_end = g.all_events ∙ ap all_of (since.given_at v K g.told g.gave still t last)

    -- so what was given in all is the whole run but for its End
    pub rest_gave : es ++ (events.End (done_value v) ∷ []) ≡ printed J
    rest_gave =
        sym (two_behind before es moved (before_end (printed K)) (events.End v.server.ready.done ∷ []) told_but_end)
        ∙ ap (λ value. all_of (before_end (printed K) ++ (events.End value ∷ [])))
        (since.done_at v K g.told g.gave still t last)
        ∙ ap all_of (sym (end_at_rest K t valid (since.rests_at v K g.told g.gave still t last))) ∙ sym printed_all

    -- it is what the run prints before its End
    pub rest_events : es ≡ before_end (printed J)
    rest_events = told_but_end ∙ before_all

    -- the turns with the one that is forgotten
    abbrev turns : List Turn
    turns = g.turns ++ (g.since ∷ [])

    -- and it stays, when the jobs are forgotten
    pub renew_gave : (s : ReadyServer) (kept : Kept) (forgotten earned : ℕ)
        → ((mark : ℕ) → Rests v.server K (Mark mark) → Rests s (instead_with K [] []) (Mark mark))
        → StandsFor kept [] → kept.rules ≡ v.admission.rules → forgotten ≡ v.forgotten + v.admission.count
        → earned ≡ v.earned + v.server.ready.done
        → Gave (life_with s kept v.last v.settled v.coming forgotten earned) J es
    renew_gave s kept forgotten earned anew stands rules more worth =
        let rests : Rests s (instead_with K [] []) (Mark t) =
        anew t (since.there v K g.told g.gave still t last) in
        let none : v.coming ≡ None = (since.settled_now v K g.told g.gave still).none in
        let gives = since.anew_gave (life_with s kept v.last v.settled v.coming forgotten earned) J t rests stands
        (rules ∙ g.gave.rules) last none g.gave.known in record {
          turns = turns;
          tick = t;
          over = ends_behind (bare J.rules) g.turns g.since 0 g.tick t g.over turn
              (subst (IsSince g.tick) last g.passed) (since.rests_at v K g.told g.gave still t last);
          since = no_turn;
          later = λ j member. absurd member;
          passed = subst (IsSince t) (sym last) (let e : t ≤ t = omega arith in e);
          all = g.all ∙ sym (one_with_none J.rules turns);
          forgotten = omega (
            arith,
            more,
            g.forgotten,
            g.gave.admission.count,
            ap length (jobs_behind g.turns g.since),
            length-append (turns_jobs g.turns) g.since.jobs,
          );
          earned = omega (
            arith,
            worth,
            g.earned,
            since.done_at v K g.told g.gave still t last,
            completed_behind (bare J.rules) g.turns g.since,
          );
          told = [];
          gave = gives;
          all_events = told_but_end ∙ sym (joins (before_end (printed K)))
              ∙ sym (before_end_of_last (bare J.rules) g.since g.tick turn g.turns g.over)
              ∙ sym (append-nil (before_end (printed (one_run J.rules turns))));
        }

    -- or when it begins anew
    pub restart_gave : (s : ReadyServer) (kept : Kept) (earned : ℕ)
        → Serves s (no_jobs v.server.ready.rules.version v.server.ready.rules.ratio) (Mark 0) []
        → StandsFor kept [] → kept.rules ≡ v.admission.rules → earned ≡ 0
        → Gave (life_with s kept (Mark 0) false v.coming 0 earned)
        (no_jobs v.admission.rules.version v.admission.rules.ratio) []
    restart_gave s kept earned serves stands rules nothing =
        let same : v.server.ready.rules ≡ v.admission.rules =
        sym (ap declared_by g.gave.serves.follows.rules) ∙ sym g.gave.rules in
        let none : v.coming ≡ None = (since.settled_now v K g.told g.gave still).none in
        subst (λ n. Gave (life_with s kept (Mark 0) false v.coming 0 n)
        (no_jobs v.admission.rules.version v.admission.rules.ratio) []) (sym nothing)
        (subst (λ o. Gave (life_with s kept (Mark 0) false o 0 0)
        (no_jobs v.admission.rules.version v.admission.rules.ratio) []) (sym none)
        (new_gave v.admission.rules.version v.admission.rules.ratio s kept
        (subst (λ (r : Declaration). Serves s (no_jobs r.version r.ratio) (Mark 0) []) same serves) stands rules))

-- a mark is reached, or the End given, whatever the numbers
pub ready_behind : (to : Horizon) (n value : ℕ) (o : Option Event)
    → is_ready_after to o ≡ is_ready_after to (option_map (behind n value) o)
ready_behind (Mark t) n value None = refl
ready_behind to n value o = refl

pub end_behind : (n value : ℕ) (o : Option Event) → is_end_given o ≡ is_end_given (option_map (behind n value) o)
end_behind n value None = refl
end_behind n value (Some (events.Release m job)) = refl
end_behind n value (Some e) = refl

-- what is coming is given
pub coming_given : (n value : ℕ) (o p coming : Option Event) → p ≡ option_map (behind n value) o
    → IfSome coming (λ e. o ≡ Some e) → IfSome (option_map (behind n value) coming) (λ e. p ≡ Some e)
coming_given n value o p None same gives = tt
coming_given n value o p (Some e) same gives = same ∙ ap (option_map (behind n value)) gives

-- ---- comparisons

-- at rest, the jobs have called for four times their number of waits at most
paid_more : (d n f start since now w : ℕ) → since ≤ start + 80 * d * f → now ≤ since + 20 * d * w → w ≤ 4 * n
    → now ≤ start + 80 * d * (f + n)
paid_more d n f start since now w before paid few = omega (arith, before, paid, scaled, spread) where
  scaled : 20 * d * w ≤ 20 * d * (4 * n)
  scaled = mul-le (20 * d) w (20 * d) (4 * n) (omega arith) few

  spread : 80 * d * (f + n) ≡ 80 * d * f + 20 * d * (4 * n)
  spread = omega arith

module _ (v : Life) (J : Instance) (es : List Event) (g : Gave v J es) (none : v.server.ready.ready ≡ []) where
  pub renew_paid : (start now : ℕ) → HasPaid v start now → (w : Life)
      → w.forgotten ≡ v.forgotten + v.admission.count → w.admission.rules ≡ v.admission.rules
      → HasPaid w start now
  renew_paid start now paid w is same = record {
    since = now;
    before = λ d big. let old = subst (λ (rules : Declaration). most_jobs rules.version + 1 < 2 ^ d) same big in
        subst (λ n. now ≤ start + 80 * d * n) (sym is)
        (paid_more d v.admission.count v.forgotten start paid.since now _ (paid.before d old)
        (paid.paid.paid d (few d old))
        waits);
    paid = record { paid = λ d big. omega arith; freely = λ early d big. omega arith };
  } where
    count : v.server.ready.jobs ≡ v.admission.count
    count = follows_count v.server.ready (turn_under J.rules g.since) g.gave.serves.state g.gave.serves.follows
        ∙ sym g.gave.admission.count

    few : (d : ℕ) → most_jobs v.admission.rules.version + 1 < 2 ^ d → v.server.ready.jobs + 1 < 2 ^ d
    few d big =
        let most = (valid_parts g.gave.serves.follows.valid).count in
        let limit = ap (λ (rules : Declaration). most_jobs rules.version) g.gave.rules in
        omega (arith, count, g.gave.admission.count, limit)

    waits : waits_among v.server.ready.jobs (state_of_course v.server.ready)
        ≤ 4 * v.admission.count
    waits = subst (λ ts. waits_among v.server.ready.jobs (record (state_of_course v.server.ready) { tasks = ts })
        ≤ 4 * v.admission.count)
        (sym none) (omega (arith, count))

-- numbers are nothing to what a step costs
same_wait : (n value : ℕ) (o : Option Event) (held : List Task)
    → wait_again_by (option_map (behind n value) o) held ≡ wait_again_by o held
same_wait n value None held = refl
same_wait n value (Some (events.Release m job)) held = refl
same_wait n value (Some e) held = refl

same_cost : (orders d before now m n : ℕ) → m ≡ n → now ≤ before + orders * d * (6 + n)
    → now ≤ before + orders * d * (6 + m)
same_cost orders d before now m n same = subst (λ w. now ≤ before + orders * d * (6 + w)) (sym same)

pub shown_once : (v : Life) (n value : ℕ) (o p : Option Event) (before now : ℕ) → p ≡ option_map (behind n value) o
    → CostsOnce v o before now → CostsOnce v p before now
shown_once v n value o p before now same cost d fits = same_cost _ d before now _ _
    (ap (λ q. wait_again_by q (filter is_held v.server.ready.ready)) same
    ∙ same_wait n value o (filter is_held v.server.ready.ready))
    (cost d fits)

-- the engine's answer says that none is withheld
pub answer_prompt : (to : Horizon) (J : Instance) (es : List Event) (n value : ℕ) (answer : Option Decision)
    (o : Option Event)
    → event_in answer ≡ option_map (behind n value) o → (IsNone o → es ≡ due_by J to) → IsPrompt to J es answer
answer_prompt to J es n value None None same given = given refl
answer_prompt to J es n value None (Some e) same given = absurd (let f : false ≡ true = ap is_some same in cc)
answer_prompt to J es n value (Some decision) o same given = tt

-- ---- the next tick

-- what comes next, where the server says so
pub next_given : (v : Life) (J : Instance) (es : List Event) (g : Gave v J es) (mark : ℕ) → IsReadyFor v mark
    → (tick : ℕ) → ((K : Instance) (t : ℕ) → Rests v.server K (Mark t) → ComesAt K t (settled K t) tick)
    → ComesAt J mark es tick
next_given v J es g mark ready tick it = comes_given v J es g mark tick ready
    (it (turn_under J.rules g.since) mark (rests_now v (turn_under J.rules g.since) g.told g.gave ready))

-- where all was given, it is due then
pub due_settled : (v : Life) (tick : ℕ)
    → ((K : Instance) (t : ℕ) → Rests v.server K (Mark t) → ComesAt K t (settled K t) tick) → v.settled ≡ true
    → (v.server.ready.ready ≡ [] → ⊥) → IsDueAt v tick
due_settled v tick it all some = record {
  comes = λ J es mark g ready. next_given v J es g mark ready tick it;
  unsettled = λ more. never (sym more ∙ all);
  some = some;
}
