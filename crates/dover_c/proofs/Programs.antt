-- What a program in C is given.
use Rattle.std.proofs.Common.{◌≡◌, ℕ, ◌≤◌, ◌+◌, List, [], ◌∷◌, ◌++◌, map, refl, sym, ap, ◌∙◌, subst, cond, append-nil}
use Rattle.std.proofs.Common.{Bool, true, false, inl, inr, Option, Some, None, ◌==◌, ◌||◌, not, nat_lt, nat_le, arith}
use Rattle.std.proofs.Common.{sum_by, option_map}
use Rattle.std.specs.List.{enumerate_from}
use Rattle.std.proofs.lemmas.Bool.{and_parts, le-ltb, or_right}
use Rattle.std.proofs.lemmas.List.{map-append}
use Rattle.std.proofs.lemmas.List.Sums.{sum_by-cons}
use Rattle.dover_model.specs.declared.events.Event.{Event}
use Rattle.dover_model.specs.declared.events.Event.TheVariants as events
use Rattle.dover_model.specs.declared.events.Version.{Version}
use Rattle.dover_model.specs.Common.{version_of_number, Fraction, is_ratio, is_some_factor, fraction, JobFacts}
use Rattle.dover_model.specs.Common.{observed, most_ready, Instance, total_value, printed, completed_value, settled}
use Rattle.dover_model.specs.Common.{Each, Prints, takes_or_abandons, Meets, worth, IsWithin, is_end_given, no_jobs}
use Rattle.dover_model.specs.Common.{version_number, Turn, turn_under, anew, Declaration, last_tick_in, with_finishes}
use Rattle.dover_model.proofs.texts.TraceLines.{version_back}
use Rattle.dover_model.specs.Finishes as early
use Rattle.dover_model.proofs.lists.Members.{some_same}
use Rattle.dover_model.proofs.lists.Tests.{never}
use Rattle.dover_model.specs.declared.horizon.Horizon.TheVariants as horizon
use Rattle.dover_engine.specs.declared.causes.NotStepped.TheVariants.{Falls, Late}
use Rattle.dover_engine.specs.declared.decision.Decision.{Decision}
use Rattle.dover_engine.specs.Decisions.{event_in}
use Rattle.dover_engine.specs.Life.{Life, has_ended, done_value, successor_of}
use Rattle.dover_engine.specs.Given.{Gave}
use Rattle.dover_engine.specs.Calls as engine
use Rattle.dover_engine.specs.Restarts as engines
use Rattle.dover_engine.proofs.LifeLaws as life
use Rattle.dover_engine.proofs.Restarting as restarts
use Rattle.dover_engine.proofs.Succeeding as succeeding
use Rattle.dover_c.proofs.Acts.{turned_twice, one_step, told_append, finishes_append, apart, kind_none}
use Rattle.dover_c.proofs.Acts.{kind_end, leads_append, MayHave, calls_it, step_taken, shown_event}
use Rattle.dover_c.proofs.Acts.{may_end, Turned, turn_all, called, unrefused_taken, shown_none}
use Rattle.dover_c.specs.declared.Decided.{Decided}
use Rattle.dover_c.specs.declared.Named.{Named}
use Rattle.dover_c.specs.declared.Restarted.{Restarted}
use Rattle.dover_c.specs.declared.slot.Slot.{Slot}
use Rattle.dover_c.specs.Codes.{made_status, shown, Stands, IsFresh, RestartAnswers, CallsOn, Ends, SuccessorAnswers}
use Rattle.dover_c.specs.Codes.{named_of, numbers_of, shown_next}
use Rattle.dover_c.specs.Program.{Act, Done, Step, Finish, DoesAll, IsProgram, told, jobs_told, finishes_told, all_told}
use Rattle.dover_c.specs.Program.{is_decision, given, Past, DoesPast, turn_told, told_anew}

-- ---- decisions that lose no job

-- it is no take and no abandonment
abbrev IsKept : Decided → Type 0
IsKept answer = (answer.kind ≡ 4 → ⊥) × (answer.kind ≡ 6 → ⊥)

kept_kind : (e : Event) → takes_or_abandons (Prints e) ≡ false → IsKept (shown e)
kept_kind (events.Take at stops starts) none = never (sym none)
kept_kind (events.Abandon at n) none = never (sym none)
kept_kind e none = (apart _ 4 refl, apart _ 6 refl)

each_kept : (es : List Event) → Each (λ e. takes_or_abandons (Prints e) ≡ false) es → Each IsKept (map shown es)
each_kept [] each answer member = absurd member
each_kept (e ∷ es) each answer (inl same) = subst IsKept (sym same) (kept_kind e (each e (inl refl)))
each_kept (e ∷ es) each answer (inr member) = each_kept es (λ f there. each f (inr there)) answer member

-- ---- from dover_init on

-- no cause is the status of an engine
some_status : (a b c d : Bool) → cond {A = ℕ} a 4 (cond b 1 (cond c 6 (cond d 2 3))) ≡ 5 → ⊥
some_status true b c d e = apart 4 5 refl e
some_status false true c d e = apart 1 5 refl e
some_status false false true d e = apart 6 5 refl e
some_status false false false true e = apart 2 5 refl e
some_status false false false false e = apart 3 5 refl e

-- versions have different numbers
same_version : (v w : Version) → version_number v ≡ version_number w → v ≡ w
same_version v w e = some_same v w (sym (version_back v) ∙ ap version_of_number e ∙ version_back w)

-- its status is an engine
engine_made : (k : Fraction) (version capacity status : ℕ) (o : Option Life) → Stands k version capacity status o
    → status ≡ made_status → (v : Life) × (o ≡ Some v) × IsFresh k version capacity v
engine_made k version capacity status None why is =
    absurd (some_status (not ((version == 1) || (version == 2) || (version == 3) || (version == 4)))
    (not (is_ratio (fraction k.p k.q))) (not (is_some_factor k.factor)) (nat_lt most_ready capacity) (sym why ∙ is))
engine_made k version capacity status (Some v) it is = (v, refl, it.1)

-- ---- at a mark at which all was given

-- the version of an engine
version_in : (v : Life) (J : Instance) (es : List Event) → Gave v J es → v.admission.rules.version ≡ J.rules.version
version_in v J es it = ap (λ (d : Declaration). d.version) it.gave.rules

-- no step to the last mark is refused
unrefused : (version : Version) (tick : ℕ) → tick ≤ last_tick_in version → (v : Life)
    → v.admission.rules.version ≡ version → v.last ≡ horizon.Mark tick
    → engine.mark_refusal v.admission.rules.version v.last tick ≡ None
unrefused version tick within v is last = ap (λ which. engine.mark_refusal which v.last tick) is
    ∙ ap (λ h. engine.mark_refusal version h tick) last
    ∙ ap (λ b. cond b (Some Falls) (cond (nat_lt (last_tick_in version) tick) (Some Late) None))
    (le-ltb tick tick (omega arith))
    ∙ ap (λ b. cond b (Some Late) None) (le-ltb (last_tick_in version) tick within)

-- what is given where this job is named
shown_named : (tick : ℕ) (answer : Option Decision) (o : Option ℕ)
    → event_in answer ≡ option_map (events.Run tick) o → numbers_of answer ≡ shown_next tick (named_of o)
shown_named tick answer None is = shown_none answer is
shown_named tick answer (Some n) is = shown_event answer (events.Run tick n) is

-- ---- from restart to restart

-- a restart that was made is one of an engine
restart_there : (u x : Slot) (tick : ℕ) (v : Life) → MayHave u v
    → RestartAnswers u x (record { tick = tick; status = 0 })
    → (w : Life) × (x.engine ≡ Some w) × engines.IsRestarted v w tick
restart_there u x tick v there does = elim (calls_it _ _ v u x there does) [
  | inl (w, here, it) ↦ (w, here, it.ok refl)
  | inr none ↦ apart 0 7 refl (ap (λ (r : Restarted). r.status) none.0)
]

module _ (version : Version) (k : Fraction) where
  -- the jobs of calls are those that were told
  turn_is : (calls : List engine.Call) (acts : List Act) → engine.admitted calls ≡ told acts
      → engine.finishes_in calls ≡ finishes_told acts → engines.turn_of calls ≡ turn_told acts
  turn_is calls acts jobs finishes =
      ap (λ js. record { jobs = map (λ n_j. n_j.1) js; finishes = engine.finishes_in calls }) jobs
      ∙ ap (λ fs. record { jobs = jobs_told acts; finishes = fs }) finishes

  all_are : (calls : List engine.Call) (acts : List Act) → engine.admitted calls ≡ told acts
      → engine.finishes_in calls ≡ finishes_told acts → engine.all_jobs version k calls ≡ all_told version k acts
  all_are calls acts jobs finishes =
      ap (turn_under (record { ratio = k; version = version; finishes = [] })) (turn_is calls acts jobs finishes)

  -- past lives and what was told of them, as turns
  abbrev turns_lived : List engines.Past → List (ℕ × Turn)
  turns_lived lives = map (λ (l : engines.Past). (l.tick, engines.turn_of l.calls)) lives

  abbrev turns_told : List Past → List (ℕ × Turn)
  turns_told pasts = map (λ (p : Past). (p.tick, turn_told p.acts)) pasts

  -- what they completed
  abbrev completed_told : List Past → ℕ
  completed_told pasts = sum_by (λ (p : Past). completed_value (all_told version k p.acts)) pasts

  -- from an engine that was just made, what was done up to restarts is lives of it
  record Restarting (v : Life) (pasts : List Past) (t : Slot) : Type 0 where
    pub lives : List engines.Past
    pub w : Life
    pub there : t.engine ≡ Some w
    pub fresh : Gave w (no_jobs version k) []
    pub leads : engines.LeadsThrough lives v w
    pub turns : turns_lived lives ≡ turns_told pasts
    pub values : sum_by (λ (l : engines.Past). l.value) lives ≡ completed_told pasts

  restarting : (pasts : List Past) (v : Life) (s t : Slot) → Gave v (no_jobs version k) [] → s.engine ≡ Some v
      → DoesPast pasts s t → Restarting v pasts t
  restarting [] v s t fresh there here = record {
    lives = [];
    w = v;
    there = ap (λ (x : Slot). x.engine) here ∙ there;
    fresh = fresh;
    leads = refl;
    turns = refl;
    values = refl;
  }
  restarting (past ∷ pasts) v s t fresh there it =
      let one = turn_all past.acts v s it.0 (inl there) it.1 in
      let anew = restart_there it.0 it.2.0 past.tick one.w one.there it.2.1 in
      let lived : engine.Lives version k one.calls one.w =
      record { made = v; fresh = fresh; lives = one.leads } in
      let rest = restarting pasts anew.0 it.2.0 t
      (restarts.anew_gave version k one.calls v one.w anew.0 past.tick fresh one.leads anew.2) anew.1 it.2.2 in
      let worth : done_value one.w ≡ completed_value (all_told version k past.acts) =
      life.value_all version k one.calls one.w lived anew.2.rest
      ∙ ap completed_value (all_are one.calls past.acts one.jobs one.finishes) in
      record {
        lives = record { calls = one.calls; tick = past.tick; value = done_value one.w } ∷ rest.lives;
        w = rest.w;
        there = rest.there;
        fresh = rest.fresh;
        leads = (one.w, one.leads, refl, (anew.0, anew.2, rest.leads));
        turns = ap (λ turn. (past.tick, turn) ∷ turns_lived rest.lives)
            (turn_is one.calls past.acts one.jobs one.finishes)
            ∙ ap (λ ts. (past.tick, turn_told past.acts) ∷ ts) rest.turns;
        values = omega (
          arith,
          worth,
          rest.values,
          sum_by-cons (λ (l : engines.Past). l.value)
              (record { calls = one.calls; tick = past.tick; value = done_value one.w }) rest.lives,
          sum_by-cons (λ (p : Past). completed_value (all_told version k p.acts)) past pasts,
        );
      }

module _ (version : Version) (k : Fraction) (capacity : ℕ) (pasts : List Past) where
  module _ (acts : List Act) (t : Slot) (program : IsProgram version k capacity pasts acts t) where
    -- the engine that was made
    made : (v : Life) × (program.made.engine ≡ Some v) × IsFresh k (version_number version) capacity v
    made = engine_made k (version_number version) capacity program.made.status program.made.engine program.is_made
        program.status

    fresh : Gave made.0 (no_jobs version k) []
    fresh = subst (λ which. Gave made.0 (no_jobs which k) [])
        (sym (same_version version made.2.which made.2.version_is)) made.2.gave

    -- up to the last restart, and since
    past : Restarting version k made.0 pasts program.begun
    past = restarting version k pasts made.0 program.made program.begun fresh made.1 program.before

    now : Turned past.w acts t
    now = turn_all acts past.w program.begun t (inl past.there) program.does

    lives : engine.Lives version k now.calls now.w
    lives = record { made = past.w; fresh = past.fresh; lives = now.leads }

    on : engines.LivesOn version k past.lives now.calls now.w
    on = record { made = made.0; fresh = fresh; begun = past.w; before = past.leads; lives = now.leads }

    -- the life goes on by further calls
    further : (calls : List engine.Call) (w : Life) → engine.LeadsAll calls now.w w
        → engine.Lives version k (now.calls ++ calls) w
    further calls w leads = record {
      made = past.w;
      fresh = past.fresh;
      lives = leads_append now.calls calls past.w now.w w now.leads leads;
    }

    -- all its jobs are those that were told
    jobs_are : engine.all_jobs version k now.calls ≡ all_told version k acts
    jobs_are = all_are version k now.calls acts now.jobs now.finishes

    -- what is said of all jobs of the life
    of_told : (P : Instance → Type 0) → P (engine.all_jobs version k now.calls) → P (all_told version k acts)
    of_told P = subst P jobs_are

    pub numbers : told acts ≡ enumerate_from 0 (jobs_told acts)
    numbers = subst (λ (js : List (ℕ × JobFacts)). js ≡ enumerate_from 0 (map (λ n_j. n_j.1) js)) now.jobs
        (life.numbers version k now.calls now.w lives)

    -- what was given begins the run
    pub begins_given : (later : List Decided) × (map shown (printed (all_told version k acts)) ≡ given acts ++ later)
    begins_given = let begins = life.begins_all version k now.calls now.w lives in (
      map shown begins.0,
      ap (λ J. map shown (printed J)) (sym jobs_are) ∙ ap (map shown) begins.1
          ∙ map-append shown (engine.decided now.calls) begins.0 ∙ ap (λ es. es ++ map shown begins.0) now.decisions,
    )

    pub within_given : (s : List ℕ) → IsWithin k (worth (all_told version k acts) s)
        (completed_value (all_told version k acts))
    within_given s = of_told (λ J. IsWithin k (worth J s) (completed_value J))
        (life.within_all version k now.calls now.w lives s)

    pub observed_given : (s : List ℕ) → IsWithin k (worth (observed (all_told version k acts)) s)
        (completed_value (all_told version k acts))
    observed_given s = of_told (λ J. IsWithin k (worth (observed J) s) (completed_value J))
        (life.observed_within_all version k now.calls now.w lives s)

    pub as_declared_given : finishes_told acts ≡ [] → observed (all_told version k acts) ≡ all_told version k acts
    as_declared_given none =
        of_told (λ J. observed J ≡ J) (life.as_declared_all version k now.calls now.w lives (now.finishes ∙ none))

    pub honest_given : (s : List ℕ)
        × (completed_value (all_told version k acts) ≤ worth (observed (all_told version k acts)) s)
    honest_given = of_told (λ J. (s : List ℕ) × (completed_value J ≤ worth (observed J) s))
        (life.honest_all version k now.calls now.w lives)

    pub underload_given : Meets (all_told version k acts)
        → completed_value (all_told version k acts) ≡ total_value (jobs_told acts)
    underload_given = of_told (λ J. Meets J → completed_value J ≡ total_value J.jobs)
        (life.underload_all version k now.calls now.w lives)

    -- no decision that was given takes a job or abandons it then
    pub unlost_given : Meets (all_told version k acts) → Each IsKept (given acts)
    unlost_given meets = subst (Each IsKept) now.decisions (each_kept (engine.decided now.calls)
        (life.none_lost_all version k now.calls now.w lives (subst Meets (sym jobs_are) meets)))

    -- ---- all jobs of all lives

    anew_are : engines.jobs_anew version k past.lives now.calls ≡ told_anew version k pasts acts
    anew_are = ap (λ (ts : List (ℕ × Turn)). all_in (ts ++ (0, engines.turn_of now.calls) ∷ [])) past.turns
        ∙ ap (λ (turn : Turn). all_in (turns_told version k pasts ++ (0, turn) ∷ []))
        (turn_is version k now.calls acts now.jobs now.finishes) where
          all_in : List (ℕ × Turn) → Instance
          all_in ts = turn_under (record { ratio = k; version = version; finishes = [] }) (anew ts)

    pub within_anew : (s : List ℕ)
        → IsWithin k (worth (told_anew version k pasts acts) s) (completed_value (told_anew version k pasts acts))
    within_anew s = subst (λ (J : Instance). IsWithin k (worth J s) (completed_value J)) anew_are
        (restarts.within_now version k past.lives now.calls now.w on s)

    pub observed_anew : (s : List ℕ) → IsWithin k (worth (observed (told_anew version k pasts acts)) s)
        (completed_value (told_anew version k pasts acts))
    observed_anew s = subst (λ (J : Instance). IsWithin k (worth (observed J) s) (completed_value J)) anew_are
        (restarts.observed_now version k past.lives now.calls now.w on s)

    pub value_anew : completed_value (told_anew version k pasts acts)
        ≡ completed_told version k pasts + completed_value (all_told version k acts)
    value_anew = ap completed_value (sym anew_are) ∙ restarts.value_now version k past.lives now.calls now.w on
        ∙ ap (λ n. n + completed_value (engine.all_jobs version k now.calls)) past.values
        ∙ ap (λ (J : Instance). completed_told version k pasts + completed_value J) jobs_are

  -- acts before acts, up to the first of which it is a program too
  part_all : (acts more : List Act) (s t : Slot) → DoesAll (acts ++ more) s t
      → (u : Slot) × DoesAll acts s u × DoesAll more u t
  part_all [] more s t it = (s, refl, it)
  part_all (a ∷ acts) more s t it = let rest = part_all acts more it.0 t it.2 in (rest.0, (it.0, it.1, rest.1), rest.2)

  front : (acts more : List Act) (t : Slot) → IsProgram version k capacity pasts (acts ++ more) t
      → (u : Slot) × IsProgram version k capacity pasts acts u × DoesAll more u t
  front acts more t program = let it = part_all acts more program.begun t program.does in (
    it.0,
    record {
      made = program.made;
      is_made = program.is_made;
      status = program.status;
      begun = program.begun;
      before = program.before;
      does = it.1;
    },
    it.2,
  )

  pub settled_given : (acts : List Act) (mark : ℕ) (answer : Decided) (t : Slot)
      → IsProgram version k capacity pasts (acts ++ (Step mark answer ∷ [])) t
      → answer.kind ≡ 0 → given acts ≡ map shown (settled (all_told version k acts) mark)
  settled_given acts mark answer t program none =
      let (u, begun, does) = front acts (Step mark answer ∷ []) t program in let it = now acts u begun in
      let (w, (decision, leads, so)) =
      step_taken it.w u does.0 mark answer it.there does.1 (ap (λ n. nat_le n 7) none) in
      let is_none : decision ≡ None = kind_none decision (sym (ap (λ (d : Decided). d.kind) so) ∙ none) in
      sym it.decisions ∙ ap (map shown) (life.settled_all version k it.calls mark w
      (further acts u begun (engine.Stepped (horizon.Mark mark) None ∷ []) w
      (w, subst (λ d. engine.Leads (engine.Stepped (horizon.Mark mark) d) it.w w) is_none leads, refl))
      ∙ ap (λ J. settled J mark) (jobs_are acts u begun))

  -- behind a job that is done, its completion is given
  pub done_given : (acts : List Act) (tick mark : ℕ) (f : early.Finish) (answer : Decided) (t : Slot)
      → IsProgram version k capacity pasts (acts ++ (Done tick f 0 ∷ Step mark answer ∷ [])) t
      → is_decision answer ≡ true → answer ≡ shown (events.Complete tick f.number)
  done_given acts tick mark f answer t program decides =
      let (u, begun, does) = front acts (Done tick f 0 ∷ Step mark answer ∷ []) t program in
      let it = now acts u begun in
      elim (calls_it _ _ it.w u does.0 it.there does.1) [
        | inl (w, here, ends) ↦
            let (x, (decision, leads, so)) = step_taken w does.0 does.2.0 mark answer (inl here) does.2.1
            (and_parts (nat_le 1 answer.kind) (nat_le answer.kind 7) decides).1 in
            so ∙ shown_event decision (events.Complete tick f.number)
            (life.done_all version k it.calls tick f (horizon.Mark mark) decision x
            (further acts u begun (engine.Done tick f ∷ engine.Stepped (horizon.Mark mark) decision ∷ []) x
            (w, ends.ok refl, (x, leads, refl))))
        | inr none ↦ apart 0 7 refl none.0
      ]

  -- and behind that the job runs which was named
  pub named_given : (acts : List Act) (tick : ℕ) (named : Named) (f : early.Finish) (first second : Decided)
      (s t : Slot)
      → IsProgram version k capacity pasts acts s → SuccessorAnswers s s named → tick ≤ last_tick_in version
      → DoesAll (Done tick f 0 ∷ Step tick first ∷ Step tick second ∷ []) s t → second ≡ shown_next tick named
  named_given acts tick named f first second s t program asked within does = elim it.there [
    | inl here ↦
        let (u, there, ends) = called _ _ it.w s does.0 here does.1 in
        let done = ends.ok refl in
        let gave = done.gave J (engine.decided it.calls) stands in
        let at : u.last ≡ horizon.Mark tick = done.last ∙ done.may.ready.1 in
        let (x, there_too, one) = called _ _ u does.0 does.2.0 there does.2.1 in
        let (a, leads, so) = unrefused_taken tick first u x
        (unrefused version tick within u (version_in u (with_finishes J (f ∷ [])) _ gave) at) one in
        let (y, there_still, two) = called _ _ x does.2.0 does.2.2.0 there_too does.2.2.1 in
        let (b, leads_on, is) = unrefused_taken tick second x y
        (unrefused version tick within x
        (version_in x (with_finishes J (f ∷ [])) _ (leads.1.gave (with_finishes J (f ∷ [])) _ gave))
        leads.1.last) two in
        let (z, same, says) = called _ _ it.w s s here asked in
        is ∙ shown_named tick b (successor_of it.w)
        (succeeding.named_next version k it.calls tick f a b it.w y (lives acts s program)
        (u, done, (x, leads, (y, leads_on, refl))))
        ∙ ap (shown_next tick) (sym says.0)
    | inr gone ↦ apart 0 7 refl (called_none gone)
  ] where
    it : Turned (past acts s program).w acts s
    it = now acts s program

    J : Instance
    J = engine.all_jobs version k it.calls

    stands : Gave it.w J (engine.decided it.calls)
    stands = life.stood version k it.calls it.w (lives acts s program)

    -- with no engine the answer is 7
    called_none : s.engine ≡ None → ◌≡◌ {A = ℕ} 0 7
    called_none gone = (subst (λ o. CallsOn o s does.0 (◌≡◌ {A = ℕ} 0 7) (Ends tick f 0)) gone does.1).0

  pub ended_given : (acts : List Act) (answer : Decided) (t : Slot)
      → IsProgram version k capacity pasts (acts ++ (Finish answer ∷ [])) t
      → answer.kind ≡ 7 → given (acts ++ (Finish answer ∷ [])) ≡ map shown (printed (all_told version k acts))
  ended_given acts answer t program seven =
      let (u, begun, does) = front acts (Finish answer ∷ []) t program in let it = now acts u begun in
      elim (calls_it _ _ it.w u does.0 it.there does.1) [
        | inl (w, here, fin) ↦
            let is_end = kind_end fin.says (sym (ap (λ (d : Decided). d.kind) fin.shown) ∙ seven) in
            let ended : has_ended w ≡ true = fin.step.ended
            ∙ or_right (has_ended it.w) (is_end_given (event_in fin.says)) (ap is_end_given is_end.1) in
            let all : Turned (past acts u begun).w (acts ++ (Finish answer ∷ [])) t =
            turned_twice (past acts u begun).w acts (Finish answer ∷ []) u t it
            (one_step it.w w (Finish answer ∷ []) horizon.End fin.says answer t
            (subst (λ x. x.engine ≡ Some w) (sym does.2) here) (may_end it.w.last, fin.step) fin.shown refl refl refl)
            in
            sym all.decisions ∙ ap (map shown) (life.ended_all version k all.calls w
            (record { made = (past acts u begun).w; fresh = (past acts u begun).fresh; lives = all.leads }) ended
            ∙ ap printed (all_are version k all.calls acts
            (all.jobs ∙ told_append acts (Finish answer ∷ []) ∙ append-nil (told acts))
            (all.finishes ∙ finishes_append acts (Finish answer ∷ []) ∙ append-nil (finishes_told acts))))
        | inr none ↦ apart 7 11 refl (sym seven ∙ ap (λ (d : Decided). d.kind) none.0)
      ]
