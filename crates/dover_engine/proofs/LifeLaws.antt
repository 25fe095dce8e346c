-- Over all calls of an engine's life, what it gave is the run of all jobs that were ever admitted.
use Rattle.std.proofs.Common.{◌≡◌, ℕ, ◌+◌, ◌≤◌, List, [], ◌∷◌, ◌++◌, length, map, refl, sym, ap, ◌∙◌, subst, arith}
use Rattle.std.proofs.Common.{true, false, append-nil, append_assoc, length-append, Option, None, Some, IfSome}
use Rattle.std.specs.List.{enumerate_from}
use Rattle.std.proofs.lemmas.List.{map-append}
use Rattle.dover_model.specs.declared.events.Version.{Version}
use Rattle.dover_model.specs.declared.events.Event.{Event}
use Rattle.dover_model.specs.declared.events.Event.TheVariants as events
use Rattle.dover_model.specs.Common.{Fraction, JobFacts, Rules, Instance, bare, having, with_jobs, with_finishes}
use Rattle.dover_model.specs.Common.{total_value, Prints, printed, completed_value, settled, Meets, worth, IsWithin}
use Rattle.dover_model.specs.Common.{Each, Turn, TurnsEnd, end_tick, one_run, turn_under, turns_jobs, Finish, observed}
use Rattle.dover_model.specs.Common.{takes_or_abandons, Begins, no_jobs}
use Rattle.dover_model.proofs.rest.InTurns.{declared_within, observed_within}
use Rattle.dover_model.proofs.lists.Members.{member_front}
use Rattle.dover_model.proofs.rest.RestTick.{rests_from}
use Rattle.dover_model.proofs.rest.TurnSchedules.{one_run_honest, one_run_plain}
use Rattle.dover_model.proofs.rest.TurnsGrowing.{ends_behind}
use Rattle.dover_model.proofs.rest.TurnsLosing.{one_run_loses_none, one_run_earns_all}
use Rattle.dover_model.proofs.runs.Runs.{last_value, value_last}
use Rattle.dover_model.specs.declared.horizon.Horizon.{Horizon}
use Rattle.dover_model.specs.declared.horizon.Horizon.TheVariants.{Mark}
use Rattle.dover_engine.specs.declared.decision.Decision.{Decision}
use Rattle.dover_engine.specs.Decisions.{event_in, events_in}
use Rattle.dover_engine.specs.Life.{Life, done_value, has_ended, IsAtRest}
use Rattle.dover_engine.specs.Given.{Gave}
use Rattle.dover_engine.proofs.Lives.{ended_given, rest_gave, given_begins, jobs_given, turn}
use Rattle.dover_engine.specs.Calls.{Call, Admitted, Done, Stepped, Leads, LeadsAll, Lives, admitted, jobs_in}
use Rattle.dover_engine.specs.Calls.{finishes_in, all_jobs, decided}

-- ---- what is given

-- the instance with the jobs and the finishes of these calls
abbrev with_calls : Instance → List Call → Instance
with_calls J calls = with_finishes (with_jobs J (jobs_in calls)) (finishes_in calls)

-- by one call
leads_gave : (call : Call) (v w : Life) → Leads call v w → (J : Instance) (es : List Event) → Gave v J es
    → Gave w (with_calls J (call ∷ [])) (es ++ decided (call ∷ []))
leads_gave (Admitted job number) v w it J es gave =
    subst (λ fs. Gave w (record { rules = having J.rules fs; jobs = J.jobs ++ job ∷ [] }) (es ++ []))
    (sym (append-nil J.rules.finishes))
    (subst (Gave w (with_jobs J (job ∷ []))) (sym (append-nil es)) (it.gave J es gave))
leads_gave (Done at f) v w it J es gave =
    subst (λ js. Gave w (record { rules = having J.rules (J.rules.finishes ++ f ∷ []); jobs = js }) (es ++ []))
    (sym (append-nil J.jobs))
    (subst (Gave w (with_finishes J (f ∷ []))) (sym (append-nil es)) (it.gave J es gave))
leads_gave (Stepped to answer) v w it J es gave =
    subst (λ fs. Gave w (record { rules = having J.rules fs; jobs = J.jobs ++ [] }) (es ++ (events_in answer ++ [])))
    (sym (append-nil J.rules.finishes))
    (subst (λ js. Gave w (record { rules = J.rules; jobs = js }) (es ++ (events_in answer ++ [])))
    (sym (append-nil J.jobs))
    (subst (λ fs. Gave w J (es ++ fs)) (sym (append-nil (events_in answer))) (it.1.gave J es gave)))

-- two lists of calls
pub admitted_append : (calls more : List Call) → admitted (calls ++ more) ≡ admitted calls ++ admitted more
admitted_append [] more = refl
admitted_append (Admitted job number ∷ calls) more = ap (λ js. (number, job) ∷ js) (admitted_append calls more)
admitted_append (call ∷ calls) more = admitted_append calls more

pub finishes_append : (calls more : List Call) → finishes_in (calls ++ more) ≡ finishes_in calls ++ finishes_in more
finishes_append [] more = refl
finishes_append (Done at f ∷ calls) more = ap (λ fs. f ∷ fs) (finishes_append calls more)
finishes_append (call ∷ calls) more = finishes_append calls more

jobs_append_calls : (calls more : List Call) → jobs_in (calls ++ more) ≡ jobs_in calls ++ jobs_in more
jobs_append_calls calls more = ap (map (λ (n_j : ℕ × JobFacts). n_j.1)) (admitted_append calls more)
    ∙ map-append (λ (n_j : ℕ × JobFacts). n_j.1) (admitted calls) (admitted more)

pub decided_append : (calls more : List Call) → decided (calls ++ more) ≡ decided calls ++ decided more
decided_append [] more = refl
decided_append (Stepped to answer ∷ calls) more = ap (λ es. events_in answer ++ es) (decided_append calls more)
    ∙ sym (append_assoc (events_in answer) (decided calls) (decided more))
decided_append (call ∷ calls) more = decided_append calls more

-- the jobs and finishes of two lists of calls
calls_append : (J : Instance) (calls more : List Call)
    → with_calls (with_calls J calls) more ≡ with_calls J (calls ++ more)
calls_append J calls more =
    ap (λ fs. record { rules = having J.rules fs; jobs = (J.jobs ++ jobs_in calls) ++ jobs_in more })
    (append_assoc J.rules.finishes (finishes_in calls) (finishes_in more)
    ∙ ap (λ fs. J.rules.finishes ++ fs) (sym (finishes_append calls more)))
    ∙ ap (λ js. record { rules = having J.rules (J.rules.finishes ++ finishes_in (calls ++ more)); jobs = js })
    (append_assoc J.jobs (jobs_in calls) (jobs_in more)
    ∙ ap (λ js. J.jobs ++ js) (sym (jobs_append_calls calls more)))

-- by many
all_gave : (calls : List Call) (v w : Life) → LeadsAll calls v w → (J : Instance) (es : List Event) → Gave v J es
    → Gave w (with_calls J calls) (es ++ decided calls)
all_gave [] v w here J es gave =
    subst (λ fs. Gave w (record { rules = having J.rules fs; jobs = J.jobs ++ [] }) (es ++ []))
    (sym (append-nil J.rules.finishes))
    (subst (λ js. Gave w (record { rules = J.rules; jobs = js }) (es ++ [])) (sym (append-nil J.jobs))
    (subst (Gave w J) (sym (append-nil es)) (subst (λ u. Gave u J es) (sym here) gave)))
all_gave (call ∷ calls) v w it J es gave =
    let rest = all_gave calls it.0 w it.2 (with_calls J (call ∷ [])) (es ++ decided (call ∷ []))
    (leads_gave call v it.0 it.1 J es gave) in
    subst (λ I. Gave w I (es ++ decided (call ∷ calls))) (calls_append J (call ∷ []) calls)
    (subst (Gave w (with_calls (with_calls J (call ∷ [])) calls))
    (append_assoc es (decided (call ∷ [])) (decided calls)
    ∙ ap (λ fs. es ++ fs) (sym (decided_append (call ∷ []) calls))) rest)

-- ---- numbers

-- each job has the next number
next_numbers : (calls : List Call) (v w : Life) → LeadsAll calls v w → (J : Instance) (es : List Event) → Gave v J es
    → (n : ℕ) → length J.jobs ≡ n → admitted calls ≡ enumerate_from n (jobs_in calls)
next_numbers [] v w it J es gave n counts = refl
next_numbers (Admitted job number ∷ calls) v w it J es gave n counts =
    ap (λ m. (m, job) ∷ admitted calls) (omega (
      arith,
      it.1.numbered,
      gave.forgotten,
      gave.gave.admission.count,
      ap length (jobs_given v J es gave),
      length-append (turns_jobs gave.turns) gave.since.jobs,
      counts,
    ))
    ∙ ap (λ js. (n, job) ∷ js) (next_numbers calls it.0 w it.2 (with_jobs J (job ∷ [])) es
    (it.1.gave J es gave) (n + 1) (omega (arith, counts, length-append J.jobs (job ∷ []))))
next_numbers (Done at f ∷ calls) v w it J es gave n counts =
    next_numbers calls it.0 w it.2 (with_finishes J (f ∷ [])) es (it.1.gave J es gave) n counts
next_numbers (Stepped to answer ∷ calls) v w it J es gave n counts =
    next_numbers calls it.0 w it.2 J (es ++ events_in answer) (it.1.1.gave J es gave) n counts

-- ---- a life

module _ (version : Version) (k : Fraction) where
  -- what stands at its end
  pub stood : (calls : List Call) (w : Life) → Lives version k calls w
      → Gave w (all_jobs version k calls) (decided calls)
  stood calls w life = all_gave calls life.made w life.lives (no_jobs version k) [] life.fresh

  pub numbers : (calls : List Call) (w : Life) → Lives version k calls w
      → admitted calls ≡ enumerate_from 0 (jobs_in calls)
  numbers calls w life = next_numbers calls life.made w life.lives (no_jobs version k) [] life.fresh 0 refl

  -- calls before calls
  part : (calls more : List Call) (v w : Life) → LeadsAll (calls ++ more) v w → (u : Life) × LeadsAll calls v u
      × LeadsAll more u w
  part [] more v w it = (v, refl, it)
  part (call ∷ calls) more v w it = let rest = part calls more it.0 w it.2 in (rest.0, (it.0, it.1, rest.1), rest.2)

  pub settled_all : (calls : List Call) (mark : ℕ) (w : Life)
      → Lives version k (calls ++ (Stepped (Mark mark) None ∷ [])) w
      → decided calls ≡ settled (all_jobs version k calls) mark
  settled_all calls mark w life =
      let parts = part calls (Stepped (Mark mark) None ∷ []) life.made w life.lives in
      let front : Lives version k calls parts.0 = record { made = life.made; fresh = life.fresh; lives = parts.1 } in
      parts.2.1.1.prompt (all_jobs version k calls) (decided calls) (stood calls parts.0 front)

  -- behind a job that is done, its completion is given
  pub done_all : (calls : List Call) (at : ℕ) (f : Finish) (to : Horizon) (answer : Option Decision) (w : Life)
      → Lives version k (calls ++ (Done at f ∷ Stepped to answer ∷ [])) w
      → event_in answer ≡ Some (events.Complete at f.number)
  done_all calls at f to answer w life =
      let parts = part calls (Done at f ∷ Stepped to answer ∷ []) life.made w life.lives in
      let done = parts.2.1 in
      let stepped = parts.2.2.1.1 in
      subst (λ o. IfSome o (λ e. event_in answer ≡ Some e)) done.next stepped.comes

  module _ (calls : List Call) (w : Life) (life : Lives version k calls w) where
    abbrev J : Instance
    J = all_jobs version k calls

    abbrev it : Gave w J (decided calls)
    it = stood calls w life

    pub ended_all : has_ended w ≡ true → decided calls ≡ printed J
    ended_all ended = ended_given w J (decided calls) it ended

    pub rest_all : IsAtRest w → decided calls ++ (events.End (done_value w) ∷ []) ≡ printed J
    rest_all still = rest_gave w J (decided calls) it still

    pub value_all : IsAtRest w → done_value w ≡ completed_value J
    value_all still = sym (value_last 0 (done_value w) (decided calls)) ∙ ap (last_value 0) (rest_all still)

    pub begins_all : Begins (decided calls) (printed J)
    begins_all = given_begins w J (decided calls) it

    -- the jobs between moments of rest
    abbrev turns : List Turn
    turns = it.turns ++ (it.since ∷ [])

    abbrev rules : Rules
    rules = bare J.rules

    abbrev rest : ℕ
    rest = it.tick + end_tick (turn_under rules it.since)

    ends : TurnsEnd rules 0 turns rest
    ends = ends_behind rules it.turns it.since 0 it.tick rest it.over (turn w J (decided calls) it) (omega arith)
        (rests_from (turn_under rules it.since) it.gave.serves.follows.valid rest (omega arith))

    -- what is so of the one run of all turns is so of all jobs
    of_all : (P : Instance → Type 0) → P (one_run rules turns) → P J
    of_all P so = subst P (sym it.all) so

    pub within_all : (s : List ℕ) → IsWithin k (worth J s) (completed_value J)
    within_all s = of_all (λ I. IsWithin k (worth I s) (completed_value I)) (declared_within rules turns rest s ends)

    pub observed_within_all : (s : List ℕ) → IsWithin k (worth (observed J) s) (completed_value J)
    observed_within_all s = of_all (λ I. IsWithin k (worth (observed I) s) (completed_value I))
        (observed_within rules turns rest s ends)

    pub as_declared_all : finishes_in calls ≡ [] → observed J ≡ J
    as_declared_all none = of_all (λ I. observed I ≡ I) (one_run_plain rules turns rest ends
        (sym (ap (λ (I : Instance). I.rules.finishes) it.all) ∙ none))

    pub honest_all : (s : List ℕ) × (completed_value J ≤ worth (observed J) s)
    honest_all = of_all (λ I. (s : List ℕ) × (completed_value I ≤ worth (observed I) s))
        (one_run_honest rules turns rest ends)

    pub underload_all : Meets J → completed_value J ≡ total_value (jobs_in calls)
    underload_all = of_all (λ I. Meets I → completed_value I ≡ total_value I.jobs)
        (one_run_earns_all rules turns rest ends)

    pub none_lost_all : Meets J → Each (λ e. takes_or_abandons (Prints e) ≡ false) (decided calls)
    none_lost_all meets =
        let all : Each (λ e. takes_or_abandons (Prints e) ≡ false) (printed J) =
        of_all (λ I. Meets I → Each (λ e. takes_or_abandons (Prints e) ≡ false) (printed I))
        (one_run_loses_none rules turns rest ends) meets in
        λ e member. subst (Each (λ d. takes_or_abandons (Prints d) ≡ false)) begins_all.1 all e
        (member_front (decided calls) begins_all.0 e member)

  pub online_all : (calls more : List Call) (w : Life) → Lives version k (calls ++ more) w → has_ended w ≡ true
      → (later : List Event) × (printed (all_jobs version k (calls ++ more)) ≡ decided calls ++ later)
  online_all calls more w life ended =
      (decided more, sym (ended_all (calls ++ more) w life ended) ∙ decided_append calls more)
