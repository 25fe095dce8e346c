-- Lists in turn with their finishes: their runs are one run, and what is bounded by turns is bounded in all.
use Rattle.std.proofs.Common.{◌≡◌, ℕ, ◌+◌, ◌≤◌, inl, inr, List, [], ◌∷◌, ◌++◌, length, length-append, map, refl, sym}
use Rattle.std.proofs.Common.{ap, ◌∙◌, subst, arith, append-nil, append_assoc, ◌-◌}
use Rattle.std.proofs.lemmas.List.{map-append}
use Rattle.std.proofs.lemmas.List.Sums.{sum_by-cons}
use Rattle.dover_model.proofs.runs.Runs.{last_value, value_last}
use Rattle.dover_model.specs.Common.{JobFacts, Event, End, Rules, Instance, IsValid, having, printed, completed_value}
use Rattle.dover_model.specs.Common.{settled, worth, observed, IsWithin, Each, step_at, NoneBefore, behind, before_end}
use Rattle.dover_model.specs.Common.{Turn, turn_under, turns_jobs, turns_observed, turns_finishes, one_run, TurnsEnd}
use Rattle.dover_model.specs.Common.{printed_turns, completed_turns}
use Rattle.dover_model.specs.Rest.{in_turns}
use Rattle.dover_model.proofs.rest.Resting.{at_tick, RunsFrom, joined, runs_all, sees_all, due_later}
use Rattle.dover_model.proofs.rest.Apart.{SettlesFrom, settles_alone, settles_joined, settled_all, settled_at_rest}
use Rattle.dover_model.proofs.rest.Apart.{before_append, behind_last}
use Rattle.dover_model.proofs.rest.Turns.{behind_twice, behind_none, before_twice, before_behind}
use Rattle.dover_model.proofs.bound.BoundLaws.{bound, observed_bound}
use Rattle.dover_model.proofs.bound.Calculus.{within_less, none_within, within_add}
use Rattle.dover_model.proofs.rest.Parting.{worth_append}
use Rattle.dover_model.proofs.lists.Members.{each_append}

module _ (rules : Rules) where
  -- the instance of one turn
  abbrev of_turn : Turn → Instance
  of_turn turn = turn_under rules turn

  -- what a turn completes, in front of others
  pub completed_more : (turn : Turn) (turns : List Turn)
      → completed_turns rules (turn ∷ turns) ≡ completed_value (of_turn turn) + completed_turns rules turns
  completed_more turn turns = sum_by-cons (λ t. completed_value (of_turn t)) turn turns

  -- ---- one run

  -- none of the jobs is released before the first tick
  turns_late : (turns : List Turn) (from last : ℕ) → TurnsEnd rules from turns last → NoneBefore from (turns_jobs turns)
  turns_late [] from last ends = λ j member. absurd member
  turns_late (turn ∷ turns) from last ends =
      each_append (λ i. from ≤ i.release) turn.jobs (turns_jobs turns) ends.0.2
      (λ i member. let at : ends.1.0 ≤ i.release = turns_late turns ends.1.0 last ends.1.3 i member in
      let low : from ≤ ends.1.0 = ends.1.1 in omega arith)

  -- nor due before it
  turns_due : (turns : List Turn) (from last : ℕ) → TurnsEnd rules from turns last
      → Each (λ j. from ≤ j.deadline) (turns_jobs turns)
  turns_due [] from last ends = λ j member. absurd member
  turns_due (turn ∷ turns) from last ends =
      each_append (λ i. from ≤ i.deadline) turn.jobs (turns_jobs turns)
      (due_later (of_turn turn) ends.0.0 from ends.0.2)
      (λ i member. let at : ends.1.0 ≤ i.deadline = turns_due turns ends.1.0 last ends.1.3 i member in
      let low : from ≤ ends.1.0 = ends.1.1 in omega arith)

  -- from a tick on
  turns_run : (turns : List Turn) (from last : ℕ) → TurnsEnd rules from turns last
      → RunsFrom (having rules (turns_finishes turns)) from (turns_jobs turns) (printed_turns rules turns)
      (turns_observed rules turns)
  turns_run [] from last ends =
      (step_at (having rules []) (at_tick from []) ∷ [], (refl, refl), omega arith, refl, refl)
  turns_run (turn ∷ turns) from last ends =
      subst (λ es. RunsFrom (having rules (turns_finishes (turn ∷ turns))) from (turns_jobs (turn ∷ turns))
      (es ++ map (behind (length turn.jobs) (completed_value (of_turn turn))) (printed_turns rules turns))
      (turns_observed rules (turn ∷ turns)))
      (settled_at_rest (of_turn turn) ends.1.0 ends.0.0 ends.1.2)
      (joined (of_turn turn) ends.0.0 from ends.1.0 ends.0.2 ends.1.1 ends.1.2 (turns_finishes turns) ends.0.1
      (turns_jobs turns) (printed_turns rules turns) (turns_observed rules turns)
      (turns_late turns ends.1.0 last ends.1.3)
      (turns_due turns ends.1.0 last ends.1.3) (turns_run turns ends.1.0 last ends.1.3))

  -- the run of all turns is their runs
  pub one_run_prints : (turns : List Turn) (last : ℕ) → TurnsEnd rules 0 turns last
      → printed (one_run rules turns) ≡ printed_turns rules turns
  one_run_prints turns last ends = runs_all (having rules (turns_finishes turns)) (turns_jobs turns)
      (printed_turns rules turns) (turns_observed rules turns) (turns_run turns 0 last ends)

  -- it observes the jobs as they do
  pub one_run_observes : (turns : List Turn) (last : ℕ) → TurnsEnd rules 0 turns last
      → (observed (one_run rules turns)).jobs ≡ turns_observed rules turns
  one_run_observes turns last ends = sees_all (having rules (turns_finishes turns)) (turns_jobs turns)
      (printed_turns rules turns) (turns_observed rules turns) (turns_run turns 0 last ends)

  -- what is printed ends with the value of all
  turns_value : (turns : List Turn)
      → (es : List Event) × (printed_turns rules turns ≡ es ++ (End (completed_turns rules turns) ∷ []))
  turns_value [] = ([], refl)
  turns_value (turn ∷ turns) = let it = turns_value turns in (
    before_end (printed (of_turn turn)) ++ map number it.0,
    ap (λ es. before_end (printed (of_turn turn)) ++ map number es) it.1
        ∙ ap (λ es. before_end (printed (of_turn turn)) ++ es)
        (behind_last (length turn.jobs) (completed_value (of_turn turn)) (completed_turns rules turns) it.0)
        ∙ sym (append_assoc (before_end (printed (of_turn turn))) (map number it.0)
        (End (completed_value (of_turn turn) + completed_turns rules turns) ∷ []))
        ∙ ap (λ v. (before_end (printed (of_turn turn)) ++ map number it.0) ++ (End v ∷ []))
        (sym (completed_more turn turns)),
  ) where
    number : Event → Event
    number = behind (length turn.jobs) (completed_value (of_turn turn))

  -- it completes what they complete
  pub one_run_completes : (turns : List Turn) (last : ℕ) → TurnsEnd rules 0 turns last
      → completed_value (one_run rules turns) ≡ completed_turns rules turns
  one_run_completes turns last ends = let it = turns_value turns in
      ap (last_value 0) (one_run_prints turns last ends ∙ it.1) ∙ value_last 0 (completed_turns rules turns) it.0

  -- ---- what is settled of the last turn

  -- these events, behind what the turns print
  abbrev pub behind_turns : List Turn → List Event → List Event
  behind_turns turns events = before_end (printed_turns rules turns)
      ++ map (behind (length (turns_jobs turns)) (completed_turns rules turns)) events

  -- with one turn in front
  pub one_more : (turn : Turn) (turns : List Turn) (events : List Event)
      → before_end (printed (of_turn turn)) ++ map (behind (length turn.jobs) (completed_value (of_turn turn)))
      (behind_turns turns events)
      ≡ behind_turns (turn ∷ turns) events
  one_more turn turns events =
      ap (λ es. front ++ es) (map-append step (before_end (printed_turns rules turns)) (map inner events)
      ∙ ap (λ es. es ++ map step (map inner events))
      (sym (before_behind (length turn.jobs) (completed_value (of_turn turn)) (printed_turns rules turns)))
      ∙ ap (λ es. before_end (map step (printed_turns rules turns)) ++ es) numbers)
      ∙ sym (append_assoc front (before_end (map step (printed_turns rules turns))) (map both events))
      ∙ ap (λ es. es ++ map both events)
      (ap (λ es. es ++ before_end (map step (printed_turns rules turns)))
      (sym (before_twice (printed (of_turn turn))))
      ∙ sym (before_append front (map step (printed_turns rules turns)))) where
        front : List Event
        front = before_end (printed (of_turn turn))

        step : Event → Event
        step = behind (length turn.jobs) (completed_value (of_turn turn))

        inner : Event → Event
        inner = behind (length (turns_jobs turns)) (completed_turns rules turns)

        both : Event → Event
        both = behind (length (turns_jobs (turn ∷ turns))) (completed_turns rules (turn ∷ turns))

        numbers : map step (map inner events) ≡ map both events
        numbers = behind_twice (length turn.jobs) (completed_value (of_turn turn)) (length (turns_jobs turns))
            (completed_turns rules turns) events
            ∙ ap (λ n. map (behind n (completed_value (of_turn turn) + completed_turns rules turns)) events)
            (sym (length-append turn.jobs (turns_jobs turns)))
            ∙ ap (λ v. map (behind (length (turns_jobs (turn ∷ turns))) v) events) (sym (completed_more turn turns))

  -- the tick at which the turns are over is no sooner than the first
  turns_on : (turns : List Turn) (from last : ℕ) → TurnsEnd rules from turns last → from ≤ last
  turns_on [] from last ends = ends
  turns_on (turn ∷ turns) from last ends =
      let on : from ≤ ends.1.0 = ends.1.1 in let rest : ends.1.0 ≤ last = turns_on turns ends.1.0 last ends.1.3 in
      omega arith

  module _ (more : Turn) (valid : IsValid (of_turn more)) (last : ℕ) (late : NoneBefore last more.jobs) where
    -- the turn alone, as the only one
    abbrev only : List Turn
    only = more ∷ []

    same_jobs : turns_jobs only ≡ more.jobs
    same_jobs = append-nil more.jobs

    same_rules : having rules (turns_finishes only) ≡ having rules more.finishes
    same_rules = ap (having rules) (append-nil more.finishes)

    -- none of all these jobs is released before the first tick
    late_behind : (turns : List Turn) (from : ℕ) → TurnsEnd rules from turns last
        → NoneBefore from (turns_jobs (turns ++ only))
    late_behind [] from ends = subst (NoneBefore from) (sym same_jobs)
        (λ j member. let at : last ≤ j.release = late j member in let low : from ≤ last = ends in omega arith)
    late_behind (turn ∷ turns) from ends =
        each_append (λ i. from ≤ i.release) turn.jobs (turns_jobs (turns ++ only)) ends.0.2
        (λ i member. let at : ends.1.0 ≤ i.release = late_behind turns ends.1.0 ends.1.3 i member in
        let low : from ≤ ends.1.0 = ends.1.1 in omega arith)

    -- what is settled from a tick on
    settles_behind : (mark : ℕ) → last ≤ mark → (turns : List Turn) (from : ℕ) → TurnsEnd rules from turns last
        → SettlesFrom (having rules (turns_finishes (turns ++ only))) mark from (turns_jobs (turns ++ only))
        (behind_turns turns (settled (of_turn more) mark))
    settles_behind mark on [] from ends =
        subst (λ js. SettlesFrom (having rules (turns_finishes only)) mark from js
        (behind_turns [] (settled (of_turn more) mark))) (sym same_jobs)
        (subst (λ r. SettlesFrom r mark from more.jobs (behind_turns [] (settled (of_turn more) mark))) (sym same_rules)
        (subst (SettlesFrom (having rules more.finishes) mark from more.jobs)
        (sym (behind_none (settled (of_turn more) mark)))
        (settles_alone (of_turn more) valid from mark
        (λ j member. let at : last ≤ j.release = late j member in let low : from ≤ last = ends in omega arith)
        (let low : from ≤ last = ends in omega arith))))
    settles_behind mark on (turn ∷ turns) from ends =
        subst (SettlesFrom (having rules (turns_finishes ((turn ∷ turns) ++ only))) mark from
        (turns_jobs ((turn ∷ turns) ++ only)))
        (ap (λ es. es ++ map (behind (length turn.jobs) (completed_value (of_turn turn)))
        (behind_turns turns (settled (of_turn more) mark)))
        (settled_at_rest (of_turn turn) ends.1.0 ends.0.0 ends.1.2) ∙ one_more turn turns (settled (of_turn more) mark))
        (settles_joined (of_turn turn) ends.0.0 from ends.1.0 mark ends.0.2 ends.1.1
        (let rest : ends.1.0 ≤ last = turns_on turns ends.1.0 last ends.1.3 in omega arith) ends.1.2
        (turns_finishes (turns ++ only)) ends.0.1 (turns_jobs (turns ++ only))
        (behind_turns turns (settled (of_turn more) mark)) (late_behind turns ends.1.0 ends.1.3)
        (settles_behind mark on turns ends.1.0 ends.1.3))

    -- behind turns that are over, what is settled of a further one is what is settled of it alone
    pub settled_of_last : (turns : List Turn) (mark : ℕ) → TurnsEnd rules 0 turns last → last ≤ mark
        → settled (one_run rules (turns ++ only)) mark
        ≡ before_end (printed (one_run rules turns))
        ++ map (behind (length (turns_jobs turns)) (completed_turns rules turns)) (settled (of_turn more) mark)
    settled_of_last turns mark ends on =
        settled_all (having rules (turns_finishes (turns ++ only))) mark (turns_jobs (turns ++ only))
        (behind_turns turns (settled (of_turn more) mark)) (settles_behind mark on turns 0 ends)
        ∙ ap (λ es. before_end es
        ++ map (behind (length (turns_jobs turns)) (completed_turns rules turns)) (settled (of_turn more) mark))
        (sym (one_run_prints turns last ends))

  -- ---- what schedules are worth

  -- each turn is valid
  abbrev AreValid : List Turn → Type 0
  AreValid turns = Each (λ turn. IsValid (of_turn turn)) turns

  pub turns_valid : (turns : List Turn) (from last : ℕ) → TurnsEnd rules from turns last → AreValid turns
  turns_valid [] from last ends turn none = absurd none
  turns_valid (turn ∷ turns) from last ends t (inl e) = subst (λ u. IsValid (of_turn u)) (sym e) ends.0.0
  turns_valid (turn ∷ turns) from last ends t (inr there) = turns_valid turns ends.1.0 last ends.1.3 t there

  -- a bound of each turn is one of all
  within_all : (of : Turn → List JobFacts)
      → ((turn : Turn) (s : List ℕ) → IsValid (of_turn turn)
      → IsWithin rules.ratio (worth (record { rules = rules; jobs = of turn }) s) (completed_value (of_turn turn)))
      → (turns : List Turn) (s : List ℕ) → AreValid turns
      → IsWithin rules.ratio (worth (record { rules = rules; jobs = in_turns of turns }) s)
      (completed_turns rules turns)
  within_all of each [] s valid = none_within rules.ratio
  within_all of each (turn ∷ turns) s valid =
      subst (IsWithin rules.ratio (worth (record { rules = rules; jobs = of turn ++ in_turns of turns }) s))
      (sym (completed_more turn turns))
      (within_less rules.ratio _ _ _ (worth_append rules (of turn) (in_turns of turns) s)
      (within_add rules.ratio _ _ _ _ (each turn s (valid turn (inl refl)))
      (within_all of each turns (map (λ m. m - length (of turn)) s) (λ t member. valid t (inr member)))))

  -- no schedule of the jobs of valid turns is worth more than they allow together
  pub turns_within : (turns : List Turn) (s : List ℕ) → AreValid turns
      → IsWithin rules.ratio (worth (one_run rules turns) s) (completed_turns rules turns)
  turns_within turns s valid =
      within_all (λ turn. turn.jobs) (λ turn t valid. bound (of_turn turn) t valid) turns s valid

  -- nor than the one run does
  pub declared_within : (turns : List Turn) (last : ℕ) (s : List ℕ) → TurnsEnd rules 0 turns last
      → IsWithin rules.ratio (worth (one_run rules turns) s) (completed_value (one_run rules turns))
  declared_within turns last s ends =
      subst (IsWithin rules.ratio (worth (one_run rules turns) s)) (sym (one_run_completes turns last ends))
      (turns_within turns s (turns_valid turns 0 last ends))

  -- nor one of the jobs as they were observed
  pub observed_within : (turns : List Turn) (last : ℕ) (s : List ℕ) → TurnsEnd rules 0 turns last
      → IsWithin rules.ratio (worth (observed (one_run rules turns)) s) (completed_value (one_run rules turns))
  observed_within turns last s ends =
      subst (λ js. IsWithin rules.ratio (worth (record { rules = rules; jobs = js }) s)
      (completed_value (one_run rules turns))) (sym (one_run_observes turns last ends))
      (subst (IsWithin rules.ratio (worth (record { rules = rules; jobs = turns_observed rules turns }) s))
      (sym (one_run_completes turns last ends))
      (within_all (λ turn. (observed (of_turn turn)).jobs) (λ turn t valid. observed_bound
      (of_turn turn) t valid) turns s
      (turns_valid turns 0 last ends)))
