-- Turns that come to rest, list after list, each list in a time of its own, are one run.
use Rattle.std.proofs.Common.{◌≡◌, ℕ, ◌+◌, ◌≤◌, List, [], ◌∷◌, ◌++◌, length, length-append, map, refl, sym, ap, ◌∙◌}
use Rattle.std.proofs.Common.{subst, arith, append-nil, append_assoc}
use Rattle.std.proofs.lemmas.List.{map-append}
use Rattle.dover_model.specs.declared.events.Event.{Event}
use Rattle.dover_model.specs.declared.events.Event.TheVariants.{End}
use Rattle.dover_model.specs.Common.{JobFacts, IsJob, Rules, having, Finish, printed, observed, completed_value, worth}
use Rattle.dover_model.specs.Common.{IsWithin, Each, step_at, IsAtRest, IsTurn, Turn, TurnsEnd, turn_under, turns_jobs}
use Rattle.dover_model.specs.Common.{turns_observed, turns_finishes, one_run, completed_turns, behind, behind_finish}
use Rattle.dover_model.specs.Common.{before_end, later_job, later_event, anew, printed_anew}
use Rattle.dover_model.specs.Rest.{completed_anew}
use Rattle.dover_model.proofs.lists.Members.{all_member, on_map, each_append}
use Rattle.dover_model.proofs.rest.Anew.{anew_jobs, ends_with_all, jobs_anew, moved_runs, of_rules, within_more}
use Rattle.dover_model.proofs.rest.Apart.{settled_at_rest}
use Rattle.dover_model.proofs.rest.InTurns.{behind_turns, completed_more, one_more, one_run_completes, one_run_observes}
use Rattle.dover_model.proofs.rest.InTurns.{one_run_prints, declared_within, observed_within}
use Rattle.dover_model.proofs.rest.Resting.{at_tick, RunsFrom, joined, runs_all, sees_all}
use Rattle.dover_model.proofs.rest.Turns.{behind_none}
use Rattle.dover_model.proofs.rest.TurnsGrowing.{ends_behind, finishes_twice}
use Rattle.dover_model.proofs.runs.Runs.{last_value, value_last}
use Rattle.dover_model.proofs.valid.JobLimits.{job_limits}
use Rattle.dover_model.proofs.valid.ValidParts.{valid_parts}

-- ---- turns in one time

-- all jobs and finishes of these turns
abbrev pub all_of : List Turn → Turn
all_of turns = record { jobs = turns_jobs turns; finishes = turns_finishes turns }

-- it is turns in one time, of which the last one is at rest at the tick
pub record IsLife (rules : Rules) (tick : ℕ) (life : Turn) : Type 0 where
  pub turns : List Turn
  pub more : Turn
  pub last : ℕ
  pub over : TurnsEnd rules 0 turns last
  pub turn : IsTurn rules last more
  pub low : last ≤ tick
  pub rest : IsAtRest (turn_under rules more) tick
  pub is : life ≡ all_of (turns ++ more ∷ [])

-- a job that comes from the tick on, and fits
abbrev IsFrom : ℕ → JobFacts → Type 0
IsFrom tick j = (tick ≤ j.release) × (tick ≤ j.deadline) × (j.work ≤ j.deadline)

module _ (rules : Rules) where
  turn_from : (turn : Turn) (from : ℕ) → IsTurn rules from turn → Each (IsFrom from) turn.jobs
  turn_from turn from it j member =
      let job : IsJob j = all_member IsJob turn.jobs (valid_parts it.0).each j member in
      let window : j.release + j.work ≤ j.deadline = (job_limits job).window in
      let at : from ≤ j.release = it.2 j member in (at, omega (arith, at, window), omega (arith, window))

  turns_from : (turns : List Turn) (from last : ℕ) → TurnsEnd rules from turns last
      → Each (IsFrom from) (turns_jobs turns)
  turns_from [] from last ends = λ j member. absurd member
  turns_from (turn ∷ turns) from last ends =
      each_append (IsFrom from) turn.jobs (turns_jobs turns) (turn_from turn from ends.0)
      (λ j member. let it : IsFrom ends.1.0 j = turns_from turns ends.1.0 last ends.1.3 j member in
      let low : from ≤ ends.1.0 = ends.1.1 in (omega (arith, it.0, low), omega (arith, it.1, low), it.2))

  -- the same run, of what is the same
  recast : (from : ℕ) {fs gs : List Finish} {js is : List JobFacts} {es ds : List Event} {ss rs : List JobFacts}
      → fs ≡ gs → js ≡ is → es ≡ ds → ss ≡ rs → RunsFrom (having rules fs) from js es ss
      → RunsFrom (having rules gs) from is ds rs
  recast from {fs} {gs} {js} {is} {es} {ds} {ss} {rs} f j e s it =
      subst (RunsFrom (having rules gs) from is ds) s
      (subst (λ xs. RunsFrom (having rules gs) from is xs ss) e
      (subst (λ xs. RunsFrom (having rules gs) from xs es ss) j
      (subst (λ xs. RunsFrom (having rules xs) from js es ss) f it)))

  module _ (more : Turn) (last tick : ℕ) (turn : IsTurn rules last more) (low : last ≤ tick)
      (rest : IsAtRest (turn_under rules more) tick) (fs : List Finish) (jobs : List JobFacts)
      (events : List Event) (seen : List JobFacts) (late : Each (λ j. (tick ≤ j.release) × (tick ≤ j.deadline)) jobs)
      (run : RunsFrom (having rules fs) tick jobs events seen) where
    -- the last turn
    abbrev only : List Turn
    only = more ∷ []

    -- the jobs behind turns come from the tick on
    late_then : (turns : List Turn) (from : ℕ) → TurnsEnd rules from turns last
        → Each (λ j. (from ≤ j.release) × (from ≤ j.deadline)) (turns_jobs (turns ++ only) ++ jobs)
    late_then turns from ends =
        let all : TurnsEnd rules from (turns ++ only) tick =
        ends_behind rules turns more from last tick ends turn low rest in
        let on : from ≤ tick = ends_on turns from ends in
        each_append (λ j. (from ≤ j.release) × (from ≤ j.deadline)) (turns_jobs (turns ++ only)) jobs
        (λ j member. let it : IsFrom from j = turns_from (turns ++ only) from tick all j member in (it.0, it.1))
        (λ j member. let it : (tick ≤ j.release) × (tick ≤ j.deadline) = late j member in
        (omega (arith, it.0, on), omega (arith, it.1, on))) where
          ends_on : (ts : List Turn) (first : ℕ) → TurnsEnd rules first ts last → first ≤ tick
          ends_on [] first over = let it : first ≤ last = over in omega (arith, it, low)
          ends_on (t ∷ ts) first over =
              let it : first ≤ over.1.0 = over.1.1 in omega (arith, it, ends_on ts over.1.0 over.1.3)

    -- turns, and then what is later
    turns_then : (turns : List Turn) (from : ℕ) → TurnsEnd rules from turns last
        → RunsFrom (having rules (turns_finishes (turns ++ only)
        ++ map (behind_finish (length (turns_jobs (turns ++ only)))) fs)) from (turns_jobs (turns ++ only) ++ jobs)
        (behind_turns rules (turns ++ only) events) (turns_observed rules (turns ++ only) ++ seen)
    turns_then [] from ends =
        let on : from ≤ last = ends in
        recast from
        (ap (λ gs. gs ++ map (behind_finish (length more.jobs)) fs) (sym (append-nil more.finishes))
        ∙ ap (λ js. (more.finishes ++ []) ++ map (behind_finish (length js)) fs) (sym (append-nil more.jobs)))
        (ap (λ js. js ++ jobs) (sym (append-nil more.jobs)))
        (ap (λ es. es ++ map number events) (settled_at_rest (turn_under rules more) tick turn.0 rest)
        ∙ ap (λ es. before_end (printed (turn_under rules more)) ++ map number es) (sym (behind_none events))
        ∙ one_more rules more [] events)
        (ap (λ js. js ++ seen) (sym (append-nil (observed (turn_under rules more)).jobs)))
        (joined (turn_under rules more) turn.0 from tick
        (λ j member. let at : last ≤ j.release = turn.2 j member in omega (arith, at, on)) (omega (arith, on, low))
        rest fs turn.1 jobs events seen (λ j member. (late j member).0) (λ j member. (late j member).1) run) where
          number : Event → Event
          number = behind (length more.jobs) (completed_value (turn_under rules more))
    turns_then (first ∷ turns) from ends =
        recast from
        (ap (λ gs. first.finishes ++ gs) (map-append step (turns_finishes (turns ++ only)) (map inner fs)
        ∙ ap (λ gs. map step (turns_finishes (turns ++ only)) ++ gs)
        (finishes_twice (length first.jobs) (length (turns_jobs (turns ++ only))) fs
        ∙ ap (λ n. map (behind_finish n) fs) (sym (length-append first.jobs (turns_jobs (turns ++ only))))))
        ∙ sym (append_assoc first.finishes (map step (turns_finishes (turns ++ only))) (map both fs)))
        (sym (append_assoc first.jobs (turns_jobs (turns ++ only)) jobs))
        (ap (λ es. es ++ map number (behind_turns rules (turns ++ only) events))
        (settled_at_rest (turn_under rules first) ends.1.0 ends.0.0 ends.1.2)
        ∙ one_more rules first (turns ++ only) events)
        (sym (append_assoc (observed (turn_under rules first)).jobs (turns_observed rules (turns ++ only)) seen))
        (joined (turn_under rules first) ends.0.0 from ends.1.0 ends.0.2 ends.1.1 ends.1.2
        (turns_finishes (turns ++ only) ++ map inner fs) ends.0.1 (turns_jobs (turns ++ only) ++ jobs)
        (behind_turns rules (turns ++ only) events) (turns_observed rules (turns ++ only) ++ seen)
        (λ j member. (late_then turns ends.1.0 ends.1.3 j member).0)
        (λ j member. (late_then turns ends.1.0 ends.1.3 j member).1)
        (turns_then turns ends.1.0 ends.1.3)) where
          number : Event → Event
          number = behind (length first.jobs) (completed_value (turn_under rules first))

          step : Finish → Finish
          step = behind_finish (length first.jobs)

          inner : Finish → Finish
          inner = behind_finish (length (turns_jobs (turns ++ only)))

          both : Finish → Finish
          both = behind_finish (length (turns_jobs (first ∷ (turns ++ only))))

  -- ---- one life

  -- its turns
  abbrev turns_in : (tick : ℕ) (life : Turn) → IsLife rules tick life → List Turn
  turns_in tick life it = it.turns ++ it.more ∷ []

  ends_in : (tick : ℕ) (life : Turn) (it : IsLife rules tick life) → TurnsEnd rules 0 (turns_in tick life it) tick
  ends_in tick life it = ends_behind rules it.turns it.more 0 it.last tick it.over it.turn it.low it.rest

  -- each of its jobs fits
  life_fits : (tick : ℕ) (life : Turn) → IsLife rules tick life → Each (λ j. j.work ≤ j.deadline) life.jobs
  life_fits tick life it = subst (λ (u : Turn). Each (λ j. j.work ≤ j.deadline) u.jobs) (sym it.is)
      (λ j member. (turns_from (turns_in tick life it) 0 tick (ends_in tick life it) j member).2)

  -- a life, and then what is later
  life_then : (tick : ℕ) (life : Turn) → IsLife rules tick life → (fs : List Finish) (jobs : List JobFacts)
      (events : List Event) (seen : List JobFacts) → Each (λ j. (tick ≤ j.release) × (tick ≤ j.deadline)) jobs
      → RunsFrom (having rules fs) tick jobs events seen
      → RunsFrom (having rules (life.finishes ++ map (behind_finish (length life.jobs)) fs)) 0 (life.jobs ++ jobs)
      (before_end (printed (turn_under rules life))
      ++ map (behind (length life.jobs) (completed_value (turn_under rules life))) events)
      ((observed (turn_under rules life)).jobs ++ seen)
  life_then tick life it fs jobs events seen late run =
      let T : List Turn = turns_in tick life it in
      let ends : TurnsEnd rules 0 T tick = ends_in tick life it in
      subst (λ (u : Turn). RunsFrom (having rules (u.finishes ++ map (behind_finish (length u.jobs)) fs)) 0
      (u.jobs ++ jobs) (before_end (printed (turn_under rules u))
      ++ map (behind (length u.jobs) (completed_value (turn_under rules u))) events)
      ((observed (turn_under rules u)).jobs ++ seen)) (sym it.is)
      (recast 0 refl refl
      (ap (λ es. before_end es ++ map (behind (length (turns_jobs T)) (completed_turns rules T)) events)
      (sym (one_run_prints rules T tick ends))
      ∙ ap (λ value. before_end (printed (one_run rules T)) ++ map (behind (length (turns_jobs T)) value) events)
      (sym (one_run_completes rules T tick ends)))
      (ap (λ js. js ++ seen) (sym (one_run_observes rules T tick ends)))
      (turns_then it.more it.last tick it.turn it.low it.rest fs jobs events seen late run it.turns 0 it.over))

  -- no schedule of it is worth more than the bound of what it completes
  life_within : (tick : ℕ) (life : Turn) (s : List ℕ) → IsLife rules tick life
      → IsWithin rules.ratio (worth (turn_under rules life) s) (completed_value (turn_under rules life))
  life_within tick life s it =
      subst (λ (u : Turn). IsWithin rules.ratio (worth (turn_under rules u) s) (completed_value (turn_under rules u)))
      (sym it.is) (declared_within rules (turns_in tick life it) tick s (ends_in tick life it))

  life_observed : (tick : ℕ) (life : Turn) (s : List ℕ) → IsLife rules tick life
      → IsWithin rules.ratio (worth (observed (turn_under rules life)) s) (completed_value (turn_under rules life))
  life_observed tick life s it =
      subst (λ (u : Turn). IsWithin rules.ratio (worth (observed (turn_under rules u)) s)
      (completed_value (turn_under rules u)))
      (sym it.is) (observed_within rules (turns_in tick life it) tick s (ends_in tick life it))

  -- ---- lives one after another, the last one not ended

  abbrev pub AreLives : List (ℕ × Turn) → Type 0
  AreLives [] = Unit {0}
  AreLives (l ∷ ls) = IsLife rules l.0 l.1 × AreLives ls

  abbrev seen : Turn → List JobFacts
  seen turn = (observed (turn_under rules turn)).jobs

  module _ (tick : ℕ) (life : Turn) (it : IsLife rules tick life) where
    -- with the last one
    abbrev and_last : List (ℕ × Turn) → List (ℕ × Turn)
    and_last ls = ls ++ (0, life) ∷ []

    lives_fit : (ls : List (ℕ × Turn)) → AreLives ls → Each (λ j. j.work ≤ j.deadline) (anew (and_last ls)).jobs
    lives_fit [] all = each_append (λ j. j.work ≤ j.deadline) life.jobs [] (life_fits tick life it)
        (λ j member. absurd member)
    lives_fit (l ∷ ls) all =
        each_append (λ j. j.work ≤ j.deadline) l.1.jobs (map (later_job l.0) (anew (and_last ls)).jobs)
        (life_fits l.0 l.1 all.0)
        (on_map (later_job l.0) (λ j. j.work ≤ j.deadline) (anew (and_last ls)).jobs
        (λ j member. let low : j.work ≤ j.deadline = lives_fit ls all.1 j member in omega (arith, low)))

    -- from the opening on
    lives_run : (ls : List (ℕ × Turn)) → AreLives ls
        → RunsFrom (having rules (anew (and_last ls)).finishes) 0 (anew (and_last ls)).jobs
        (printed_anew rules (and_last ls)) (jobs_anew seen (and_last ls))
    lives_run [] all = life_then tick life it [] [] (End 0 ∷ []) [] (λ j member. absurd member)
        (step_at (having rules []) (at_tick tick []) ∷ [], (refl, refl), omega arith, refl, refl)
    lives_run (l ∷ ls) all =
        life_then l.0 l.1 all.0 (anew (and_last ls)).finishes (map (later_job l.0) (anew (and_last ls)).jobs)
        (map (later_event l.0) (printed_anew rules (and_last ls))) (map (later_job l.0) (jobs_anew seen (and_last ls)))
        (on_map (later_job l.0) (λ j. (l.0 ≤ j.release) × (l.0 ≤ j.deadline)) (anew (and_last ls)).jobs
        (λ j member. (omega arith, omega arith)))
        (moved_runs l.0 (having rules (anew (and_last ls)).finishes) (anew (and_last ls)).jobs
        (printed_anew rules (and_last ls)) (jobs_anew seen (and_last ls)) (lives_fit ls all.1) (lives_run ls all.1))

    -- the run of all is their runs
    pub lives_print : (ls : List (ℕ × Turn)) → AreLives ls
        → printed (turn_under rules (anew (and_last ls))) ≡ printed_anew rules (and_last ls)
    lives_print ls all = runs_all (having rules (anew (and_last ls)).finishes) (anew (and_last ls)).jobs
        (printed_anew rules (and_last ls)) (jobs_anew seen (and_last ls)) (lives_run ls all)

    -- it observes the jobs as they do
    lives_observe : (ls : List (ℕ × Turn)) → AreLives ls
        → (observed (turn_under rules (anew (and_last ls)))).jobs ≡ jobs_anew seen (and_last ls)
    lives_observe ls all = sees_all (having rules (anew (and_last ls)).finishes) (anew (and_last ls)).jobs
        (printed_anew rules (and_last ls)) (jobs_anew seen (and_last ls)) (lives_run ls all)

    -- ---- what schedules are worth

    -- it completes what they complete
    lives_complete : (ls : List (ℕ × Turn)) → AreLives ls
        → completed_value (turn_under rules (anew (and_last ls))) ≡ completed_anew rules (and_last ls)
    lives_complete ls all = let ends = ends_with_all rules (and_last ls) in
        ap (last_value 0) (lives_print ls all ∙ ends.1)
        ∙ value_last 0 (completed_anew rules (and_last ls)) ends.0

    -- a bound of each life is one of all
    each_within : (of : Turn → List JobFacts)
        → ((at : ℕ) (turn : Turn) (s : List ℕ) → IsLife rules at turn
        → IsWithin rules.ratio (worth (of_rules rules (of turn)) s) (completed_value (turn_under rules turn)))
        → (ls : List (ℕ × Turn)) (s : List ℕ) → AreLives ls
        → IsWithin rules.ratio (worth (of_rules rules (jobs_anew of (and_last ls))) s)
        (completed_anew rules (and_last ls))
    each_within of each [] s all =
        let alone : completed_value (turn_under rules life) ≡ completed_anew rules (and_last []) =
        omega (arith, completed_more rules life []) in
        subst (IsWithin rules.ratio (worth (of_rules rules (of life ++ [])) s)) alone
        (subst (λ js. IsWithin rules.ratio (worth (of_rules rules js) s) (completed_value (turn_under rules life)))
        (sym (append-nil (of life))) (each tick life s it))
    each_within of each (l ∷ ls) s all =
        let later : List JobFacts = map (later_job l.0) (jobs_anew of (and_last ls)) in
        subst (IsWithin rules.ratio (worth (of_rules rules (of l.1 ++ later)) s))
        (sym (completed_more rules l.1 (map (λ (m : ℕ × Turn). m.1) (and_last ls))))
        (within_more rules (of l.1) (jobs_anew of (and_last ls)) l.0 s (completed_value (turn_under rules l.1))
        (completed_anew rules (and_last ls))
        (λ t. each l.0 l.1 t all.0) (λ t. each_within of each ls t all.1))

    -- no schedule of all jobs as they are declared is worth more than the one run allows
    pub lives_within : (ls : List (ℕ × Turn)) (s : List ℕ) → AreLives ls
        → IsWithin rules.ratio (worth (turn_under rules (anew (and_last ls))) s)
        (completed_value (turn_under rules (anew (and_last ls))))
    lives_within ls s all =
        subst (IsWithin rules.ratio (worth (turn_under rules (anew (and_last ls))) s)) (sym (lives_complete ls all))
        (subst (λ js. IsWithin rules.ratio (worth (of_rules rules js) s) (completed_anew rules (and_last ls)))
        (sym (anew_jobs (and_last ls)))
        (each_within (λ turn. turn.jobs) (λ at turn t a. life_within at turn t a) ls s all))

    -- nor one of the jobs as they were observed
    pub lives_observed : (ls : List (ℕ × Turn)) (s : List ℕ) → AreLives ls
        → IsWithin rules.ratio (worth (observed (turn_under rules (anew (and_last ls)))) s)
        (completed_value (turn_under rules (anew (and_last ls))))
    lives_observed ls s all =
        subst (IsWithin rules.ratio (worth (observed (turn_under rules (anew (and_last ls)))) s))
        (sym (lives_complete ls all))
        (subst (λ js. IsWithin rules.ratio (worth (of_rules rules js) s) (completed_anew rules (and_last ls)))
        (sym (lives_observe ls all))
        (each_within seen (λ at turn t a. life_observed at turn t a) ls s all))
