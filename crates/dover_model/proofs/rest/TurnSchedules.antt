-- What turns complete is what one schedule of all their jobs, as they were observed, is worth.
use Rattle.std.proofs.Common.{◌≡◌, ℕ, zero, suc, ◌+◌, ◌-◌, ◌≤◌, inl, inr, List, [], ◌∷◌, ◌++◌, length, drop, take, map}
use Rattle.std.proofs.Common.{refl, sym, ap, ◌∙◌, subst, arith, cond, eqb, Bool, true, false, replicate, length-append}
use Rattle.std.proofs.Common.{None, MatchBool, count_by, sum_by, filter_map, le-leb, leb-true}
use Rattle.std.specs.List.{cons_option, enumerate_from}
use Rattle.std.proofs.lemmas.List.{take-map, drop-map, length-replicate}
use Rattle.std.proofs.lemmas.List.Sums.{sum_by-cons, sum_by-append}
use Rattle.dover_model.specs.Common.{idle, JobFacts, Rules, Instance, IsValid, having, State, opening, Move}
use Rattle.dover_model.specs.Common.{Ticks, step, after, Step, is_end, run, ran, tick_of, completed_value}
use Rattle.dover_model.specs.Common.{step_at, IsWholeRun, ticks_given, is_served, worth, observed, NoneBefore, IsAtRest}
use Rattle.dover_model.specs.Common.{end_tick, Turn, TurnsEnd, turn_under, turns_observed, behind_finish, one_run}
use Rattle.dover_model.specs.Common.{turns_jobs, turns_finishes, completed_turns, Finish}
use Rattle.dover_model.proofs.runs.Ending.{run_is_whole}
use Rattle.dover_model.proofs.runs.Honest.{observed_honest, observed_late, observed_all}
use Rattle.dover_model.proofs.rest.RestTick.{ended_by, end_clock}
use Rattle.dover_model.proofs.rest.InTurns.{completed_more, one_run_observes, one_run_completes}
use Rattle.dover_model.proofs.rest.Parting.{worth_to, count_map, enumerate_append}
use Rattle.dover_model.proofs.lists.Members.{each_append}

-- ---- the ticks of a run

-- a step is a tick, and the clock goes on, or it isn't
tick_or_not : (s : State) (m : Move) → (is_end m ≡ true → tick_of (record { before = s; move = m }) ≡ None)
    × ((more : List ℕ) → length (cons_option (tick_of (record { before = s; move = m })) more) + s.clock ≤ length more
    + (after s m).clock)
tick_or_not s Ticks = (λ last. absurd (let e : false ≡ true = last in cc), λ more. omega arith)
tick_or_not s _ = (λ last. refl, λ more. omega arith)

-- a run has as many ticks as it takes, at most
ticks_most : (rules : Rules) (zs : List Step) (s : State) (from : ℕ) → IsWholeRun rules s zs
    → length (filter_map tick_of zs) + s.clock ≤ end_clock from zs
ticks_most rules [] s from whole = absurd whole
ticks_most rules (z ∷ zs) s from whole =
    subst (λ (y : Step). length (cons_option (tick_of y) (filter_map tick_of zs)) + s.clock
    ≤ end_clock y.before.clock zs) (sym whole.0)
    (by_end (is_end (step rules s)) refl whole.1 (ticks_most rules zs (after s (step rules s)) s.clock)) where
      by_end : (b : Bool) → is_end (step rules s) ≡ b
          → MatchBool b (zs ≡ []) (IsWholeRun rules (after s (step rules s)) zs)
          → (IsWholeRun rules (after s (step rules s)) zs
          → length (filter_map tick_of zs) + (after s (step rules s)).clock ≤ end_clock s.clock zs)
          → length (cons_option (tick_of (step_at rules s)) (filter_map tick_of zs)) + s.clock ≤ end_clock s.clock zs
      by_end true last none more =
          subst (λ xs. length (cons_option (tick_of (step_at rules s)) (filter_map tick_of xs)) + s.clock
          ≤ end_clock s.clock xs) (sym none)
          (subst (λ o. length (cons_option {X = ℕ} o []) + s.clock ≤ s.clock)
          (sym ((tick_or_not s (step rules s)).0 last)) (omega arith))
      by_end false on rest more = omega (arith, (tick_or_not s (step rules s)).1 (filter_map tick_of zs), more rest)

-- it is over by the tick of its End
pub ran_short : (J : Instance) → IsValid J → length (ran J) ≤ end_tick J
ran_short J valid = omega (arith, ticks_most J.rules (run J) (opening J.jobs) 0 (run_is_whole J valid))

-- ---- one schedule after another

-- the number of ticks of a number between two ticks
abbrev given : ℕ → ℕ → ℕ → List ℕ → ℕ
given n r d s = count_by (λ m. eqb m n) (drop r (take d s))

-- ticks behind take none away
given_front : (n r d : ℕ) (a more : List ℕ) → given n r d a ≤ given n r d (a ++ more)
given_front n r d [] more = by_nil r d where
  by_nil : (r d : ℕ) → given n r d [] ≤ given n r d more
  by_nil zero zero = omega arith
  by_nil (suc r) zero = omega arith
  by_nil _ _ = omega arith
given_front n r zero (x ∷ a) more = by_nil r where
  by_nil : (r : ℕ) → given n r 0 (x ∷ a) ≤ given n r 0 ((x ∷ a) ++ more)
  by_nil zero = omega arith
  by_nil (suc r) = omega arith
given_front n zero (suc d) (x ∷ a) more = omega (
  arith,
  sum_by-cons (λ m. cond (eqb m n) 1 0) x (take d a),
  sum_by-cons (λ m. cond (eqb m n) 1 0) x (take d (a ++ more)),
  given_front n zero d a more,
)
given_front n (suc r) (suc d) (x ∷ a) more = given_front n r d a more

-- ticks in front, in place of as many, take none away from later ones
given_behind : (n k r d : ℕ) (front b : List ℕ) → length front ≤ r
    → given k r d b ≤ given (n + k) r d (front ++ map (λ m. n + m) (drop (length front) b))
given_behind n k r d [] b low = subst (λ ticks. given k r d b ≤ count_by (λ m. eqb m (n + k)) ticks)
    (sym (ap (drop r) (take-map (λ m. n + m) d b) ∙ drop-map (λ m. n + m) r (take d b)))
    (count_map (λ m. n + m) k (n + k) refl (drop r (take d b)))
given_behind n k r zero (x ∷ front) b low = by_nil r b where
  by_nil : (r : ℕ) (b : List ℕ)
      → given k r 0 b ≤ given (n + k) r 0 ((x ∷ front) ++ map (λ m. n + m) (drop (length (x ∷ front)) b))
  by_nil zero [] = omega arith
  by_nil (suc r) [] = omega arith
  by_nil _ _ = omega arith
given_behind n k zero (suc d) (x ∷ front) b low = absurd (omega arith)
given_behind n k (suc r) (suc d) (x ∷ front) [] low = omega arith
given_behind n k (suc r) (suc d) (x ∷ front) (y ∷ b) low = given_behind n k r d front b (omega arith)

-- a job that is given no less is served as well
served_more : (s s2 : List ℕ) (a b : ℕ) (j : JobFacts) → ticks_given s a j ≤ ticks_given s2 b j
    → worth_to s (a, j) ≤ worth_to s2 (b, j)
served_more s s2 a b j more = by_test (is_served s (a, j)) refl where
  by_test : (c : Bool) → is_served s (a, j) ≡ c → cond c j.value 0 ≤ worth_to s2 (b, j)
  by_test false e = omega arith
  by_test true e =
      let enough : j.work ≤ ticks_given s a j = leb-true _ _ e in
      subst (λ c. j.value ≤ cond c j.value 0) (sym (le-leb j.work (ticks_given s2 b j) (omega arith))) (omega arith)

-- the schedule of the first jobs up to a tick, and then that of the others
abbrev pub one_then : ℕ → ℕ → List ℕ → List ℕ → List ℕ
one_then n rest a b = (a ++ replicate (rest - length a) idle) ++ map (λ m. n + m)
    (drop (length (a ++ replicate (rest - length a) idle)) b)

-- the first jobs are worth as much to it
pub worth_first : (n rest k : ℕ) (a b : List ℕ) (jobs : List JobFacts)
    → sum_by (worth_to a) (enumerate_from k jobs) ≤ sum_by (worth_to (one_then n rest a b)) (enumerate_from k jobs)
worth_first n rest k a b [] = omega arith
worth_first n rest k a b (j ∷ jobs) = omega (
  arith,
  sum_by-cons (worth_to a) (k, j) (enumerate_from (k + 1) jobs),
  sum_by-cons (worth_to (one_then n rest a b)) (k, j) (enumerate_from (k + 1) jobs),
  served_more a (one_then n rest a b) k k j more,
  worth_first n rest (k + 1) a b jobs,
) where
  more : ticks_given a k j ≤ ticks_given (one_then n rest a b) k j
  more =
      let one : ticks_given a k j ≤ ticks_given (a ++ replicate (rest - length a) idle) k j =
      given_front k j.release j.deadline a (replicate (rest - length a) idle) in
      let two : ticks_given (a ++ replicate (rest - length a) idle) k j ≤ ticks_given (one_then n rest a b) k j =
      given_front k j.release j.deadline (a ++ replicate (rest - length a) idle)
      (map (λ m. n + m) (drop (length (a ++ replicate (rest - length a) idle)) b)) in omega arith

-- so are the others, where none is released before the tick
pub worth_others : (n rest k : ℕ) (a b : List ℕ) (jobs : List JobFacts) → length a ≤ rest → NoneBefore rest jobs
    → sum_by (worth_to b) (enumerate_from k jobs) ≤ sum_by (worth_to (one_then n rest a b))
    (enumerate_from (n + k) jobs)
worth_others n rest k a b [] short late = omega arith
worth_others n rest k a b (j ∷ jobs) short late =
    let more : sum_by (worth_to b) (enumerate_from (k + 1) jobs) ≤ sum_by (worth_to (one_then n rest a b))
    (enumerate_from (n + (k + 1)) jobs) =
    worth_others n rest (k + 1) a b jobs short (λ i member. late i (inr member)) in
    let same : sum_by (worth_to (one_then n rest a b)) (enumerate_from (n + (k + 1)) jobs)
    ≡ sum_by (worth_to (one_then n rest a b)) (enumerate_from (n + k + 1) jobs) =
    ap (λ m. sum_by (worth_to (one_then n rest a b)) (enumerate_from m jobs)) (omega arith) in
    omega (
      arith,
      sum_by-cons (worth_to b) (k, j) (enumerate_from (k + 1) jobs),
      sum_by-cons (worth_to (one_then n rest a b)) (n + k, j) (enumerate_from (n + k + 1) jobs),
      served_more b (one_then n rest a b) k (n + k) j here,
    ) where
      here : ticks_given b k j ≤ ticks_given (one_then n rest a b) (n + k) j
      here = given_behind n k j.release j.deadline (a ++ replicate (rest - length a) idle) b
          (let at : rest ≤ j.release = late j (inl refl) in
          omega (arith, length-append a (replicate (rest - length a) idle), length-replicate (rest - length a) idle))

module _ (rules : Rules) where
  -- the instance of these jobs
  abbrev of_rules : List JobFacts → Instance
  of_rules jobs = record { rules = rules; jobs = jobs }

  -- it is worth what the schedules of both are, where the first is over before the others come
  pub worth_one_then : (jobs more : List JobFacts) (rest : ℕ) (a b : List ℕ) → length a ≤ rest → NoneBefore rest more
      → worth (of_rules jobs) a + worth (of_rules more) b
      ≤ worth (of_rules (jobs ++ more)) (one_then (length jobs) rest a b)
  worth_one_then jobs more rest a b short late =
      let first : sum_by (worth_to a) (enumerate_from 0 jobs)
      ≤ sum_by (worth_to (one_then (length jobs) rest a b)) (enumerate_from 0 jobs) =
      worth_first (length jobs) rest 0 a b jobs in
      let others : sum_by (worth_to b) (enumerate_from 0 more)
      ≤ sum_by (worth_to (one_then (length jobs) rest a b)) (enumerate_from (length jobs + 0) more) =
      worth_others (length jobs) rest 0 a b more short late in
      let split : worth (of_rules (jobs ++ more)) (one_then (length jobs) rest a b)
      ≡ sum_by (worth_to (one_then (length jobs) rest a b)) (enumerate_from 0 jobs)
      + sum_by (worth_to (one_then (length jobs) rest a b)) (enumerate_from (length jobs + 0) more) =
      ap (sum_by (worth_to (one_then (length jobs) rest a b)))
      (enumerate_append 0 jobs more ∙ ap (λ m. enumerate_from 0 jobs ++ enumerate_from m more) (omega arith))
      ∙ sum_by-append (worth_to (one_then (length jobs) rest a b)) (enumerate_from 0 jobs)
      (enumerate_from (length jobs + 0) more) in
      omega arith

  -- the schedule of a turn is over where the turn is at rest
  pub over_by : (turn : Turn) (rest : ℕ) → IsValid (turn_under rules turn) → IsAtRest (turn_under rules turn) rest
      → length (ran (turn_under rules turn)) ≤ rest
  over_by turn rest valid over =
      let short : length (ran (turn_under rules turn)) ≤ end_tick (turn_under rules turn) =
      ran_short (turn_under rules turn) valid in
      let ended : end_tick (turn_under rules turn) ≤ rest = ended_by (turn_under rules turn) valid rest over in
      omega arith

  -- none of the observed jobs is released before the first tick
  observed_from : (turns : List Turn) (from last : ℕ) → TurnsEnd rules from turns last
      → NoneBefore from (turns_observed rules turns)
  observed_from [] from last ends = λ j member. absurd member
  observed_from (turn ∷ turns) from last ends =
      each_append (λ i. from ≤ i.release) (observed (turn_under rules turn)).jobs (turns_observed rules turns)
      (observed_late (turn_under rules turn) ends.0.0 from ends.0.2)
      (λ i member. let at : ends.1.0 ≤ i.release = observed_from turns ends.1.0 last ends.1.3 i member in
      let low : from ≤ ends.1.0 = ends.1.1 in omega arith)

  -- a schedule of all jobs as they were observed is worth what the turns complete
  honest_turns : (turns : List Turn) (from last : ℕ) → TurnsEnd rules from turns last
      → (s : List ℕ) × (completed_turns rules turns ≤ worth (of_rules (turns_observed rules turns)) s)
  honest_turns [] from last ends = ([], omega arith)
  honest_turns (turn ∷ turns) from last ends =
      let rest = honest_turns turns ends.1.0 last ends.1.3 in (
        one_then (length (observed (turn_under rules turn)).jobs) ends.1.0 (ran (turn_under rules turn)) rest.0,
        omega (
          arith,
          worth_one_then (observed (turn_under rules turn)).jobs (turns_observed rules turns) ends.1.0
              (ran (turn_under rules turn)) rest.0 (over_by turn ends.1.0 ends.0.0 ends.1.2)
              (observed_from turns ends.1.0 last ends.1.3),
          observed_honest (turn_under rules turn) ends.0.0,
          rest.1,
          completed_more rules turn turns,
        ),
      )

  -- so is one of the jobs as the one run observes them
  pub one_run_honest : (turns : List Turn) (last : ℕ) → TurnsEnd rules 0 turns last
      → (s : List ℕ) × (completed_value (one_run rules turns) ≤ worth (observed (one_run rules turns)) s)
  one_run_honest turns last ends = let found = honest_turns turns 0 last ends in (
    found.0,
    subst (λ js. completed_value (one_run rules turns) ≤ worth (of_rules js) found.0)
        (sym (one_run_observes rules turns last ends))
        (omega (arith, found.1, one_run_completes rules turns last ends)),
  )

-- ---- turns in which no job finishes early

-- of two lists that are none together each is none
none_of_both : (fs gs : List Finish) → fs ++ gs ≡ [] → (fs ≡ []) × (gs ≡ [])
none_of_both [] gs none = (refl, none)
none_of_both (f ∷ fs) gs none = absurd (cc)

none_renumbered : (n : ℕ) (fs : List Finish) → map (behind_finish n) fs ≡ [] → fs ≡ []
none_renumbered n [] none = refl
none_renumbered n (f ∷ fs) none = absurd (cc)

module _ (rules : Rules) where
  -- each turn observes its jobs as they are declared
  observed_plain : (turns : List Turn) (from last : ℕ) → TurnsEnd rules from turns last → turns_finishes turns ≡ []
      → turns_observed rules turns ≡ turns_jobs turns
  observed_plain [] from last ends none = refl
  observed_plain (turn ∷ turns) from last ends none =
      let parts = none_of_both turn.finishes (map (behind_finish (length turn.jobs)) (turns_finishes turns)) none in
      ap (λ (J : Instance). J.jobs ++ turns_observed rules turns)
      (observed_all (turn_under rules turn) ends.0.0 parts.0)
      ∙ ap (λ js. turn.jobs ++ js) (observed_plain turns ends.1.0 last ends.1.3
      (none_renumbered (length turn.jobs) (turns_finishes turns) parts.1))

  -- and so does the one run
  pub one_run_plain : (turns : List Turn) (last : ℕ) → TurnsEnd rules 0 turns last → turns_finishes turns ≡ []
      → observed (one_run rules turns) ≡ one_run rules turns
  one_run_plain turns last ends none =
      ap (λ js. record { rules = having rules (turns_finishes turns); jobs = js })
      (one_run_observes rules turns last ends ∙ observed_plain turns 0 last ends none)
