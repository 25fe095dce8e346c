-- A run releases each of its jobs, and so does what is settled at a mark, where none is released later.
use Rattle.std.proofs.Common.{◌≡◌, ℕ, ◌+◌, ◌*◌, ◌≤◌, List, [], ◌∷◌, length, map, refl, sym, ap, ◌∙◌}
use Rattle.std.proofs.Common.{subst, Bool, true, false, cond, arith, eqb, filter_map, Option, Some, None, MatchBool}
use Rattle.std.proofs.Common.{sum_by, filter, eq-eqb, eqb-true}
use Rattle.std.specs.Bool.{then_some}
use Rattle.std.specs.List.{AllByRecursion, cons_option, list_all}
use Rattle.dover_model.specs.Common.{JobFacts, Event, Release, End, Role, Coming}
use Rattle.dover_model.specs.Common.{Fresh, Waiting, Held, Running, Done, Gone, Task, Rules, Instance, IsValid, State}
use Rattle.dover_model.specs.Common.{opening, is_coming, is_over, is_done, value_sum, Move, Prints, Ticks, step}
use Rattle.dover_model.specs.Common.{open_step, after, ending, ◌or_else◌, with_role, displaced, ticked, Step, is_end}
use Rattle.dover_model.specs.Common.{event_of, printed_of, printed, run, waits_for_mark, settled, settled_steps}
use Rattle.dover_model.specs.Common.{IsWholeRun, IsSettledRun, IsMember, Each, IsSound, Keeps}
use Rattle.dover_model.proofs.lists.Members.{sum_same, sum_map, sum_zero}
use Rattle.dover_model.proofs.steps.Roles.{of_over, passes}
use Rattle.dover_model.proofs.steps.Loads.{sum_change}
use Rattle.dover_model.proofs.steps.OneChange.{changed, on_changed_role}
use Rattle.dover_model.proofs.steps.Deeds.{Deed, Completed, Resumed, Started, Began, Preempted, Stayed, Arrived, Taken}
use Rattle.dover_model.proofs.steps.Deeds.{Abandoned, Rested}
use Rattle.dover_model.proofs.steps.Kept.{each_job, step_deed, open_deed, step_kept, open_kept, opening_keeps}
use Rattle.dover_model.proofs.steps.Kept.{come_coming}
use Rattle.dover_model.proofs.runs.Ending.{sum_each, run_is_whole, end_over}
use Rattle.dover_model.proofs.settled.Settling.{at_barrier, settled_is_run}
use Rattle.dover_model.proofs.settled.Releasing.{none_coming}

-- the job that an event releases
abbrev pub released : Event → Option JobFacts
released (Release n j) = Some j
released _ = None

-- the jobs that these steps release
abbrev pub releases : List Event → List JobFacts
releases steps = filter_map released steps

-- how many jobs a step releases
abbrev released_by : Move → ℕ
released_by m = length (releases (cons_option (event_of m) []))

-- one where the job is to come
abbrev comes : Task → ℕ
comes t = cond (is_coming t) 1 0

-- how many jobs are to come
abbrev pub coming_count : State → ℕ
coming_count s = sum_by comes s.tasks

-- a move that leaves the jobs to come as they are
still_coming : (s : State) (role : Task → Role) → Each (λ t. is_coming (with_role t (role t)) ≡ is_coming t) s.tasks
    → sum_by comes (map (λ t. with_role t (role t)) s.tasks) ≡ coming_count s
still_coming s role same = sum_map (λ t. with_role t (role t)) comes s.tasks
    ∙ sum_same (λ t. comes (with_role t (role t))) comes s.tasks (λ t m. ap (λ b. cond b 1 0) (same t m))

-- so does a displacement
pub displaced_coming : (t : Task) → is_coming (with_role t (displaced t.role)) ≡ is_coming t
displaced_coming t = by_role t.role where
  by_role : (role : Role) → is_coming (with_role t (displaced role)) ≡ is_coming (with_role t role)
  by_role Coming = refl
  by_role _ = refl

module _ (s : State) (sound : IsSound s) where
  -- one job that isn't to come has another role
  pub one_still : (r : Task) → IsMember r s.tasks → (role new : Role) → r.role ≡ role
      → is_coming (with_role r role) ≡ false
      → is_coming (with_role r new) ≡ false
      → Each (λ t. is_coming (with_role t (changed r new t)) ≡ is_coming t) s.tasks
  one_still r member role new is here there =
      on_changed_role 0 s.tasks sound.numbered r member new (λ t role. is_coming (with_role t role) ≡ is_coming t)
      (there ∙ sym (passes is_coming r role false is here)) (λ t m differs. refl)

  -- nor does it matter that one that isn't to come runs, where the others' roles leave the jobs to come as they are
  pub taker_still : (r : Task) → IsMember r s.tasks → (role : Role) → r.role ≡ role
      → is_coming (with_role r role) ≡ false
      → (others : Task → Role) → Each (λ t. is_coming (with_role t (others t)) ≡ is_coming t) s.tasks
      → Each (λ t. is_coming (with_role t (cond (eqb t.number r.number) Running (others t))) ≡ is_coming t) s.tasks
  taker_still r member role is here others still t mt =
      by_number (eqb t.number r.number) (one_still r member role Running is here refl t mt) where
        by_number : (b : Bool) → is_coming (with_role t (cond b Running t.role)) ≡ is_coming t
            → is_coming (with_role t (cond b Running (others t))) ≡ is_coming t
        by_number true it = it
        by_number false it = still t mt

  -- so many are to come after a deed
  deed_count : (k : _) (other m : Move) → (coming_count (after s other) + released_by other ≡ coming_count s)
      → Deed k s other m
      → coming_count (after s m) + released_by m ≡ coming_count s
  deed_count k other m rests (Completed r member runs) =
      omega (arith, still_coming s (changed r Done) (one_still r member Running Done runs refl refl))
  deed_count k other m rests (Resumed p member held none least why) =
      omega (arith, still_coming s (changed p Running) (one_still p member Held Running held refl refl))
  deed_count k other m rests (Started o member waiting none first fits next) =
      omega (arith, still_coming s (changed o Running) (one_still o member Waiting Running waiting refl refl))
  deed_count k other m rests (Began f member fresh none free) =
      omega (arith, still_coming s (changed f Running) (one_still f member Fresh Running fresh refl refl))
  deed_count k other m rests (Preempted r f member runs some f_member fresh before fits) =
      omega (
        arith,
        still_coming s (λ t. cond (eqb t.number f.number) Running (changed r Held t))
            (taker_still f f_member Fresh fresh refl (changed r Held)
            (one_still r member Running Held runs refl refl)),
      )
  deed_count k other m rests (Stayed r f member runs some f_member fresh why) =
      omega (arith, still_coming s (changed f Waiting) (one_still f f_member Fresh Waiting fresh refl refl))
  deed_count k other m rests (Arrived c member coming now first stale busy free) =
      omega (arith, sum_map (λ t. with_role t (changed c Fresh t)) comes s.tasks, falls, rises) where
        here : comes (with_role c (changed c Fresh c)) ≡ 0
        here = ap (λ b. comes (with_role c (cond b Fresh c.role))) (eq-eqb c.number c.number refl)

        was : comes c ≡ 1
        was = ap (λ b. cond b 1 0) (passes is_coming c Coming true coming refl)

        other_same : (t : Task) → IsMember t s.tasks → (t.number ≡ c.number → ⊥)
            → comes (with_role t (changed c Fresh t)) ≡ comes t
        other_same t mt differs = by_number (eqb t.number c.number) refl where
          by_number : (b : Bool) → eqb t.number c.number ≡ b → comes (with_role t (cond b Fresh t.role)) ≡ comes t
          by_number true same = absurd (differs (eqb-true _ _ same))
          by_number false apart = refl

        falls : sum_by (λ t. comes (with_role t (changed c Fresh t))) s.tasks + 1 ≤ sum_by comes s.tasks + 0
        falls = sum_change (λ t. comes (with_role t (changed c Fresh t))) comes 1 0 0 s.tasks c sound.numbered member
            (omega (arith, here, was))
            (λ t mt differs. omega (arith, other_same t mt differs))

        rises : sum_by comes s.tasks + 0 ≤ sum_by (λ t. comes (with_role t (changed c Fresh t))) s.tasks + 1
        rises = sum_change comes (λ t. comes (with_role t (changed c Fresh t))) 0 1 0 s.tasks c sound.numbered member
            (omega (arith, here, was))
            (λ t mt differs. omega (arith, other_same t mt differs))
  deed_count k other m rests (Taken r x member runs some x_member waiting now stale heavy) =
      omega (
        arith,
        still_coming s (λ t. cond (eqb t.number x.number) Running (displaced t.role))
            (taker_still x x_member Waiting waiting refl (λ t. displaced t.role) (λ t mt. displaced_coming t)),
      )
  deed_count k other m rests (Abandoned r x member runs some x_member waiting now stale light) =
      omega (arith, still_coming s (changed x Gone) (one_still x x_member Waiting Gone waiting refl refl))
  deed_count k other m rests (Rested quiet) = rests

  -- a silent tick releases none
  tick_count : coming_count (after s Ticks) + released_by Ticks ≡ coming_count s
  tick_count = omega (arith, sum_map ticked comes s.tasks)

  -- nor does End
  end_count : (value : ℕ) → coming_count (after s (Prints (End value))) + released_by (Prints (End value))
      ≡ coming_count s
  end_count value = omega (arith, still_coming s (λ t. t.role) (λ t m. refl))

-- ---- over settled steps

-- what one step more releases
one_more : (m : Move) (es : List Event)
    → length (releases (cons_option (event_of m) es)) ≡ released_by m + length (releases es)
one_more (Prints (Release n j)) es = omega arith
one_more _ es = omega arith

-- none of these jobs is to come
none_comes : (tasks : List Task) → Each (λ t. is_coming t ≡ false) tasks → sum_by comes tasks ≡ 0
none_comes tasks none = sum_zero comes tasks (λ t m. ap (λ b. cond b 1 0) (none t m))

module _ (J : Instance) (valid : IsValid J) (rules : Rules) (mark : ℕ)
    (known : AllByRecursion (λ j. j.release ≤ mark) J.jobs) where
  -- at the barrier none is to come, where none is released after the mark
  barrier_none : (s : State) → Keeps J s → IsSettledRun rules mark s [] → coming_count s ≡ 0
  barrier_none s keeps here =
      let it : (waits_for_mark (open_step rules s) ≡ true) × (mark ≤ s.clock) =
      at_barrier (waits_for_mark (open_step rules s)) mark s.clock here in
      none_comes s.tasks (none_coming J s keeps rules
      (λ t m. let low : t.job.release ≤ mark = by_mark t m in omega (arith, it.1)) it.0) where
        by_mark : Each (λ (t : Task). t.job.release ≤ mark) s.tasks
        by_mark = each_job (λ j. j.release ≤ mark) s.tasks
            (subst (AllByRecursion (λ j. j.release ≤ mark)) (sym keeps.jobs) known)

  -- settled steps release all that are to come
  settled_count_from : (xs : List Step) (s : State) → Keeps J s → IsSettledRun rules mark s xs
      → length (releases (printed_of xs)) ≡ coming_count s
  settled_count_from [] s keeps run = sym (barrier_none s keeps run)
  settled_count_from (x ∷ xs) s keeps run =
      let rest : length (releases (printed_of xs)) ≡ coming_count (after s (open_step rules s)) =
      settled_count_from xs (after s (open_step rules s)) (open_kept J valid s keeps rules) run.2 in
      let here : coming_count (after s (open_step rules s)) + released_by (open_step rules s) ≡ coming_count s =
      deed_count s keeps.sound rules.ratio Ticks (open_step rules s) (tick_count s keeps.sound)
      (open_deed J valid s keeps rules) in
      ap (λ (y : Step). length (releases (cons_option (event_of y.move) (printed_of xs)))) run.0
      ∙ one_more (open_step rules s) (printed_of xs)
      ∙ omega (arith, rest, here)

-- each job is to come at the opening
opening_count : (jobs : List JobFacts) → coming_count (opening jobs) ≡ length jobs
opening_count jobs = let it : coming_count (opening jobs) ≡ 1 * length jobs =
    sum_each 1 comes 0 jobs (λ t m. ap (λ b. cond b 1 0)
    (passes is_coming t Coming true (come_coming 0 jobs t m).0 refl)) in omega arith

-- what is settled at a mark releases all jobs, where none is released after it
pub settled_releases : (J : Instance) (mark : ℕ) → IsValid J → AllByRecursion (λ j. j.release ≤ mark) J.jobs
    → length (releases (settled J mark)) ≡ length J.jobs
settled_releases J mark valid known =
    settled_count_from J valid J.rules mark known (settled_steps J mark) (opening J.jobs) (opening_keeps J)
    (settled_is_run J mark valid)
    ∙ opening_count J.jobs

-- ---- over a run

-- a job that is over isn't to come
pub over_not_coming : (t : Task) → is_over t ≡ true → is_coming t ≡ false
over_not_coming t over = of_over (λ role. is_coming (with_role t role) ≡ false) refl refl t over

module _ (J : Instance) (valid : IsValid J) (rules : Rules) where
  -- what is done where no case applies releases none
  rest_count : (s : State) → Keeps J s
      → coming_count (after s (ending s or_else Ticks)) + released_by (ending s or_else Ticks) ≡ coming_count s
  rest_count s keeps = by_all (list_all is_over s.tasks) where
    by_all : (b : Bool) → coming_count
        (after s (then_some b (Prints (End (value_sum (filter is_done s.tasks)))) or_else Ticks)) + released_by
        (then_some b (Prints (End (value_sum (filter is_done s.tasks)))) or_else Ticks) ≡ coming_count s
    by_all true = end_count s keeps.sound (value_sum (filter is_done s.tasks))
    by_all false = tick_count s keeps.sound

  -- a whole run releases all that are to come
  whole_count_from : (xs : List Step) (s : State) → Keeps J s → IsWholeRun rules s xs
      → length (releases (printed_of xs)) ≡ coming_count s
  whole_count_from [] s keeps whole = absurd whole
  whole_count_from (x ∷ xs) s keeps whole =
      ap (λ (y : Step). length (releases (cons_option (event_of y.move) (printed_of xs)))) whole.0
      ∙ one_more (step rules s) (printed_of xs)
      ∙ by_end (is_end (step rules s)) refl whole.1
      (whole_count_from xs (after s (step rules s)) (step_kept J valid s keeps rules)) where
        here : coming_count (after s (step rules s)) + released_by (step rules s) ≡ coming_count s
        here = deed_count s keeps.sound rules.ratio (ending s or_else Ticks) (step rules s) (rest_count s keeps)
            (step_deed J valid s keeps rules)

        by_end : (b : Bool) → is_end (step rules s) ≡ b
            → MatchBool b (xs ≡ []) (IsWholeRun rules (after s (step rules s)) xs)
            → (IsWholeRun rules (after s (step rules s)) xs
            → length (releases (printed_of xs)) ≡ coming_count (after s (step rules s)))
            → released_by (step rules s) + length (releases (printed_of xs)) ≡ coming_count s
        by_end true last none more =
            let it : (step rules s ≡ Prints (End (value_sum (filter is_done s.tasks))))
            × Each (λ t. is_over t ≡ true) s.tasks =
            end_over J valid s keeps rules last in
            let zero_here : coming_count s ≡ 0 = none_comes s.tasks (λ t m. over_not_coming t (it.1 t m)) in
            let zero_more : length (releases (printed_of xs)) ≡ 0 = ap (λ ys. length (releases (printed_of ys))) none in
            omega (arith, here)
        by_end false on rest more = omega (arith, here, more rest)

-- a run releases all jobs
pub run_releases : (J : Instance) → IsValid J → length (releases (printed J)) ≡ length J.jobs
run_releases J valid = whole_count_from J valid J.rules (run J) (opening J.jobs) (opening_keeps J)
    (run_is_whole J valid) ∙ opening_count J.jobs
