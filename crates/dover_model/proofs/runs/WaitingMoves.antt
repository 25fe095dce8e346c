-- Over a run, jobs begin and cease to wait four times for each job at most.
use Rattle.std.proofs.Common.{◌≡◌, ℕ, ◌+◌, ◌*◌, ◌≤◌, ◌⊎◌, inl, inr, List, [], ◌∷◌, length, refl, sym, ap, ◌∙◌, subst}
use Rattle.std.proofs.Common.{Bool, true, false, not, arith, ◌&&◌, MatchBool, sum_by, filter}
use Rattle.std.specs.Bool.{then_some}
use Rattle.std.specs.List.{list_all}
use Rattle.std.proofs.lemmas.List.Sums.{sum_by-cons}
use Rattle.dover_model.specs.Common.{JobFacts, End, Coming, Task, Rules, Instance, IsValid, State, opening}
use Rattle.dover_model.specs.Common.{to_come, is_waiting, is_over, is_done, value_sum, Move, Prints, Ticks, step}
use Rattle.dover_model.specs.Common.{open_step, after, ending, ◌or_else◌, with_role, ticked, Step, is_end, run}
use Rattle.dover_model.specs.Common.{IsWholeRun, role_then, waits_then, leaves, enters, Each, Keeps, Finish, one_if}
use Rattle.dover_model.specs.Common.{weight, weight_in, standing, exits_scale, waiting_count}
use Rattle.dover_model.proofs.lists.Members.{sum_plus, sum_same, sum_map, sum_zero}
use Rattle.dover_model.proofs.steps.Roles.{passes, of_over}
use Rattle.dover_model.proofs.steps.Ticking.{Quiet}
use Rattle.dover_model.proofs.steps.Leaving.{ceases}
use Rattle.dover_model.proofs.finishes.Readiness.{IsReady, step_decides, open_decides, step_ready, opening_ready}
use Rattle.dover_model.proofs.steps.Kept.{open_deed, step_deed, step_kept, end_same, opening_keeps, come_coming}
use Rattle.dover_model.specs.Weights.{weights_by}
use Rattle.dover_model.proofs.runs.Potential.{Lowers, Weighs, deed_lowers, tick_weighs}
use Rattle.dover_model.proofs.runs.Ending.{end_over, run_is_whole, sum_each}

-- each move lowers what may still cease to wait
pub exits_lower : Lowers exits_scale 0
exits_lower = record { one = omega arith; arrival = omega arith; decision = omega arith; completion = omega arith }

-- one that waits or begins to, ceases to or waits after
balance : (a b : Bool) → one_if a + one_if (b && not a) ≡ one_if (a && not b) + one_if b
balance true true = refl
balance true false = refl
balance false true = refl
balance false false = refl

-- how many wait after a move
count_after : (s : State) (m : Move) → waiting_count (after s m) ≡ sum_by (λ t. one_if (waits_then m t)) s.tasks
count_after s Ticks = sum_map ticked (λ t. one_if (is_waiting t)) s.tasks
count_after s m = sum_map (λ t. with_role t (role_then m t)) (λ t. one_if (is_waiting t)) s.tasks

-- as many wait after a move as before it, but for those that begin and those that cease to
pub counts_balance : (s : State) (m : Move) → waiting_count s + enters s m ≡ leaves s m + waiting_count (after s m)
counts_balance s m =
    sym (sum_plus (λ t. one_if (is_waiting t)) (λ t. one_if (waits_then m t && not (is_waiting t))) s.tasks)
    ∙ sum_same (λ t. one_if (is_waiting t) + one_if (waits_then m t && not (is_waiting t)))
    (λ t. one_if (is_waiting t && not (waits_then m t)) + one_if (waits_then m t)) s.tasks
    (λ t _. balance (is_waiting t) (waits_then m t))
    ∙ sum_plus (λ t. one_if (is_waiting t && not (waits_then m t))) (λ t. one_if (waits_then m t)) s.tasks
    ∙ ap (λ n. leaves s m + n) (sym (count_after s m))

-- nothing changes, none ceases
none_ceases : (a : Bool) → ceases a a ≡ 0
none_ceases true = refl
none_ceases false = refl

-- a silent tick lets none cease to wait
pub tick_leaves : (s : State) → leaves s Ticks ≡ 0
tick_leaves s = sum_zero (λ t. ceases (is_waiting t) (is_waiting t)) s.tasks (λ t _. none_ceases (is_waiting t))

-- nor does End
end_leaves : (s : State) (value : ℕ) → leaves s (Prints (End value)) ≡ 0
end_leaves s value = sum_zero (λ t. ceases (is_waiting t) (is_waiting t)) s.tasks (λ t _. none_ceases (is_waiting t))

-- it changes no weight
end_weighs : (finishes : List Finish) (s : State) (value : ℕ)
    → weights_by finishes exits_scale (after s (Prints (End value))) ≡ weights_by finishes exits_scale s
end_weighs finishes s value = ap (λ (ts : List Task). weights_by finishes exits_scale
    (record s { tasks = ts }))
    (end_same s value)

-- nor does it let one begin
end_enters : (s : State) (value : ℕ) → enters s (Prints (End value)) ≡ 0
end_enters s value = sum_zero (λ t. ceases (is_waiting t) (is_waiting t)) s.tasks (λ t _. none_ceases (is_waiting t))

-- where all are over, none waits
over_waits_none : (s : State) → Each (λ t. is_over t ≡ true) s.tasks → waiting_count s ≡ 0
over_waits_none s over =
    sum_zero (λ t. one_if (is_waiting t)) s.tasks
    (λ t m. of_over (λ role. one_if (is_waiting (with_role t role)) ≡ 0) refl refl t (over t m))

-- how many cease to wait in these steps
abbrev all_leaves : List Step → ℕ
all_leaves xs = sum_by (λ x. leaves x.before x.move) xs

-- how many begin to
abbrev all_enters : List Step → ℕ
all_enters xs = sum_by (λ x. enters x.before x.move) xs

module _ (J : Instance) (valid : IsValid J) (rules : Rules) where
  -- what a step lets cease to wait is taken from the weights
  pub step_leaves : (s : State) → Keeps J s → IsReady rules.finishes s
      → leaves s (step rules s) + weights_by rules.finishes exits_scale (after s
      (step rules s)) ≤ weights_by rules.finishes exits_scale s
  step_leaves s keeps ready = by_case
      (deed_lowers rules.finishes exits_scale 0 exits_lower rules.ratio s (ending s or_else Ticks) keeps.sound ready
      (step rules s) (step_deed J valid s keeps rules) (step_decides s keeps.sound rules))
    where
      rest : (b : Bool) → Quiet s
          → step rules s ≡ (then_some b (Prints (End (value_sum (filter is_done s.tasks)))) or_else Ticks)
          → leaves s (step rules s) + weights_by rules.finishes exits_scale (after s
          (step rules s)) ≤ weights_by rules.finishes exits_scale s
      rest true quiet same = subst (λ m. leaves s m + weights_by rules.finishes exits_scale
          (after s m) ≤ weights_by rules.finishes exits_scale s)
          (sym same)
          (omega (
            arith,
            end_leaves s (value_sum (filter is_done s.tasks)),
            end_weighs rules.finishes s (value_sum (filter is_done s.tasks)),
          ))
      rest false quiet same = subst (λ m. leaves s m + weights_by rules.finishes exits_scale
          (after s m) ≤ weights_by rules.finishes exits_scale s)
          (sym same)
          (omega (arith, tick_leaves s, tick_weighs rules.finishes exits_scale s keeps.sound quiet))

      by_case : (Quiet s × (step rules s
          ≡ (ending s or_else Ticks))) ⊎ Weighs rules.finishes exits_scale 0 s (step rules s)
          → leaves s (step rules s) + weights_by rules.finishes exits_scale (after s
          (step rules s)) ≤ weights_by rules.finishes exits_scale s
      by_case (inl it) = rest (list_all is_over s.tasks) it.0 it.1
      by_case (inr it) = omega (arith, it.leaving, it.falls)

  -- likewise where later jobs may come
  pub open_leaves : (s : State) → Keeps J s → IsReady rules.finishes s
      → leaves s (open_step rules s) + weights_by rules.finishes exits_scale (after s
      (open_step rules s)) ≤ weights_by rules.finishes exits_scale s
  open_leaves s keeps ready = by_case
      (deed_lowers rules.finishes exits_scale 0 exits_lower rules.ratio s Ticks keeps.sound ready (open_step rules s)
      (open_deed J valid s keeps rules) (open_decides s keeps.sound rules))
    where
      by_case : (Quiet s × (open_step rules s ≡ Ticks)) ⊎ Weighs rules.finishes exits_scale 0 s (open_step rules s)
          → leaves s (open_step rules s) + weights_by rules.finishes exits_scale (after s (open_step rules s))
          ≤ weights_by rules.finishes exits_scale s
      by_case (inl it) = subst (λ m. leaves s m + weights_by rules.finishes exits_scale
          (after s m) ≤ weights_by rules.finishes exits_scale s)
          (sym it.1)
          (omega (arith, tick_leaves s, tick_weighs rules.finishes exits_scale s keeps.sound it.0))
      by_case (inr it) = omega (arith, it.leaving, it.falls)

  -- no more cease than may
  few_leave : (xs : List Step) (s : State) → Keeps J s → IsReady rules.finishes s → IsWholeRun rules s xs
      → all_leaves xs ≤ weights_by rules.finishes exits_scale s
  few_leave [] s keeps ready whole = absurd whole
  few_leave (x ∷ xs) s keeps ready whole =
      by_end (is_end (step rules s)) refl whole.1
      (few_leave xs (after s (step rules s)) (step_kept J valid s keeps rules)
      (step_ready J valid s keeps rules ready)) where
        first : all_leaves (x ∷ xs) ≡ leaves s (step rules s) + all_leaves xs
        first = sum_by-cons (λ y. leaves y.before y.move) x xs
            ∙ ap (λ (y : Step). leaves y.before y.move + all_leaves xs) whole.0

        by_end : (b : Bool) → is_end (step rules s) ≡ b
            → MatchBool b (xs ≡ []) (IsWholeRun rules (after s (step rules s)) xs)
            → (IsWholeRun rules (after s (step rules s)) xs
            → all_leaves xs ≤ weights_by rules.finishes exits_scale (after s (step rules s)))
            → all_leaves (x ∷ xs) ≤ weights_by rules.finishes exits_scale s
        by_end true last none more =
            let stays : leaves s (step rules s) ≡ 0 = ap (leaves s) (end_over J valid s keeps rules last).0
            ∙ end_leaves s (value_sum (filter is_done s.tasks)) in
            let empty : all_leaves xs ≡ 0 = ap all_leaves none in omega (arith, first)
        by_end false on onward more = omega (arith, first, more onward, step_leaves s keeps ready)

  -- those that wait and those that begin to are those that cease to
  leave_as_enter : (xs : List Step) (s : State) → Keeps J s → IsWholeRun rules s xs
      → waiting_count s + all_enters xs ≡ all_leaves xs
  leave_as_enter [] s keeps whole = absurd whole
  leave_as_enter (x ∷ xs) s keeps whole =
      by_end (is_end (step rules s)) refl whole.1
      (leave_as_enter xs (after s (step rules s)) (step_kept J valid s keeps rules)) where
        first : all_leaves (x ∷ xs) ≡ leaves s (step rules s) + all_leaves xs
        first = sum_by-cons (λ y. leaves y.before y.move) x xs
            ∙ ap (λ (y : Step). leaves y.before y.move + all_leaves xs) whole.0

        first_in : all_enters (x ∷ xs) ≡ enters s (step rules s) + all_enters xs
        first_in = sum_by-cons (λ y. enters y.before y.move) x xs
            ∙ ap (λ (y : Step). enters y.before y.move + all_enters xs) whole.0

        by_end : (b : Bool) → is_end (step rules s) ≡ b
            → MatchBool b (xs ≡ []) (IsWholeRun rules (after s (step rules s)) xs)
            → (IsWholeRun rules (after s (step rules s)) xs
            → waiting_count (after s (step rules s)) + all_enters xs ≡ all_leaves xs)
            → waiting_count s + all_enters (x ∷ xs) ≡ all_leaves (x ∷ xs)
        by_end true last none more =
            let stays : leaves s (step rules s) ≡ 0 = ap (leaves s) (end_over J valid s keeps rules last).0
            ∙ end_leaves s (value_sum (filter is_done s.tasks)) in
            let stays_in : enters s (step rules s) ≡ 0 = ap (enters s) (end_over J valid s keeps rules last).0
            ∙ end_enters s (value_sum (filter is_done s.tasks)) in
            let empty : all_leaves xs ≡ 0 = ap all_leaves none in
            let empty_in : all_enters xs ≡ 0 = ap all_enters none in
            let nobody : waiting_count s ≡ 0 = over_waits_none s (end_over J valid s keeps rules last).1 in
            omega (arith, first, first_in)
        by_end false on onward more = omega (arith, first, first_in, more onward, counts_balance s (step rules s))

-- each job may cease to wait twice
opening_exits : (finishes : List Finish) (jobs : List JobFacts)
    → weights_by finishes exits_scale (opening jobs) ≡ 2 * length jobs
opening_exits finishes jobs = sum_each 2 (weight exits_scale 0 (standing finishes (to_come 0 jobs))) 0 jobs
    (λ t m. ap (λ role. weight_in exits_scale role 0 (standing finishes (to_come 0 jobs)) t) (come_coming 0 jobs t m).0)

-- none waits at the opening
opening_waits : (jobs : List JobFacts) → waiting_count (opening jobs) ≡ 0
opening_waits jobs = sum_zero (λ t. one_if (is_waiting t)) (to_come 0 jobs)
    (λ t m. ap (λ b. one_if b) (passes is_waiting t Coming false (come_coming 0 jobs t m).0 refl))

-- each job begins and ceases to wait four times at most, on average
pub few_waiting_moves : (J : Instance) → IsValid J → all_enters (run J) + all_leaves (run J) ≤ 4 * length J.jobs
few_waiting_moves J valid = omega (
  arith,
  few_leave J valid J.rules (run J) (opening J.jobs) (opening_keeps J) (opening_ready J.rules.finishes J.jobs)
      (run_is_whole J valid),
  leave_as_enter J valid J.rules (run J)
      (opening J.jobs) (opening_keeps J) (run_is_whole J valid),
  opening_exits J.rules.finishes J.jobs,
  opening_waits J.jobs,
)
