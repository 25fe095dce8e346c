-- The tick of the last printed step: where a job runs at a barrier, it tells whether all steps came before its tick.
use Rattle.std.proofs.Common.{◌≡◌, ℕ, zero, suc, ◌+◌, ◌≤◌, ◌<◌, ◌⊎◌, inl, inr, List, [], ◌∷◌, refl, sym, ap, ◌∙◌, subst}
use Rattle.std.proofs.Common.{Bool, true, false, arith, Some, nat_lt, ◌&&◌, fold, lt-ltb, ltb-true, ltb-false}
use Rattle.std.specs.List.{list_all, cons_option}
use Rattle.dover_model.specs.Common.{Fraction, Rules, Instance, IsValid, Event, Coming, Fresh, Running, Task, State}
use Rattle.dover_model.specs.Common.{opening, to_come, running, is_running, Move, Prints, Waits, Ticks, open_step}
use Rattle.dover_model.specs.Common.{after, ticked, Step, event_of, printed_of, waits_for_mark, settled, settled_steps}
use Rattle.dover_model.specs.Common.{settled_state, tick_of_event, last_of, IsBefore, IsOpenPath, IsMember, Each, Keeps}
use Rattle.dover_model.proofs.lists.Members.{found, on_map}
use Rattle.dover_model.proofs.steps.Roles.{is_running_role}
use Rattle.dover_model.proofs.steps.Deeds.{Deed, Stayed, Arrived}
use Rattle.dover_model.proofs.steps.Kept.{open_deed, open_kept, opening_keeps, come_coming}
use Rattle.dover_model.proofs.runs.Ending.{later_clock}
use Rattle.dover_model.proofs.settled.Barriers.{late_none_fresh, state_after}
use Rattle.dover_model.proofs.settled.Settling.{late_early, settled_is_run}
use Rattle.dover_model.proofs.rest.Resting.{settled_path}
use Rattle.dover_model.proofs.lists.Tests.{never}

-- the tick of the last of these steps, or this one where there is none
abbrev pub last_from : ℕ → List Event → ℕ
last_from last events = fold (λ tick e. tick_of_event e) last events

-- after a move
abbrev last_after : ℕ → Move → ℕ
last_after last m = last_from last (cons_option (event_of m) [])

-- further moves
last_on : (last : ℕ) (m : Move) (events : List Event)
    → last_from last (cons_option (event_of m) events) ≡ last_from (last_after last m) events
last_on last (Prints e) events = refl
last_on last _ events = refl

-- a printed step names the clock
pub prints_clock : (k : Fraction) (s : State) (m : Move) → Deed k s Ticks m → (e : Event) → m ≡ Prints e
    → tick_of_event e ≡ s.clock
prints_clock k s m deed e is = ap at_move (sym is) ∙ by_deed m deed (ap prints is) where
  at_move : Move → ℕ
  at_move (Prints f) = tick_of_event f
  at_move (Waits n) = s.clock
  at_move Ticks = s.clock

  prints : Move → Bool
  prints (Prints f) = true
  prints (Waits n) = false
  prints Ticks = false

  by_deed : (m : Move) → Deed k s Ticks m → prints m ≡ true → at_move m ≡ s.clock
  by_deed m (Arrived c member comes now first stale busy free) is = now
  by_deed m _ is = refl

-- so an open step does
pub open_clock : (J : Instance) → IsValid J → (rules : Rules) (s : State) → Keeps J s → (e : Event)
    → open_step rules s ≡ Prints e → tick_of_event e ≡ s.clock
open_clock J valid rules s keeps = prints_clock rules.ratio s (open_step rules s) (open_deed J valid s keeps rules)

-- where a job is fresh, the last step was printed at the clock
abbrev FreshIsLast : ℕ → State → Type 0
FreshIsLast last s = Each (λ t. t.role ≡ Fresh → s.clock ≤ last) s.tasks

-- a job is fresh where one is left to wait
pub waits_fresh : (k : Fraction) (s : State) (m : Move) → Deed k s Ticks m → (n : ℕ) → m ≡ Waits n
    → (t : Task) × IsMember t s.tasks × (t.role ≡ Fresh)
waits_fresh k s m deed n is = by_deed m deed (ap waits is) where
  waits : Move → Bool
  waits (Prints e) = false
  waits (Waits n) = true
  waits Ticks = false

  by_deed : (m : Move) → Deed k s Ticks m → waits m ≡ true → (t : Task) × IsMember t s.tasks × (t.role ≡ Fresh)
  by_deed m (Stayed r f member runs some f_member fresh why) is = (f, f_member, fresh)
  by_deed m _ is = never is

module _ (J : Instance) (valid : IsValid J) (mark : ℕ) where
  -- the deed of a step
  abbrev deed : (s : State) → Keeps J s → Deed J.rules.ratio s Ticks (open_step J.rules s)
  deed s keeps = open_deed J valid s keeps J.rules

  -- it is so after each step
  fresh_is_last : (last : ℕ) (s : State) → Keeps J s → FreshIsLast last s
      → FreshIsLast (last_after last (open_step J.rules s)) (after s (open_step J.rules s))
  fresh_is_last last s keeps so = by_move (open_step J.rules s) (deed s keeps) where
    by_move : (m : Move) → Deed J.rules.ratio s Ticks m → FreshIsLast (last_after last m) (after s m)
    by_move (Prints e) it = λ t member fresh.
        let here : tick_of_event e ≡ s.clock = prints_clock J.rules.ratio s (Prints e) it e refl in omega (arith, here)
    by_move (Waits n) it = λ t member fresh.
        let old = waits_fresh J.rules.ratio s (Waits n) it n refl in so old.0 old.1 old.2
    by_move Ticks it = on_map ticked (λ t. t.role ≡ Fresh → s.clock + 1 ≤ last) s.tasks
        (λ t member fresh. absurd (late_none_fresh J.rules.ratio s Ticks it refl t member fresh))

  -- a step of a low clock leaves the last one low
  low_after : (last : ℕ) (s : State) → Keeps J s → last < mark → s.clock < mark
      → last_after last (open_step J.rules s) < mark
  low_after last s keeps low early = by_move (open_step J.rules s) (deed s keeps) where
    by_move : (m : Move) → Deed J.rules.ratio s Ticks m → last_after last m < mark
    by_move (Prints e) it =
        let here : tick_of_event e ≡ s.clock = prints_clock J.rules.ratio s (Prints e) it e refl in omega (arith, here)
    by_move _ it = low

  -- a step at the mark that comes before the barrier leaves the last one at the mark
  high_after : (last : ℕ) (s : State) → Keeps J s → IsBefore J.rules mark s → FreshIsLast last s ⊎ (mark ≤ last)
      → mark ≤ s.clock → mark ≤ last_after last (open_step J.rules s)
  high_after last s keeps before so late = by_move (open_step J.rules s) (deed s keeps)
      (late_early (waits_for_mark (open_step J.rules s)) mark s.clock before) where
        by_last : FreshIsLast last s ⊎ (mark ≤ last) → (t : Task) → IsMember t s.tasks → t.role ≡ Fresh → mark ≤ last
        by_last (inl first) t member fresh = let here : s.clock ≤ last = first t member fresh in omega arith
        by_last (inr high) t member fresh = high

        by_move : (m : Move) → Deed J.rules.ratio s Ticks m → (waits_for_mark m ≡ true → s.clock < mark)
            → mark ≤ last_after last m
        by_move (Prints e) it early =
            let here : tick_of_event e ≡ s.clock = prints_clock J.rules.ratio s (Prints e) it e refl in
            omega (arith, here)
        by_move (Waits n) it early = let old = waits_fresh J.rules.ratio s (Waits n) it n refl in
            by_last so old.0 old.1 old.2
        by_move Ticks it early = let no : s.clock < mark = early refl in absurd (omega arith)

  -- from the mark on it stays there
  stays_high : (xs : List Step) (s t : State) (last : ℕ) → Keeps J s → IsOpenPath J.rules mark s xs t → mark ≤ s.clock
      → mark ≤ last → mark ≤ last_from last (printed_of xs)
  stays_high [] s t last keeps path late high = high
  stays_high (x ∷ xs) s t last keeps path late high =
      let on : s.clock ≤ (after s (open_step J.rules s)).clock = later_clock s (open_step J.rules s) in
      subst (λ (y : Step). mark ≤ last_from last (cons_option (event_of y.move) (printed_of xs))) (sym path.0)
      (subst (λ n. mark ≤ n) (sym (last_on last (open_step J.rules s) (printed_of xs)))
      (stays_high xs (after s (open_step J.rules s)) t (last_after last (open_step J.rules s))
      (open_kept J valid s keeps J.rules) path.2 (omega arith)
      (high_after last s keeps path.1 (inr high) late)))

  -- all steps of the path were taken before the mark just where the last printed one was
  tells : (xs : List Step) (s t : State) (last : ℕ) → Keeps J s → IsOpenPath J.rules mark s xs t
      → FreshIsLast last s → last < mark
      → list_all (λ x. nat_lt x.before.clock mark) xs ≡ nat_lt (last_from last (printed_of xs)) mark
  tells [] s t last keeps path so low = sym (lt-ltb _ _ low)
  tells (x ∷ xs) s t last keeps path so low =
      let m : Move = open_step J.rules s in
      let keeps_on : Keeps J (after s m) = open_kept J valid s keeps J.rules in
      subst (λ (y : Step). (nat_lt y.before.clock mark && list_all (λ z. nat_lt z.before.clock mark) xs)
      ≡ nat_lt (last_from last (cons_option (event_of y.move) (printed_of xs))) mark) (sym path.0)
      (by_test (nat_lt s.clock mark) refl (λ early. tells xs (after s m) t (last_after last m) keeps_on path.2
      (fresh_is_last last s keeps so) (low_after last s keeps low early))
      (λ late. stays_high xs (after s m) t (last_after last m) keeps_on path.2
      (omega (arith, late, later_clock s m)) (high_after last s keeps path.1 (inl so) late))
      ∙ ap (λ n. nat_lt n mark) (sym (last_on last m (printed_of xs)))) where
        high_false : (n : ℕ) → mark ≤ n → false ≡ nat_lt n mark
        high_false n high = by_low (nat_lt n mark) refl where
          by_low : (b : Bool) → nat_lt n mark ≡ b → false ≡ b
          by_low false e = refl
          by_low true e = let no : n < mark = ltb-true _ _ e in absurd (omega arith)

        by_test : (b : Bool) → nat_lt s.clock mark ≡ b
            → (s.clock < mark → list_all (λ z. nat_lt z.before.clock mark) xs
            ≡ nat_lt (last_from (last_after last (open_step J.rules s)) (printed_of xs)) mark)
            → (mark ≤ s.clock → mark ≤ last_from (last_after last (open_step J.rules s)) (printed_of xs))
            → (b && list_all (λ z. nat_lt z.before.clock mark) xs)
            ≡ nat_lt (last_from (last_after last (open_step J.rules s)) (printed_of xs)) mark
        by_test true e low high = low (ltb-true _ _ e)
        by_test false e low high = high_false _ (high (ltb-false _ _ e))

  -- of what is settled at a mark above 0
  tells_above : 0 < mark
      → list_all (λ x. nat_lt x.before.clock mark) (settled_steps J mark) ≡ nat_lt (last_of (settled J mark)) mark
  tells_above above =
      let it = settled_path J.rules mark (settled_steps J mark) (opening J.jobs) (settled_is_run J mark valid) in
      tells (settled_steps J mark) (opening J.jobs) it.0 0 (opening_keeps J) it.1
      (λ t member fresh. absurd (let e : Coming ≡ Fresh = sym (come_coming 0 J.jobs t member).0 ∙ fresh in cc)) above

-- no number is below 0
none_below : (n : ℕ) → nat_lt n 0 ≡ false
none_below n = by_low (nat_lt n 0) refl where
  by_low : (b : Bool) → nat_lt n 0 ≡ b → b ≡ false
  by_low false e = refl
  by_low true e = let no : n < 0 = ltb-true _ _ e in absurd (omega arith)

-- where a job runs, some step was taken, and at the mark 0 none before its tick
tells_at_first : (J : Instance) (r : Task) (xs : List Step) → running (state_after (opening J.jobs) xs) ≡ Some r
    → (last : ℕ) → list_all (λ x. nat_lt x.before.clock 0) xs ≡ nat_lt last 0
tells_at_first J r [] runs last =
    let it = found is_running (to_come 0 J.jobs) r runs in
    absurd (let e : Coming ≡ Running = sym (come_coming 0 J.jobs r it.0).0 ∙ is_running_role r it.1 in cc)
tells_at_first J r (x ∷ xs) runs last =
    ap (λ b. b && list_all (λ y. nat_lt y.before.clock 0) xs) (none_below x.before.clock) ∙ sym (none_below last)

-- where a job runs at the barrier, all settled steps were taken before the mark's tick just where the last printed one
-- was
pub last_tells : (J : Instance) → IsValid J → (mark : ℕ) (r : Task) → running (settled_state J mark) ≡ Some r
    → list_all (λ x. nat_lt x.before.clock mark) (settled_steps J mark) ≡ nat_lt (last_of (settled J mark)) mark
last_tells J valid zero r runs = tells_at_first J r (settled_steps J 0) runs (last_of (settled J 0))
last_tells J valid (suc mark) r runs = tells_above J valid (suc mark) (omega arith)
