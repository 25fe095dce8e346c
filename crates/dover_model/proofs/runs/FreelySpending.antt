-- Comparisons are paid for whatever finishes now, where the last step was a silent tick.
use Rattle.std.proofs.Common.{◌≡◌, ℕ, ◌+◌, ◌-◌, ◌*◌, ◌≤◌, ◌⊎◌, inl, inr, List, [], ◌∷◌, length, refl, sym, ap, ◌∙◌}
use Rattle.std.proofs.Common.{subst, Bool, true, false, cond, arith, eqb, eqb-true}
use Rattle.std.proofs.Math.Nat.{mul-le-mul_left}
use Rattle.dover_model.specs.Common.{Fresh, Waiting, Task, Rules, Instance, IsValid, bare, State, is_waiting, Move}
use Rattle.dover_model.specs.Common.{Prints, Waits, Ticks, open_step, after, with_role, ticked, Step, IsMember, Keeps}
use Rattle.dover_model.specs.Common.{IsSilent, Idles, weight, standing, one_if, exits_scale, waiting_count, exits}
use Rattle.dover_model.specs.Common.{waits_among, HasSpentFor, HasSpentFreely}
use Rattle.dover_model.specs.Spending.{exits_freely}
use Rattle.dover_model.proofs.lists.Members.{sum_le, sum_map}
use Rattle.dover_model.proofs.steps.Roles.{one_number}
use Rattle.dover_model.proofs.steps.Moves.{active_slack}
use Rattle.dover_model.proofs.steps.Ticking.{Quiet}
use Rattle.dover_model.proofs.steps.Deeds.{Deed, Stayed, Rested}
use Rattle.dover_model.proofs.steps.Kept.{open_deed, open_kept}
use Rattle.dover_model.proofs.runs.Potential.{one_most, weight_less, weight_of, tick_weight}
use Rattle.dover_model.proofs.runs.WaitingMoves.{open_leaves}
use Rattle.dover_model.proofs.runs.Spending.{exits_each, sum_twice}
use Rattle.dover_model.proofs.lists.Tests.{none_is_some}

-- where nothing stands against a take, no fewer may cease to wait
pub exits_least : (s : State) → exits s ≤ exits_freely s
exits_least s = sum_le (weight exits_scale s.clock (standing [] s.tasks)) (weight exits_scale s.clock 0) s.tasks
    (λ t m. weight_less exits_scale t.role s.clock 0 (standing [] s.tasks) t (omega arith))

-- what has come then, and what may still come
pub freely_so_far : (n : ℕ) (s : State) → length s.tasks ≡ n
    → ((4 * n + waiting_count s) - 2 * exits_freely s) + 2 * exits_freely s ≡ 4 * n + waiting_count s
freely_so_far n s count = by_numbers (waiting_count s) (exits_freely s)
    (subst (λ m. exits_freely s ≤ 2 * m) count (sum_twice (weight exits_scale s.clock 0)
    (λ t. exits_each s.clock 0 t t.role) s.tasks)) where
      by_numbers : (w e : ℕ) → e ≤ 2 * n → ((4 * n + w) - 2 * e) + 2 * e ≡ 4 * n + w
      by_numbers w e most = omega arith

-- what is paid freely is paid
pub freely_spent : (n : ℕ) (s : State) (start now : ℕ) → HasSpentFreely n s start now → HasSpentFor n s start now
freely_spent n s start now spent = λ d enough.
    joins (20 * d * ((4 * n + waiting_count s) - 2 * exits_freely s)) (20 * d * waits_among n s) (spent d enough)
    (mul-le-mul_left (20 * d) (by_numbers (waiting_count s) (exits s) (exits_freely s) (exits_least s))) where
      by_numbers : (w e f : ℕ) → e ≤ f → (4 * n + w) - 2 * f ≤ (4 * n + w) - 2 * e
      by_numbers w e f least = omega arith

      joins : (was is : ℕ) → now ≤ start + was → was ≤ is → now ≤ start + is
      joins was is first second = omega (arith, first, second)

-- after a silent tick, whatever finishes then, no more may cease to wait than before it
tick_frees : (s : State) → Quiet s → (J : Instance) → Keeps J s → exits_freely (after s Ticks) ≤ exits s
tick_frees s quiet J keeps =
    rw (sum_map ticked (weight exits_scale (s.clock + 1) 0) s.tasks)
    (sum_le (λ t. weight exits_scale (s.clock + 1) 0 (ticked t)) (weight exits_scale s.clock (standing [] s.tasks))
    s.tasks (λ t m. tick_weight [] exits_scale s keeps.sound quiet (standing [] s.tasks) 0 t t.role
    (keeps.sound.roles t m) (quiet.early t m) (quiet.busy t m) (active_slack s keeps.sound t m)
    (keeps.sound.at_most_work t m)))

-- a fresh job that waits may cease to as often
wait_frees : (s : State) (J : Instance) → Keeps J s → (f : Task) → IsMember f s.tasks → f.role ≡ Fresh
    → exits_freely (after s (Waits f.number)) ≤ exits_freely s
wait_frees s J keeps f member fresh =
    rw (sum_map (λ t. with_role t (cond (eqb t.number f.number) Waiting t.role)) (weight exits_scale s.clock 0) s.tasks)
    (sum_le (λ t. weight exits_scale s.clock 0 (with_role t (cond (eqb t.number f.number) Waiting t.role)))
    (weight exits_scale s.clock 0) s.tasks (λ t m. by_number t m (eqb t.number f.number) refl)) where
      by_number : (t : Task) → IsMember t s.tasks → (b : Bool) → eqb t.number f.number ≡ b
          → weight exits_scale s.clock 0 (with_role t (cond b Waiting t.role)) ≤ weight exits_scale s.clock 0 t
      by_number t m true same =
          let is : t ≡ f = one_number 0 s.tasks keeps.sound.numbered t f m member (eqb-true _ _ same) in
          omega (
            arith,
            exits_each s.clock 0 (with_role t Waiting) Waiting,
            weight_of exits_scale s.clock 0 t Fresh (ap (λ (u : Task). u.role) is ∙ fresh),
          )
      by_number t m false same = omega arith

-- no fewer wait after a silent step
more_wait : (s : State) (m : Move) → IsSilent m → waiting_count s ≤ waiting_count (after s m)
more_wait s (Prints e) silent = none_is_some (sym silent)
more_wait s (Waits n) silent =
    rw (sum_map (λ t. with_role t (cond (eqb t.number n) Waiting t.role)) (λ t. one_if (is_waiting t)) s.tasks)
    (sum_le (λ t. one_if (is_waiting t))
    (λ t. one_if (is_waiting (with_role t (cond (eqb t.number n) Waiting t.role)))) s.tasks
    (λ t m. by_test t (eqb t.number n))) where
      by_test : (t : Task) (b : Bool)
          → one_if (is_waiting t) ≤ one_if (is_waiting (with_role t (cond b Waiting t.role)))
      by_test t true = one_most (is_waiting t)
      by_test t false = omega arith
more_wait s Ticks silent = rw (sum_map ticked (λ t. one_if (is_waiting t)) s.tasks) (omega arith)

module _ (J : Instance) (valid : IsValid J) (rules : Rules) where
  -- a silent step leaves as much as before it, or, where the clock stays, as much as before it whatever finishes
  silent_frees : (s : State) → Keeps J s → IsSilent (open_step (bare rules) s)
      → (exits_freely (after s (open_step (bare rules) s)) ≤ exits s)
      ⊎ (((after s (open_step (bare rules) s)).clock ≡ s.clock)
      × (exits_freely (after s (open_step (bare rules) s)) ≤ exits_freely s))
  silent_frees s keeps silent = by_deed _ (open_deed J valid s keeps (bare rules)) silent where
    by_deed : (m : Move) → Deed rules.ratio s Ticks m → IsSilent m
        → (exits_freely (after s m) ≤ exits s)
        ⊎ (((after s m).clock ≡ s.clock) × (exits_freely (after s m) ≤ exits_freely s))
    by_deed m (Stayed r f member runs some f_member fresh why) silent =
        inr (refl, wait_frees s J keeps f f_member fresh)
    by_deed m (Rested quiet) silent = inl (tick_frees s quiet J keeps)
    by_deed m _ silent = none_is_some (sym silent)

  -- after silent steps no more may cease to wait, whatever finishes then
  pub idles_free : (xs : List Step) (s u : State) → Keeps J s → Idles (bare rules) s xs u
      → (most : ℕ) → exits s ≤ most → (u.clock ≡ s.clock → exits_freely s ≤ most) → exits_freely u ≤ most
  idles_free [] s u keeps here most bound freely = subst (λ v. exits_freely v ≤ most) here
      (freely (ap (λ (v : State). v.clock) (sym here)))
  idles_free (x ∷ xs) s u keeps idles most bound freely =
      let y : State = after s (open_step (bare rules) s) in
      by_step (silent_frees s keeps idles.1)
      (idles_free xs y u (open_kept J valid s keeps (bare rules)) idles.3 most) where
        by_step : (exits_freely (after s (open_step (bare rules) s)) ≤ exits s)
            ⊎ (((after s (open_step (bare rules) s)).clock ≡ s.clock)
            × (exits_freely (after s (open_step (bare rules) s)) ≤ exits_freely s))
            → (exits (after s (open_step (bare rules) s)) ≤ most
            → (u.clock ≡ (after s (open_step (bare rules) s)).clock
            → exits_freely (after s (open_step (bare rules) s)) ≤ most) → exits_freely u ≤ most)
            → exits_freely u ≤ most
        by_step (inl less) rest = rest
            (omega (arith, less, bound, exits_least (after s (open_step (bare rules) s))))
            (λ same. omega (arith, less, bound))
        by_step (inr it) rest = rest
            (omega (arith, bound, open_leaves J valid (bare rules) s keeps (λ _ _ _. refl)))
            (λ same. let few : exits_freely s ≤ most = freely (same ∙ it.0) in omega (arith, few, it.1))

  -- and no fewer wait
  pub idles_wait : (xs : List Step) (s u : State) → Idles rules s xs u → waiting_count s ≤ waiting_count u
  idles_wait [] s u here = subst (λ v. waiting_count s ≤ waiting_count v) here (omega arith)
  idles_wait (x ∷ xs) s u idles = omega (
    arith,
    more_wait s (open_step rules s) idles.1,
    idles_wait xs (after s (open_step rules s)) u idles.3,
  )
