-- What a printed step says of the jobs that are seen.
use Rattle.std.proofs.Common.{◌≡◌, ℕ, ◌<◌, ◌⊎◌, inl, inr, refl, ap, ◌∙◌, subst, Bool, true, false, cond, arith, Option}
use Rattle.std.proofs.Common.{Some, None, ◌==◌, ne_eqb}
use Rattle.std.specs.Bool.{then_some}
use Rattle.dover_model.specs.declared.events.Event.{Event}
use Rattle.dover_model.specs.declared.events.Event.TheVariants.{Release, Run, Preempt, Take, Complete, Abandon, End}
use Rattle.dover_model.specs.declared.events.Task.{Task}
use Rattle.dover_model.specs.Common.{Fraction, is_heavy, left, View, Move, Prints, Waits, Ticks, completion, dispatch}
use Rattle.dover_model.specs.Common.{decision, arrival, alarm, ◌or_else◌, resumed, preempts, urgent_or}
use Rattle.ready_jobs.specs.Cases.{next_of}

-- the jobs that the step names, as they are seen
abbrev pub Says : View → Event → Type 0
Says v (Release n j) = (c : Task) × (v.coming ≡ Some c)
Says v (Run at n) =
    (v.running ≡ None) × (((t : Task) × (next_of v v.first_held v.first_waiting ≡ Some t) × (t.number ≡ n))
    ⊎ ((f : Task) × (next_of v v.first_held v.first_waiting ≡ None) × (v.fresh ≡ Some f) × (f.number ≡ n)))
Says v (Preempt at m n) = (r : Task) × (f : Task) × (v.running ≡ Some r) × (v.fresh ≡ Some f) × (r.number ≡ m)
    × (f.number ≡ n)
Says v (Take at m n) = (r : Task) × (x : Task) × (v.running ≡ Some r) × (v.must_start ≡ Some x) × (r.number ≡ m)
    × (x.number ≡ n) × (v.fresh ≡ None)
Says v (Complete at n) = (r : Task) × (v.running ≡ Some r) × (r.number ≡ n)
Says v (Abandon at n) = (r : Task) × (x : Task) × (v.running ≡ Some r) × (v.must_start ≡ Some x) × (x.number ≡ n)
Says v (End value) = ⊥

pub same_event : (a b : Event) → Prints a ≡ Prints b → a ≡ b
same_event a b e = cc

module _ (k : Fraction) (v : View) (e : Event) where
  waits_not : (n : ℕ) → Waits n ≡ Prints e → ⊥
  waits_not n is = cc

  ticks_not : Ticks ≡ Prints e → ⊥
  ticks_not is = cc

  by_alarm : (r x : Task) (b : Bool) → v.running ≡ Some r → v.must_start ≡ Some x → v.fresh ≡ None
      → Prints (cond b (Take v.clock r.number x.number) (Abandon v.clock x.number)) ≡ Prints e → Says v e
  by_alarm r x true runs_is late stale is =
      subst (Says v) (same_event (Take v.clock r.number x.number) e is) (r, x, runs_is, late, refl, refl, stale)
  by_alarm r x false runs_is late stale is =
      subst (Says v) (same_event (Abandon v.clock x.number) e is) (r, x, runs_is, late, refl)

  late_or : (r : Task) (x : Option Task) → v.running ≡ Some r → v.must_start ≡ x → v.fresh ≡ None
      → (alarm k v (Some r) x or_else Ticks) ≡ Prints e → Says v e
  late_or r None runs_is late stale is = absurd (ticks_not is)
  late_or r (Some x) runs_is late stale is =
      by_alarm r x (is_heavy k x.job.value v.privileged_value) runs_is late stale is

  by_release : (c : Task) (b : Bool) (rest : Move) → v.coming ≡ Some c
      → (then_some b (Prints (Release c.number c.job)) or_else rest) ≡ Prints e
      → (rest ≡ Prints e → Says v e) → Says v e
  by_release c true rest comes is next = subst (Says v) (same_event (Release c.number c.job) e is) (c, comes)
  by_release c false rest comes is next = next is

  arrival_or : (c : Option Task) (rest : Move) → v.coming ≡ c → (arrival v c or_else rest) ≡ Prints e
      → (rest ≡ Prints e → Says v e) → Says v e
  arrival_or None rest comes is next = next is
  arrival_or (Some c) rest comes is next = by_release c (c.job.release == v.clock) rest comes is next

  by_decision : (r f : Task) (b : Bool) → v.running ≡ Some r → v.fresh ≡ Some f
      → cond b (Prints (Preempt v.clock r.number f.number)) (Waits f.number) ≡ Prints e → Says v e
  by_decision r f true runs_is fresh is =
      subst (Says v) (same_event (Preempt v.clock r.number f.number) e is) (r, f, runs_is, fresh, refl, refl)
  by_decision r f false runs_is fresh is = absurd (waits_not f.number is)

  decision_or : (r : Task) (f : Option Task) → v.running ≡ Some r → v.fresh ≡ f
      → (decision v (Some r) f or_else arrival v v.coming or_else alarm k v (Some r) v.must_start or_else Ticks)
      ≡ Prints e
      → Says v e
  decision_or r (Some f) runs_is fresh is = by_decision r f (preempts v f r) runs_is fresh is
  decision_or r None runs_is fresh is =
      arrival_or _ _ refl is (λ rest. late_or r v.must_start runs_is refl fresh rest)

  by_completion : (r : Task) (b : Bool) (rest : Move) → v.running ≡ Some r
      → (then_some b (Prints (Complete v.clock r.number)) or_else rest) ≡ Prints e
      → (rest ≡ Prints e → Says v e) → Says v e
  by_completion r true rest runs_is is next =
      subst (Says v) (same_event (Complete v.clock r.number) e is) (r, runs_is, refl)
  by_completion r false rest runs_is is next = next is

  -- where none runs, none is at its latest start
  no_alarm : (x : Option Task) → (alarm k v None x or_else Ticks) ≡ Prints e → ⊥
  no_alarm None is = ticks_not is
  no_alarm (Some x) is = ticks_not is

  free_or : (p o f : Option Task) → v.running ≡ None → v.first_held ≡ p → v.first_waiting ≡ o → v.fresh ≡ f
      → (dispatch v None p o or_else decision v None f or_else arrival v v.coming or_else alarm k v None v.must_start
      or_else
      Ticks) ≡ Prints e → Says v e
  free_or (Some p) o f free held_is waits fresh is =
      subst (Says v) (same_event (Run v.clock (resumed v p o).number) e is) (
        free,
        inl
            (resumed v p o, ap (λ q. next_of v q v.first_waiting) held_is ∙ ap (λ q. next_of v (Some p) q) waits, refl),
      )
  free_or None (Some o) f free held_is waits fresh is =
      subst (Says v) (same_event (Run v.clock o.number) e is)
      (free, inl (o, ap (λ q. next_of v q v.first_waiting) held_is ∙ ap (λ q. next_of v None q) waits, refl))
  free_or None None (Some f) free held_is waits fresh is =
      subst (Says v) (same_event (Run v.clock f.number) e is)
      (free, inr (f, ap (λ q. next_of v q v.first_waiting) held_is ∙ ap (λ q. next_of v None q) waits, fresh, refl))
  free_or None None None free held_is waits fresh is =
      arrival_or _ _ refl is (λ rest. absurd (no_alarm v.must_start rest))

  by_running : (r : Option Task) → v.running ≡ r
      → (completion v r or_else dispatch v r v.first_held v.first_waiting or_else decision v r v.fresh or_else arrival v
      v.coming
      or_else alarm k v r v.must_start or_else Ticks)
      ≡ Prints e → Says v e
  by_running (Some r) runs_is is =
      by_completion _ _ _ runs_is is (λ rest. decision_or r v.fresh runs_is refl rest)
  by_running None free is = free_or v.first_held v.first_waiting v.fresh free refl refl refl is

  pub says : urgent_or k v Ticks ≡ Prints e → Says v e
  says is = by_running v.running refl is

-- a wait is that of the fresh job
module _ (k : Fraction) (v : View) (n : ℕ) where
  prints_not : (e : Event) → Prints e ≡ Waits n → ⊥
  prints_not e is = cc

  rests_not : Ticks ≡ Waits n → ⊥
  rests_not is = cc

  alarm_not : (r x : Option Task) → (alarm k v r x or_else Ticks) ≡ Waits n → ⊥
  alarm_not r None is = rests_not is
  alarm_not None (Some x) is = rests_not is
  alarm_not (Some r) (Some x) is =
      prints_not _ is

  arrival_not : (c r x : Option Task) → (arrival v c or_else alarm k v r x or_else Ticks) ≡ Waits n → ⊥
  arrival_not None r x is = alarm_not r x is
  arrival_not (Some c) r x is = by_test (c.job.release == v.clock) is where
    by_test : (b : Bool) → (then_some b (Prints (Release c.number c.job)) or_else alarm k v r x or_else Ticks) ≡ Waits n
        → ⊥
    by_test true e = prints_not (Release c.number c.job) e
    by_test false e = alarm_not r x e

  same_number : (m : ℕ) → Waits m ≡ Waits n → m ≡ n
  same_number m is = cc

  decides : (r : Task) (f : Option Task) → v.fresh ≡ f
      → (decision v (Some r) f or_else arrival v v.coming or_else alarm k v (Some r) v.must_start or_else Ticks)
      ≡ Waits n
      → (g : Task) × (v.fresh ≡ Some g) × (g.number ≡ n)
  decides r None fresh is = absurd (arrival_not v.coming (Some r) v.must_start is)
  decides r (Some f) fresh is = by_test (preempts v f r) is where
    by_test : (b : Bool) → cond b (Prints (Preempt v.clock r.number f.number)) (Waits f.number) ≡ Waits n → (g : Task)
        × (v.fresh ≡ Some g) × (g.number ≡ n)
    by_test true e = absurd (prints_not (Preempt v.clock r.number f.number) e)
    by_test false e = (f, fresh, same_number f.number e)

  frees : (p o f : Option Task)
      → (dispatch v None p o or_else decision v None f or_else arrival v v.coming or_else alarm k v None v.must_start
      or_else
      Ticks) ≡ Waits n → ⊥
  frees (Some p) o f is = prints_not (Run v.clock (resumed v p o).number) is
  frees None (Some o) f is = prints_not (Run v.clock o.number) is
  frees None None (Some f) is = prints_not (Run v.clock f.number) is
  frees None None None is = arrival_not v.coming None v.must_start is

  by_running_job : (r : Option Task)
      → (completion v r or_else dispatch v r v.first_held v.first_waiting or_else decision v r v.fresh or_else arrival v
      v.coming
      or_else alarm k v r v.must_start or_else Ticks)
      ≡ Waits n → (g : Task) × (v.fresh ≡ Some g) × (g.number ≡ n)
  by_running_job None is = absurd (frees v.first_held v.first_waiting v.fresh is)
  by_running_job (Some r) is = by_test (left r == 0) is where
    by_test : (b : Bool) → (then_some b (Prints (Complete v.clock r.number)) or_else decision v
        (Some r) v.fresh or_else arrival v v.coming
        or_else alarm k v (Some r) v.must_start or_else Ticks) ≡ Waits n
        → (g : Task) × (v.fresh ≡ Some g) × (g.number ≡ n)
    by_test true e = absurd (prints_not (Complete v.clock r.number) e)
    by_test false e = decides r v.fresh refl e

  pub waits_says : urgent_or k v Ticks ≡ Waits n → (g : Task) × (v.fresh ≡ Some g) × (g.number ≡ n)
  waits_says is = by_running_job v.running is

-- while a job runs that isn't done, and nothing else is due, a tick is next
pub ticks_next : (k : Fraction) (v : View) (r : Task) → v.running ≡ Some r → 0 < left r → v.fresh ≡ None
    → v.coming ≡ None → v.must_start ≡ None → urgent_or k v Ticks ≡ Ticks
ticks_next k v r runs some stale still early =
    ap (λ o. completion v o or_else dispatch v o v.first_held v.first_waiting or_else decision v o v.fresh
    or_else arrival v v.coming or_else alarm k v o v.must_start or_else Ticks) runs
    ∙ ap (λ b. then_some b (Prints (Complete v.clock r.number)) or_else decision v (Some r) v.fresh
    or_else arrival v v.coming or_else alarm k v (Some r) v.must_start or_else Ticks)
    (ne_eqb (left r) 0 (λ none. omega (arith, some, none)))
    ∙ ap (λ f. decision v (Some r) f or_else arrival v v.coming or_else alarm k v (Some r) v.must_start or_else Ticks)
    stale
    ∙ ap (λ c. arrival v c or_else alarm k v (Some r) v.must_start or_else Ticks) still
    ∙ ap (λ x. alarm k v (Some r) x or_else Ticks) early
