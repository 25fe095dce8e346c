-- Where a factor is declared, no step depends on the ratio beside it.
use Rattle.std.proofs.Common.{◌≡◌, ℕ, zero, suc, ◌+◌, ◌*◌, List, ◌∷◌, length, refl, sym, ap, ◌∙◌, subst}
use Rattle.std.proofs.Common.{Option, Some, None, nat_le, nat_lt, ◌&&◌, cond, map, fold}
use Rattle.std.specs.List.{sum_by, enumerate_from}
use Rattle.dover_model.specs.declared.events.Task.{Task}
use Rattle.dover_model.specs.Common.{Rules, Instance, IsValid, State, opening, Move, Prints, Ticks}
use Rattle.dover_model.specs.declared.events.Event.TheVariants.{Take, Abandon}
use Rattle.dover_model.specs.Common.{due_finish, finish_or, step, open_step, after, Step, is_end, run, enough, ending}
use Rattle.dover_model.specs.Common.{◌or_else◌, View, view, completion, dispatch, decision, arrival, alarm, is_heavy}
use Rattle.dover_model.specs.Common.{waits_for_mark, settled_from, settled_steps, Fraction, worth, worth, observed}
use Rattle.dover_model.specs.Common.{IsWithin}
use Rattle.dover_model.specs.Common.{completed_value, earned, observing}
use Rattle.dover_model.specs.declared.factors.Factor.{Factor}
use Rattle.dover_model.specs.Instance.{with_ratio}
use Rattle.dover_model.specs.Orders.{is_over}
use Rattle.dover_model.specs.Run.{run_from, printed_of, value_of_end}
use Rattle.dover_model.proofs.settled.Settling.{unless}
use Rattle.task_laws.specs.Slower.{IsWithinSlower, worth_by}
use Rattle.task_laws.specs.Slower.{AskAtMost}
use Rattle.std.proofs.Common.{◌≤◌}
use Rattle.dover_model.proofs.bound.BoundLaws.{observed_bound}
use Rattle.task_laws.proofs.ratio.SlowerLaws.{slower}

module _ (k l : Fraction) (f : Factor) (of_k : k.factor ≡ Some f) (of_l : l.factor ≡ Some f) where
  -- the same values are heavy
  heavy_alike : (v w : ℕ) → is_heavy k v w ≡ is_heavy l v w
  heavy_alike v w = ap (λ o. nat_lt w v && is_over k o v w) of_k ∙ ap (λ o. nat_lt w v && is_over l o v w) (sym of_l)

  -- so a job at its latest start has the same fate
  alarm_alike : (v : View) (r x : Option Task) → alarm k v r x ≡ alarm l v r x
  alarm_alike v r None = refl
  alarm_alike v None (Some x) = refl
  alarm_alike v (Some r) (Some x) =
      ap (λ b. Some (Prints (cond b (Take v.clock r.number x.number) (Abandon v.clock x.number))))
      (heavy_alike x.job.value v.privileged_value)

-- a step
abbrev taken : State → Move → Step
taken s m = record { before = s; move = m }

module _ (rules : Rules) (k : Fraction) (f : Factor) (of_rules : rules.ratio.factor ≡ Some f) (of_k : k.factor ≡ Some f)
  where
    -- the rules with the other ratio
    abbrev other : Rules
    other = record { ratio = k; version = rules.version; finishes = rules.finishes }

    -- what comes first of the cases is the same, whatever comes behind them
    urgent_alike : (s : State) (m : Move)
        → finish_or s.clock (due_finish rules.finishes s)
        (completion (view rules.version s) (view rules.version s).running
        or_else dispatch (view rules.version s) (view rules.version s).running (view rules.version s).first_held
        (view rules.version s).first_waiting
        or_else decision (view rules.version s) (view rules.version s).running (view rules.version s).fresh
        or_else arrival (view rules.version s) (view rules.version s).coming
        or_else alarm k (view rules.version s) (view rules.version s).running (view rules.version s).must_start
        or_else m)
        ≡ finish_or s.clock (due_finish rules.finishes s)
        (completion (view rules.version s) (view rules.version s).running
        or_else dispatch (view rules.version s) (view rules.version s).running (view rules.version s).first_held
        (view rules.version s).first_waiting
        or_else decision (view rules.version s) (view rules.version s).running (view rules.version s).fresh
        or_else arrival (view rules.version s) (view rules.version s).coming
        or_else alarm rules.ratio (view rules.version s) (view rules.version s).running
        (view rules.version s).must_start
        or_else m)
    urgent_alike s m = ap (λ o. finish_or s.clock (due_finish rules.finishes s)
        (completion (view rules.version s) (view rules.version s).running
        or_else dispatch (view rules.version s) (view rules.version s).running (view rules.version s).first_held
        (view rules.version s).first_waiting
        or_else decision (view rules.version s) (view rules.version s).running (view rules.version s).fresh
        or_else arrival (view rules.version s) (view rules.version s).coming
        or_else o or_else m))
        (alarm_alike k rules.ratio f of_k of_rules (view rules.version s) (view rules.version s).running
        (view rules.version s).must_start)

    -- an open step is the same
    pub open_same : (s : State) → open_step other s ≡ open_step rules s
    open_same s = urgent_alike s Ticks

    -- a step is the same
    pub step_same : (s : State) → step other s ≡ step rules s
    step_same s = urgent_alike s (ending s or_else Ticks)

    -- so are the open steps up to the barrier
    pub from_same : (mark fuel : ℕ) (s : State) → settled_from other mark fuel s ≡ settled_from rules mark fuel s
    from_same mark zero s = refl
    from_same mark (suc fuel) s =
        ap (λ m. unless (waits_for_mark m && nat_le mark s.clock)
        (taken s m ∷ settled_from other mark fuel (after s m))) (open_same s)
        ∙ ap (λ xs. unless (waits_for_mark (open_step rules s) && nat_le mark s.clock)
        (taken s (open_step rules s) ∷ xs)) (from_same mark fuel (after s (open_step rules s)))

    -- and the steps to End
    pub run_from_same : (fuel : ℕ) (s : State) → run_from other fuel s ≡ run_from rules fuel s
    run_from_same zero s = refl
    run_from_same (suc fuel) s =
        ap (λ m. taken s m ∷ unless (is_end m) (run_from other fuel (after s m))) (step_same s)
        ∙ ap (λ xs. taken s (step rules s) ∷ unless (is_end (step rules s)) xs)
        (run_from_same fuel (after s (step rules s)))

module _ (J : Instance) (k : Fraction) (f : Factor) (of_J : J.rules.ratio.factor ≡ Some f) (of_k : k.factor ≡ Some f)
  where
    -- what is settled is the same
    pub settled_same : (mark : ℕ) → settled_steps (with_ratio k J) mark ≡ settled_steps J mark
    settled_same mark = from_same J.rules k f of_J of_k mark (mark + 6 * length J.jobs + 1) (opening J.jobs)

    -- and the run
    pub run_same : run (with_ratio k J) ≡ run J
    run_same = run_from_same J.rules k f of_J of_k (enough J.jobs) (opening J.jobs)

    -- what a schedule is worth, of the jobs as these steps observed them
    abbrev seen_worth : List ℕ → List Step → ℕ
    seen_worth s xs = sum_by (earned s)
        (enumerate_from 0 (map observing (fold (λ (t : State) x. x.before) (opening J.jobs) xs).tasks))

    -- what these steps complete
    abbrev completes : List Step → ℕ
    completes xs = fold (λ value e. value_of_end e value) 0 (printed_of xs)

    -- so the run keeps the bound of the other ratio, where its jobs do
    pub bound_same : (s : List ℕ) → IsValid (with_ratio k J) → IsWithin k (worth (observed J) s) (completed_value J)
    bound_same s valid = subst (λ xs. IsWithin k (seen_worth s xs) (completes xs)) run_same
        (observed_bound (with_ratio k J) s valid)

    -- and so it is against shorter works
    pub slower_same : (e : Fraction) (works : ℕ → ℕ) (s : List ℕ) → IsValid (with_ratio k J) → 1 ≤ e.q
        → AskAtMost e works (observed J) → IsWithinSlower k e (worth_by works (observed J) s) (completed_value J)
    slower_same e works s valid some most = subst (λ xs. AskAtMost e works (seen xs)
        → IsWithinSlower k e (worth_by works (seen xs) s) (completes xs)) run_same
        (λ asks. slower (with_ratio k J) valid e works some asks s) most where
          -- the jobs as these steps observed them, whatever rules they have
          seen : List Step → Instance
          seen xs = record {
            rules = J.rules;
            jobs = map observing (fold (λ (t : State) x. x.before) (opening J.jobs) xs).tasks;
          }
