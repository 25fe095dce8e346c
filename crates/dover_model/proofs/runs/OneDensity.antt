-- Runs of version Four whose jobs are of one density are those of version Three.
use Rattle.std.proofs.Common.{◌≡◌, ℕ, zero, suc, ◌*◌, inl, inr, List, [], ◌∷◌, refl, ap, ◌∙◌, subst, Bool, true, false}
use Rattle.std.proofs.Common.{cond, arith, Option, Some, None}
use Rattle.std.specs.Prelude.{nat_lt, nat_le, not, ◌&&◌, ◌||◌}
use Rattle.std.specs.List.{find, filter, fold}
use Rattle.std.proofs.lemmas.Bool.{le-ltb}
use Rattle.dover_model.specs.Common.{Preempt, Task, Three, Instance, due_first, starts_before, first, earlier, State}
use Rattle.dover_model.specs.Common.{is_fresh, is_coming, is_running, is_waiting, waiting, held, privileged, running}
use Rattle.dover_model.specs.Common.{room, value_sum, opening, Move, Prints, Waits, Ticks, View, step, after, urgent_or}
use Rattle.dover_model.specs.Common.{finish_or, due_finish, ending, ◌or_else◌, completion, dispatch, decision, arrival}
use Rattle.dover_model.specs.Common.{alarm, is_at_latest_start, is_end, run, enough, IsMember, EachTwo, jobs_of}
use Rattle.dover_model.specs.declared.events.Version.TheVariants.{Four}
use Rattle.dover_model.specs.Instance.{in_version}
use Rattle.dover_model.specs.Orders.{waiting_order, is_less_dense}
use Rattle.dover_model.specs.Step.{seen_by}
use Rattle.dover_model.specs.Run.{run_from}
use Rattle.dover_model.proofs.lists.Members.{map_member, member_filter, found}
use Rattle.dover_model.proofs.steps.Kept.{jobs_kept, come_jobs}
use Rattle.dover_model.proofs.runs.Calm.{behind_it}

-- ---- the first in two orders that agree

module _ (before other : Task → Task → Bool) where
  -- a member of the first and the rest is one of all
  skips : (a acc x : Task) (xs : List Task) → IsMember a (acc ∷ xs) → IsMember a (acc ∷ x ∷ xs)
  skips a acc x xs (inl e) = inl e
  skips a acc x xs (inr m) = inr (inr m)

  fold_same : (acc : Task) (xs : List Task) → EachTwo (λ a b. before a b ≡ other a b) (acc ∷ xs)
      → fold (earlier before) acc xs ≡ fold (earlier other) acc xs
  fold_same acc [] agree = refl
  fold_same acc (x ∷ xs) agree =
      ap (λ b. fold (earlier before) (cond b x acc) xs) (agree x acc (inr (inl refl)) (inl refl))
      ∙ by_test (other x acc) (fold_same x xs (λ a b ma mb. agree a b (inr ma) (inr mb)))
      (fold_same acc xs (λ a b ma mb. agree a b (skips a acc x xs ma) (skips b acc x xs mb))) where
        by_test : (b : Bool) → fold (earlier before) x xs ≡ fold (earlier other) x xs
            → fold (earlier before) acc xs ≡ fold (earlier other) acc xs
            → fold (earlier before) (cond b x acc) xs ≡ fold (earlier other) (cond b x acc) xs
        by_test true one two = one
        by_test false one two = two

  -- the first is the same
  first_same : (xs : List Task) → EachTwo (λ a b. before a b ≡ other a b) xs → first before xs ≡ first other xs
  first_same [] agree = refl
  first_same (x ∷ xs) agree = ap Some (fold_same x xs agree)

-- ---- a step

-- no job is less dense than another
abbrev AreAlike : List Task → Type 0
AreAlike tasks = EachTwo (λ a b. is_less_dense a b ≡ false) tasks

module _ (J : Instance) (s : State) (alike : AreAlike s.tasks) where
  -- the view with this first waiting job
  abbrev seen : Option Task → Bool → View
  seen o yields = record {
    clock = s.clock;
    running = running s;
    first_held = first (due_first Four) (held s);
    first_waiting = o;
    fresh = find is_fresh s.tasks;
    coming = find is_coming s.tasks;
    must_start = first (starts_before Four) (filter (is_at_latest_start s) (waiting s));
    held_room = room s.clock (held s);
    privileged_room = room s.clock (privileged s);
    privileged_value = value_sum (privileged s);
    yields = yields;
  }

  -- the order by density is that by deadline
  one_order : EachTwo (λ a b. waiting_order Four true a b ≡ due_first Four a b) (waiting s)
  one_order a b ma mb =
      let in_a : IsMember a s.tasks = (member_filter is_waiting s.tasks a ma).0 in
      let in_b : IsMember b s.tasks = (member_filter is_waiting s.tasks b mb).0 in
      ap (λ c. c || (not (is_less_dense a b) && due_first Four a b)) (alike b a in_b in_a)
      ∙ ap (λ c. not c && due_first Four a b) (alike a b in_a in_b)

  -- case 4 is the same
  one_decision : (o ro fo : Option Task) → running s ≡ ro → find is_fresh s.tasks ≡ fo
      → decision (seen o true) ro fo ≡ decision (seen o false) ro fo
  one_decision o ro None runs fresh = refl
  one_decision o None (Some f) runs fresh = refl
  one_decision o (Some r) (Some f) runs fresh =
      ap (λ c. Some (cond ((nat_lt f.job.deadline r.job.deadline && nat_le f.job.work (room s.clock (privileged s)))
      && not c) (Prints (Preempt s.clock r.number f.number)) (Waits f.number)))
      (alike f r (found is_fresh s.tasks f fresh).0 (found is_running s.tasks r runs).0)

  -- so the case that applies
  one_case : (o : Option Task) (other : Move)
      → urgent_or J.rules.ratio (seen o true) other ≡ urgent_or J.rules.ratio (seen o false) other
  one_case o other = ap (λ d. completion (seen o true) (running s)
      or_else dispatch (seen o true) (running s) (first (due_first Four) (held s)) o
      or_else d
      or_else arrival (seen o true) (find is_coming s.tasks)
      or_else alarm J.rules.ratio (seen o true) (running s)
      (first (starts_before Four) (filter (is_at_latest_start s) (waiting s)))
      or_else other)
      (one_decision o (running s) (find is_fresh s.tasks) refl refl)

  -- and the step
  one_step : step (in_version Four J).rules s ≡ step (in_version Three J).rules s
  one_step = ap (finish_or s.clock (due_finish J.rules.finishes s)) (by_pressed s.pressed) where
    by_pressed : (b : Bool) → urgent_or J.rules.ratio (seen_by Four s b) (ending s or_else Ticks)
        ≡ urgent_or J.rules.ratio (seen_by Three s false) (ending s or_else Ticks)
    by_pressed true = ap (λ o. urgent_or J.rules.ratio (seen o true) (ending s or_else Ticks))
        (first_same (waiting_order Four true) (due_first Four) (waiting s) one_order)
        ∙ one_case (first (due_first Four) (waiting s)) (ending s or_else Ticks)
    by_pressed false = refl

-- ---- a run

module _ (J : Instance) (dense : EachTwo (λ i j. i.value * j.work ≡ j.value * i.work) J.jobs) where
  -- no job of a state of theirs is less dense than another
  are_alike : (s : State) → jobs_of s.tasks ≡ J.jobs → AreAlike s.tasks
  are_alike s jobs a b ma mb =
      let same : a.job.value * b.job.work ≡ b.job.value * a.job.work =
      dense a.job b.job (subst (IsMember a.job) jobs (map_member (λ (t : Task). t.job) s.tasks a ma))
      (subst (IsMember b.job) jobs (map_member (λ (t : Task). t.job) s.tasks b mb)) in
      le-ltb (a.job.value * b.job.work) (b.job.value * a.job.work) (omega arith)

  one_run : (fuel : ℕ) (s : State) → jobs_of s.tasks ≡ J.jobs
      → run_from (in_version Four J).rules fuel s ≡ run_from (in_version Three J).rules fuel s
  one_run zero s jobs = refl
  one_run (suc fuel) s jobs =
      ap (λ m. record { before = s; move = m }
      ∷ behind_it (is_end m) (run_from (in_version Four J).rules fuel (after s m)))
      (one_step J s (are_alike s jobs))
      ∙ ap (λ xs. record { before = s; move = step (in_version Three J).rules s }
      ∷ behind_it (is_end (step (in_version Three J).rules s)) xs)
      (one_run fuel (after s (step (in_version Three J).rules s))
      (jobs_kept s (step (in_version Three J).rules s) ∙ jobs))

  -- the runs are the same
  pub one_density : run (in_version Four J) ≡ run (in_version Three J)
  one_density = one_run (enough J.jobs) (opening J.jobs) (come_jobs 0 J.jobs)
