-- What a policy picks up to a tick depends on the jobs that are released by then alone.
use Rattle.std.proofs.Common.{◌≡◌, ℕ, suc, zero, ◌+◌, ◌≤◌, ◌<◌, inl, inr, List, [], ◌∷◌, ◌++◌, length, get_or, map}
use Rattle.std.proofs.Common.{refl, sym, ap, ◌∙◌, subst, Bool, true, false, cond, arith, None, unwrap_or, filter}
use Rattle.std.proofs.Common.{append-nil}
use Rattle.std.proofs.lemmas.List.{map-append}
use Rattle.std.proofs.lemmas.List.Elements.{filter-append}
use Rattle.dover_model.specs.Common.{JobFacts, entry_of, to_come, left, last_deadline, given, known_at, IsMember, Each}
use Rattle.dover_model.specs.declared.events.Task.{Task}
use Rattle.dover_model.proofs.lists.Members.{all_member, on_map, member_front}
use Rattle.dover_model.proofs.settled.Prefixes.{come_append}
use Rattle.dover_model.proofs.valid.Valid.{Split, split_known}
use Rattle.dover_model.proofs.valid.Dues.{dues_most}
use Rattle.policy_lab.specs.Picks.{Picks}
use Rattle.policy_lab.specs.PolicyRun.{is_ready, picked, policy_run_from, policy_run}
use Rattle.policy_lab.proofs.Given.{ready_says, given_job}
use Rattle.dover_model.proofs.valid.ValidParts.{ReleasesInOrder}

-- of tasks that can't be ready none is
pub none_ready : (t : ℕ) (tasks : List Task) → Each (λ task. is_ready t task ≡ true → ⊥) tasks
    → filter (is_ready t) tasks ≡ []
none_ready t [] never = refl
none_ready t (task ∷ tasks) never =
    ap (λ b. cond b (task ∷ filter (is_ready t) tasks) (filter (is_ready t) tasks)) (not_so (is_ready t task) refl)
    ∙ none_ready t tasks (λ other m. never other (inr m)) where
      not_so : (b : Bool) → is_ready t task ≡ b → b ≡ false
      not_so false h = refl
      not_so true h = absurd (never task (inl refl) h)

-- what is picked so many ticks after tick t
abbrev pub seen : Picks → (ticks : ℕ) → ℕ → List Task → ℕ
seen picks zero t tasks = picked picks t tasks
seen picks (suc ticks) t tasks = seen picks ticks (t + 1) (map (given (picked picks t tasks)) tasks)

-- what a tick does to tasks changes none of their jobs
each_given : (P : JobFacts → Type 0) (n : ℕ) (tasks : List Task) → Each (λ task. P task.job) tasks
    → Each (λ task. P task.job) (map (given n) tasks)
each_given P n tasks all =
    on_map (given n) (λ task. P task.job) tasks (λ task m. subst P (sym (given_job n task)) (all task m))

module _ (picks : Picks) (idles : picks [] ≡ None) where
  -- behind all deadlines nothing is picked
  none_behind : (ticks t : ℕ) (tasks : List Task) → Each (λ task. task.job.deadline ≤ t) tasks
      → seen picks ticks t tasks ≡ 4_000_000_000
  none_behind zero t tasks over =
      ap (λ ready. unwrap_or (picks (map entry_of ready)) 4_000_000_000)
      (none_ready t tasks (λ task m ready.
      let says : (task.job.release ≤ t) × (0 < left task) × (t + left task ≤ task.job.deadline) =
      ready_says t task ready in
      let due : task.job.deadline ≤ t = over task m in
      let some : 0 < left task = says.1 in let fits : t + left task ≤ task.job.deadline = says.2 in omega arith))
      ∙ ap (λ o. unwrap_or o 4_000_000_000) idles
  none_behind (suc ticks) t tasks over = none_behind ticks (t + 1) (map (given (picked picks t tasks)) tasks)
      (each_given (λ j. j.deadline ≤ t + 1) (picked picks t tasks) tasks
      (λ task m. let due : task.job.deadline ≤ t = over task m in omega arith))

  -- jobs that are released later change nothing of what is picked before
  unseen : (t last : ℕ) (known later : List Task) → t ≤ last → Each (λ task. last < task.job.release) later
      → picked picks t (known ++ later) ≡ picked picks t known
  unseen t last known later early late = ap (λ ready. unwrap_or (picks (map entry_of ready)) 4_000_000_000)
      (filter-append (is_ready t) known later
      ∙ ap (λ rest. filter (is_ready t) known ++ rest)
      (none_ready t later (λ task m ready.
      let released : task.job.release ≤ t = (ready_says t task ready).0 in let above : last < task.job.release =
      late task m in omega arith))
      ∙ append-nil (filter (is_ready t) known))

  -- what a run picks at a tick depends on the known tasks alone
  alone : (last ticks n t : ℕ) (known later : List Task) → t + ticks ≤ last
      → Each (λ task. last < task.job.release) later
      → Each (λ task. task.job.deadline ≤ t + n) known
      → get_or (policy_run_from picks n t (known ++ later)) ticks 4_000_000_000 ≡ seen picks ticks t known
  alone last ticks zero t known later early late due =
      sym (none_behind ticks t known (λ task m. let at_most : task.job.deadline ≤ t + 0 = due task m in omega arith))
  alone last zero (suc n) t known later early late due = unseen t last known later (omega arith) late
  alone last (suc ticks) (suc n) t known later early late due =
      ap (λ tasks. get_or (policy_run_from picks n (t + 1) tasks) ticks 4_000_000_000)
      (ap (λ m. map (given m) (known ++ later)) same ∙ map-append (given number) known later)
      ∙ alone last ticks n (t + 1) (map (given number) known) (map (given number) later) (omega arith)
      (each_given (λ j. last < j.release) number later late)
      (each_given (λ j. j.deadline ≤ t + 1 + n) number known
      (λ task m. let at_most : task.job.deadline ≤ t + suc n = due task m in omega arith)) where
        number : ℕ
        number = picked picks t known

        same : picked picks t (known ++ later) ≡ picked picks t known
        same = unseen t last known later (omega arith) late

-- of the jobs of tasks that are to come
each_come : (P : JobFacts → Type 0) (n : ℕ) (jobs : List JobFacts) → Each P jobs
    → Each (λ task. P task.job) (to_come n jobs)
each_come P n [] all task member = absurd member
each_come P n (j ∷ jobs) all task (inl e) = subst (λ (u : Task). P u.job) (sym e) (all j (inl refl))
each_come P n (j ∷ jobs) all task (inr member) = each_come P (suc n) jobs (λ i m. all i (inr m)) task member

module _ (picks : Picks) (idles : picks [] ≡ None) (t : ℕ) where
  -- what is picked at a tick, from the jobs that are known then
  pub by_known : (jobs : List JobFacts) → ReleasesInOrder jobs → (tick : ℕ) → tick ≤ t
      → get_or (policy_run picks jobs) tick 4_000_000_000 ≡ seen picks tick 0 (to_come 0 (known_at t jobs))
  by_known jobs order tick early =
      ap (λ tasks. get_or (policy_run_from picks (last_deadline jobs) 0 tasks) tick 4_000_000_000)
      (ap (to_come 0) parts.whole ∙ come_append 0 (known_at t jobs) parts.more)
      ∙ alone picks idles t tick (last_deadline jobs) 0 (to_come 0 (known_at t jobs))
      (to_come (0 + length (known_at t jobs)) parts.more) (omega arith)
      (each_come (λ j. t < j.release) _ _ (λ j m. let late : t + 1 ≤ j.release = parts.late j m in omega arith))
      (each_come (λ j. j.deadline ≤ 0 + last_deadline jobs) 0 (known_at t jobs) (λ j m.
      let due : j.deadline ≤ last_deadline jobs =
      all_member (λ (i : JobFacts). i.deadline ≤ last_deadline jobs) jobs (dues_most jobs 0) j
      (subst (IsMember j) (sym parts.whole) (member_front (known_at t jobs) parts.more j m)) in
      omega arith)) where
        parts : Split t jobs
        parts = split_known t jobs order

-- the schedules of a policy agree where the known jobs do
pub on_line : (picks : Picks) (t : ℕ) (jobs others : List JobFacts) → picks [] ≡ None → ReleasesInOrder jobs
    → ReleasesInOrder others
    → known_at t jobs ≡ known_at t others → (tick : ℕ) → tick ≤ t
    → get_or (policy_run picks jobs) tick 4_000_000_000 ≡ get_or (policy_run picks others) tick 4_000_000_000
on_line picks t jobs others idles order order2 same tick early =
    by_known picks idles t jobs order tick early ∙ ap (λ known. seen picks tick 0 (to_come 0 known)) same
    ∙ sym (by_known picks idles t others order2 tick early)
