-- One job completes in a run of a chain, and that is the last link.
use Rattle.std.proofs.Common.{◌≡◌, ℕ, suc, zero, ◌+◌, ◌≤◌, ◌⊎◌, inl, inr, List, [], ◌∷◌, map, refl, sym, ap}
use Rattle.std.proofs.Common.{◌∙◌, subst, Bool, true, false, cond, arith, eqb}
use Rattle.std.specs.Prelude.{None, Some}
use Rattle.std.specs.Bool.{MatchBool, then_some}
use Rattle.std.specs.List.{count_by, list_all, filter, last_or}
use Rattle.std.proofs.lemmas.Bool.{eq-eqb, ne_eqb, cases_lt}
use Rattle.std.proofs.lemmas.List.Sums.{sum_by-cons}
use Rattle.dover_model.specs.declared.events.Version.{Version}
use Rattle.dover_model.specs.declared.events.Role.{Role}
use Rattle.dover_model.specs.declared.events.Role.TheVariants.{Coming, Fresh, Waiting, Held, Running, Done, Gone}
use Rattle.dover_model.specs.declared.events.Event.TheVariants.{Complete, End}
use Rattle.dover_model.specs.declared.events.Task.{Task}
use Rattle.dover_model.specs.Common.{JobFacts, Fraction, Instance, IsValid, first_link, bait_jobs, chain_jobs}
use Rattle.dover_model.specs.Common.{bait_value, State, opening, is_done, is_over, left, privileged, value_sum}
use Rattle.dover_model.specs.Common.{is_heavy, Move, Prints, Ticks, step, after, ending, ◌or_else◌, with_role}
use Rattle.dover_model.specs.Common.{displaced, ticked, Step, is_end, run, IsWholeRun, is_complete, IsMember, Each}
use Rattle.dover_model.specs.Common.{IsSound, jobs_of, Keeps, one_if}
use Rattle.dover_model.proofs.lists.Members.{on_map, map_member, sum_filter, sum_zero}
use Rattle.dover_model.proofs.steps.Roles.{one_number, passes, is_over_role}
use Rattle.dover_model.proofs.steps.OneChange.{state_with, on_changed, changed_here, changed_there}
use Rattle.dover_model.proofs.steps.Ticking.{Quiet}
use Rattle.dover_model.proofs.steps.Deeds.{Deed, Completed, Resumed, Started, Began, Preempted, Stayed, Arrived, Taken}
use Rattle.dover_model.proofs.steps.Deeds.{Abandoned, Rested}
use Rattle.dover_model.proofs.steps.Kept.{step_deed, step_kept, opening_keeps, come_coming, end_same}
use Rattle.dover_model.proofs.runs.Ending.{end_over, run_is_whole}
use Rattle.stated_jobs.specs.bait.BaitingRuns.{baiting, CompletesLastAlone}
use Rattle.stated_jobs.proofs.bait.Steady.{IsLast, IsChained, IsSteady, alone, stands_as, differ, completes}
use Rattle.stated_jobs.proofs.bait.Steady.{no_preemption}
use Rattle.stated_jobs.proofs.bait.Steady.{DoneAtEnd, done_at_end, taken, on_taken, step_steady, value_of_steady}
use Rattle.stated_jobs.proofs.bait.RunLinks.{links_ends}
use Rattle.stated_jobs.proofs.bait.Baited.{most, Link, Light, ratio, small, chained, opening_steady, each_steady}
use Rattle.stated_jobs.proofs.bait.Baited.{worth_last, twins}
use Rattle.stated_jobs.proofs.bait.Twins.{twins_alone}

-- some job is done, or none is
abbrev SomeDone : Bool → List Task → Type 0
SomeDone true tasks = (t : Task) × IsMember t tasks × (t.role ≡ Done)
SomeDone false tasks = Each (λ t. t.role ≡ Done → ⊥) tasks

-- a job that neither was done nor is changes nothing
still_done : (s : State) → IsSound s → (done : Bool) (r : Task) → IsMember r s.tasks → (new : Role)
    → (r.role ≡ Done → ⊥) → (new ≡ Done → ⊥)
    → SomeDone done s.tasks → SomeDone done (state_with s r new).tasks
still_done s sound true r member new was not_new it = (
  it.0,
  changed_there s.tasks r it.0 new it.1 (λ same. was (subst (λ (x : Task). x.role ≡ Done)
      (one_number 0 s.tasks sound.numbered it.0 r it.1 member same) it.2)),
  it.2,
)
still_done s sound false r member new was not_new none =
    on_changed 0 s.tasks sound.numbered r member new (λ t. t.role ≡ Done → ⊥) not_new (λ t m _. none t m)

-- what is displaced isn't done, if it wasn't
displaced_done : (role : Role) → displaced role ≡ Done → role ≡ Done
displaced_done Done e = e
displaced_done _ e = absurd (cc)

-- a move by which a job is done, or that leaves it as it is
record Counts (done : Bool) (s : State) (m : Move) : Type 0 where
  pub then_done : Bool
  pub some : SomeDone then_done (after s m).tasks
  pub balance : one_if then_done ≡ one_if done + one_if (is_complete m)

-- a job whose role is another isn't done
not_done : (t : Task) (role : Role) → t.role ≡ role → (role ≡ Done → ⊥) → t.role ≡ Done → ⊥
not_done t role is_role apart done = apart (sym is_role ∙ done)

module _ (k : Fraction) (jobs : List JobFacts) (most : ℕ) (Link Light : JobFacts → Type 0)
    (chained : IsChained k jobs most Link Light)
    (s : State) (sound : IsSound s) (are : jobs_of s.tasks ≡ jobs) (steady : IsSteady most Link Light s) where
  -- the one that runs completes
  completed_counts : (done : Bool) → SomeDone done s.tasks → (r : Task) → IsMember r s.tasks → r.role ≡ Running
      → left r ≡ 0
      → Counts done s (Prints (Complete s.clock r.number))
  completed_counts true it r member runs none_left =
      absurd (alone k jobs most Link Light chained s sound are it.0 r it.1 member
      (stands_as k jobs most Link Light chained s sound are steady it.0 it.1 Done it.2)
      ((completes k jobs most Link Light chained s sound are steady r member runs none_left).stands (with_role r Done)
      (changed_here 0 s.tasks sound.numbered r member Done))
      (differ k jobs most Link Light chained s sound are steady r it.0 Running Done member it.1 runs it.2 (λ e. cc)))
  completed_counts false none r member runs none_left = record {
    then_done = true;
    some = (with_role r Done, changed_here 0 s.tasks sound.numbered r member Done, refl);
    balance = refl;
  }

  -- no other step changes how many are done
  same_counts : (done : Bool) (m : Move) → is_complete m ≡ false → SomeDone done (after s m).tasks → Counts done s m
  same_counts done m other some = record { then_done = done; some = some; balance = omega (arith, ap one_if other) }

  -- a take changes nothing of it
  taken_counts : (done : Bool) → SomeDone done s.tasks
      → (r x : Task) (member : IsMember r s.tasks) (runs : r.role ≡ Running) (some : 1 ≤ left r)
      (x_member : IsMember x s.tasks) (waiting : x.role ≡ Waiting)
      (heavy : is_heavy k x.job.value (value_sum (privileged s)) ≡ true)
      → SomeDone done (taken k jobs most Link Light chained s sound are steady r x member runs some x_member waiting
      heavy).tasks
  taken_counts true it r x member runs some x_member waiting heavy = (
    with_role it.0 (cond (eqb it.0.number x.number) Running (displaced it.0.role)),
    map_member (λ t. with_role t (cond (eqb t.number x.number) Running (displaced t.role))) s.tasks it.0 it.1,
    ap (λ b. cond b Running (displaced it.0.role)) (ne_eqb it.0.number x.number
        (differ k jobs most Link Light chained s sound are steady x it.0 Waiting Done x_member it.1 waiting it.2
        (λ e. cc)))
        ∙ ap displaced it.2,
  )
  taken_counts false none r x member runs some x_member waiting heavy =
      on_taken _ _ _ _ _ chained _ sound are steady _ _ member runs some x_member waiting heavy (λ t. t.role ≡ Done → ⊥)
      (λ e. let f : Running ≡ Done = e in cc) (λ t m apart e. none t m (displaced_done t.role e))

  -- each deed completes a job, or leaves it as it is
  deed_counts : (other : Move) (done : Bool) → SomeDone done s.tasks → (Quiet s → Counts done s other) → (m : Move)
      → Deed k s other m → DoneAtEnd s m
      → Counts done s m
  deed_counts other done it rested m (Completed r member runs) ends =
      completed_counts done it r member runs (ends refl r member runs)
  deed_counts other done it rested m (Resumed p member is_h none least why) _ = same_counts done _ refl
      (still_done s sound done p member Running (not_done p Held is_h (λ e. cc)) (λ e. cc) it)
  deed_counts other done it rested m (Started o member waiting none before fits next) _ = same_counts done _ refl
      (still_done s sound done o member Running (not_done o Waiting waiting (λ e. cc)) (λ e. cc) it)
  deed_counts other done it rested m (Began f member fresh none free) _ = same_counts done _ refl
      (still_done s sound done f member Running (not_done f Fresh fresh (λ e. cc)) (λ e. cc) it)
  deed_counts other done it rested m (Preempted r f member runs some f_member fresh before fits) _ =
      absurd (no_preemption k jobs most Link Light chained s sound are steady r f member runs f_member fresh fits)
  deed_counts other done it rested m (Stayed r f member runs some f_member fresh why) _ = same_counts done _ refl
      (still_done s sound done f f_member Waiting (not_done f Fresh fresh (λ e. cc)) (λ e. cc) it)
  deed_counts other done it rested m (Arrived c member comes now least stale busy free) _ = same_counts done _ refl
      (still_done s sound done c member Fresh (not_done c Coming comes (λ e. cc)) (λ e. cc) it)
  deed_counts other done it rested m (Taken r x member runs some x_member waiting now stale heavy) _ =
      same_counts done _ refl
      (taken_counts done it r x member runs some x_member waiting heavy)
  deed_counts other done it rested m (Abandoned r x member runs some x_member waiting now stale light) _ =
      same_counts done _ refl
      (still_done s sound done x x_member Gone (not_done x Waiting waiting (λ e. cc)) (λ e. cc) it)
  deed_counts other done it rested m (Rested quiet) _ = rested quiet

  -- a silent tick changes nothing of it
  ticks_counts : (done : Bool) → SomeDone done s.tasks → SomeDone done (map ticked s.tasks)
  ticks_counts true it = (ticked it.0, map_member ticked s.tasks it.0 it.1, it.2)
  ticks_counts false none = on_map ticked (λ t. t.role ≡ Done → ⊥) s.tasks none

  -- nor does a step but a completion
  step_counts : (done : Bool) → SomeDone done s.tasks → (m : Move) → Deed k s (ending s or_else Ticks) m → DoneAtEnd s m
      → Counts done s m
  step_counts done it m deed ends =
      deed_counts (ending s or_else Ticks) done it (by_end (list_all is_over s.tasks)) m deed ends where
        by_end : (b : Bool) → Quiet s
            → Counts done s (then_some b (Prints (End (value_sum (filter is_done s.tasks)))) or_else Ticks)
        by_end true quiet =
            same_counts done _ refl (subst (SomeDone done) (sym (end_same s (value_sum (filter is_done s.tasks)))) it)
        by_end false quiet = same_counts done _ refl (ticks_counts done it)

  -- where all jobs are over, one is done
  over_done : (done : Bool) → SomeDone done s.tasks → Each (λ t. is_over t ≡ true) s.tasks → done ≡ true
  over_done true it over = refl
  over_done false none over = absurd (
      let worth : value_sum (filter is_done s.tasks) ≡ most =
      value_of_steady k jobs most Link Light chained s sound are steady over in
      let nothing : value_sum (filter is_done s.tasks) ≡ 0 = sum_filter is_done (λ t. t.job.value) s.tasks
      ∙ sum_zero (λ t. cond (is_done t) t.job.value 0) s.tasks
      (λ t m. ap (λ b. cond b t.job.value 0) (out t m)) in
      let least : 1 ≤ most = chained.least in omega arith) where
        out : (t : Task) → IsMember t s.tasks → is_done t ≡ false
        out t m = by_role (is_over_role t (over t m)) where
          by_role : (t.role ≡ Done) ⊎ (t.role ≡ Gone) → is_done t ≡ false
          by_role (inl e) = absurd (none t m e)
          by_role (inr e) = passes is_done t Gone false e refl

module _ (k : Fraction) (version : Version) (n : ℕ) (valid : IsValid (baiting k version (suc n)))
    (two : 2 ≤ bait_value k (suc n)) where
  -- the feed
  abbrev feed : Instance
  feed = baiting k version (suc n)

  -- a steady state of its run
  abbrev Steady : State → Type 0
  Steady s = IsSteady (most k version n valid) (Link k version n valid) (Light k version n valid) s

  -- how many of these steps complete a job
  abbrev completions : List Step → ℕ
  completions xs = count_by (λ x. is_complete x.move) xs

  -- the state after a step is steady
  then_steady : (s : State) → Keeps feed s → Steady s → Steady (after s (step feed.rules s))
  then_steady s keeps steady =
      step_steady _ _ _ _ _ (chained k version n valid two) _ keeps.sound keeps.jobs steady _
      (step_deed feed valid s keeps feed.rules) (done_at_end s keeps.sound feed.rules refl)

  -- from a state on one job completes, if none has
  one_completes : (xs : List Step) (s : State) → Keeps feed s → Steady s → (done : Bool) → SomeDone done s.tasks
      → IsWholeRun feed.rules s xs
      → one_if done + completions xs ≡ 1
  one_completes [] s keeps steady done some whole = absurd whole
  one_completes (x ∷ xs) s keeps steady done some whole =
      by_end (is_end (step feed.rules s)) refl whole.1
      (one_completes xs (after s (step feed.rules s)) (step_kept feed valid s keeps feed.rules)
      (then_steady s keeps steady)
      it.then_done it.some) where
        it : Counts done s (step feed.rules s)
        it = step_counts _ _ _ _ _ (chained k version n valid two) _ keeps.sound keeps.jobs steady _ some _
            (step_deed feed valid s keeps feed.rules) (done_at_end s keeps.sound feed.rules refl)

        first_counted : completions (x ∷ xs) ≡ one_if (is_complete (step feed.rules s)) + completions xs
        first_counted = sum_by-cons (λ y. one_if (is_complete y.move)) x xs
            ∙ ap (λ (y : Step). one_if (is_complete y.move) + completions xs) whole.0

        by_end : (b : Bool) → is_end (step feed.rules s) ≡ b
            → MatchBool b (xs ≡ []) (IsWholeRun feed.rules (after s (step feed.rules s)) xs)
            → (IsWholeRun feed.rules (after s (step feed.rules s)) xs → one_if it.then_done + completions xs ≡ 1)
            → one_if done + completions (x ∷ xs) ≡ 1
        by_end true last none more =
            let ends : (step feed.rules s ≡ Prints (End (value_sum (filter is_done s.tasks))))
            × Each (λ t. is_over t ≡ true) s.tasks =
            end_over feed valid s keeps feed.rules last in
            let one : done ≡ true = over_done k (bait_jobs k (suc n)) (most k version n valid) (Link k version n valid)
            (Light k version n valid)
            (chained k version n valid two) s keeps.sound keeps.jobs steady done some ends.1 in
            let no_complete : is_complete (step feed.rules s) ≡ false = ap is_complete ends.0 in
            omega (arith, first_counted, ap one_if one, ap one_if no_complete, ap completions none)
        by_end false on onward more = omega (arith, first_counted, it.balance, more onward)

  -- one job completes in the run
  pub once : completions (run feed) ≡ 1
  once = omega (
    arith,
    one_completes (run feed) (opening feed.jobs) (opening_keeps feed) (opening_steady k version n valid) false
        (λ t m done. let comes : t.role ≡ Coming = (come_coming 0 feed.jobs t m).0 in let e : Coming ≡ Done = sym comes
        ∙ done in cc)
        (run_is_whole feed valid),
  )

  -- a job that completes is the last of the chain
  pub last : (at m : ℕ) → Each (λ x. x.move ≡ Prints (Complete at m)
      → Each (λ t. t.number ≡ m → last_or None (chain_jobs k (suc n)) ≡ Some t.job) x.before.tasks) (run feed)
  last at m x member moves t mt same =
      links_ends k (ratio k version n valid) n 0 (first_link k) None (small k version n valid) t.job done.0 done.1 where
        it : (x.move ≡ step feed.rules x.before) × Keeps feed x.before × Steady x.before
        it = each_steady k version n valid two x member

        later : Steady (after x.before (Prints (Complete at m)))
        later = subst (λ (move : Move). Steady (after x.before move)) (sym it.0 ∙ moves)
            (then_steady x.before it.1 it.2)

        here : IsMember (with_role t Done) (after x.before (Prints (Complete at m))).tasks
        here = subst (λ b. IsMember (with_role t (cond b Done t.role)) (after x.before (Prints (Complete at m))).tasks)
            (eq-eqb t.number m same)
            (map_member (λ u. with_role u (cond (eqb u.number m) Done u.role)) x.before.tasks t mt)

        done : IsLast (most k version n valid) (Link k version n valid) t.job
        done = later.stands (with_role t Done) here

-- the run completes the last job of the chain, and no other
pub completes_last_alone : (k : Fraction) (version : Version) (rounds : ℕ) → 1 ≤ rounds
    → IsValid (baiting k version rounds)
    → CompletesLastAlone k rounds (baiting k version rounds)
completes_last_alone k version zero some valid = absurd (omega arith)
completes_last_alone k version (suc n) some valid = elim (cases_lt 1 (bait_value k (suc n))) [
  | inl two ↦ record {
    worth = worth_last k version n valid two;
    once = once k version n valid two;
    last = last k version n valid two;
  }
  | inr one ↦ let it : (n ≡ 0) × (first_link k ≡ 1) × (bait_value k (suc n) ≡ 1) = twins k version n valid one in
      subst (λ (m : ℕ). IsValid (baiting k version (suc m)) → bait_value k (suc m) ≡ 1
      → CompletesLastAlone k (suc m) (baiting k version (suc m))) (sym it.0)
      (λ valid last. twins_alone k version valid it.1 last) valid it.2
]
