-- A job that runs at the barrier of a mark may finish there, where of the mark's tick nothing is settled but
-- completions, and other jobs that got a free processor.
use Rattle.std.proofs.Common.{◌≡◌, ℕ, ◌+◌, ◌≤◌, ◌<◌, ◌⊎◌, inl, inr, List, [], ◌∷◌, ◌++◌, map, refl, sym, ap, ◌∙◌, subst}
use Rattle.std.proofs.Common.{Bool, true, false, cond, arith, ◌&&◌, ◌==◌, eqb-true, eq-eqb, nat_lt, lt-ltb}
use Rattle.std.proofs.Common.{ltb-true, ltb-false, Option, Some, None}
use Rattle.std.specs.Bool.{then_some}
use Rattle.std.proofs.lemmas.Bool.{and_parts, and_from}
use Rattle.dover_model.specs.declared.events.Event.TheVariants.{Run, Preempt, Take, Complete, Abandon, End, Release}
use Rattle.dover_model.specs.declared.events.Role.{Role}
use Rattle.dover_model.specs.declared.events.Role.TheVariants.{Coming, Fresh, Waiting, Held, Running, Done, Gone}
use Rattle.dover_model.specs.declared.events.Task.{Task}
use Rattle.dover_model.specs.Finishes.{Finish, has_come_to}
use Rattle.dover_model.specs.Common.{Instance, IsValid, IsMember, Each, Begins, with_finishes, finish_now}
use Rattle.dover_model.specs.Common.{Rules, having, is_running, is_privileged, is_fresh, is_heavy, to_come}
use Rattle.dover_model.specs.Step as single
use Rattle.dover_model.proofs.lists.Tests.{never, none_is_some}
use Rattle.dover_model.proofs.lists.Members.{map_member, some_same, found, on_map}
use Rattle.dover_model.proofs.settled.Settling.{at_barrier}
use Rattle.dover_model.proofs.steps.Kept.{come_coming}
use Rattle.dover_model.proofs.steps.Roles.{passes, is_running_role}
use Rattle.many_processors.specs.State.{Placed, State, opening, unplaced, seen_by}
use Rattle.many_processors.specs.Step.{Move, Prints, Waits, Ticks, Seen}
use Rattle.many_processors.specs.Step.{all_seen, first_some, finishing, finish_on, ◌or_try◌}
use Rattle.many_processors.specs.Step.{open_step, after, seen, numbers_from, ◌or_else◌}
use Rattle.many_processors.specs.Step.{completion, resumption, dispatch, decision, deciding, arrival, front, alarm}
use Rattle.many_processors.specs.Step.{free_one, least_valued, for_one, placed}
use Rattle.many_processors.specs.Run as many
use Rattle.many_processors.specs.Sound.{Keeps}
use Rattle.many_processors.specs.Settled.{waits_for_mark, settled_steps, settled_state, IsSettledRun}
use Rattle.many_processors.specs.Finishes.{NoneIsDue, RunsAtMark}
use Rattle.many_processors.proofs.settled.Finishes.{same_begins, same_open, further_alike}
use Rattle.many_processors.proofs.settled.MarkTick.{Less, Came, NoneFresh, IsBeside, IsEarlyOrBeside, all_are, said}
use Rattle.many_processors.proofs.settled.MarkTick.{had_less}
use Rattle.many_processors.proofs.settled.Settling.{AtBarrier, settled_is_run, settled_at_barrier}
use Rattle.many_processors.proofs.steps.Cases.{answered, unanswered, try_none, for_some, completion_acts, is_run}
use Rattle.many_processors.proofs.steps.Cases.{resumption_runs, dispatch_runs, or_split, deciding_member}
use Rattle.many_processors.proofs.steps.Placing.{own_running, seen_member, seen_own}
use Rattle.many_processors.proofs.steps.Seeing.{below_numbers, each_sees}
use Rattle.many_processors.proofs.steps.Stepping.{same_job}
use Rattle.many_processors.proofs.steps.Turns.{which, running_job, open_kept, opening_kept}

-- ---- who has come to a finish

-- the parts of the answer of a processor
pub finish_parts : (f : Finish) (q : Seen) (m : Move) (o : Option Task) → finish_on f q o ≡ Some m
    → (t : Task) × (o ≡ Some t) × (has_come_to t f ≡ true) × (Prints q.processor (Complete q.view.clock t.number) ≡ m)
finish_parts f q m None some = none_is_some some
finish_parts f q m (Some t) some = by_test (has_come_to t f) refl some where
  by_test : (b : Bool) → has_come_to t f ≡ b
      → then_some b (Prints q.processor (Complete q.view.clock t.number)) ≡ Some m
      → (u : Task) × (Some t ≡ Some u) × (has_come_to u f ≡ true)
      × (Prints q.processor (Complete q.view.clock u.number) ≡ m)
  by_test true e is = (t, refl, e, some_same _ _ is)
  by_test false e is = none_is_some is

-- its numbers
pub come_parts : (t : Task) (f : Finish) → has_come_to t f ≡ true → (t.number ≡ f.number) × (t.had ≡ f.had)
come_parts t f e =
    let outer = and_parts ((f.number == t.number) && (f.had == t.had)) (nat_lt 0 t.had) e in
    let inner = and_parts (f.number == t.number) (f.had == t.had) outer.0 in
    (sym (eqb-true _ _ inner.0), sym (eqb-true _ _ inner.1))

module _ (processors : ℕ) (J : Instance) (valid : IsValid J) (some : 1 ≤ processors) (s : State)
    (keeps : Keeps processors J s) where
  -- a finish of a job that has had less isn't due
  not_due : (t : Task) → Less t.number t.had s → NoneIsDue processors J.rules.version (finish_now t ∷ []) s
  not_due t less = by_answer (finishing (all_seen processors J.rules.version s) (finish_now t)) refl where
    by_answer : (o : Option Move) → finishing (all_seen processors J.rules.version s) (finish_now t) ≡ o
        → first_some (finishing (all_seen processors J.rules.version s)) (finish_now t ∷ []) ≡ None
    by_answer None e = ap (λ o. o or_try None) e
    by_answer (Some m) e =
        let q = answered (λ q. finish_on (finish_now t) q q.view.running)
        (all_seen processors J.rules.version s) m e in
        let it = finish_parts (finish_now t) q.0 m q.0.view.running q.2 in
        let i = which processors J valid some J.rules s keeps q.0 q.1 in
        let x = running_job processors J valid some J.rules s keeps q.0.processor it.0
        (subst (λ (r : Seen). r.view.running ≡ Some it.0) i.0 it.1) in
        let parts = come_parts it.0 (finish_now t) it.2 in
        let low : x.0.task.had + 1 ≤ t.had = less x.0 x.1 (ap (λ (u : Task). u.number) x.2 ∙ parts.0) in
        absurd (omega (arith, low, ap (λ (u : Task). u.had) x.2, parts.1))

-- ---- at the barrier

-- where what is done otherwise is late, there is no answer that isn't
or_late : (o : Option Move) (other : Move) → ((m : Move) → o ≡ Some m → waits_for_mark m ≡ false)
    → waits_for_mark (o or_else other) ≡ true → (o ≡ None) × (waits_for_mark other ≡ true)
or_late None other early late = (refl, late)
or_late (Some m) other early late = never (sym (early m refl) ∙ late)

-- what begins or goes on isn't late
run_early : (m : Move) → is_run m ≡ true → waits_for_mark m ≡ false
run_early (Prints q (Run at n)) e = refl
run_early (Prints q (Preempt at r n)) e = never e
run_early (Prints q (Take at r n)) e = never e
run_early (Prints q (Complete at n)) e = never e
run_early (Prints q (Abandon at n)) e = never e
run_early (Prints q (Release n job)) e = never e
run_early (Prints q (End value)) e = never e
run_early (Waits n) e = never e
run_early Ticks e = never e

-- behind what answers none, the first answer is that of the others
pub first_behind : {X Y : Type 0} (f : X → Option Y) (xs ys : List X) → first_some f xs ≡ None
    → first_some f (xs ++ ys) ≡ first_some f ys
first_behind f [] ys none = refl
first_behind f (x ∷ xs) ys none =
    let both = try_none (f x) (first_some f xs) none in
    ap (λ o. o or_try first_some f (xs ++ ys)) both.0 ∙ first_behind f xs ys both.1

-- what comes behind the finishes
abbrev behind_finishes : Rules → List Seen → Move
behind_finishes rules all = for_one decision (deciding all) or_else for_one arrival (front all)
    or_else for_one (alarm rules.ratio) (least_valued all) or_else Ticks

module _ (processors : ℕ) (rules : Rules) (s : State) (late : waits_for_mark (open_step processors rules s) ≡ true)
  where
    abbrev all : List Seen
    all = all_seen processors rules.version s

    abbrev rest : Move
    rest = behind_finishes rules all

    -- no case before the finishes applies, and no finish is due
    pub completes_not : (first_some completion all ≡ None) × (waits_for_mark (first_some resumption all
        or_else for_one dispatch (free_one all) or_else first_some (finishing all) rules.finishes or_else rest) ≡ true)
    completes_not = or_late (first_some completion all) _ (λ m e.
        let q = answered completion all m e in
        let it = completion_acts rules.finishes q.0 m q.0.view.running q.2 in ap waits_for_mark it.3) late

    resumes_not : (first_some resumption all ≡ None) × (waits_for_mark (for_one dispatch (free_one all)
        or_else first_some (finishing all) rules.finishes or_else rest) ≡ true)
    resumes_not = or_late (first_some resumption all) _ (λ m e.
        let q = answered resumption all m e in run_early m (resumption_runs q.0 m q.2)) completes_not.1

    starts_not : (for_one dispatch (free_one all) ≡ None)
        × (waits_for_mark (first_some (finishing all) rules.finishes or_else rest) ≡ true)
    starts_not = or_late (for_one dispatch (free_one all)) _ (λ m e.
        let q = for_some dispatch (free_one all) m e in run_early m (dispatch_runs q.0 m q.2)) resumes_not.1

    pub finishes_not : (first_some (finishing all) rules.finishes ≡ None) × (waits_for_mark rest ≡ true)
    finishes_not = or_late (first_some (finishing all) rules.finishes) rest (λ m e.
        let f = answered (finishing all) rules.finishes m e in
        let q = answered (λ q. finish_on f.0 q q.view.running) all m f.2 in
        let it = finish_parts f.0 q.0 m q.0.view.running q.2 in ap waits_for_mark (sym it.3)) starts_not.1

    -- so with a further finish that is due, its completion is next
    pub next_completes : (more : List Finish) (m : Move) → first_some (finishing all) more ≡ Some m
        → open_step processors (having rules (rules.finishes ++ more)) s ≡ m
    next_completes more m due =
        ap (λ o. o or_else first_some resumption all or_else for_one dispatch (free_one all)
        or_else first_some (finishing all) (rules.finishes ++ more) or_else rest) completes_not.0
        ∙ ap (λ o. o or_else for_one dispatch (free_one all)
        or_else first_some (finishing all) (rules.finishes ++ more) or_else rest) resumes_not.0
        ∙ ap (λ o. o or_else first_some (finishing all) (rules.finishes ++ more) or_else rest) starts_not.0
        ∙ ap (λ o. o or_else rest) (first_behind (finishing all) rules.finishes more finishes_not.0 ∙ due)

module _ (processors : ℕ) (J : Instance) (valid : IsValid J) (some : 1 ≤ processors) (s : State)
    (keeps : Keeps processors J s) (p : Placed) (member : IsMember p s.jobs) (runs : p.task.role ≡ Running)
    (had : 1 ≤ p.task.had) where
  -- the finish that a running job has come to completes it, on its processor
  pub now_due : first_some (finishing (all_seen processors J.rules.version s)) (finish_now p.task ∷ [])
      ≡ Some (Prints p.owner (Complete s.clock p.task.number))
  now_due = by_answer (finishing (all_seen processors J.rules.version s) (finish_now p.task)) refl where
    sees : Seen
    sees = seen J.rules.version s p.owner

    sees_member : IsMember sees (all_seen processors J.rules.version s)
    sees_member =
        let low : p.owner < processors = keeps.placed.owners p member
        (passes is_privileged p.task Running true runs refl) in
        map_member (seen J.rules.version s) (numbers_from 0 processors) p.owner
        (below_numbers p.owner 0 processors (omega arith) (omega (arith, low)))

    comes : has_come_to p.task (finish_now p.task) ≡ true
    comes = and_from ((p.task.number == p.task.number) && (p.task.had == p.task.had)) (nat_lt 0 p.task.had)
        (and_from (p.task.number == p.task.number) (p.task.had == p.task.had)
        (eq-eqb p.task.number p.task.number refl) (eq-eqb p.task.had p.task.had refl))
        (lt-ltb 0 p.task.had (omega (arith, had)))

    by_answer : (o : Option Move) → finishing (all_seen processors J.rules.version s) (finish_now p.task) ≡ o
        → first_some (finishing (all_seen processors J.rules.version s)) (finish_now p.task ∷ [])
        ≡ Some (Prints p.owner (Complete s.clock p.task.number))
    by_answer None e = none_is_some (sym (unanswered (λ q. finish_on (finish_now p.task) q q.view.running)
        (all_seen processors J.rules.version s) e sees sees_member)
        ∙ ap (finish_on (finish_now p.task) sees) (own_running s keeps.sound p member runs)
        ∙ ap (λ b. then_some b (Prints p.owner (Complete s.clock p.task.number))) comes)
    by_answer (Some m) e =
        let q = answered (λ q. finish_on (finish_now p.task) q q.view.running)
        (all_seen processors J.rules.version s) m e in
        let it = finish_parts (finish_now p.task) q.0 m q.0.view.running q.2 in
        let i = which processors J valid some J.rules s keeps q.0 q.1 in
        let seen_t = found is_running (map (seen_by q.0.processor) s.jobs) it.0
        (subst (λ (r : Seen). r.view.running ≡ Some it.0) i.0 it.1) in
        let t_runs : it.0.role ≡ Running = is_running_role it.0 seen_t.1 in
        let x = seen_member q.0.processor s.jobs it.0 Running (λ e. cc) t_runs seen_t.0 in
        let parts = come_parts it.0 (finish_now p.task) it.2 in
        let one_job : x.0 ≡ p = same_job processors J valid s keeps x.0 p x.1 member
        (ap (λ (u : Task). u.number) x.2 ∙ parts.0) in
        let own = seen_own q.0.processor x.0 (ap is_privileged x.3
        ∙ passes is_privileged it.0 Running true t_runs refl) in
        ap (λ o. o or_try None) e ∙ ap Some (sym it.3
        ∙ ap (λ c. Prints q.0.processor (Complete c it.0.number)) (ap (λ (r : Seen). r.view.clock) i.0)
        ∙ ap (λ n. Prints q.0.processor (Complete s.clock n)) parts.0
        ∙ ap (λ n. Prints n (Complete s.clock p.task.number)) (sym own.1 ∙ ap (λ (u : Placed). u.owner) one_job))

-- ---- before it

-- where the first three answer none, what comes behind them is done
pub behind_none : (c r d : Option Move) (other : Move) → c ≡ None → r ≡ None → d ≡ None
    → (c or_else r or_else d or_else other) ≡ other
behind_none c r d other no_c no_r no_d = ap (λ o. o or_else r or_else d or_else other) no_c
    ∙ ap (λ o. o or_else d or_else other) no_r ∙ ap (λ o. o or_else other) no_d

-- what is the same there is the same
pub same_behind : (c r d a b : Option Move) (other : Move) → (c ≡ None → r ≡ None → d ≡ None → a ≡ b)
    → (c or_else r or_else d or_else a or_else other) ≡ (c or_else r or_else d or_else b or_else other)
same_behind (Some m) r d a b other same = refl
same_behind None (Some m) d a b other same = refl
same_behind None None (Some m) a b other same = refl
same_behind None None None a b other same = ap (λ o. o or_else other) (same refl refl refl)

-- an answer in front is the first
first_stays : {X Y : Type 0} (f : X → Option Y) (xs ys : List X) (y : Y) → first_some f xs ≡ Some y
    → first_some f (xs ++ ys) ≡ Some y
first_stays f [] ys y is = none_is_some is
first_stays f (x ∷ xs) ys y is = by_first (f x) is (first_stays f xs ys y) where
  by_first : (o : Option _) → (o or_try first_some f xs) ≡ Some y
      → (first_some f xs ≡ Some y → first_some f (xs ++ ys) ≡ Some y)
      → (o or_try first_some f (xs ++ ys)) ≡ Some y
  by_first None is more = more is
  by_first (Some z) is more = is

module _ (processors : ℕ) (J : Instance) (valid : IsValid J) (some : 1 ≤ processors) (s : State)
    (keeps : Keeps processors J s) (stale : NoneFresh s) (n : ℕ) (more : List Finish) where
  abbrev seen_all : List Seen
  seen_all = all_seen processors J.rules.version s

  -- no processor sees a fresh job
  none_seen : (q : Seen) → IsMember q seen_all → q.view.fresh ≡ None
  none_seen q member = by_fresh q.view.fresh refl where
    by_fresh : (o : Option Task) → q.view.fresh ≡ o → o ≡ None
    by_fresh None e = refl
    by_fresh (Some t) e =
        let i = which processors J valid some J.rules s keeps q member in
        let it = found is_fresh (map (seen_by q.processor) s.jobs) t
        (sym (ap (λ (r : Seen). r.view.fresh) i.0) ∙ e) in
        let fresh : t.role ≡ Fresh = fresh_role t t.role refl it.1 in
        let x = seen_member q.processor s.jobs t Fresh (λ d. cc) fresh it.0 in
        absurd (stale x.0 x.1 (ap (λ (u : Task). u.role) x.2 ∙ fresh)) where
          fresh_role : (t : Task) (role : Role) → t.role ≡ role → is_fresh t ≡ true → t.role ≡ Fresh
          fresh_role t Fresh e is = e
          fresh_role t Coming e is = never (sym (passes is_fresh t Coming false e refl) ∙ is)
          fresh_role t Waiting e is = never (sym (passes is_fresh t Waiting false e refl) ∙ is)
          fresh_role t Held e is = never (sym (passes is_fresh t Held false e refl) ∙ is)
          fresh_role t Running e is = never (sym (passes is_fresh t Running false e refl) ∙ is)
          fresh_role t Done e is = never (sym (passes is_fresh t Done false e refl) ∙ is)
          fresh_role t Gone e is = never (sym (passes is_fresh t Gone false e refl) ∙ is)

  -- what comes behind the finishes isn't beside a job
  decides_not : (m : Move) → for_one decision (deciding seen_all) ≡ Some m → ⊥
  decides_not m is =
      let q = for_some decision (deciding seen_all) m is in
      let member = deciding_member J.rules s seen_all (each_sees processors J.rules.version s) q.0 q.1 in
      by_fresh q.0 (q.0).view.fresh (none_seen q.0 member) q.2 where
        by_fresh : (q : Seen) (f : Option Task) → f ≡ None → placed q (single.decision q.view q.view.running f) ≡ Some m
            → ⊥
        by_fresh q None e is = none_is_some is
        by_fresh q (Some t) e is = none_is_some (sym e)

  arrives_not : (m : Move) → for_one arrival (front seen_all) ≡ Some m → IsBeside n m → ⊥
  arrives_not m is beside =
      let q = for_some arrival (front seen_all) m is in by_coming q.0 (q.0).view.coming q.2 where
        by_now : (q : Seen) (c : Task) (b : Bool)
            → placed q (then_some b (single.Prints (Release c.number c.job))) ≡ Some m → ⊥
        by_now q c true is = never (subst (IsBeside n) (sym (some_same _ _ is)) beside)
        by_now q c false is = none_is_some is

        by_coming : (q : Seen) (o : Option Task) → placed q (single.arrival q.view o) ≡ Some m → ⊥
        by_coming q None is = none_is_some is
        by_coming q (Some c) is = by_now q c (c.job.release == q.view.clock) is

  alarms_not : (m : Move) → for_one (alarm J.rules.ratio) (least_valued seen_all) ≡ Some m → IsBeside n m → ⊥
  alarms_not m is beside =
      let q = for_some (alarm J.rules.ratio) (least_valued seen_all) m is in
      by_parts q.0 (q.0).view.running (q.0).view.must_start q.2 where
        by_value : (q : Seen) (r x : Task) (b : Bool) → placed q (Some (single.Prints
            (cond b (Take q.view.clock r.number x.number) (Abandon q.view.clock x.number)))) ≡ Some m → ⊥
        by_value q r x true is = never (subst (IsBeside n) (sym (some_same _ _ is)) beside)
        by_value q r x false is = never (subst (IsBeside n) (sym (some_same _ _ is)) beside)

        by_parts : (q : Seen) (r x : Option Task) → placed q (single.alarm J.rules.ratio q.view r x) ≡ Some m → ⊥
        by_parts q r None is = none_is_some is
        by_parts q None (Some x) is = none_is_some is
        by_parts q (Some r) (Some x) is = by_value q r x (is_heavy J.rules.ratio x.job.value q.view.privileged_value) is

  behind_not : (m : Move) → behind_finishes J.rules seen_all ≡ m → IsBeside n m → ⊥
  behind_not m is beside = by_fourth (or_split (for_one decision (deciding seen_all)) _ m is) where
    by_sixth : (for_one (alarm J.rules.ratio) (least_valued seen_all) ≡ Some m)
        ⊎ ((for_one (alarm J.rules.ratio) (least_valued seen_all) ≡ None) × (Ticks ≡ m)) → ⊥
    by_sixth (inl some) = alarms_not m some beside
    by_sixth (inr it) = subst (IsBeside n) (sym it.1) beside

    by_fifth : (for_one arrival (front seen_all) ≡ Some m) ⊎ ((for_one arrival (front seen_all) ≡ None)
        × ((for_one (alarm J.rules.ratio) (least_valued seen_all) or_else Ticks) ≡ m)) → ⊥
    by_fifth (inl some) = arrives_not m some beside
    by_fifth (inr it) = by_sixth (or_split (for_one (alarm J.rules.ratio) (least_valued seen_all)) _ m it.1)

    by_fourth : (for_one decision (deciding seen_all) ≡ Some m) ⊎ ((for_one decision (deciding seen_all) ≡ None)
        × ((for_one arrival (front seen_all) or_else for_one (alarm J.rules.ratio) (least_valued seen_all)
        or_else Ticks) ≡ m)) → ⊥
    by_fourth (inl some) = decides_not m some
    by_fourth (inr it) = by_fifth (or_split (for_one arrival (front seen_all)) _ m it.1)

  -- so a step beside a job is the same with further finishes
  beside_same : IsBeside n (open_step processors J.rules s)
      → open_step processors (having J.rules (J.rules.finishes ++ more)) s ≡ open_step processors J.rules s
  beside_same beside = same_behind (first_some completion seen_all) (first_some resumption seen_all)
      (for_one dispatch (free_one seen_all)) (first_some (finishing seen_all) (J.rules.finishes ++ more))
      (first_some (finishing seen_all) J.rules.finishes) (behind_finishes J.rules seen_all)
      (λ c r d. by_own (first_some (finishing seen_all) J.rules.finishes) refl
      (subst (IsBeside n) (behind_none (first_some completion seen_all) (first_some resumption seen_all)
      (for_one dispatch (free_one seen_all)) _ c r d) beside)) where
        by_own : (o : Option Move) → first_some (finishing seen_all) J.rules.finishes ≡ o
            → IsBeside n (o or_else behind_finishes J.rules seen_all)
            → first_some (finishing seen_all) (J.rules.finishes ++ more) ≡ o
        by_own (Some m) is beside = first_stays (finishing seen_all) J.rules.finishes more m is
        by_own None is beside = absurd (behind_not (behind_finishes J.rules seen_all) refl beside)

-- ---- of a mark

module _ (processors : ℕ) (J : Instance) (valid : IsValid J) (some : 1 ≤ processors) (mark : ℕ) where
  -- in the opening all jobs are to come
  none_yet : (role : Role) → (role ≡ Coming → ⊥) → Each (λ u. u.task.role ≡ role → ⊥) (opening J.jobs).jobs
  none_yet role other = on_map unplaced (λ u. u.task.role ≡ role → ⊥) (to_come 0 J.jobs)
      (λ t member is. other (sym is ∙ (come_coming 0 J.jobs t member).0))

  pub barrier : AtBarrier processors J mark (settled_state processors J mark)
  barrier = settled_at_barrier processors J valid some mark

  module _ (p : Placed) (at : RunsAtMark processors J mark p) where
    -- the settled steps are taken before the mark, or beside the job
    steps_are : Each (IsEarlyOrBeside mark p.task.number) (settled_steps processors J mark)
    steps_are = all_are processors J valid some mark p.task.number (settled_steps processors J mark) (opening J.jobs)
        (opening_kept processors J) (omega arith) (λ e. none_yet Fresh (λ f. cc))
        (settled_is_run processors J valid some mark)
        (said processors J valid some mark p.task.number (settled_steps processors J mark) at.before)

    job_came : Came processors J valid some mark p at.runs (opening J.jobs)
        × Each (λ x. x.before.clock < mark → Less p.task.number p.task.had x.before) (settled_steps processors J mark)
    job_came = had_less processors J valid some mark p at.runs (settled_steps processors J mark) (opening J.jobs)
        (opening_kept processors J) (settled_is_run processors J valid some mark) at.member barrier.clock steps_are

    -- with the finish each settled step is the same
    same_steps : (xs : List many.Step) (s : State) → Keeps processors J s → IsSettledRun processors J.rules mark s xs
        → Each (IsEarlyOrBeside mark p.task.number) xs
        → Each (λ x. x.before.clock < mark → Less p.task.number p.task.had x.before) xs
        → Each (λ x. open_step processors (with_finishes J (finish_now p.task ∷ [])).rules x.before
        ≡ open_step processors J.rules x.before) xs
    same_steps [] s keeps run kinds less x member = absurd member
    same_steps (y ∷ ys) s keeps run kinds less x (inr member) = same_steps ys (after s (open_step processors J.rules s))
        (open_kept processors J valid some J.rules s keeps) run.2 (λ z m. kinds z (inr m)) (λ z m. less z (inr m)) x
        member
    same_steps (y ∷ ys) s keeps run kinds less x (inl e) =
        subst (λ (z : many.Step). open_step processors (with_finishes J (finish_now p.task ∷ [])).rules z.before
        ≡ open_step processors J.rules z.before) (sym (e ∙ run.0))
        (by_kind (subst (IsEarlyOrBeside mark p.task.number) run.0 (kinds y (inl refl)))) where
          by_kind : IsEarlyOrBeside mark p.task.number (record { before = s; move = open_step processors J.rules s })
              → open_step processors (with_finishes J (finish_now p.task ∷ [])).rules s
              ≡ open_step processors J.rules s
          by_kind (inl low) = same_open processors J (J.rules.finishes ++ (finish_now p.task ∷ [])) s
              (further_alike processors J (finish_now p.task ∷ []) s
              (not_due processors J valid some s keeps p.task
              (subst (λ (z : many.Step). z.before.clock < mark → Less p.task.number p.task.had z.before) run.0
              (less y (inl refl)) low)))
          by_kind (inr it) =
              beside_same processors J valid some s keeps it.1 p.task.number (finish_now p.task ∷ []) it.2

    -- so what is settled stays
    pub stays_at_mark : Begins (settled_steps processors J mark)
        (settled_steps processors (with_finishes J (finish_now p.task ∷ [])) mark)
    stays_at_mark = same_begins processors J (J.rules.finishes ++ (finish_now p.task ∷ [])) some valid mark mark
        (omega arith) (same_steps (settled_steps processors J mark) (opening J.jobs) (opening_kept processors J)
        (settled_is_run processors J valid some mark) steps_are job_came.1)

    -- the job had a tick
    pub some_had : 1 ≤ p.task.had
    some_had = by_mark (nat_lt 0 mark) refl where
      by_mark : (b : Bool) → nat_lt 0 mark ≡ b → 1 ≤ p.task.had
      by_mark true e = (job_came.0.0 (ltb-true _ _ e)).1
      by_mark false e =
          let none : mark ≤ 0 = ltb-false _ _ e in
          absurd (none_yet Running (λ f. cc) p (job_came.0.1 (omega (arith, none))) at.runs)

    -- and its completion is next
    pub next_at_mark : open_step processors (with_finishes J (finish_now p.task ∷ [])).rules
        (settled_state processors J mark) ≡ Prints p.owner (Complete mark p.task.number)
    next_at_mark = next_completes processors J.rules (settled_state processors J mark)
        (at_barrier (waits_for_mark (open_step processors J.rules (settled_state processors J mark))) mark
        (settled_state processors J mark).clock barrier.barrier).0 (finish_now p.task ∷ [])
        (Prints p.owner (Complete (settled_state processors J mark).clock p.task.number))
        (now_due processors J valid some (settled_state processors J mark) barrier.keeps p at.member at.runs some_had)
        ∙ ap (λ c. Prints p.owner (Complete c p.task.number)) barrier.clock
