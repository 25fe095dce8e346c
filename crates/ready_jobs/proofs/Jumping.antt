-- Where the next step is a silent tick, and for how long it is.
use Rattle.std.proofs.Common.{◌≡◌, true, false, Bool, cond, refl, subst, sym, ℕ, ◌-◌, ◌∙◌, eq-eqb, ap, ne_eqb, ◌⊎◌, inl}
use Rattle.std.proofs.Common.{[], inr, ◌+◌, ◌≤◌, ◌<◌, min, arith, List, ◌∷◌, map, Some, None, Option, ◌==◌, nat_le}
use Rattle.std.proofs.Common.{find, filter, fold, leb-true, leb-false, option_map}
use Rattle.std.specs.Bool.{then_some}
use Rattle.std.proofs.lemmas.Bool.{cases_lt}
use Rattle.dover_model.specs.declared.events.Task.{Task}
use Rattle.dover_model.specs.Common.{State, is_fresh, is_coming, is_waiting, is_held, left, latest_start, running}
use Rattle.dover_model.specs.Common.{waiting, is_running, Each, IsMember, View, Prints, Waits, Ticks, Move, ◌or_else◌}
use Rattle.dover_model.specs.Common.{arrival, alarm, preempts, view, runs, declared_open_step, urgent_or}
use Rattle.dover_model.specs.Common.{is_at_latest_start, Fraction, Rules, first, earlier, due_first, starts_before}
use Rattle.dover_model.specs.Common.{ticked_by, later_by}
use Rattle.dover_model.specs.Common.{by_density, waiting_order}
use Rattle.ready_jobs.proofs.Deciding.{busy, free, busy_is, free_is}
use Rattle.dover_model.specs.declared.events.Event.TheVariants.{Preempt, Release}
use Rattle.dover_model.proofs.lists.Members.{some_same, by_bool, filter_member, member_filter, reduce_none, filter_none}
use Rattle.dover_model.proofs.lists.Members.{found, on_map, map_member}
use Rattle.dover_model.proofs.lists.Tests.{none_is_some, never}
use Rattle.ready_jobs.specs.Cases.{next_of, next_ready, arrival_of}
use Rattle.ready_jobs.specs.Dues.{ticks_until, until_latest, until_done, until_release, still_ticks}
use Rattle.dover_model.proofs.steps.Roles.{passes, is_waiting_role}
use Rattle.dover_model.specs.declared.events.Role.TheVariants.{Waiting}

-- ---- where a silent tick is next

-- nothing is due at the clock
pub record Still (s : State) : Type 0 where
  free : running s ≡ None → Each (λ t. (is_waiting t ≡ false) × (is_held t ≡ false)) s.tasks
  busy : (r : Task) → running s ≡ Some r → left r ≡ 0 → ⊥
  pub stale : find is_fresh s.tasks ≡ None
  ahead : (c : Task) → find is_coming s.tasks ≡ Some c → c.job.release ≡ s.clock → ⊥
  early : (r : Task) → running s ≡ Some r → Each (λ t. is_waiting t ≡ true → latest_start t ≡ s.clock → ⊥) s.tasks

-- neither a preemption nor a wait is a tick
decides : (v : View) (r f : Task) (b : Bool)
    → cond b (Prints (Preempt v.clock r.number f.number)) (Waits f.number) ≡ Ticks → ⊥
decides v r f true e = cc
decides v r f false e = cc

-- a job arrives now, or not
arrives : (v : View) (c : Task) (b : Bool) (rest : Move)
    → (then_some b (Prints (Release c.number c.job)) or_else rest) ≡ Ticks → (b ≡ false)
    × (rest ≡ Ticks)
arrives v c true rest e = absurd (cc)
arrives v c false rest e = (refl, e)

-- what follows where a job runs and a tick is next
record BusyTick (v : View) (done : Bool) (f c x : Option Task) : Type 0 where
  more : done ≡ false
  stale : f ≡ None
  ahead : (t : Task) → c ≡ Some t → (t.job.release == v.clock) ≡ false
  early : x ≡ None

busy_ticks : (k : Fraction) (v : View) (r : Task) (done : Bool) (f c x : Option Task)
    → busy k v r done f (arrival v c) x Ticks ≡ Ticks
    → BusyTick v done f c x
busy_ticks k v r true f c x e = absurd (cc)
busy_ticks k v r false (Some f) c x e = absurd (decides v r f (preempts v f r) e)
busy_ticks k v r false None None (Some x) e = absurd (cc)
busy_ticks k v r false None None None e =
    record { more = refl; stale = refl; ahead = λ t same. none_is_some same; early = refl }
busy_ticks k v r false None (Some c) None e = record {
  more = refl;
  stale = refl;
  ahead = λ t same. subst (λ u. (u.job.release == v.clock) ≡ false) (some_same c t same)
      (arrives v c (c.job.release == v.clock) Ticks e).0;
  early = refl;
}
busy_ticks k v r false None (Some c) (Some x) e =
    absurd (let late : (alarm k v (Some r) (Some x) or_else Ticks) ≡ Ticks =
    (arrives v c (c.job.release == v.clock) (alarm k v (Some r) (Some x) or_else Ticks) e).1 in cc)

-- what follows where none runs
record FreeTick (v : View) (next f c : Option Task) : Type 0 where
  none : next ≡ None
  stale : f ≡ None
  ahead : (t : Task) → c ≡ Some t → (t.job.release == v.clock) ≡ false

free_ticks : (v : View) (next f c : Option Task) → free v next f (arrival v c) Ticks ≡ Ticks → FreeTick v next f c
free_ticks v (Some t) f c e = absurd (cc)
free_ticks v None (Some f) c e = absurd (cc)
free_ticks v None None None e = record { none = refl; stale = refl; ahead = λ t same. none_is_some same }
free_ticks v None None (Some c) e = record {
  none = refl;
  stale = refl;
  ahead = λ t same. subst (λ u. (u.job.release == v.clock) ≡ false) (some_same c t same)
      (arrives v c (c.job.release == v.clock) Ticks e).0;
}

-- where none gets the processor, none is held and none waits
none_ready : (v : View) (p o : Option Task) → next_of v p o ≡ None → (p ≡ None) × (o ≡ None)
none_ready v (Some p) o e = none_is_some (sym e)
none_ready v None o e = (refl, e)

-- a test of numbers that fails
apart : (m n : ℕ) → (m == n) ≡ false → m ≡ n → ⊥
apart m n fails same = never (sym fails ∙ eq-eqb m n same)

module _ (rules : Rules) (s : State) where
  abbrev v : View
  v = view rules.version s

  -- where a tick is next, nothing is due
  pub tick_still : declared_open_step rules s ≡ Ticks → Still s
  tick_still ticks = by_running (running s) refl where
    by_running : (o : Option Task) → running s ≡ o → Still s
    by_running (Some r) runs =
        let it : BusyTick v (left r == 0) (find is_fresh s.tasks) (find is_coming s.tasks) v.must_start =
        busy_ticks rules.ratio v
        r _ _ _ _ (busy_is rules.ratio rules.version s Ticks r _ _ _ _ runs refl refl refl refl ∙ ticks) in
        record {
          free = λ none. none_is_some (sym none ∙ runs);
          busy = λ u same. apart _ _ (subst (λ w. (left w == 0) ≡ false) (some_same r u (sym runs ∙ same)) it.more);
          stale = it.stale;
          ahead = λ c first. apart _ _ (it.ahead c first);
          early = λ u same t member waits now.
              reduce_none (earlier (starts_before rules.version)) (filter (is_at_latest_start s) (waiting s)) it.early t
              (filter_member _ _ _ (filter_member is_waiting s.tasks t member waits) (eq-eqb _ _ now));
        }
    by_running None none =
        let it : FreeTick v (next_ready rules.version s) (find is_fresh s.tasks) (find is_coming s.tasks) =
        free_ticks v _ _ _ (free_is rules.ratio rules.version s Ticks _ _ _ none refl refl refl ∙ ticks) in
        let both : (v.first_held ≡ None) × (v.first_waiting ≡ None) =
        none_ready v v.first_held v.first_waiting it.none in
        record {
          free = λ _ t member. (
            by_bool (is_waiting t ≡ false) (is_waiting t)
                (λ yes. absurd (reduce_none _ _ both.1 _ (filter_member is_waiting s.tasks t member yes))) (λ no. no),
            by_bool (is_held t ≡ false) (is_held t)
                (λ yes. absurd (reduce_none _ _ both.0 _ (filter_member is_held s.tasks t member yes))) (λ no. no),
          );
          busy = λ u same. none_is_some (sym none ∙ same);
          stale = it.stale;
          ahead = λ c first. apart _ _ (it.ahead c first);
          early = λ u same. none_is_some (sym none ∙ same);
        }

  -- where nothing is due, nothing else is next
  still_rests : (other : Move) → Still s → urgent_or rules.ratio v other ≡ other
  still_rests other still = by_running (running s) refl where
    none_arrives : (o : Option Task) → find is_coming s.tasks ≡ o → arrival_of v ≡ None
    none_arrives None first = ap (arrival v) first
    none_arrives (Some c) first = ap (arrival v) first
        ∙ ap (λ b. then_some b (Prints (Release c.number c.job))) (ne_eqb _ _ (still.ahead c first))

    by_running : (o : Option Task) → running s ≡ o → urgent_or rules.ratio v other ≡ other
    by_running (Some r) runs =
        sym (busy_is rules.ratio rules.version s other r false None None None runs
        (ne_eqb _ _ (still.busy r runs)) still.stale
        (none_arrives (find is_coming s.tasks) refl)
        (ap (first (starts_before rules.version)) (filter_none (is_at_latest_start s) (waiting s) (λ t member.
        let it : IsMember t s.tasks × (is_waiting t ≡ true) = member_filter is_waiting s.tasks t member in
        ne_eqb _ _ (still.early r runs t it.0 it.1)))))
    by_running None none = sym (free_is rules.ratio rules.version s other None None None none
        (ap (λ p. next_of v p v.first_waiting) (ap (first (due_first rules.version))
        (filter_none is_held s.tasks (λ t member. (still.free none t member).1)))
        ∙ ap (first (waiting_order rules.version (by_density rules.version s.pressed)))
        (filter_none is_waiting s.tasks (λ t member. (still.free none t member).0)))
        still.stale (none_arrives (find is_coming s.tasks) refl))

-- ---- for how long

-- what n is where it is the ticks before a moment
record Until (moment clock most n : ℕ) : Type 0 where
  within : n ≤ most
  before : clock < moment → clock + n ≤ moment
  reached : (n ≡ most) ⊎ ((clock < moment) × (clock + n ≡ moment))

until : (moment clock most : ℕ) → Until moment clock most (ticks_until moment clock most)
until moment clock most = by_test (nat_le moment clock) refl where
  by_less : (moment - clock < most) ⊎ (most ≤ moment - clock) → clock < moment
      → Until moment clock most (min most (moment - clock))
  by_less (inl less) ahead =
      record { within = omega arith; before = λ _. omega arith; reached = inr (ahead, omega arith) }
  by_less (inr more) ahead = record { within = omega arith; before = λ _. omega arith; reached = inl (omega arith) }

  by_test : (b : Bool) → nat_le moment clock ≡ b → Until moment clock most (cond b most (min most (moment - clock)))
  by_test true e = let past : moment ≤ clock = leb-true _ _ e in record
      { within = omega arith; before = λ ahead. absurd (omega arith); reached = inl refl }
  by_test false e = by_less (cases_lt (moment - clock) most) (leb-false _ _ e)

-- a waiting job reaches its latest start then
record Reaches (clock n : ℕ) (waiting : List Task) : Type 0 where
  job : Task
  member : IsMember job waiting
  ahead : clock < latest_start job
  now : clock + n ≡ latest_start job

-- what n is where it is the ticks before a latest start
record UntilLatest (clock most n : ℕ) (waiting : List Task) : Type 0 where
  within : n ≤ most
  before : Each (λ t. clock < latest_start t → clock + n ≤ latest_start t) waiting
  reached : (n ≡ most) ⊎ Reaches clock n waiting

-- with one waiting job more
latest_cons : (clock most mid n : ℕ) (t : Task) (ts : List Task) → Until (latest_start t) clock most mid
    → UntilLatest clock mid n ts
    → UntilLatest clock most n (t ∷ ts)
latest_cons clock most mid n t ts one rest = record {
  within = let low : n ≤ mid = rest.within in let high : mid ≤ most = one.within in omega arith;
  before = each;
  reached = by_reached rest.reached one.reached;
} where
  each : Each (λ u. clock < latest_start u → clock + n ≤ latest_start u) (t ∷ ts)
  each u (inl e) = subst (λ w. clock < latest_start w → clock + n ≤ latest_start w) (sym e)
      (λ ahead. let at : clock + mid ≤ latest_start t = one.before ahead in let low : n ≤ mid = rest.within in
      omega arith)
  each u (inr member) = rest.before u member

  by_one : n ≡ mid → (mid ≡ most) ⊎ ((clock < latest_start t) × (clock + mid ≡ latest_start t)) → (n ≡ most)
      ⊎ Reaches clock n (t ∷ ts)
  by_one same (inl e) = inl (same ∙ e)
  by_one same (inr it) = inr
      (record { job = t; member = inl refl; ahead = it.0; now = ap (λ m. clock + m) same ∙ it.1 })

  by_reached : (n ≡ mid) ⊎ Reaches clock n ts → (mid ≡ most)
      ⊎ ((clock < latest_start t) × (clock + mid ≡ latest_start t))
      → (n ≡ most) ⊎ Reaches clock n (t ∷ ts)
  by_reached (inl same) first = by_one same first
  by_reached (inr it) first = inr (record { job = it.job; member = inr it.member; ahead = it.ahead; now = it.now })

latest : (clock : ℕ) (ts : List Task) (most : ℕ) → UntilLatest clock most (fold (until_latest clock) most ts) ts
latest clock [] most = record { within = omega arith; before = λ t member. absurd member; reached = inl refl }
latest clock (t ∷ ts) most =
    latest_cons _ _ _ _ _ _ (until (latest_start t) clock most) (latest clock ts (until_latest clock most t))

-- what n is where it is the ticks before the running job is done
record UntilDone (runner : Option Task) (most n : ℕ) : Type 0 where
  within : n ≤ most
  before : (r : Task) → runner ≡ Some r → n ≤ left r
  reached : (n ≡ most) ⊎ ((r : Task) × (runner ≡ Some r) × (n ≡ left r))

done_by : (runner : Option Task) (most : ℕ) → UntilDone runner most (until_done runner most)
done_by None most = record { within = omega arith; before = λ r none. none_is_some none; reached = inl refl }
done_by (Some t) most = by_less (cases_lt (left t) most) where
  each : min most (left t) ≤ left t → (r : Task) → Some t ≡ Some r → min most (left t) ≤ left r
  each low r same = subst (λ u. min most (left t) ≤ left u) (some_same t r same) low

  by_less : (left t < most) ⊎ (most ≤ left t) → UntilDone (Some t) most (min most (left t))
  by_less (inl less) = record
      { within = omega arith; before = each (omega arith); reached = inr (t, refl, omega arith) }
  by_less (inr more) = record { within = omega arith; before = each (omega arith); reached = inl (omega arith) }

-- what n is where it is the ticks before the release of the first job to come
record UntilRelease (clock : ℕ) (next : Option Task) (most n : ℕ) : Type 0 where
  within : n ≤ most
  before : (c : Task) → next ≡ Some c → clock < c.job.release → clock + n ≤ c.job.release
  reached : (n ≡ most) ⊎ ((c : Task) × (next ≡ Some c) × (clock + n ≡ c.job.release))

release_by : (clock : ℕ) (next : Option Task) (most : ℕ) → UntilRelease clock next most (until_release clock next most)
release_by clock None most = record { within = omega arith; before = λ c none. none_is_some none; reached = inl refl }
release_by clock (Some t) most = record { within = it.within; before = each; reached = by_reached it.reached } where
  n : ℕ
  n = ticks_until t.job.release clock most

  it : Until t.job.release clock most n
  it = until t.job.release clock most

  each : (c : Task) → Some t ≡ Some c → clock < c.job.release → clock + n ≤ c.job.release
  each c same = subst (λ u. clock < u.job.release → clock + n ≤ u.job.release) (some_same t c same) it.before

  by_reached : (n ≡ most) ⊎ ((clock < t.job.release) × (clock + n ≡ t.job.release))
      → (n ≡ most) ⊎ ((c : Task) × (Some t ≡ Some c) × (clock + n ≡ c.job.release))
  by_reached (inl e) = inl e
  by_reached (inr now) = inr (t, refl, now.1)

-- what the ticks before anything is due are
record Dues (s : State) (most n : ℕ) : Type 0 where
  within : n ≤ most
  release : (c : Task) → find is_coming s.tasks ≡ Some c → s.clock < c.job.release → s.clock + n ≤ c.job.release
  done : (r : Task) → running s ≡ Some r → n ≤ left r
  before : Each (λ t. s.clock < latest_start t → s.clock + n ≤ latest_start t) (waiting s)
  reached : n < most → ((c : Task) × (find is_coming s.tasks ≡ Some c) × (s.clock + n ≡ c.job.release))
      ⊎ (((r : Task) × (running s ≡ Some r) × (n ≡ left r)) ⊎ Reaches s.clock n (waiting s))

dues : (s : State) (most : ℕ) → Dues s most (still_ticks most s)
dues s most = record {
  within = let low : n ≤ after_done = waits.within in let mid : after_done ≤ after_release = done_lines.within in
      let high : after_release ≤ most =
      comes.within in omega arith;
  release = λ c first ahead. let at : s.clock + after_release ≤ c.job.release = comes.before c first ahead in
      let low : n ≤ after_done = waits.within in let mid : after_done
      ≤ after_release = done_lines.within in omega arith;
  done = λ r runs. let at : after_done ≤ left r = done_lines.before r runs in let low : n ≤ after_done = waits.within in
      omega arith;
  before = waits.before;
  reached = by_waits waits.reached;
} where
  after_release : ℕ
  after_release = until_release s.clock (find is_coming s.tasks) most

  after_done : ℕ
  after_done = until_done (running s) after_release

  n : ℕ
  n = still_ticks most s

  waits : UntilLatest s.clock after_done n (waiting s)
  waits = latest s.clock (waiting s) after_done

  done_lines : UntilDone (running s) after_release after_done
  done_lines = done_by (running s) after_release

  comes : UntilRelease s.clock (find is_coming s.tasks) most after_release
  comes = release_by s.clock (find is_coming s.tasks) most

  by_comes : n ≡ after_release
      → (after_release ≡ most)
      ⊎ ((c : Task) × (find is_coming s.tasks ≡ Some c) × (s.clock + after_release ≡ c.job.release)) → n < most
      → ((c : Task) × (find is_coming s.tasks ≡ Some c) × (s.clock + n ≡ c.job.release))
      ⊎ (((r : Task) × (running s ≡ Some r) × (n ≡ left r)) ⊎ Reaches s.clock n (waiting s))
  by_comes same (inl all) less = absurd (omega arith)
  by_comes same (inr it) less = inl (it.0, it.1, ap (λ m. s.clock + m) same ∙ it.2)

  by_dones : n ≡ after_done → (after_done ≡ after_release) ⊎ ((r : Task) × (running s ≡ Some r) × (after_done ≡ left r))
      → n < most
      → ((c : Task) × (find is_coming s.tasks ≡ Some c) × (s.clock + n ≡ c.job.release))
      ⊎ (((r : Task) × (running s ≡ Some r) × (n ≡ left r)) ⊎ Reaches s.clock n (waiting s))
  by_dones same (inl e) less = by_comes (same ∙ e) comes.reached less
  by_dones same (inr it) less = inr (inl (it.0, it.1, same ∙ it.2))

  by_waits : (n ≡ after_done) ⊎ Reaches s.clock n (waiting s) → n < most
      → ((c : Task) × (find is_coming s.tasks ≡ Some c) × (s.clock + n ≡ c.job.release))
      ⊎ (((r : Task) × (running s ≡ Some r) × (n ≡ left r)) ⊎ Reaches s.clock n (waiting s))
  by_waits (inl same) less = by_dones same done_lines.reached less
  by_waits (inr it) less = inr (inr it)

-- ---- so many ticks on

-- what is found in a list that is changed
find_map : (p : Task → Bool) (f : Task → Task) → ((t : Task) → p (f t) ≡ p t) → (ts : List Task)
    → find p (map f ts) ≡ option_map f (find p ts)
find_map p f same [] = refl
find_map p f same (t ∷ ts) = ap (λ b. cond b (Some (f t)) (find p (map f ts))) (same t)
    ∙ by_test (p t) (find_map p f same ts) where
      by_test : (b : Bool) → find p (map f ts) ≡ option_map f (find p ts)
          → cond b (Some (f t)) (find p (map f ts)) ≡ option_map f (cond b (Some t) (find p ts))
      by_test true rest = refl
      by_test false rest = rest

-- where the changed list has one, so has the list
found_before : {X : Type 0} (f : X → X) (o : Option X) (y : X) → option_map f o ≡ Some y → (x : X) × (o ≡ Some x)
    × (f x ≡ y)
found_before f None y e = none_is_some e
found_before f (Some x) y e = (x, refl, some_same _ _ e)

-- where it has none, the list has none
none_before : {X : Type 0} (f : X → X) (o : Option X) → option_map f o ≡ None → o ≡ None
none_before f None e = refl
none_before f (Some x) e = none_is_some (sym e)

-- a job that waits has no more ticks
waits_still : (n : ℕ) (t : Task) → is_waiting t ≡ true → latest_start (ticked_by n t) ≡ latest_start t
waits_still n t waits = ap (λ b. t.job.deadline - (t.job.work - cond b (t.had + n) t.had))
    (passes is_running t Waiting false (is_waiting_role t waits) refl)

-- what is left of the running job
runs_on : (n : ℕ) (r : Task) → is_running r ≡ true → left (ticked_by n r) ≡ r.job.work - (r.had + n)
runs_on n r runs = ap (λ b. r.job.work - cond b (r.had + n) r.had) runs

module _ (s : State) (n : ℕ) where
  -- what runs so many ticks on
  runs_before : (y : Task) → running (later_by n s) ≡ Some y → (x : Task) × (running s ≡ Some x) × (ticked_by n x ≡ y)
  runs_before y e = found_before _ _ _ (sym (find_map is_running (ticked_by n) (λ t. refl) s.tasks) ∙ e)

  -- what is to come
  comes_before : (y : Task) → find is_coming (later_by n s).tasks ≡ Some y → (x : Task)
      × (find is_coming s.tasks ≡ Some x) × (ticked_by n x ≡ y)
  comes_before y e = found_before _ _ _ (sym (find_map is_coming (ticked_by n) (λ t. refl) s.tasks) ∙ e)

  -- before anything is due, nothing is due
  still_on : (most d : ℕ) → Dues s most d → Still s → n < d → Still (later_by n s)
  still_on most d it still early = record {
    free = λ none. on_map (ticked_by n) (λ t. (is_waiting t ≡ false) × (is_held t ≡ false)) s.tasks
        (still.free (none_before _ _ (sym (find_map is_running (ticked_by n) (λ t. refl) s.tasks) ∙ none)));
    busy = λ y runs. let x : (x : Task) × (running s ≡ Some x) × (ticked_by n x ≡ y) = runs_before y runs in
        subst (λ z. left z ≡ 0 → ⊥) x.2 (λ none.
        let some : d ≤ left x.0 = it.done x.0 x.1 in
        let now : x.0.job.work - (x.0.had + n) ≡ 0 = sym (runs_on n x.0 (found is_running s.tasks x.0 x.1).1) ∙ none in
        omega arith);
    stale = find_map is_fresh (ticked_by n) (λ t. refl) s.tasks ∙ ap (option_map (ticked_by n)) still.stale;
    ahead = λ y first. let x : (x : Task) × (find is_coming s.tasks ≡ Some x) × (ticked_by n x ≡ y) =
        comes_before y first in
        subst (λ z. z.job.release ≡ s.clock + n → ⊥) x.2 (λ now. comes x.0 (cases_lt s.clock x.0.job.release) x.1 now);
    early = λ y runs. let x : (x : Task) × (running s ≡ Some x) × (ticked_by n x ≡ y) = runs_before y runs in
        on_map (ticked_by n) (λ t. is_waiting t ≡ true → latest_start t ≡ s.clock + n → ⊥) s.tasks
        (λ t member waits now. waits_on t member (still.early x.0 x.1 t member waits)
        (cases_lt s.clock (latest_start t)) waits
        (sym (waits_still n t waits) ∙ now));
  } where
    comes : (c : Task) → (s.clock < c.job.release) ⊎ (c.job.release ≤ s.clock) → find is_coming s.tasks ≡ Some c
        → c.job.release ≡ s.clock + n → ⊥
    comes c (inl ahead) first now = let at : s.clock + d ≤ c.job.release = it.release c first ahead in omega arith
    comes c (inr past) first now = still.ahead c first (omega arith)

    waits_on : (t : Task) → IsMember t s.tasks → (latest_start t ≡ s.clock → ⊥) → (s.clock < latest_start t)
        ⊎ (latest_start t ≤ s.clock)
        → is_waiting t ≡ true
        → latest_start t ≡ s.clock + n → ⊥
    waits_on t member not_now (inl ahead) waits now =
        let at : s.clock + d ≤ latest_start t = it.before t (filter_member is_waiting s.tasks t member waits) ahead in
        omega arith
    waits_on t member not_now (inr past) waits now = not_now (omega arith)

  -- where something is due, it isn't still
  due_on : (most : ℕ) → Dues s most n → Still (later_by n s) → n < most → ⊥
  due_on most it still less = by_due (it.reached less) where
    found_on : (p : Task → Bool) → ((t : Task) → p (ticked_by n t) ≡ p t) → (x : Task) → find p s.tasks ≡ Some x
        → find p (later_by n s).tasks ≡ Some (ticked_by n x)
    found_on p same x e = find_map p (ticked_by n) same s.tasks ∙ ap (option_map (ticked_by n)) e

    waits_due : (o : Option Task) → running s ≡ o → (t : Task) → IsMember t s.tasks → is_waiting t ≡ true
        → s.clock + n ≡ latest_start t → ⊥
    waits_due (Some r) runs t member waits now =
        still.early (ticked_by n r) (found_on is_running (λ t. refl) r runs) (ticked_by n t)
        (map_member (ticked_by n) s.tasks t member) waits (waits_still n t waits ∙ sym now)
    waits_due None none t member waits now = never (sym (still.free
        (find_map is_running (ticked_by n) (λ t. refl) s.tasks ∙ ap (option_map (ticked_by n)) none)
        (ticked_by n t) (map_member (ticked_by n) s.tasks t member)).0 ∙ waits)

    by_due : ((c : Task) × (find is_coming s.tasks ≡ Some c) × (s.clock + n ≡ c.job.release))
        ⊎ (((r : Task) × (running s ≡ Some r) × (n ≡ left r)) ⊎ Reaches s.clock n (waiting s)) → ⊥
    by_due (inl it) = still.ahead (ticked_by n it.0) (found_on is_coming (λ t. refl) it.0 it.1) (sym it.2)
    by_due (inr (inl it)) = still.busy (ticked_by n it.0) (found_on is_running (λ t. refl) it.0 it.1)
        (let all : n ≡ left it.0 = it.2 in runs_on n it.0 (found is_running s.tasks it.0 it.1).1
        ∙ (let none : it.0.job.work - (it.0.had + n) ≡ 0 = omega arith in none))
    by_due (inr (inr it)) = let both : IsMember it.job s.tasks × (is_waiting it.job ≡ true) =
        member_filter is_waiting s.tasks it.job it.member in
        waits_due (running s) refl it.job both.0 both.1 it.now

-- ---- the laws of the jump

module _ (rules : Rules) (s : State) (most : ℕ) where
  -- before the jump ends a silent tick is next
  pub silent : declared_open_step rules s ≡ Ticks → (n : ℕ) → n < still_ticks most s
      → declared_open_step rules (later_by n s) ≡ Ticks
  silent ticks n early = still_rests rules (later_by n s) Ticks
      (still_on s n most (still_ticks most s) (dues s most) (tick_still rules s ticks) early)

  -- where it ends early, another step is next
  pub due : still_ticks most s < most → declared_open_step rules (later_by (still_ticks most s) s) ≡ Ticks → ⊥
  due less ticks = due_on _ _ _ (dues s most) (tick_still rules (later_by (still_ticks most s) s) ticks) less

-- it is as long as it may be at most
pub within : (s : State) (most : ℕ) → still_ticks most s ≤ most
within s most = (dues s most).within
