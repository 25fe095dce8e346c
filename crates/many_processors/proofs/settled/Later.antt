-- Jobs that come later don't change a settled step.
use Rattle.std.proofs.Common.{◌≡◌, ℕ, ◌≤◌, ◌<◌, ◌⊎◌, inl, inr, List, [], ◌∷◌, ◌++◌, map, refl, sym, ap, ◌∙◌, Bool}
use Rattle.std.proofs.Common.{true, false, cond, arith, Option, Some, None, find, filter, fold, ne_eqb, nat_lt}
use Rattle.std.specs.Bool.{then_some}
use Rattle.std.proofs.lemmas.List.{map-append}
use Rattle.dover_model.specs.declared.events.Event.TheVariants.{Release, Take, Abandon}
use Rattle.dover_model.specs.declared.events.Role.TheVariants.{Coming}
use Rattle.dover_model.specs.declared.events.Task.{Task}
use Rattle.dover_model.specs.declared.events.Version.{Version}
use Rattle.dover_model.specs.Finishes.{Finish}
use Rattle.dover_model.specs.Fraction.{Fraction}
use Rattle.dover_model.specs.Step as single
use Rattle.dover_model.specs.Common.{Rules, View, is_coming, is_heavy, is_privileged, first, earlier, Each}
use Rattle.dover_model.proofs.lists.Members.{found, map_map, map_same, on_map}
use Rattle.dover_model.proofs.settled.Later.{with_coming, view_later}
use Rattle.dover_model.proofs.steps.Roles.{passes}
use Rattle.many_processors.specs.State.{Placed, State, tasks_of, seen_by, seen_from}
use Rattle.many_processors.specs.Step.{Move, Prints, Ticks, Seen, seen, all_seen, numbers_from, front, ◌or_else◌}
use Rattle.many_processors.specs.Step.{◌or_try◌, first_some, for_one, placed, is_free, free_one, completion}
use Rattle.many_processors.specs.Step.{completion_of}
use Rattle.many_processors.specs.Step.{resumption, resumption_of, dispatch, finish_on, finishing, preempts_on}
use Rattle.many_processors.specs.Step.{is_preempted}
use Rattle.many_processors.specs.Step.{runs_longer, deciding, decision, arrival, least_valued, alarm, urgent_or}
use Rattle.many_processors.specs.Step.{open_step}
use Rattle.many_processors.specs.Settled.{waits_for_mark, with_later}
use Rattle.many_processors.proofs.steps.Seeing.{same_find, coming_skips, each_sees}
use Rattle.many_processors.proofs.steps.Placing.{off_seen}
use Rattle.many_processors.proofs.steps.Cases.{front_member}

-- ---- answers for a changed list

-- the changed one, if there is one
abbrev changed : {X : Type 0} → (X → X) → Option X → Option X
changed g None = None
changed g (Some x) = Some (g x)

module _ {X : Type 0} (g : X → X) where
  -- the first answer is the same, where each is
  first_same : {Y : Type 0} (f : X → Option Y) → ((x : X) → f (g x) ≡ f x) → (xs : List X)
      → first_some f (map g xs) ≡ first_some f xs
  first_same f same [] = refl
  first_same f same (x ∷ xs) = ap (λ o. o or_try first_some f (map g xs)) (same x)
      ∙ ap (λ o. f x or_try o) (first_same f same xs)

  -- so is the answer for the one
  one_same : {Y : Type 0} (f : X → Option Y) → ((x : X) → f (g x) ≡ f x) → (o : Option X)
      → for_one f (changed g o) ≡ for_one f o
  one_same f same None = refl
  one_same f same (Some x) = same x

  -- the one that is found is the changed one
  find_changed : (p : X → Bool) → ((x : X) → p (g x) ≡ p x) → (xs : List X)
      → find p (map g xs) ≡ changed g (find p xs)
  find_changed p same [] = refl
  find_changed p same (x ∷ xs) = ap (λ b. cond b (Some (g x)) (find p (map g xs))) (same x)
      ∙ by_test (p x) (find_changed p same xs) where
        by_test : (b : Bool) → find p (map g xs) ≡ changed g (find p xs)
            → cond b (Some (g x)) (find p (map g xs)) ≡ changed g (cond b (Some x) (find p xs))
        by_test true rest = refl
        by_test false rest = rest

  filter_changed : (p : X → Bool) → ((x : X) → p (g x) ≡ p x) → (xs : List X)
      → filter p (map g xs) ≡ map g (filter p xs)
  filter_changed p same [] = refl
  filter_changed p same (x ∷ xs) = ap (λ b. cond b (g x ∷ filter p (map g xs)) (filter p (map g xs))) (same x)
      ∙ by_test (p x) (filter_changed p same xs) where
        by_test : (b : Bool) → filter p (map g xs) ≡ map g (filter p xs)
            → cond b (g x ∷ filter p (map g xs)) (filter p (map g xs)) ≡ map g (cond b (x ∷ filter p xs) (filter p xs))
        by_test true rest = ap (λ ys. g x ∷ ys) rest
        by_test false rest = rest

  -- and the first by an order
  first_changed : (order : X → X → Bool) → ((x y : X) → order (g x) (g y) ≡ order x y) → (xs : List X)
      → first order (map g xs) ≡ changed g (first order xs)
  first_changed order same [] = refl
  first_changed order same (x ∷ xs) = ap Some (from x xs) where
    pick : (a x : X) → earlier order (g a) (g x) ≡ g (earlier order a x)
    pick a x = ap (λ b. cond b (g x) (g a)) (same x a) ∙ by_test (order x a) where
      by_test : (b : Bool) → cond b (g x) (g a) ≡ g (cond b x a)
      by_test true = refl
      by_test false = refl

    from : (a : X) (ys : List X) → fold (earlier order) (g a) (map g ys) ≡ g (fold (earlier order) a ys)
    from a [] = refl
    from a (y ∷ ys) = ap (λ z. fold (earlier order) z (map g ys)) (pick a y) ∙ from (earlier order a y) ys

  front_changed : (xs : List X) → front (map g xs) ≡ changed g (front xs)
  front_changed [] = refl
  front_changed (x ∷ xs) = refl

  try_changed : (a b : Option X) → (changed g a or_try changed g b) ≡ changed g (a or_try b)
  try_changed None b = refl
  try_changed (Some x) b = refl

-- the first answers of two functions that answer alike
first_alike : {X Y : Type 0} (f h : X → Option Y) (xs : List X) → ((x : X) → f x ≡ h x) → first_some f xs
    ≡ first_some h xs
first_alike f h [] same = refl
first_alike f h (x ∷ xs) same = ap (λ o. o or_try first_some f xs) (same x)
    ∙ ap (λ o. h x or_try o) (first_alike f h xs same)

-- ---- processors that see another job to come

abbrev coming_as : Option Task → Seen → Seen
coming_as c q = record { processor = q.processor; view = with_coming q.view c }

module _ (c : Option Task) where
  placed_same : (q : Seen) (o : Option single.Move) → placed (coming_as c q) o ≡ placed q o
  placed_same q None = refl
  placed_same q (Some m) = refl

  completes : (q : Seen) → completion (coming_as c q) ≡ completion q
  completes q = by_one q.view.running where
    by_one : (o : Option Task) → completion_of (coming_as c q) o ≡ completion_of q o
    by_one None = refl
    by_one (Some t) = refl

  dispatch_same : (v : View) (ro p o : Option Task) → single.dispatch (with_coming v c) ro p o
      ≡ single.dispatch v ro p o
  dispatch_same v (Some r) p o = refl
  dispatch_same v None (Some p) None = refl
  dispatch_same v None (Some p) (Some o) = refl
  dispatch_same v None None (Some o) = refl
  dispatch_same v None None None = refl

  dispatches : (q : Seen) → dispatch (coming_as c q) ≡ dispatch q
  dispatches q = placed_same q (single.dispatch (with_coming q.view c) q.view.running q.view.first_held
      q.view.first_waiting) ∙ ap (placed q) (dispatch_same q.view q.view.running q.view.first_held q.view.first_waiting)

  resumes : (q : Seen) → resumption (coming_as c q) ≡ resumption q
  resumes q = by_held q.view.first_held where
    by_held : (p : Option Task) → resumption_of (coming_as c q) p ≡ resumption_of q p
    by_held None = refl
    by_held (Some p) = placed_same q
        (single.dispatch (with_coming q.view c) q.view.running (Some p) q.view.first_waiting)
        ∙ ap (placed q) (dispatch_same q.view q.view.running (Some p) q.view.first_waiting)

  finishes : (f : Finish) (q : Seen) → finish_on f (coming_as c q) q.view.running ≡ finish_on f q q.view.running
  finishes f q = by_one q.view.running where
    by_one : (o : Option Task) → finish_on f (coming_as c q) o ≡ finish_on f q o
    by_one None = refl
    by_one (Some t) = refl

  preempted : (q : Seen) → is_preempted (coming_as c q) ≡ is_preempted q
  preempted q = by_two q.view.fresh q.view.running where
    by_two : (fo ro : Option Task) → preempts_on (coming_as c q) fo ro ≡ preempts_on q fo ro
    by_two None ro = refl
    by_two (Some f) None = refl
    by_two (Some f) (Some r) = refl

  decides : (q : Seen) → decision (coming_as c q) ≡ decision q
  decides q = placed_same q (single.decision (with_coming q.view c) q.view.running q.view.fresh)
      ∙ ap (placed q) (by_two q.view.running q.view.fresh) where
        by_two : (ro fo : Option Task) → single.decision (with_coming q.view c) ro fo ≡ single.decision q.view ro fo
        by_two ro None = refl
        by_two None (Some f) = refl
        by_two (Some r) (Some f) = refl

  alarms : (k : Fraction) (q : Seen) → alarm k (coming_as c q) ≡ alarm k q
  alarms k q = placed_same q (single.alarm k (with_coming q.view c) q.view.running q.view.must_start)
      ∙ ap (placed q) (by_two q.view.running q.view.must_start) where
        by_two : (ro xo : Option Task) → single.alarm k (with_coming q.view c) ro xo ≡ single.alarm k q.view ro xo
        by_two ro None = refl
        by_two None (Some x) = refl
        by_two (Some r) (Some x) = refl

  module _ (all : List Seen) where
    frees : free_one (map (coming_as c) all) ≡ changed (coming_as c) (free_one all)
    frees = find_changed (coming_as c) is_free (λ q. refl) all

    finishing_same : (f : Finish) → finishing (map (coming_as c) all) f ≡ finishing all f
    finishing_same f = first_same (coming_as c) (λ q. finish_on f q q.view.running) (finishes f) all

    deciders : deciding (map (coming_as c) all) ≡ changed (coming_as c) (deciding all)
    deciders =
        ap (λ o. o or_try first runs_longer (filter is_preempted (map (coming_as c) all)) or_try
        front (map (coming_as c) all)) frees
        ∙ ap (λ o. changed (coming_as c) (free_one all) or_try o)
        (ap (λ o. o or_try front (map (coming_as c) all))
        (ap (first runs_longer) (filter_changed (coming_as c) is_preempted preempted all)
        ∙ first_changed (coming_as c) runs_longer (λ x y. refl) (filter is_preempted all))
        ∙ ap (λ o. changed (coming_as c) (first runs_longer (filter is_preempted all)) or_try o)
        (front_changed (coming_as c) all)
        ∙ try_changed (coming_as c) (first runs_longer (filter is_preempted all)) (front all))
        ∙ try_changed (coming_as c) (free_one all)
        (first runs_longer (filter is_preempted all) or_try front all)

    least_same : least_valued (map (coming_as c) all) ≡ changed (coming_as c) (least_valued all)
    least_same = first_changed (coming_as c) (λ a b. nat_lt a.view.privileged_value b.view.privileged_value)
        (λ x y. refl) all

    -- all cases but the fifth are the same
    urgent_same : (rules : Rules) (other : Move) → urgent_or rules (map (coming_as c) all) other
        ≡ (first_some completion all or_else first_some resumption all or_else for_one dispatch (free_one all)
        or_else first_some (finishing all) rules.finishes or_else for_one decision (deciding all)
        or_else for_one arrival (front (map (coming_as c) all))
        or_else for_one (alarm rules.ratio) (least_valued all) or_else other)
    urgent_same rules other =
        rw (
          first_same (coming_as c) completion completes all,
          first_same (coming_as c) resumption resumes all,
          deciders,
          frees,
          one_same (coming_as c) dispatch dispatches (free_one all),
          first_alike (finishing (map (coming_as c) all)) (finishing all) rules.finishes finishing_same,
          one_same (coming_as c) decision decides (deciding all),
          least_same,
          one_same (coming_as c) (alarm rules.ratio) (alarms rules.ratio) (least_valued all),
        )

-- ---- an arrival at the mark or later

-- it comes in only where cases 1 to 4 don't apply, and then the step was late
before_late : (a b d f e c : Option Move) (rest : Move) → waits_for_mark rest ≡ true
    → (waits_for_mark (a or_else b or_else d or_else f or_else e or_else rest) ≡ true → c ≡ None)
    → (a or_else b or_else d or_else f or_else e or_else c or_else rest)
    ≡ (a or_else b or_else d or_else f or_else e or_else rest)
before_late None None None None None c rest late none = ap (λ o. o or_else rest) (none late)
before_late _ _ _ _ _ c rest late none = refl

-- case 6 and the silent tick are late
alarm_late : (k : Fraction) (o : Option Seen) → waits_for_mark (for_one (alarm k) o or_else Ticks) ≡ true
alarm_late k None = refl
alarm_late k (Some q) = by_two q.view.running q.view.must_start where
  by_two : (ro xo : Option Task) → waits_for_mark (placed q (single.alarm k q.view ro xo) or_else Ticks) ≡ true
  by_two ro None = refl
  by_two None (Some x) = refl
  by_two (Some r) (Some x) = by_value (is_heavy k x.job.value q.view.privileged_value) where
    by_value : (b : Bool) → waits_for_mark (Prints q.processor
        (cond b (Take q.view.clock r.number x.number) (Abandon q.view.clock x.number))) ≡ true
    by_value true = refl
    by_value false = refl

-- ---- a state with jobs behind

-- the first that passes is among the first tasks, or else among those behind
find_either : (p : Task → Bool) (xs more : List Task)
    → (find p (xs ++ more) ≡ find p xs) ⊎ ((find p xs ≡ None) × (find p (xs ++ more) ≡ find p more))
find_either p [] more = inr (refl, refl)
find_either p (x ∷ xs) more = by_test (p x) (find_either p xs more) where
  by_test : (b : Bool) → (find p (xs ++ more) ≡ find p xs) ⊎ ((find p xs ≡ None) × (find p (xs ++ more) ≡ find p more))
      → (cond b (Some x) (find p (xs ++ more)) ≡ cond b (Some x) (find p xs)) ⊎
      ((cond b (Some x) (find p xs) ≡ None) × (cond b (Some x) (find p (xs ++ more)) ≡ find p more))
  by_test true either = inl refl
  by_test false either = either

-- the open step, where this is case 5
abbrev with_arrival : Rules → List Seen → Option Move → Move
with_arrival rules all o = first_some completion all or_else first_some resumption all
    or_else for_one dispatch (free_one all)
    or_else first_some (finishing all) rules.finishes or_else for_one decision (deciding all)
    or_else o or_else for_one (alarm rules.ratio) (least_valued all) or_else Ticks

-- the arrival of this job
abbrev arrives : Seen → Option Task → Option Move
arrives q c = placed q (single.arrival q.view c)

module _ (s : State) (more : List Placed) (coming : Each (λ p. p.task.role ≡ Coming) more) where
  -- a job to come is seen as it is
  come_seen : (q : ℕ) → Each (λ p. seen_by q p ≡ p.task) more
  come_seen q p member = off_seen q p (passes is_privileged p.task Coming false (coming p member) refl)

  seen_coming : (q : ℕ) → Each (λ t. t.role ≡ Coming) (map (seen_by q) more)
  seen_coming q = on_map (seen_by q) (λ t. t.role ≡ Coming) more
      (λ p member. ap (λ (t : Task). t.role) (come_seen q p member) ∙ coming p member)

  -- the first job to come, of all
  abbrev all_coming : Option Task
  all_coming = find is_coming (tasks_of (s.jobs ++ more))

  seen_later : (version : Version) (q : ℕ)
      → seen version (with_later s more) q ≡ coming_as all_coming (seen version s q)
  seen_later version q = ap (λ v. record { processor = q; view = v })
      (ap (λ ts. single.view version (record { clock = s.clock; tasks = ts; pressed = s.pressed }))
      (map-append (seen_by q) s.jobs more)
      ∙ view_later version (seen_from q s) (map (seen_by q) more) (seen_coming q)
      ∙ ap (with_coming (single.view version (seen_from q s)))
      (ap (find is_coming) (sym (map-append (seen_by q) s.jobs more))
      ∙ same_find is_coming coming_skips q (s.jobs ++ more)))

  all_later : (version : Version) (processors : ℕ) → all_seen processors version (with_later s more)
      ≡ map (coming_as all_coming) (all_seen processors version s)
  all_later version processors =
      map_same (seen version (with_later s more)) (λ q. coming_as all_coming (seen version s q))
      (numbers_from 0 processors) (λ q member. seen_later version q)
      ∙ sym (map_map (coming_as all_coming) (seen version s) (numbers_from 0 processors))

  -- a settled step is the same, whatever comes at the mark or later
  pub same_step : (processors : ℕ) (rules : Rules) (mark : ℕ) → Each (λ p. mark ≤ p.task.job.release) more
      → (waits_for_mark (open_step processors rules s) ≡ true → s.clock < mark)
      → open_step processors rules (with_later s more) ≡ open_step processors rules s
  same_step processors rules mark later settled =
      ap (λ all. urgent_or rules all Ticks) (all_later rules.version processors)
      ∙ urgent_same all_coming all rules Ticks
      ∙ by_front (find_either is_coming (tasks_of s.jobs) (tasks_of more)) where
        all : List Seen
        all = all_seen processors rules.version s

        is_all : all_coming ≡ find is_coming (tasks_of s.jobs ++ tasks_of more)
        is_all = ap (find is_coming) (map-append (λ (p : Placed). p.task) s.jobs more)

        sees : Each (λ (q : Seen). q.view.coming ≡ find is_coming (tasks_of s.jobs)) all
        sees q member = (each_sees processors rules.version s q member).coming

        clocks : Each (λ (q : Seen). q.view.clock ≡ s.clock) all
        clocks q member = (each_sees processors rules.version s q member).clock

        arrival_as : (q : Seen) (c : Option Task) → arrival (coming_as c q) ≡ arrives q c
        arrival_as q c = placed_same c q (single.arrival (with_coming q.view c) c) ∙ ap (placed q) (by_one c) where
          by_one : (o : Option Task) → single.arrival (with_coming q.view c) o ≡ single.arrival q.view o
          by_one None = refl
          by_one (Some x) = refl

        front_arrival : (c : Option Task) (o : Option Seen)
            → for_one arrival (changed (coming_as c) o) ≡ for_one (λ q. arrives q c) o
        front_arrival c None = refl
        front_arrival c (Some q) = arrival_as q c

        -- where the first job to come is the same
        as_before : (c : Option Task) → c ≡ find is_coming (tasks_of s.jobs) → (o : Option Seen) → front all ≡ o
            → for_one (λ q. arrives q c) o ≡ for_one arrival o
        as_before c is None e = refl
        as_before c is (Some q) e = ap (arrives q) (is ∙ sym (sees q (front_member all q e)))

        -- where it is behind
        too_late : (c : Option Task) → ((x : Task) → c ≡ Some x → mark ≤ x.job.release) → s.clock < mark
            → (o : Option Seen) → front all ≡ o → for_one (λ q. arrives q c) o ≡ None
        too_late c from before None e = refl
        too_late None from before (Some q) e = refl
        too_late (Some x) from before (Some q) e = ap (λ b. placed q (then_some b (single.Prints
            (Release x.number x.job)))) (ne_eqb x.job.release q.view.clock
            (λ same. let at_mark : mark ≤ x.job.release = from x refl in
            omega (arith, at_mark, same, before, clocks q (front_member all q e))))

        none_before : (o : Option Seen) → front all ≡ o → find is_coming (tasks_of s.jobs) ≡ None
            → for_one arrival o ≡ None
        none_before None e none = refl
        none_before (Some q) e none = ap (arrives q) (sees q (front_member all q e) ∙ none)

        more_later : (x : Task) → find is_coming (tasks_of more) ≡ Some x → mark ≤ x.job.release
        more_later x is = on_map (λ (p : Placed). p.task) (λ t. mark ≤ t.job.release) more later x
            (found is_coming (tasks_of more) x is).0

        by_front : (find is_coming (tasks_of s.jobs ++ tasks_of more) ≡ find is_coming (tasks_of s.jobs))
            ⊎ ((find is_coming (tasks_of s.jobs) ≡ None)
            × (find is_coming (tasks_of s.jobs ++ tasks_of more) ≡ find is_coming (tasks_of more)))
            → with_arrival rules all (for_one arrival (front (map (coming_as all_coming) all)))
            ≡ open_step processors rules s
        by_front (inl same) = ap (with_arrival rules all)
            (ap (for_one arrival) (front_changed (coming_as all_coming) all)
            ∙ front_arrival all_coming (front all) ∙ as_before all_coming (is_all ∙ same) (front all) refl)
        by_front (inr behind) =
            ap (with_arrival rules all) (ap (for_one arrival) (front_changed (coming_as all_coming) all)
            ∙ front_arrival all_coming (front all))
            ∙ before_late (first_some completion all) (first_some resumption all) (for_one dispatch (free_one all))
            (first_some (finishing all) rules.finishes) (for_one decision (deciding all))
            (for_one (λ q. arrives q all_coming) (front all))
            (for_one (alarm rules.ratio) (least_valued all) or_else Ticks) (alarm_late rules.ratio (least_valued all))
            (λ late. too_late all_coming (λ x is. more_later x (sym behind.1 ∙ sym is_all ∙ is))
            (settled (ap waits_for_mark without ∙ late)) (front all) refl)
            ∙ sym without where
              without : open_step processors rules s ≡ (first_some completion all or_else first_some resumption all
                  or_else for_one dispatch (free_one all)
                  or_else first_some (finishing all) rules.finishes or_else for_one decision (deciding all)
                  or_else for_one (alarm rules.ratio) (least_valued all) or_else Ticks)
              without = ap (with_arrival rules all) (none_before (front all) refl behind.0)
