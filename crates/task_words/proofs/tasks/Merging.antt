-- The jobs of tasks come one by one from the first of the next releases.
use Rattle.std.proofs.Common.{◌≡◌, ◌≢◌, ◌↔◌, ℕ, zero, suc, ◌+◌, ◌-◌, ◌^◌, ◌<◌, ◌≤◌, ◌⊎◌, min, inl, inr, List, [], ◌∷◌}
use Rattle.std.proofs.Common.{◌++◌, length, take, drop, get_or, set, map, refl, sym, ap}
use Rattle.std.proofs.Common.{◌∙◌, subst, append_assoc, Bool, true, false, cond, Option, Some, None, arith}
use Rattle.std.specs.Prelude.{nat_lt, IfSome, IsSome, IsNone}
use Rattle.std.specs.List.{filter, AllByRecursion}
use Rattle.std.proofs.lemmas.Bool.{cases_lt, cases_eq, lt-ltb, le-ltb}
use Rattle.std.proofs.lemmas.List.{append-nil, map-append, take_all, take_more, take-append-drop, get_or-set_same}
use Rattle.std.proofs.lemmas.List.{get_or-set_other, get_or_past, length-set, set-set}
use Rattle.std.proofs.lemmas.List.Elements.{filter-append}
use Rattle.dover_model.specs.declared.events.Version.TheVariants.{Two}
use Rattle.dover_model.specs.Common.{JobFacts, IsJob, last_tick_in}
use Rattle.dover_model.proofs.lists.Tests.{none_is_some}
use Rattle.place_heap.specs.Items.{ItemFacts, is_before}
use Rattle.place_heap.specs.Table.{IsFirst}
use Rattle.task_words.specs.tasks.Limits.{IsTask}
use Rattle.task_words.specs.tasks.Tasks.{releases, job_at, released_at, jobs_before}
use Rattle.task_words.specs.tasks.Merging.{Merge, merge, blank_task, release_item, IsNextRelease, IsNext, from_tick}
use Rattle.task_words.specs.tasks.Merging.{kept_release, StandsBehind}
use Rattle.task_words.specs.declared.tasks.task.PeriodicTask.{PeriodicTask}
use Rattle.task_words.proofs.tasks.Released.{job_within}
use Rattle.task_words.proofs.tasks.Releases.{first_kept, follows_short}

-- ---- two releases, of which the second doesn't come before the first

lead_of : (d n d2 n2 : ℕ) → is_before (release_item n2 d2) (release_item n d) ≡ false
    → (d < d2) ⊎ ((d ≡ d2) × (n ≤ n2))
lead_of d n d2 n2 leads = grind arith

lead_by : (e f : ItemFacts) (n m : ℕ) → e ≡ release_item n e.key → f ≡ release_item m f.key → is_before f e ≡ false
    → (e.key < f.key) ⊎ ((e.key ≡ f.key) × (n ≤ m))
lead_by e f n m e_is f_is leads = lead_of e.key n f.key m
    (sym (ap (is_before (release_item m f.key)) e_is) ∙ sym (ap (λ i. is_before i e) f_is) ∙ leads)

-- ---- the tick from which a next release counts

from_early : (tick place n : ℕ) → n < place → from_tick tick place n ≡ suc tick
from_early tick place n low = ap (λ b. cond b (suc tick) tick) (lt-ltb n place low)

from_late : (tick place n : ℕ) → place ≤ n → from_tick tick place n ≡ tick
from_late tick place n high = ap (λ b. cond b (suc tick) tick) (le-ltb n place high)

-- ---- jobs of one tick

-- the task at a place
abbrev task_at : List PeriodicTask → ℕ → PeriodicTask
task_at tasks n = get_or tasks n blank_task

-- of more tasks
released-append : (tick : ℕ) (xs ys : List PeriodicTask)
    → released_at tick (xs ++ ys) ≡ released_at tick xs ++ released_at tick ys
released-append tick xs ys = ap (map (λ t. job_at t tick)) (filter-append (λ t. releases t tick) xs ys)
    ∙ map-append (λ t. job_at t tick) (filter (λ t. releases t tick) xs) (filter (λ t. releases t tick) ys)

-- of one task
released_one : (tick : ℕ) (task : PeriodicTask) (b : Bool) → releases task tick ≡ b
    → released_at tick (task ∷ []) ≡ cond b (job_at task tick ∷ []) []
released_one tick task true is = ap (λ c. map (λ t. job_at t tick) (cond c (task ∷ []) [])) is
released_one tick task false is = ap (λ c. map (λ t. job_at t tick) (cond c (task ∷ []) [])) is

-- of one task more
released_more : (tick i : ℕ) (tasks : List PeriodicTask) (b : Bool) → i < length tasks
    → releases (task_at tasks i) tick ≡ b
    → released_at tick (take (i + 1) tasks) ≡ released_at tick (take i tasks) ++ cond b
    (job_at (task_at tasks i) tick ∷ []) []
released_more tick i tasks b there is = ap (released_at tick) (take_more tasks i blank_task there)
    ∙ released-append tick (take i tasks) (task_at tasks i ∷ [])
    ∙ ap (λ js. released_at tick (take i tasks) ++ js) (released_one tick (task_at tasks i) b is)

-- tasks that are quiet add none
quiet_tasks : (tick i more : ℕ) (tasks : List PeriodicTask) → i + more ≤ length tasks
    → ((n : ℕ) → i ≤ n → n < i + more → releases (task_at tasks n) tick ≡ false)
    → released_at tick (take (i + more) tasks) ≡ released_at tick (take i tasks)
quiet_tasks tick i zero tasks within quiet =
    ap (λ n. released_at tick (take n tasks)) (let e : i + 0 ≡ i = omega arith in e)
quiet_tasks tick i (suc more) tasks within quiet =
    ap (λ n. released_at tick (take n tasks)) (let e : i + suc more ≡ (i + more) + 1 = omega arith in e)
    ∙ released_more tick (i + more) tasks false (omega (arith, within)) (quiet (i + more) (omega arith) (omega arith))
    ∙ append-nil (released_at tick (take (i + more) tasks))
    ∙ quiet_tasks tick i more tasks (omega (arith, within)) (λ n low high. quiet n low (omega (arith, high)))

-- where all are quiet from a place on, those before it are all
quiet_from : (tick i : ℕ) (tasks : List PeriodicTask) → i ≤ length tasks
    → ((n : ℕ) → i ≤ n → n < length tasks → releases (task_at tasks n) tick ≡ false)
    → released_at tick tasks ≡ released_at tick (take i tasks)
quiet_from tick i tasks within quiet =
    let more : ℕ = length tasks - i in
    let all : i + more ≡ length tasks = omega (arith, within) in
    ap (released_at tick) (sym (take_all (i + more) tasks (omega (arith, all))))
    ∙ quiet_tasks tick i more tasks (omega (arith, all)) (λ n low high. quiet n low (omega (arith, high, all)))

-- ---- jobs of more ticks

module _ (tasks : List PeriodicTask) where
  -- the jobs before a tick, and at it those of the first tasks
  abbrev pub jobs_up_to : (tick place : ℕ) → List JobFacts
  jobs_up_to tick place = jobs_before tick tasks ++ released_at tick (take place tasks)

  -- ticks at which all are quiet add none
  quiet_ticks : (tick more : ℕ)
      → ((n x : ℕ) → n < length tasks → tick ≤ x → x < tick + more → releases (task_at tasks n) x ≡ false)
      → jobs_before (tick + more) tasks ≡ jobs_before tick tasks
  quiet_ticks tick zero quiet = ap (λ n. jobs_before n tasks) (let e : tick + 0 ≡ tick = omega arith in e)
  quiet_ticks tick (suc more) quiet =
      ap (λ n. jobs_before n tasks) (let e : tick + suc more ≡ suc (tick + more) = omega arith in e)
      ∙ ap (λ js. jobs_before (tick + more) tasks ++ js) (quiet_from (tick + more) 0 tasks (omega arith)
      (λ n low there. quiet n (tick + more) there (omega arith) (omega arith)))
      ∙ append-nil (jobs_before (tick + more) tasks)
      ∙ quiet_ticks tick more (λ n x there low high. quiet n x there low (omega (arith, high)))

  -- from a place at a tick to one that isn't before it, none is released between them
  pub record AreQuiet (tick place at number : ℕ) : Type 0 where
    pub onward : (tick < at) ⊎ ((tick ≡ at) × (place ≤ number))
    pub within : place ≤ length tasks
    pub ends : number ≤ length tasks
    pub quiet : (n x : ℕ) → n < length tasks → from_tick tick place n ≤ x → (x < at) ⊎ ((x ≡ at) × (n < number))
        → releases (task_at tasks n) x ≡ false

  -- then the jobs are the same
  pub quiet_between : (tick place at number : ℕ) → AreQuiet tick place at number
      → jobs_up_to tick place ≡ jobs_up_to at number
  quiet_between tick place at number it = of it.onward where
    of : (tick < at) ⊎ ((tick ≡ at) × (place ≤ number)) → jobs_up_to tick place ≡ jobs_up_to at number
    of (inl before) =
        let more : ℕ = at - suc tick in
        let at_is : suc tick + more ≡ at = omega (arith, before) in
        let here : released_at tick tasks ≡ released_at tick (take place tasks) = quiet_from tick place tasks it.within
        (λ n low there. it.quiet n tick there (omega (arith, from_late tick place n low)) (inl before)) in
        let between : jobs_before (suc tick + more) tasks ≡ jobs_before (suc tick) tasks = quiet_ticks (suc tick) more
        (λ n x there low high. it.quiet n x there (from_low tick place n x low) (inl (omega (arith, high, at_is)))) in
        let there : released_at at (take (0 + number) tasks) ≡ [] =
        quiet_tasks at 0 number tasks (omega (arith, it.ends))
        (λ n low high. it.quiet n at (omega (arith, high, it.ends)) (from_low tick place n at (omega (arith, before)))
        (inr (refl, omega (arith, high)))) in
        ap (λ js. jobs_before tick tasks ++ js) (sym here) ∙ sym between ∙ ap (λ n. jobs_before n tasks) at_is
        ∙ sym (append-nil (jobs_before at tasks)) ∙ ap (λ js. jobs_before at tasks ++ js) (sym there)
        ∙ ap (λ n. jobs_before at tasks ++ released_at at (take n tasks))
        (let e : 0 + number ≡ number = omega arith in e) where
          from_low : (tick place n x : ℕ) → suc tick ≤ x → from_tick tick place n ≤ x
          from_low tick place n x low = by (nat_lt n place) where
            by : (b : Bool) → cond b (suc tick) tick ≤ x
            by true = low
            by false = omega (arith, low)
    of (inr same) =
        let more : ℕ = number - place in
        let number_is : place + more ≡ number = omega (arith, same.1) in
        let added : released_at tick (take (place + more) tasks) ≡ released_at tick (take place tasks) =
        quiet_tasks tick place more tasks (omega (arith, number_is, it.ends))
        (λ n low high. it.quiet n tick (omega (arith, high, number_is, it.ends))
        (omega (arith, from_late tick place n low))
        (inr (same.0, omega (arith, high, number_is)))) in
        ap (λ js. jobs_before tick tasks ++ js) (sym added)
        ∙ ap (λ n. jobs_before tick tasks ++ released_at tick (take n tasks)) number_is
        ∙ ap (λ t. jobs_before t tasks ++ released_at t (take number tasks)) same.0

-- ---- what is kept

module _ (m : Merge) (done : List JobFacts) (s : StandsBehind m done) where
  -- the tasks
  abbrev tasks : List PeriodicTask
  tasks = m.tasks

  -- a task that is not kept is quiet to the end, and one that is to its next release
  quiet_none : (n x : ℕ) (o : Option ItemFacts) → o ≡ None
      → IsNext m.until n (task_at tasks n) (from_tick s.tick s.place n) o
      → from_tick s.tick s.place n ≤ x → x < m.until → releases (task_at tasks n) x ≡ false
  quiet_none n x None is next low high = next x low high
  quiet_none n x (Some f) is next low high = absurd (let e : Some f ≡ None = is in cc)

  -- where nothing is kept, all jobs came
  pub all_done : ((n : ℕ) → get_or m.next n None ≡ None) → jobs_before m.until tasks ≡ done
  all_done none =
      let quiet : AreQuiet tasks s.tick s.place m.until 0 = record {
        onward = ends (cases_lt s.tick m.until);
        within = s.within;
        ends = omega arith;
        quiet = λ n x there low which. quiet_none _ _ _ (none n) (s.next n there) low (early n x which);
      } in sym (s.done_is ∙ quiet_between tasks s.tick s.place m.until 0 quiet
      ∙ append-nil (jobs_before m.until tasks)) where
        ends : (s.tick < m.until) ⊎ (m.until ≤ s.tick) → (s.tick < m.until) ⊎ ((s.tick ≡ m.until) × (s.place ≤ 0))
        ends (inl before) = inl before
        ends (inr past) = let same : s.tick ≡ m.until = omega (arith, past, s.known) in
            inr (same, omega (arith, s.begun same))

        early : (n x : ℕ) → (x < m.until) ⊎ ((x ≡ m.until) × (n < 0)) → x < m.until
        early n x (inl before) = before
        early n x (inr never) = absurd (omega (arith, never.1))

  module _ (e : ItemFacts) (it : IsFirst m.next (Some e)) where
    -- its task
    abbrev pub task : PeriodicTask
    task = task_at tasks e.place

    -- what is known of an entry that is there
    next_is : (n : ℕ) (o : Option ItemFacts) (f : ItemFacts) → o ≡ Some f
        → IsNext m.until n (task_at tasks n) (from_tick s.tick s.place n) o
        → IsNextRelease m.until n (task_at tasks n) (from_tick s.tick s.place n) f
    next_is n None f is next = absurd (let h : None ≡ Some f = is in cc)
    next_is n (Some g) f is next =
        subst (IsNextRelease m.until n (task_at tasks n) (from_tick s.tick s.place n)) (same g f is) next where
          same : (g f : ItemFacts) → Some g ≡ Some f → g ≡ f
          same g f h = let k : Some g ≡ Some f = h in cc

    pub within : e.place < length tasks
    within = elim (cases_lt e.place (length m.next)) [
      | inl less ↦ omega (arith, less, s.size)
      | inr past ↦ none_is_some (sym (get_or_past m.next e.place None past) ∙ it.0)
    ]

    here : IsNextRelease m.until e.place task (from_tick s.tick s.place e.place) e
    here = next_is _ _ _ it.0 (s.next e.place within)

    pub late : e.key < m.until
    late = here.late

    pub released : releases task e.key ≡ true
    released = here.released

    -- none is released before it
    none_between : (n x : ℕ) → n < length tasks → from_tick s.tick s.place n ≤ x → (x < e.key)
        ⊎ ((x ≡ e.key) × (n < e.place))
        → releases (task_at tasks n) x ≡ false
    none_between n x there low which = of (get_or m.next n None) refl (s.next n there) where
      before : (f : ItemFacts) → (x < e.key) ⊎ ((x ≡ e.key) × (n < e.place))
          → (e.key < f.key) ⊎ ((e.key ≡ f.key) × (e.place ≤ n)) → x < f.key
      before f (inl less) (inl lead) = omega (arith, less, lead)
      before f (inl less) (inr lead) = omega (arith, less, lead.0)
      before f (inr same) (inl lead) = omega (arith, same.0, lead)
      before f (inr same) (inr lead) = absurd (omega (arith, same.1, lead.1))

      up_to : (x < e.key) ⊎ ((x ≡ e.key) × (n < e.place)) → x < m.until
      up_to (inl less) = omega (arith, less, late)
      up_to (inr same) = omega (arith, same.0, late)

      of : (o : Option ItemFacts) → get_or m.next n None ≡ o
          → IsNext m.until n (task_at tasks n) (from_tick s.tick s.place n) o
          → releases (task_at tasks n) x ≡ false
      of None is next = next x low (up_to which)
      of (Some f) is next = next.quiet x low (before f which
          (lead_by e f e.place n here.item_is next.item_is (it.1 n f is)))

    -- it doesn't lie before the place
    onward : (s.tick < e.key) ⊎ ((s.tick ≡ e.key) × (s.place ≤ e.place))
    onward = of (cases_lt e.place s.place) (cases_lt s.tick e.key) where
      of : (e.place < s.place) ⊎ (s.place ≤ e.place) → (s.tick < e.key) ⊎ (e.key ≤ s.tick)
          → (s.tick < e.key) ⊎ ((s.tick ≡ e.key) × (s.place ≤ e.place))
      of which (inl less) = inl less
      of (inl low) (inr past) = absurd (omega (arith, here.early, from_early s.tick s.place e.place low, past))
      of (inr high) (inr past) = inr (omega (arith, here.early, from_late s.tick s.place e.place high, past), high)

    -- the jobs with it
    done_more : done ++ job_at task e.key ∷ [] ≡ jobs_up_to tasks e.key (e.place + 1)
    done_more =
        let quiet : AreQuiet tasks s.tick s.place e.key e.place =
        record { onward = onward; within = s.within; ends = omega (arith, within); quiet = none_between } in
        ap (λ js. js ++ job_at task e.key ∷ [])
        (s.done_is ∙ quiet_between tasks s.tick s.place e.key e.place quiet)
        ∙ append_assoc (jobs_before e.key tasks) (released_at e.key (take e.place tasks))
        (job_at task e.key ∷ [])
        ∙ ap (λ js. jobs_before e.key tasks ++ js)
        (sym (released_more e.key e.place tasks true within released))

    -- the place later on
    later : (n : ℕ) → from_tick s.tick s.place n ≤ from_tick e.key (e.place + 1) n
    later n = of onward (cases_lt n s.place) (cases_lt n (e.place + 1)) where
      of : (s.tick < e.key) ⊎ ((s.tick ≡ e.key) × (s.place ≤ e.place)) → (n < s.place) ⊎ (s.place ≤ n)
          → (n < e.place + 1) ⊎ (e.place + 1 ≤ n) → from_tick s.tick s.place n ≤ from_tick e.key (e.place + 1) n
      of (inl less) (inl a) (inl b) =
          omega (arith, less, from_early s.tick s.place n a, from_early e.key (e.place + 1) n b)
      of (inl less) (inl a) (inr b) =
          omega (arith, less, from_early s.tick s.place n a, from_late e.key (e.place + 1) n b)
      of (inl less) (inr a) (inl b) =
          omega (arith, less, from_late s.tick s.place n a, from_early e.key (e.place + 1) n b)
      of (inl less) (inr a) (inr b) =
          omega (arith, less, from_late s.tick s.place n a, from_late e.key (e.place + 1) n b)
      of (inr same) (inl a) (inl b) =
          omega (arith, same.0, from_early s.tick s.place n a, from_early e.key (e.place + 1) n b)
      of (inr same) (inl a) (inr b) = absurd (omega (arith, same.1, a, b))
      of (inr same) (inr a) (inl b) =
          omega (arith, same.0, from_late s.tick s.place n a, from_early e.key (e.place + 1) n b)
      of (inr same) (inr a) (inr b) =
          omega (arith, same.0, from_late s.tick s.place n a, from_late e.key (e.place + 1) n b)

    -- the other tasks stay
    other_next : (n : ℕ) → n ≢ e.place → n < length tasks
        → IsNext m.until n (task_at tasks n) (from_tick e.key (e.place + 1) n) (get_or m.next n None)
    other_next n apart there = of (get_or m.next n None) refl (s.next n there) where
      high : (f : ItemFacts) → (e.key < f.key) ⊎ ((e.key ≡ f.key) × (e.place ≤ n))
          → (n < e.place + 1) ⊎ (e.place + 1 ≤ n) → from_tick e.key (e.place + 1) n ≤ f.key
      high f (inl lead) (inl low) = omega (arith, lead, from_early e.key (e.place + 1) n low)
      high f (inl lead) (inr past) = omega (arith, lead, from_late e.key (e.place + 1) n past)
      high f (inr lead) (inl low) = absurd (apart (omega (arith, lead.1, low)))
      high f (inr lead) (inr past) = omega (arith, lead.0, from_late e.key (e.place + 1) n past)

      of : (o : Option ItemFacts) → get_or m.next n None ≡ o
          → IsNext m.until n (task_at tasks n) (from_tick s.tick s.place n) o
          → IsNext m.until n (task_at tasks n) (from_tick e.key (e.place + 1) n) o
      of None is next = λ x low before. next x (omega (arith, later n, low)) before
      of (Some f) is next = record {
        item_is = next.item_is;
        early = high f (lead_by e f e.place n here.item_is next.item_is (it.1 n f is)) (cases_lt n (e.place + 1));
        late = next.late;
        released = next.released;
        quiet = λ x low before. next.quiet x (omega (arith, later n, low)) before;
      }

    -- the release of its task that follows is kept in its place
    pub stands_more : (w : Merge) (o : Option ItemFacts) → w.tasks ≡ tasks → w.until ≡ m.until
        → w.next ≡ set m.next e.place o → IsNext m.until e.place task (suc e.key) o
        → StandsBehind w (done ++ job_at task e.key ∷ [])
    stands_more w o tasks_are until_is table_is next = record {
      limit = omega (arith, s.limit, until_is);
      size = omega (
        arith,
        ap (λ (t : List (Option ItemFacts)). length t) table_is,
        length-set m.next e.place o,
        s.size,
        ap (λ (t : List PeriodicTask). length t) tasks_are,
      );
      tick = e.key;
      place = e.place + 1;
      known = omega (arith, late, until_is);
      within = omega (arith, within, ap (λ (t : List PeriodicTask). length t) tasks_are);
      begun = λ at_end. absurd (omega (arith, late, until_is, at_end));
      done_is = subst (λ ts. done ++ job_at task e.key ∷ [] ≡ jobs_up_to ts e.key (e.place + 1))
          (sym tasks_are) done_more;
      next = λ n there. subst (λ u. IsNext u n (task_at w.tasks n) (from_tick e.key (e.place + 1) n)
          (get_or w.next n None))
          (sym until_is) (subst (λ ts. IsNext m.until n (task_at ts n) (from_tick e.key (e.place + 1) n)
          (get_or w.next n None))
          (sym tasks_are) (subst (λ t. IsNext m.until n (task_at tasks n) (from_tick e.key (e.place + 1) n)
          (get_or t n None))
          (sym table_is) (of n (omega (arith, there, ap (λ (t : List PeriodicTask). length t) tasks_are))
          (cases_eq n e.place))));
    } where
      of : (n : ℕ) → n < length tasks → (n ≡ e.place) ⊎ (n ≡ e.place → ⊥)
          → IsNext m.until n (task_at tasks n) (from_tick e.key (e.place + 1) n)
          (get_or (set m.next e.place o) n None)
      of n there (inl same) = subst (λ k. IsNext m.until k (task_at tasks k) (from_tick e.key (e.place + 1) k)
          (get_or (set m.next e.place o) k None)) (sym same)
          (subst (λ f. IsNext m.until e.place task f (get_or (set m.next e.place o) e.place None))
          (sym (from_early e.key (e.place + 1) e.place (omega arith)))
          (subst (IsNext m.until e.place task (suc e.key))
          (sym (get_or-set_same m.next e.place o None (omega (arith, within, s.size)))) next))
      of n there (inr apart) = subst (IsNext m.until n (task_at tasks n) (from_tick e.key (e.place + 1) n))
          (sym (get_or-set_other m.next e.place n o None apart)) (other_next n apart there)

-- ---- nothing came yet

-- with the first release of one task more
pub first_more : (until k : ℕ) (tasks : List PeriodicTask) (old : List (Option ItemFacts)) → k < length old
    → ((n : ℕ) → n < k → IsNext until n (task_at tasks n) 0 (get_or old n None))
    → (n : ℕ) → n < k + 1 → IsNext until n (task_at tasks n) 0
    (get_or (set old k (kept_release until k (task_at tasks k).offset)) n None)
first_more until k tasks old room kept n low = of (cases_eq n k) where
  first : Option ItemFacts
  first = kept_release until k (task_at tasks k).offset

  of : (n ≡ k) ⊎ (n ≡ k → ⊥) → IsNext until n (task_at tasks n) 0 (get_or (set old k first) n None)
  of (inl same) = subst (λ i. IsNext until i (task_at tasks i) 0 (get_or (set old k first) i None)) (sym same)
      (subst (IsNext until k (task_at tasks k) 0) (sym (get_or-set_same old k first None room))
      (first_kept until k (task_at tasks k)))
  of (inr apart) = subst (IsNext until n (task_at tasks n) 0) (sym (get_or-set_other old k n first None apart))
      (kept n (omega (arith, low, apart)))

-- with those of all tasks
pub stands_first : (tasks : List PeriodicTask) (until : ℕ) (next : List (Option ItemFacts)) → until ≤ last_tick_in Two
    → length next ≡ length tasks
    → ((n : ℕ) → n < length tasks → IsNext until n (task_at tasks n) 0 (get_or next n None))
    → StandsBehind (merge tasks until next) []
stands_first tasks until next limit size kept = record {
  limit = limit;
  size = size;
  tick = 0;
  place = 0;
  known = omega arith;
  within = omega arith;
  begun = λ _. refl;
  done_is = refl;
  next = λ n low. subst (λ t. IsNext until n (task_at tasks n) t (get_or next n None))
      (sym (from_late 0 0 n (omega arith))) (kept n low);
}

-- ---- what a heap gives

-- no job came where none is given
absent : (r : Option JobFacts) → IsSome r → IsNone r → ⊥
absent None some none = absurd (let e : false ≡ true = some in cc)
absent (Some j) some none = absurd (let e : true ≡ false = none in cc)

-- what holds of each task holds of the one at a place
pub all_of : (P : PeriodicTask → Type 0) (xs : List PeriodicTask) (i : ℕ) (d : PeriodicTask) → AllByRecursion P xs
    → i < length xs → P (get_or xs i d)
all_of P [] i d all there = absurd (omega arith)
all_of P (x ∷ xs) zero d all there = all.0
all_of P (x ∷ xs) (suc i) d all there = all_of P xs i d all.1 (omega (arith, there))

-- what holds of a job holds of the one given
given : (P : JobFacts → Type 0) (r : Option JobFacts) (j : JobFacts) → IfSome r (λ i. i ≡ j) → P j → IfSome r P
given P None j is holds = tt
given P (Some i) j is holds = subst P (sym is) holds

module _ (m : Merge) (done : List JobFacts) (s : StandsBehind m done) where
  -- where it gives none, all jobs came
  pub none_given : IsFirst m.next None → jobs_before m.until m.tasks ≡ done
  none_given none = all_done m done s none

  module _ (each : AllByRecursion (IsTask m.until) m.tasks) (e : ItemFacts) (it : IsFirst m.next (Some e)) where
    -- its task is there
    pub given_within : e.place < length m.tasks
    given_within = within m done s e it

    module _ (t : PeriodicTask) (task_is : t ≡ task m done s e it) where
      its : IsTask m.until t
      its = subst (IsTask m.until) (sym task_is)
          (all_of (IsTask m.until) m.tasks e.place blank_task each given_within)

      released_then : releases t e.key ≡ true
      released_then = subst (λ u. releases u e.key ≡ true) (sym task_is) (released m done s e it)

      -- its job is within the limits
      pub given_job : IsJob (job_at t e.key)
      given_job = job_within m.until t its e.key (late m done s e it) released_then

      -- the release that follows is kept, and the jobs are those so far with it
      pub given_next : (w : Merge) (release : ℕ) → m.until < 2 ^ 64 → release ≡ min (e.key + t.period) (2 ^ 64 - 1)
          → w.tasks ≡ m.tasks → w.until ≡ m.until
          → w.next ≡ set m.next e.place (kept_release m.until e.place release)
          → (r : Option JobFacts) → IfSome r (λ i. i ≡ job_at t e.key)
          → IfSome r (λ job. StandsBehind w (done ++ job ∷ []))
      given_next w release fits short tasks_are until_is table_is r job_is =
          given (λ job. StandsBehind w (done ++ job ∷ [])) r (job_at t e.key) job_is
          (subst (λ u. StandsBehind w (done ++ job_at u e.key ∷ [])) (sym task_is)
          (stands_more m done s e it w (kept_release m.until e.place release) tasks_are until_is table_is
          (subst (λ u. IsNext m.until e.place u (suc e.key) (kept_release m.until e.place release)) task_is
          (follows_short t e.key its.period released_then m.until e.place release fits short))))

      -- a job came
      pub given_some : (r : Option JobFacts) → (IsSome r ↔ IsJob (job_at t e.key)) → IsNone r → ⊥
      given_some r allowed none = absent r (allowed.1 given_job) none

-- ---- what a call gives, by its parts

module _ (tasks : List PeriodicTask) (until : ℕ) (old : List (Option ItemFacts))
    (each : AllByRecursion (IsTask until) tasks) (e : ItemFacts) (it : IsFirst old (Some e)) where
  -- the heap has the place
  pub room_given : (done : List JobFacts) → StandsBehind (merge tasks until old) done → (n : List (Option ItemFacts))
      → n ≡ set old e.place None → e.place < length n
  room_given done s n taken = omega (
    arith,
    given_within (merge tasks until old) done s each e it,
    s.size,
    ap (λ (t : List (Option ItemFacts)). length t) taken,
    length-set old e.place None,
  )

  -- the next job
  pub next_given : (n w : List (Option ItemFacts)) (release : ℕ) → until < 2 ^ 64
      → release ≡ min (e.key + (get_or tasks e.place blank_task).period) (2 ^ 64 - 1)
      → n ≡ set old e.place None → w ≡ set n e.place (kept_release until e.place release) → (r : Option JobFacts)
      → IfSome r (λ i. i ≡ job_at (get_or tasks e.place blank_task) e.key) → (done : List JobFacts)
      → StandsBehind (merge tasks until old) done
      → IfSome r (λ job. StandsBehind (merge tasks until w) (done ++ job ∷ []))
  next_given n w release fits short taken put r job_is done s =
      given_next (merge tasks until old) done s each e it (get_or tasks e.place blank_task) refl
      (merge tasks until w) release fits short refl refl
      (put ∙ ap (λ t. set t e.place (kept_release until e.place release)) taken ∙ set-set old e.place None
      (kept_release until e.place release)) r job_is

  -- a job is given
  pub some_given : (r : Option JobFacts) → (IsSome r ↔ IsJob (job_at (get_or tasks e.place blank_task) e.key))
      → (done : List JobFacts) → StandsBehind (merge tasks until old) done → IsNone r → ⊥
  some_given r allowed done s none =
      given_some (merge tasks until old) done s each e it (get_or tasks e.place blank_task) refl r allowed none

  -- the same where the place and the key were read
  module _ (p k : ℕ) (p_is : p ≡ e.place) (k_is : k ≡ e.key) where
    pub read_next : (n w : List (Option ItemFacts)) (release : ℕ) → until < 2 ^ 64
        → release ≡ min (k + (get_or tasks p blank_task).period) (2 ^ 64 - 1)
        → n ≡ set old p None → w ≡ set n p (kept_release until p release) → (r : Option JobFacts)
        → IfSome r (λ i. i ≡ job_at (get_or tasks p blank_task) k) → (done : List JobFacts)
        → StandsBehind (merge tasks until old) done
        → IfSome r (λ job. StandsBehind (merge tasks until w) (done ++ job ∷ []))
    read_next n w release fits short taken put r job_is = next_given n w release fits
        (short ∙ ap (λ j. min (j + (get_or tasks p blank_task).period) (2 ^ 64 - 1)) k_is
        ∙ ap (λ q. min (e.key + (get_or tasks q blank_task).period) (2 ^ 64 - 1)) p_is)
        (taken ∙ ap (λ q. set old q None) p_is) (put ∙ ap (λ q. set n q (kept_release until q release)) p_is) r
        (subst (λ q. IfSome r (λ i. i ≡ job_at (get_or tasks q blank_task) e.key)) p_is
        (subst (λ j. IfSome r (λ i. i ≡ job_at (get_or tasks p blank_task) j)) k_is job_is))

    pub read_some : (r : Option JobFacts) → (IsSome r ↔ IsJob (job_at (get_or tasks p blank_task) k))
        → (done : List JobFacts) → StandsBehind (merge tasks until old) done → IsNone r → ⊥
    read_some r allowed = some_given r
        (subst (λ q. IsSome r ↔ IsJob (job_at (get_or tasks q blank_task) e.key)) p_is
        (subst (λ j. IsSome r ↔ IsJob (job_at (get_or tasks p blank_task) j)) k_is allowed))

-- the same of equal parts
pub same_end : (m w : Merge) (ts : List PeriodicTask) (done : List JobFacts) (P : Type 0) → w ≡ m → ts ≡ w.tasks
    → ((d : List JobFacts) → StandsBehind (merge ts w.until w.next) d → P → jobs_before w.until ts ≡ d)
    → StandsBehind m done → P → jobs_before m.until m.tasks ≡ done
same_end m w ts done P view same ends stands holds =
    subst (λ (x : Merge). jobs_before x.until x.tasks ≡ done) view
    (subst (λ xs. jobs_before w.until xs ≡ done) same
    (ends done (subst (λ xs. StandsBehind (merge xs w.until w.next) done) (sym same)
    (subst (λ x. StandsBehind x done) (sym view) stands)) holds))

-- ---- the jobs that are left

-- the jobs before a tick begin those before a later one
before_later : (tasks : List PeriodicTask) (tick more : ℕ)
    → (rest : List JobFacts) × (jobs_before (tick + more) tasks ≡ jobs_before tick tasks ++ rest)
before_later tasks tick zero = (
  [],
  ap (λ n. jobs_before n tasks) (let e : tick + 0 ≡ tick = omega arith in e)
      ∙ sym (append-nil (jobs_before tick tasks)),
)
before_later tasks tick (suc more) = let it = before_later tasks tick more in (
  it.0 ++ released_at (tick + more) tasks,
  ap (λ n. jobs_before n tasks) (let e : tick + suc more ≡ suc (tick + more) = omega arith in e)
      ∙ ap (λ js. js ++ released_at (tick + more) tasks) it.1
      ∙ append_assoc (jobs_before tick tasks) it.0 (released_at (tick + more) tasks),
)

-- the jobs up to a place begin them too
up_to_later : (tasks : List PeriodicTask) (tick place until : ℕ) → tick < until
    → (rest : List JobFacts) × (jobs_before until tasks ≡ jobs_up_to tasks tick place ++ rest)
up_to_later tasks tick place until early =
    let more : ℕ = until - suc tick in
    let it = before_later tasks (suc tick) more in
    let others : List JobFacts = released_at tick (drop place tasks) in
    let here : released_at tick tasks ≡ released_at tick (take place tasks) ++ others =
    ap (released_at tick) (sym (take-append-drop place tasks))
    ∙ released-append tick (take place tasks) (drop place tasks) in (
      others ++ it.0,
      ap (λ n. jobs_before n tasks) (let e : until ≡ suc tick + more = omega (arith, early) in e) ∙ it.1
          ∙ ap (λ js. (jobs_before tick tasks ++ js) ++ it.0) here
          ∙ ap (λ js. js ++ it.0) (sym
          (append_assoc (jobs_before tick tasks) (released_at tick (take place tasks)) others))
          ∙ append_assoc (jobs_up_to tasks tick place) others it.0,
    )

-- the jobs that came begin all jobs
pub stands_front : (m : Merge) (done : List JobFacts) → StandsBehind m done
    → (rest : List JobFacts) × (jobs_before m.until m.tasks ≡ done ++ rest)
stands_front m done s = of (cases_lt s.tick m.until) where
  of : (s.tick < m.until) ⊎ (m.until ≤ s.tick) → (rest : List JobFacts) × (jobs_before m.until m.tasks ≡ done ++ rest)
  of (inl early) = let it = up_to_later m.tasks s.tick s.place m.until early in
      (it.0, it.1 ∙ ap (λ js. js ++ it.0) (sym s.done_is))
  of (inr past) =
      let same : s.tick ≡ m.until = omega (arith, past, s.known) in
      let none : s.place ≡ 0 = s.begun same in (
        [],
        sym (append-nil (jobs_before m.until m.tasks))
            ∙ ap (λ n. jobs_before n m.tasks ++ released_at n (take 0 m.tasks)) (sym same)
            ∙ ap (λ n. jobs_before s.tick m.tasks ++ released_at s.tick (take n m.tasks)) (sym none) ∙ sym s.done_is
            ∙ sym (append-nil done),
      )
