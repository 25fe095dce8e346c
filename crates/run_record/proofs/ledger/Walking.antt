-- The steps of a run are read: the page follows its states, up to the end.
use Rattle.std.proofs.Common.{◌≡◌, ℕ, suc, ◌+◌, ◌-◌, ◌≤◌, ◌<◌, ◌⊎◌, inl, inr, List, [], ◌∷◌, ◌++◌, length, map, drop}
use Rattle.std.proofs.Common.{get_or, refl, sym, ap, ◌∙◌, subst, Bool, true, false, arith, append_assoc, append-nil}
use Rattle.std.proofs.Common.{add-one, slice_index_or, MatchBool, sum_by, filter, filter_map, fold, ◌==◌, option_map}
use Rattle.std.proofs.Common.{Option}
use Rattle.std.proofs.lemmas.List.{drop_all, length-map}
use Rattle.std.specs.List.{list_all, cons_option, enumerate_from}
use Rattle.dover_model.specs.Common.{Fraction, Instance, IsListable, IsValid, entry_of, JobFacts, end_state, served}
use Rattle.dover_model.specs.Common.{IsMember, Each, IsNumberedFrom, jobs_of, Keeps, State, opening, to_come, is_done}
use Rattle.dover_model.specs.Common.{is_over, is_held, held, privileged, value_sum, Move, Prints, Waits, Ticks, step}
use Rattle.dover_model.specs.Common.{after, ending}
use Rattle.dover_model.specs.Common.{◌or_else◌, Step, is_end, event_of, printed_of, printed, run, IsWholeRun}
use Rattle.dover_model.specs.declared.events.Event.{Event}
use Rattle.dover_model.specs.declared.events.Entry.{Entry}
use Rattle.dover_model.specs.declared.events.Role.TheVariants.{Coming, Running}
use Rattle.dover_model.specs.declared.events.Event.TheVariants.{End}
use Rattle.dover_model.specs.declared.events.Task.{Task}
use Rattle.dover_model.proofs.runs.Ending.{run_is_whole, end_over, few_printed}
use Rattle.dover_model.proofs.steps.Kept.{step_deed, step_kept, opening_keeps, come_coming, end_same}
use Rattle.dover_model.proofs.lists.Members.{sum_map}
use Rattle.dover_model.proofs.steps.Roles.{passes}
use Rattle.dover_model.proofs.lists.Tests.{never}
use Rattle.run_record.specs.intervals.Rows.{IsRunOf}
use Rattle.run_record.proofs.intervals.Counted.{item_next}
use Rattle.held_stack.specs.Stack.{by_deadline}
use Rattle.dover_model.proofs.runs.Runs.{some_printed}
use Rattle.dover_model.proofs.runs.ReleaseCounts.{releases}
use Rattle.dover_model.specs.Intervals as model
use Rattle.run_record.specs.ledger.Pages.{Page, nobody, page_of, entries_of, with_event, room_on, worth, holds_none}
use Rattle.run_record.specs.ledger.Pages.{value_on, IsReadable, had_in}
use Rattle.run_record.specs.ledger.Rooms.{room_before}
use Rattle.run_record.proofs.ledger.Follows.{CanFollow, Follows, Next, value_before}
use Rattle.run_record.proofs.ledger.Moves.{deed_next, none_is, rests, worth_is, worth_small}
use Rattle.run_record.proofs.ledger.Releases.{entries_after, releases_are}
use Rattle.run_record.proofs.ledger.Roles.{none_pass}

-- the tasks in which the last of these steps is taken, or else those of the state
abbrev last_tasks : State → List Step → List Task
last_tasks s steps = (fold (λ t x. x.before) s steps).tasks

-- the page where these printed steps are still to be read
pub record Reads (J : Instance) (p : Page) (rest : List Event) : Type 0 where
  pub before : State
  pub steps : List Step
  pub keeps : Keeps J before
  pub whole : (steps ≡ []) ⊎ IsWholeRun J.rules before steps
  pub prints : printed_of steps ≡ rest
  pub follows : Follows before p
  pub last : last_tasks before steps ≡ (end_state J).tasks
  pub over : steps ≡ [] → Each (λ t. is_over t ≡ true) before.tasks

-- the jobs before they run, by number
pub come_stored : (n : ℕ) (jobs : List JobFacts) (t : Task) → IsMember t (to_come n jobs)
    → get_or (map entry_of (to_come n jobs)) (t.number - n) nobody ≡ entry_of t
come_stored n [] t member = absurd member
come_stored n (j ∷ jobs) t (inl e) =
    let first : t.number - n ≡ 0 = omega (arith, ap (λ (u : Task). u.number) e) in
    ap (λ i. get_or (map entry_of (to_come n (j ∷ jobs))) i nobody) first ∙ sym (ap entry_of e)
come_stored n (j ∷ jobs) t (inr m) =
    let above : suc n ≤ t.number = numbers (suc n) jobs m in
    let next : t.number - n ≡ suc (t.number - suc n) = omega (arith, above) in
    ap (λ i. get_or (map entry_of (to_come n (j ∷ jobs))) i nobody) next ∙ come_stored (suc n) jobs t m where
      numbers : (from : ℕ) (js : List JobFacts) → IsMember t (to_come from js) → from ≤ t.number
      numbers from [] absent = absurd absent
      numbers from (i ∷ js) (inl e) = omega (arith, ap (λ (v : Task). v.number) e)
      numbers from (i ∷ js) (inr k) = omega (arith, numbers (suc from) js k)

-- a move that changes no job, where all are over
abbrev AtEnd : State → Move → Type 0
AtEnd s m = ((after s m).tasks ≡ s.tasks) × Each (λ t. is_over t ≡ true) s.tasks

-- the last tasks stay where the state goes on
same_last : (xs : List Step) (s : State) (m : Move) → (xs ≡ [] → AtEnd s m)
    → last_tasks (after s m) xs ≡ last_tasks s xs
same_last [] s m at_end = (at_end refl).0
same_last (x ∷ xs) s m at_end = refl

-- a test that is one of two facts
one_of_two : {A B : Type 0} (b : Bool) → MatchBool b A B → A ⊎ B
one_of_two true fact = inl fact
one_of_two false fact = inr fact

-- what is told of each printed step by the state before it
abbrev pub told : (State → Event → ℕ) → List Step → List ℕ
told g steps = filter_map (λ step. option_map (g step.before) (event_of step.move)) steps

-- what the running and the held jobs are worth
abbrev pub worth_before : State → Event → ℕ
worth_before s e = value_sum (privileged s)

-- the page is that of the state, before this step
pub record IsOf (s : State) (p : Page) (e : Event) : Type 0 where
  pub readable : IsReadable p e
  pub room : room_on p e ≡ room_before s e
  pub value : value_on p e ≡ value_before s e
  pub weight : worth p ≡ value_sum (privileged s)
  pub small : worth p ≤ 10_000_000_000_000
  pub none : holds_none p ≡ (length (held s) == 0)

-- the next printed step of these is read, and what they tell is what it tells in its state, and then what is left tells
pub record OneRead (J : Instance) (p : Page) (e : Event) (rest : List Event) (steps : List Step) : Type 0 where
  pub state : State
  pub of : IsOf state p e
  pub reads : Reads J (with_event p e) rest
  pub tells : (g : State → Event → ℕ) → told g steps ≡ g state e ∷ told g reads.steps
  pub intervals : (o : Option model.Interval)
      → model.intervals_of o steps ≡ model.intervals_of o (record { before = state; move = Prints e } ∷ reads.steps)

module _ (J : Instance) (valid : IsValid J) (listable : IsListable J) where
  -- what all jobs are worth
  all_value : (s : State) → Keeps J s → value_sum s.tasks ≤ 10_000_000_000_000
  all_value s keeps = omega (
    arith,
    listable.total,
    sum_map (λ (t : Task). t.job) (λ j. j.value) s.tasks,
    ap (sum_by (λ j. j.value)) keeps.jobs,
  )

  -- the page follows each step
  step_next : (s : State) → Keeps J s → (p : Page) → Follows s p → Next s p (step J.rules s)
  step_next s keeps p follows =
      deed_next s keeps.sound p follows (all_value s keeps) J.rules.ratio (ending s or_else Ticks)
      (λ _. rests s keeps.sound p follows (all_value s keeps) (list_all is_over s.tasks)
      (value_sum (filter is_done s.tasks)))
      (step J.rules s) (step_deed J valid s keeps J.rules)

  -- the last step of a whole run is its end, at which all jobs are over
  ends : (xs : List Step) (s : State) → Keeps J s
      → MatchBool (is_end (step J.rules s)) (xs ≡ []) (IsWholeRun J.rules (after s (step J.rules s)) xs)
      → xs ≡ [] → AtEnd s (step J.rules s)
  ends xs s keeps whole none = by_end (is_end (step J.rules s)) refl whole where
    by_end : (b : Bool) → is_end (step J.rules s) ≡ b
        → MatchBool b (xs ≡ []) (IsWholeRun J.rules (after s (step J.rules s)) xs) → AtEnd s (step J.rules s)
    by_end true last here =
        let it : (step J.rules s ≡ Prints (End (value_sum (filter is_done s.tasks))))
        × Each (λ t. is_over t ≡ true) s.tasks = end_over J valid s keeps J.rules last in
        (ap (λ m. (after s m).tasks) it.0 ∙ end_same s (value_sum (filter is_done s.tasks)), it.1)
    by_end false on rest = absurd (subst (IsWholeRun J.rules (after s (step J.rules s))) none rest)

  -- what the state before a step says of the page
  known : (s : State) → Keeps J s → (p : Page) → Follows s p → (e : Event) → CanFollow s p (Prints e) → IsOf s p e
  known s keeps p follows e can = record {
    readable = can.0;
    room = can.1;
    value = can.2;
    weight = worth_is s keeps.sound p follows (all_value s keeps);
    small = worth_small s keeps.sound p follows (all_value s keeps);
    none = none_is s keeps.sound p follows (all_value s keeps);
  }

  -- the next printed step is read, and the page after it follows
  module _ (p : Page) (e : Event) (rest : List Event) where
    next_read : (xs : List Step) (s : State) → Keeps J s → (xs ≡ []) ⊎ IsWholeRun J.rules s xs
        → printed_of xs ≡ e ∷ rest → Follows s p → last_tasks s xs ≡ (end_state J).tasks → OneRead J p e rest xs
    next_read [] s keeps whole prints follows last = absurd (let no : printed_of [] ≡ e ∷ rest = prints in cc)
    next_read (x ∷ xs) s keeps (inl none) prints follows last = absurd (let no : x ∷ xs ≡ [] = none in cc)
    next_read (x ∷ xs) s keeps (inr whole) prints follows last =
        subst (λ (y : Step). OneRead J p e rest (y ∷ xs)) (sym whole.0)
        (by_move (step J.rules s) (step_next s keeps p follows) (step_kept J valid s keeps J.rules)
        (one_of_two (is_end (step J.rules s)) whole.1)
        (ends xs s keeps whole.1)
        (ap (λ (y : Step). last_tasks y.before xs) (sym whole.0) ∙ last)
        (ap (λ (y : Step). cons_option (event_of y.move) (printed_of xs)) (sym whole.0) ∙ prints)
        (next_read xs)) where
          passed_over : (m : Move)
              → ((g : State → Event → ℕ) → told g (record { before = s; move = m } ∷ xs) ≡ told g xs)
              → ((o : Option model.Interval)
              → model.intervals_of o (record { before = s; move = m } ∷ xs) ≡ model.intervals_of o xs)
              → OneRead J p e rest xs → OneRead J p e rest (record { before = s; move = m } ∷ xs)
          passed_over m same_told same_intervals it = record {
            state = it.state;
            of = it.of;
            reads = it.reads;
            tells = λ g. same_told g ∙ it.tells g;
            intervals = λ o. same_intervals o ∙ it.intervals o;
          }

          by_move : (m : Move) → Next s p m → Keeps J (after s m) → (xs ≡ []) ⊎ IsWholeRun J.rules (after s m) xs
              → (xs ≡ [] → AtEnd s m) → last_tasks s xs ≡ (end_state J).tasks
              → cons_option (event_of m) (printed_of xs) ≡ e ∷ rest
              → ((t : State) → Keeps J t → (xs ≡ []) ⊎ IsWholeRun J.rules t xs → printed_of xs ≡ e ∷ rest
              → Follows t p → last_tasks t xs ≡ (end_state J).tasks → OneRead J p e rest xs)
              → OneRead J p e rest (record { before = s; move = m } ∷ xs)
          by_move (Prints f) next kept onward at_end last same_events more =
              let head : f ≡ e = cc in
              let tail : printed_of xs ≡ rest = cc in record {
                state = s;
                of = subst (IsOf s p) head (known s keeps p follows f next.can);
                reads = record {
                  before = after s (Prints f);
                  steps = xs;
                  keeps = kept;
                  whole = onward;
                  prints = tail;
                  follows = subst (λ g. Follows (after s (Prints f)) (with_event p g)) head next.follows;
                  last = same_last xs s (Prints f) at_end ∙ last;
                  over = λ none. subst (Each (λ t. is_over t ≡ true)) (sym (at_end none).0) (at_end none).1;
                };
                tells = λ g. ap (λ f. g s f ∷ told g xs) head;
                intervals = λ o. ap (λ f. model.intervals_of o (record { before = s; move = Prints f } ∷ xs)) head;
              }
          by_move (Waits n) next kept onward at_end last same_events more =
              passed_over (Waits n) (λ g. refl) (λ o. refl) (more (after s (Waits n)) kept onward same_events
              next.follows (same_last xs s (Waits n) at_end ∙ last))
          by_move Ticks next kept onward at_end last same_events more =
              passed_over Ticks (λ g. refl) (λ o. refl) (more (after s Ticks) kept onward same_events next.follows
              (same_last xs s Ticks at_end ∙ last))

    pub reads_next : (reads : Reads J p (e ∷ rest)) → OneRead J p e rest reads.steps
    reads_next reads =
        next_read reads.steps reads.before reads.keeps reads.whole reads.prints reads.follows reads.last

  -- where all is read, no step is left
  pub all_read : (p : Page) (reads : Reads J p []) → reads.steps ≡ []
  all_read p reads = by_steps reads.whole where
    by_steps : (reads.steps ≡ []) ⊎ IsWholeRun J.rules reads.before reads.steps → reads.steps ≡ []
    by_steps (inl none) = none
    by_steps (inr whole) = absurd (some_printed J.rules reads.steps reads.before whole reads.prints)

  -- and the jobs are stored as they are at the end
  pub end_stored : (p : Page) → Reads J p []
      → Each (λ t. slice_index_or p.entries t.number nobody ≡ entry_of t) (end_state J).tasks
      × IsNumberedFrom 0 (end_state J).tasks × Each (λ t. t.had ≤ t.job.work) (end_state J).tasks
      × (jobs_of (end_state J).tasks ≡ J.jobs)
  end_stored p reads = elim reads.whole [
    | inl none ↦ let same : reads.before.tasks ≡ (end_state J).tasks =
        ap (last_tasks reads.before) (sym none) ∙ reads.last in
        subst (λ ts. Each (λ (t : Task). slice_index_or p.entries t.number nobody ≡ entry_of t) ts
        × IsNumberedFrom 0 ts × Each (λ (t : Task). t.had ≤ t.job.work) ts × (jobs_of ts ≡ J.jobs)) same (
          λ t m. reads.follows.stored t m (λ runs. never (sym (passes is_over t Running false runs refl)
              ∙ reads.over none t m)),
          reads.keeps.sound.numbered,
          reads.keeps.sound.at_most_work,
          reads.keeps.jobs,
        )
    | inr whole ↦ absurd (some_printed J.rules reads.steps reads.before whole reads.prints)
  ]

  -- before the first step
  unfoldable pub none_read : Reads J (page_of (map entry_of (to_come 0 J.jobs))) (printed J)
  none_read = record {
    before = opening J.jobs;
    steps = run J;
    keeps = opening_keeps J;
    whole = inr (run_is_whole J valid);
    prints = refl;
    follows = record {
      since = omega arith;
      turn = λ t m runs. two (sym (come_coming 0 J.jobs t m).0 ∙ runs);
      stored = λ t m other.
          ap (λ i. get_or (map entry_of (to_come 0 J.jobs)) i nobody) (none_off t.number) ∙ come_stored 0 J.jobs t m;
      count = omega (arith, length-map (to_come 0 J.jobs) entry_of);
      order = tt;
      held = ap (λ ts. by_deadline (map entry_of ts)) (sym (none_pass is_held (to_come 0 J.jobs)
          (λ t m. passes is_held t Coming false (come_coming 0 J.jobs t m).0 refl)));
    };
    last = refl;
    over = λ none. absurd (no_run (run J) (run_is_whole J valid) none);
  } where
    no_run : (xs : List Step) → IsWholeRun J.rules (opening J.jobs) xs → xs ≡ [] → ⊥
    no_run [] whole none = whole
    no_run (x ∷ xs) whole none = let no : x ∷ xs ≡ [] = none in cc

    two : Coming ≡ Running → ⊥
    two e = cc

    none_off : (n : ℕ) → n ≡ n - 0
    none_off n = omega arith

-- what is left of the jobs says what they had
had_all : (entries : List Entry) (n : ℕ) (tasks : List Task) → IsNumberedFrom n tasks
    → Each (λ t. slice_index_or entries t.number nobody ≡ entry_of t) tasks → Each (λ t. t.had ≤ t.job.work) tasks
    → map (had_in entries) (enumerate_from n (jobs_of tasks)) ≡ map (λ t. t.had) tasks
had_all entries n [] numbered stored most = refl
had_all entries n (t ∷ tasks) numbered stored most =
    ap (λ h. h ∷ map (had_in entries) (enumerate_from (n + 1) (jobs_of tasks)))
    (ap (λ m. t.job.work - (slice_index_or entries m nobody).left) (sym numbered.0)
    ∙ ap (λ (e : Entry). t.job.work - e.left) (stored t (inl refl)) ∙ back t.job.work t.had (most t (inl refl)))
    ∙ ap (λ hs. t.had ∷ hs) (had_all entries (n + 1) tasks
    (subst (λ k. IsNumberedFrom k tasks) (sym (add-one n)) numbered.1)
    (λ u m. stored u (inr m)) (λ u m. most u (inr m))) where
      back : (w h : ℕ) → h ≤ w → w - (w - h) ≡ h
      back w h low = omega arith

-- so much is told of the steps before these, of which the page is at this one
abbrev pub Tells : Instance → (State → Event → ℕ) → Page → List ℕ → List Event → Type 0
Tells J g p numbers rest = (reads : Reads J p rest) × (numbers ++ told g reads.steps ≡ told g (run J))

module _ (k : Fraction) (steps : List Event) (J : Instance) (of : IsRunOf k steps J) where
  -- the steps are few
  pub few_steps : length steps ≤ 5_000_001
  few_steps = omega (arith, ap length of.prints, few_printed J of.valid, of.listable.count)

  -- before the first step
  pub at_start : page_of (entries_of steps) ≡ page_of (map entry_of (to_come 0 J.jobs))
  at_start = ap page_of (entries_after [] steps
      ∙ ap (λ js. map entry_of (to_come 0 js)) (ap releases (sym of.prints) ∙ releases_are J of.valid))

  pub begun : (p : Page) → p ≡ page_of (entries_of steps) → Reads J p steps
  begun p is = subst (λ q. Reads J q steps) (sym (is ∙ at_start))
      (subst (Reads J (page_of (map entry_of (to_come 0 J.jobs)))) of.prints (none_read J of.valid of.listable))

  module _ (p : Page) (i : ℕ) (e : Event) (is : e ≡ get_or steps i e) (there : i < length steps)
      (reads : Reads J p (drop i steps)) where
    -- the next step is read
    pub step_read : OneRead J p e (drop (i + 1) steps) reads.steps
    step_read = subst (λ es. (r : Reads J p es) → OneRead J p e (drop (i + 1) steps) r.steps)
        (sym (item_next steps i e is there)) (reads_next J of.valid of.listable p e (drop (i + 1) steps)) reads

    -- and the page after it is behind it
    pub step_behind : (q : Page) → q ≡ with_event p e → Reads J q (drop (i + 1) steps)
    step_behind q same = subst (λ x. Reads J x (drop (i + 1) steps)) (sym same) step_read.reads

  module _ (g : State → Event → ℕ) where
    pub none_told : (p : Page) (numbers : List ℕ) → p ≡ page_of (entries_of steps) → numbers ≡ []
        → Tells J g p numbers steps
    unfolding none_read
    none_told p numbers is none = subst (λ ns. Tells J g p ns steps) (sym none)
        (subst (λ q. Tells J g q [] steps) (sym (is ∙ at_start))
        (subst (λ es. Tells J g (page_of (map entry_of (to_come 0 J.jobs))) [] es) of.prints
        (none_read J of.valid of.listable, refl)))

    -- what is told of one step more
    pub one_told : (p : Page) (i : ℕ) (e : Event) → e ≡ get_or steps i e → i < length steps → (numbers : List ℕ)
        → (it : Tells J g p numbers (drop i steps)) → (f : Page → Event → ℕ)
        → ((s : State) → IsOf s p e → f p e ≡ g s e) → (q : Page) (longer : List ℕ) → q ≡ with_event p e
        → longer ≡ numbers ++ f p e ∷ [] → Tells J g q longer (drop (i + 1) steps)
    one_told p i e is there numbers (reads, all) f same q longer after adds =
        let one = step_read p i e is there reads in
        subst (λ x. Tells J g x longer (drop (i + 1) steps)) (sym after) (
          one.reads,
          ap (λ ns. ns ++ told g one.reads.steps) adds
              ∙ append_assoc numbers (f p e ∷ []) (told g one.reads.steps)
              ∙ ap (λ n. numbers ++ n ∷ told g one.reads.steps) (same one.state one.of)
              ∙ ap (λ ns. numbers ++ ns) (sym (one.tells g)) ∙ all,
        )

    -- where all is read
    pub all_told : (p : Page) (numbers : List ℕ) (i : ℕ) → length steps ≤ i → Tells J g p numbers (drop i steps)
        → numbers ≡ told g (run J)
    all_told p numbers i past it = by_end (subst (Tells J g p numbers) (drop_all i steps past) it) where
      by_end : Tells J g p numbers [] → numbers ≡ told g (run J)
      by_end (reads, all) = sym (append-nil numbers)
          ∙ ap (λ xs. numbers ++ told g xs) (sym (all_read J of.valid of.listable p reads)) ∙ all

  -- where all is read, the jobs had what they have at the end
  pub had_at_end : (p : Page) (jobs : List JobFacts) (i : ℕ) → length steps ≤ i → jobs ≡ J.jobs
      → Reads J p (drop i steps) → map (had_in p.entries) (enumerate_from 0 jobs) ≡ served J
  had_at_end p jobs i past same reads =
      let it = end_stored J of.valid of.listable p (subst (Reads J p) (drop_all i steps past) reads) in
      ap (λ js. map (had_in p.entries) (enumerate_from 0 js)) (same ∙ sym it.3)
      ∙ had_all p.entries 0 (end_state J).tasks it.1 it.0 it.2
