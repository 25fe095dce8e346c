-- What each step of a run meets: a fact that each step keeps, and a processor that is busy while a job is ready.
use Rattle.std.proofs.Common.{◌≡◌, ℕ, ◌⊎◌, inl, inr, List, [], ◌∷◌, ◌++◌, refl, sym, ap, ◌∙◌, subst, Bool, true, false}
use Rattle.std.proofs.Common.{cond, arith, Option, Some, None, MatchBool, filter, fold, sum_by}
use Rattle.std.specs.Bool.{then_some}
use Rattle.std.specs.List.{list_all, cons_option}
use Rattle.dover_model.specs.Common.{Event, End, Coming, Fresh, Running, Done, Gone, Task, Rules, Instance, IsValid}
use Rattle.dover_model.specs.Common.{State, opening, is_over, is_done, is_ready_behind, value_sum, Move, Prints, Waits}
use Rattle.dover_model.specs.Common.{Ticks, step, after, ending, ◌or_else◌, Step, is_end, event_of, printed_of, run}
use Rattle.dover_model.specs.Common.{value_of_end, completed_value, step_at, IsWholeRun, Meets, IsMember, Each}
use Rattle.dover_model.specs.Common.{NoneRuns, Keeps, takes_or_abandons, SomeRuns}
use Rattle.dover_model.proofs.lists.Members.{sum_filter, sum_map, sum_same, member_behind}
use Rattle.dover_model.proofs.steps.Roles.{passes, is_over_role}
use Rattle.dover_model.proofs.steps.Ticking.{Quiet}
use Rattle.dover_model.proofs.steps.Deeds.{tick_quiet}
use Rattle.dover_model.proofs.steps.Kept.{step_deed, step_kept, opening_keeps, come_coming, end_same}
use Rattle.dover_model.proofs.runs.Ending.{run_is_whole, run_over}
use Rattle.dover_model.proofs.runs.Serving.{none_overfull, NoneOverfull}
use Rattle.dover_model.specs.Common.{jobs_of}
use Rattle.dover_model.proofs.runs.Orderly.{ByDeadline}
use Rattle.dover_model.proofs.runs.Underload.{deed_orderly, ticks_orderly}

-- ---- a fact that each step but End keeps holds before each step

module _ (J : Instance) (valid : IsValid J) (rules : Rules) (P : State → Type 0)
    (kept : (s : State) → Keeps J s → P s → is_end (step rules s) ≡ false → P (after s (step rules s))) where
  -- what each step but End keeps holds before each step
  pub run_states : (xs : List Step) (s : State) → Keeps J s → P s → IsWholeRun rules s xs
      → Each (λ x. (x.move ≡ step rules x.before) × Keeps J x.before × P x.before) xs
  run_states [] s keeps holds whole y member = absurd member
  run_states (x ∷ xs) s keeps holds whole y (inl e) =
      subst (λ (z : Step). (z.move ≡ step rules z.before) × Keeps J z.before × P z.before) (sym (e ∙ whole.0))
      (refl, keeps, holds)
  run_states (x ∷ xs) s keeps holds whole y (inr member) =
      by_end (is_end (step rules s)) refl whole.1
      (λ onward rest. run_states xs (after s (step rules s))
      (step_kept J valid s keeps rules) onward rest y member) where
        by_end : (b : Bool) → is_end (step rules s) ≡ b
            → MatchBool b (xs ≡ []) (IsWholeRun rules (after s (step rules s)) xs)
            → (P (after s (step rules s)) → IsWholeRun rules (after s (step rules s)) xs
            → (y.move ≡ step rules y.before) × Keeps J y.before × P y.before)
            → (y.move ≡ step rules y.before) × Keeps J y.before × P y.before
        by_end true last none more = absurd (subst (IsMember y) none member)
        by_end false on rest more = more (kept s keeps holds on) rest

-- ---- the processor is busy while a job is ready

-- in a quiet state some job runs if one is ready
tick_busy : (s : State) → Quiet s → Each (λ t. (t.role ≡ Fresh) ⊎ (is_ready_behind t ≡ true) → SomeRuns s.tasks) s.tasks
tick_busy s quiet t m (inl fresh) = absurd (quiet.stale t m fresh)
tick_busy s quiet t m (inr behind) = by_runner quiet.runs_or_none where
  by_runner : SomeRuns s.tasks ⊎ NoneRuns s.tasks → SomeRuns s.tasks
  by_runner (inl it) = it
  by_runner (inr none) = absurd (quiet.free none t m behind)

-- in each tick of a run some job runs if one is ready
pub run_busy : (J : Instance) → IsValid J
    → Each (λ x. x.move ≡ Ticks
    → Each (λ t. (t.role ≡ Fresh) ⊎ (is_ready_behind t ≡ true) → SomeRuns x.before.tasks) x.before.tasks) (run J)
run_busy J valid x member ticks =
    tick_busy x.before (tick_quiet J.rules.ratio x.before (ending x.before or_else Ticks) (step J.rules x.before)
    (step_deed J valid x.before it.1 J.rules) (sym it.0 ∙ ticks)) where
      it : (x.move ≡ step J.rules x.before) × Keeps J x.before × Unit {0}
      it = run_states J valid J.rules (λ s. Unit {0}) (λ s keeps holds on. tt) (run J) (opening J.jobs)
          (opening_keeps J) tt
          (run_is_whole J valid) x member

-- ---- the value at the end

-- what is printed by one list of steps after another
pub printed_append : (xs ys : List Step) → printed_of (xs ++ ys) ≡ printed_of xs ++ printed_of ys
printed_append [] ys = refl
printed_append (x ∷ xs) ys = by_event (event_of x.move) (printed_append xs ys) where
  by_event : (e : Option Event) → printed_of (xs ++ ys) ≡ printed_of xs ++ printed_of ys
      → cons_option e (printed_of (xs ++ ys)) ≡ cons_option e (printed_of xs) ++ printed_of ys
  by_event None same = same
  by_event (Some e) same = ap (λ es. e ∷ es) same

-- the value that the last End names
abbrev pub last_value : ℕ → List Event → ℕ
last_value from events = fold (λ value e. value_of_end e value) from events

-- End names the value
pub value_last : (from value : ℕ) (events : List Event) → last_value from (events ++ (End value ∷ [])) ≡ value
value_last from value [] = refl
value_last from value (e ∷ events) = value_last (value_of_end e from) value events

-- the value of a run is that of the jobs done at its end
pub value_of_run : (J : Instance) (valid : IsValid J)
    → completed_value J ≡ value_sum (filter is_done (run_over J valid).last.tasks)
value_of_run J valid =
    ap (λ xs. last_value 0 (printed_of xs)) (run_over J valid).steps
    ∙ ap (last_value 0) (printed_append (run_over J valid).front (step_at J.rules (run_over J valid).last ∷ []))
    ∙ ap (λ m. last_value 0 (printed_of (run_over J valid).front ++ cons_option (event_of m) []))
    (run_over J valid).ends
    ∙ value_last 0 (value_sum (filter is_done (run_over J valid).last.tasks)) (printed_of (run_over J valid).front)

-- ---- where no window is overfull, none is lost

module _ (J : Instance) (valid : IsValid J)
    (room : (tasks : List Task) → jobs_of tasks ≡ J.jobs → NoneOverfull tasks) where
  -- each step keeps the order by deadlines and takes_or_abandons none
  step_orderly : (s : State) → Keeps J s → ByDeadline s → ByDeadline (after s (step J.rules s))
      × (takes_or_abandons (step J.rules s) ≡ false)
  step_orderly s keeps orderly =
      deed_orderly J.rules.ratio s (ending s or_else Ticks) keeps.sound orderly
      (room s.tasks keeps.jobs)
      (by_end (list_all is_over s.tasks)) (step J.rules s) (step_deed J valid s keeps J.rules) where
        by_end : (b : Bool) → Quiet s
            → ByDeadline (after s (then_some b (Prints (End (value_sum (filter is_done s.tasks)))) or_else Ticks)) ×
            (takes_or_abandons (then_some b (Prints (End (value_sum (filter is_done s.tasks)))) or_else Ticks) ≡ false)
        by_end true quiet = (
          subst (λ (tasks : List Task). ByDeadline (record s { tasks = tasks }))
              (sym (end_same s (value_sum (filter is_done s.tasks)))) orderly,
          refl,
        )
        by_end false quiet = (ticks_orderly s keeps.sound quiet orderly, refl)

  -- the opening is in order
  opening_orderly : ByDeadline (opening J.jobs)
  opening_orderly = record {
    calm = refl;
    none_gone = λ t m gone. let comes : t.role ≡ Coming = (come_coming 0 J.jobs t m).0 in let e : Coming ≡ Gone =
        sym comes ∙ gone in cc;
    running_first = λ t u mt mu runs _. absurd
        (let comes : t.role ≡ Coming = (come_coming 0 J.jobs t mt).0 in let e : Coming ≡ Running = sym comes ∙ runs in
        cc);
    windows = λ b. record {
      a = 0;
      past = omega arith;
      filled = omega arith;
      clean =
          λ t m early _. absurd (omega arith);
    };
  }

  -- each step of the run is taken in order
  each_step : Each (λ x. (x.move ≡ step J.rules x.before) × Keeps J x.before × ByDeadline x.before) (run J)
  each_step = run_states J valid J.rules ByDeadline (λ s keeps orderly on. (step_orderly s keeps orderly).0) (run J)
      (opening J.jobs)
      (opening_keeps J) opening_orderly (run_is_whole J valid)

  -- no step is a take or an abandonment
  pub none_lost_in : Each (λ x. takes_or_abandons x.move ≡ false) (run J)
  none_lost_in x member = let it : (x.move ≡ step J.rules x.before) × Keeps J x.before × ByDeadline x.before =
      each_step x member in ap takes_or_abandons it.0
      ∙ (step_orderly x.before it.1 it.2).1

  -- so is the last
  last_state : Keeps J (run_over J valid).last × ByDeadline (run_over J valid).last
  last_state =
      let it : (step J.rules (run_over J valid).last ≡ step J.rules (run_over J valid).last)
      × Keeps J (run_over J valid).last × ByDeadline
      (run_over J valid).last =
      each_step (step_at J.rules (run_over J valid).last)
      (subst (IsMember (step_at J.rules (run_over J valid).last)) (sym (run_over J valid).steps)
      (member_behind (run_over J valid).front (step_at J.rules (run_over J valid).last ∷ [])
      (step_at J.rules (run_over J valid).last) (inl refl))) in
      (it.1, it.2)

  -- at the end each job is done
  all_done : Each (λ t. is_done t ≡ true) (run_over J valid).last.tasks
  all_done t m = by_role (is_over_role t ((run_over J valid).over t m)) where
    by_role : (t.role ≡ Done) ⊎ (t.role ≡ Gone) → is_done t ≡ true
    by_role (inl e) = passes is_done t Done true e refl
    by_role (inr e) = absurd (last_state.1.none_gone t m e)

  -- their value is that of all
  value_at_end : value_sum (filter is_done (run_over J valid).last.tasks) ≡ sum_by (λ j. j.value) J.jobs
  value_at_end = sum_filter is_done (λ t. t.job.value) (run_over J valid).last.tasks
      ∙ sum_same (λ t. cond (is_done t) t.job.value 0) (λ t. t.job.value) (run_over J valid).last.tasks
      (λ t m. ap (λ b. cond b t.job.value 0) (all_done t m))
      ∙ sym (sum_map (λ (t : Task). t.job) (λ j. j.value) (run_over J valid).last.tasks)
      ∙ ap (sum_by (λ j. j.value)) last_state.0.jobs

  -- the run has the value of all jobs
  pub all_value_in : completed_value J ≡ sum_by (λ j. j.value) J.jobs
  all_value_in = value_of_run J valid ∙ value_at_end

-- ---- where all jobs can be met, none is lost

pub none_lost : (J : Instance) → IsValid J → Meets J → Each (λ x. takes_or_abandons x.move ≡ false) (run J)
none_lost J valid meets = none_lost_in J valid (none_overfull J meets)

pub all_value : (J : Instance) → IsValid J → Meets J → completed_value J ≡ sum_by (λ j. j.value) J.jobs
all_value J valid meets = all_value_in J valid (none_overfull J meets)

-- ---- a whole run prints something

pub some_printed : (rules : Rules) (xs : List Step) (s : State) → IsWholeRun rules s xs → printed_of xs ≡ [] → ⊥
some_printed rules [] s whole none = whole
some_printed rules (x ∷ xs) s whole none =
    by_move (step rules s) whole.1
    (ap (λ (y : Step). cons_option (event_of y.move) (printed_of xs)) (sym whole.0) ∙ none)
    (some_printed rules xs) where
      by_move : (m : Move) → MatchBool (is_end m) (xs ≡ []) (IsWholeRun rules (after s m) xs)
          → cons_option (event_of m) (printed_of xs) ≡ []
          → ((t : State) → IsWholeRun rules t xs → printed_of xs ≡ [] → ⊥) → ⊥
      by_move (Prints f) onward same more = let no : f ∷ printed_of xs ≡ [] = same in cc
      by_move (Waits n) onward same more = more (after s (Waits n)) onward same
      by_move Ticks onward same more = more (after s Ticks) onward same
