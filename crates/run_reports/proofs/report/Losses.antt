-- What a run doesn't complete it abandons.
use Rattle.std.proofs.Common.{◌≡◌, ◌+◌, ◌≤◌, ◌⊎◌, inl, inr, ℕ, zero, suc, List, [], ◌∷◌, map, refl, sym, ap, ◌∙◌, Bool}
use Rattle.std.proofs.Common.{true, false, cond, eqb, arith, MatchBool, sum_by, fold, filter, eqb-true}
use Rattle.std.specs.Bool.{then_some}
use Rattle.std.specs.List.{list_all, cons_option}
use Rattle.std.proofs.lemmas.List.Sums.{sum_by-cons}
use Rattle.dover_model.specs.declared.events.Event.{Event}
use Rattle.dover_model.specs.declared.events.Event.TheVariants as event
use Rattle.dover_model.specs.declared.events.Role.{Role}
use Rattle.dover_model.specs.declared.events.Role.TheVariants.{Coming, Fresh, Waiting, Held, Running, Done, Gone}
use Rattle.dover_model.specs.declared.events.Task.{Task}
use Rattle.dover_model.specs.Common.{JobFacts, Rules, Instance, IsValid, total_value, State, opening, to_come, is_done}
use Rattle.dover_model.specs.Common.{is_over, value_sum, Move, Prints, Waits, Ticks, step, after, ending, ◌or_else◌}
use Rattle.dover_model.specs.Common.{with_role, displaced, ticked, Step, is_end, event_of, printed_of, printed}
use Rattle.dover_model.specs.Common.{value_of_end, completed_value, run, IsWholeRun, IsMember, Each, IsNumberedFrom}
use Rattle.dover_model.specs.Common.{Keeps, jobs_of}
use Rattle.dover_model.proofs.bound.Booking.{is_gone, sum_changed}
use Rattle.dover_model.proofs.bound.Booked.{displaced_gone}
use Rattle.dover_model.proofs.steps.Deeds.{Deed, Completed, Resumed, Started, Began, Preempted, Stayed, Arrived, Taken}
use Rattle.dover_model.proofs.steps.Deeds.{Abandoned, Rested}
use Rattle.dover_model.proofs.runs.Ending.{end_over, run_is_whole}
use Rattle.dover_model.proofs.steps.Kept.{step_deed, step_kept, end_same, opening_keeps}
use Rattle.dover_model.proofs.steps.Loads.{with_roles}
use Rattle.dover_model.proofs.lists.Members.{sum_map, sum_same, sum_filter}
use Rattle.dover_model.proofs.steps.OneChange.{changed}
use Rattle.dover_model.proofs.steps.Roles.{passes, one_number, numbers_above, is_over_role}
use Rattle.dover_model.proofs.lists.Tests.{never}
use Rattle.run_reports.specs.report.Counts.{value_in, value_lost, all_lost}

-- ---- what is not gone

-- what a job is worth that isn't gone
abbrev kept_value : Task → ℕ
kept_value t = cond (is_gone t) 0 t.job.value

-- of all jobs
abbrev kept_values : List Task → ℕ
kept_values tasks = sum_by kept_value tasks

-- a job in a role that isn't gone
kept_in : (t : Task) (role : Role) → t.role ≡ role → is_gone (with_role t role) ≡ false → kept_value t ≡ t.job.value
kept_in t role is stays = ap (λ b. cond b 0 t.job.value) (passes is_gone t role false is stays)

-- what a move abandons
abbrev lost_in : List JobFacts → Move → ℕ
lost_in jobs (Prints e) = value_lost jobs e
lost_in jobs (Waits n) = 0
lost_in jobs Ticks = 0

-- the value of a job, by its number
value_at : (n : ℕ) (tasks : List Task) → IsNumberedFrom n tasks → (x : Task) → IsMember x tasks → (i : ℕ)
    → x.number ≡ n + i → value_in (jobs_of tasks) i ≡ x.job.value
value_at n [] numbered x member i is = absurd member
value_at n (t ∷ tasks) numbered x (inl here) zero is = ap (λ (y : Task). y.job.value) (sym here)
value_at n (t ∷ tasks) numbered x (inl here) (suc i) is =
    let same : x.number ≡ n = ap (λ (y : Task). y.number) here ∙ numbered.0 in absurd (omega arith)
value_at n (t ∷ tasks) numbered x (inr member) zero is =
    let above : suc n ≤ x.number = numbers_above (suc n) tasks numbered.1 x member in absurd (omega arith)
value_at n (t ∷ tasks) numbered x (inr member) (suc i) is =
    value_at (suc n) tasks numbered.1 x member i (omega (arith, is))

-- ---- one step

module _ (s : State) (numbered : IsNumberedFrom 0 s.tasks) where
  -- one job has a new role, and isn't gone before or after
  one_stays : (r : Task) → IsMember r s.tasks → (role new : Role) → r.role ≡ role
      → is_gone (with_role r role) ≡ false → is_gone (with_role r new) ≡ false
      → kept_values (with_roles (changed r new) s.tasks) ≡ kept_values s.tasks
  one_stays r member role new is stays stays_new = omega (
    arith,
    sum_changed kept_value s.tasks r new numbered member,
    kept_in r role is stays,
    ap {B = ℕ} (λ b. cond b 0 r.job.value) stays_new,
  )

  -- a job is gone
  one_goes : (x : Task) → IsMember x s.tasks → x.role ≡ Waiting
      → kept_values (with_roles (changed x Gone) s.tasks) + x.job.value ≡ kept_values s.tasks
  one_goes x member waiting =
      omega (arith, sum_changed kept_value s.tasks x Gone numbered member, kept_in x Waiting waiting refl)

  -- a job of that number
  named_stays : (o t : Task) → IsMember o s.tasks → IsMember t s.tasks → (role : Role) → o.role ≡ role
      → eqb t.number o.number ≡ true → is_gone (with_role t role) ≡ false → kept_value t ≡ t.job.value
  named_stays o t o_member member role is same stays = kept_in t role
      (ap (λ (y : Task). y.role) (one_number 0 s.tasks numbered t o member o_member (eqb-true _ _ same)) ∙ is) stays

  -- a job preempts another
  preempt_stays : (r f : Task) → IsMember r s.tasks → r.role ≡ Running → IsMember f s.tasks → f.role ≡ Fresh
      → kept_values (map (λ t. with_role t (cond (eqb t.number f.number) Running
      (cond (eqb t.number r.number) Held t.role))) s.tasks) ≡ kept_values s.tasks
  preempt_stays r f member runs f_member fresh =
      sum_map (λ t. with_role t (cond (eqb t.number f.number) Running (cond (eqb t.number r.number) Held t.role)))
      kept_value s.tasks
      ∙ sum_same (λ t. kept_value (with_role t (cond (eqb t.number f.number) Running
      (cond (eqb t.number r.number) Held t.role)))) kept_value s.tasks
      (λ t m. by_number t m (eqb t.number f.number) (eqb t.number r.number) refl refl) where
        by_number : (t : Task) → IsMember t s.tasks → (a b : Bool) → eqb t.number f.number ≡ a
            → eqb t.number r.number ≡ b
            → kept_value (with_role t (cond a Running (cond b Held t.role))) ≡ kept_value t
        by_number t m true b same other = sym (named_stays f t f_member m Fresh fresh same refl)
        by_number t m false true differs same = sym (named_stays r t member m Running runs same refl)
        by_number t m false false differs other = refl

  -- a job takes the processor
  take_stays : (x : Task) → IsMember x s.tasks → x.role ≡ Waiting
      → kept_values (map (λ t. with_role t (cond (eqb t.number x.number) Running (displaced t.role))) s.tasks)
      ≡ kept_values s.tasks
  take_stays x member waiting =
      sum_map (λ t. with_role t (cond (eqb t.number x.number) Running (displaced t.role))) kept_value s.tasks
      ∙ sum_same (λ t. kept_value (with_role t (cond (eqb t.number x.number) Running (displaced t.role)))) kept_value
      s.tasks (λ t m. by_number t m (eqb t.number x.number) refl) where
        by_number : (t : Task) → IsMember t s.tasks → (b : Bool) → eqb t.number x.number ≡ b
            → kept_value (with_role t (cond b Running (displaced t.role))) ≡ kept_value t
        by_number t m true same = sym (named_stays x t member m Waiting waiting same refl)
        by_number t m false differs = ap (λ b. cond b 0 t.job.value) (displaced_gone t t.role)

-- a silent tick changes no role
tick_stays : (s : State) → kept_values (after s Ticks).tasks ≡ kept_values s.tasks
tick_stays s = sum_map ticked kept_value s.tasks
    ∙ sum_same (λ t. kept_value (ticked t)) kept_value s.tasks (λ t m. refl)

module _ (J : Instance) (valid : IsValid J) where
  -- a step keeps what it doesn't abandon
  step_keeps : (s : State) → Keeps J s → (rules : Rules)
      → kept_values (after s (step rules s)).tasks + lost_in J.jobs (step rules s) ≡ kept_values s.tasks
  step_keeps s keeps rules = by_deed (step rules s) (step_deed J valid s keeps rules) where
    rest : (b : Bool)
        → kept_values
        (after s (then_some b (Prints (event.End (value_sum (filter is_done s.tasks)))) or_else Ticks)).tasks
        + lost_in J.jobs (then_some b (Prints (event.End (value_sum (filter is_done s.tasks)))) or_else Ticks)
        ≡ kept_values s.tasks
    rest true = omega (arith, ap kept_values (end_same s (value_sum (filter is_done s.tasks))))
    rest false = omega (arith, tick_stays s)

    by_deed : (m : Move) → Deed rules.ratio s (ending s or_else Ticks) m
        → kept_values (after s m).tasks + lost_in J.jobs m ≡ kept_values s.tasks
    by_deed m (Completed r member runs) =
        omega (arith, one_stays s keeps.sound.numbered r member Running Done runs refl refl)
    by_deed m (Resumed p member held none least why) =
        omega (arith, one_stays s keeps.sound.numbered p member Held Running held refl refl)
    by_deed m (Started o member waiting none first fits next) =
        omega (arith, one_stays s keeps.sound.numbered o member Waiting Running waiting refl refl)
    by_deed m (Began f member fresh none free) =
        omega (arith, one_stays s keeps.sound.numbered f member Fresh Running fresh refl refl)
    by_deed m (Preempted r f member runs some f_member fresh before fits) =
        omega (arith, preempt_stays s keeps.sound.numbered r f member runs f_member fresh)
    by_deed m (Stayed r f member runs some f_member fresh why) =
        omega (arith, one_stays s keeps.sound.numbered f f_member Fresh Waiting fresh refl refl)
    by_deed m (Arrived c member coming now first stale busy free) =
        omega (arith, one_stays s keeps.sound.numbered c member Coming Fresh coming refl refl)
    by_deed m (Taken r x member runs some x_member waiting now stale heavy) =
        omega (arith, take_stays s keeps.sound.numbered x x_member waiting)
    by_deed m (Abandoned r x member runs some x_member waiting now stale light) = omega (
      arith,
      one_goes s keeps.sound.numbered x x_member waiting,
      value_at 0 s.tasks keeps.sound.numbered x x_member x.number (omega arith),
      ap (λ js. value_in js x.number) keeps.jobs,
    )
    by_deed m (Rested quiet) = rest (list_all is_over s.tasks)

  -- ---- all steps

  -- the value that an End names among these events
  abbrev named : List Event → ℕ
  named es = fold (λ value e. value_of_end e value) 0 es

  -- a step that isn't End
  step_names : (m : Move) (es : List Event) → is_end m ≡ false
      → named (cons_option (event_of m) es) + all_lost J.jobs (cons_option (event_of m) es)
      ≡ named es + all_lost J.jobs es + lost_in J.jobs m
  step_names (Prints (event.End value)) es on = never (sym on)
  step_names (Prints e) es on = omega (arith, sum_by-cons (value_lost J.jobs) e es)
  step_names _ es on = omega arith

  -- where all jobs are over, those that aren't gone are done
  over_keeps : (tasks : List Task) → Each (λ t. is_over t ≡ true) tasks
      → kept_values tasks ≡ value_sum (filter is_done tasks)
  over_keeps tasks over =
      sum_same kept_value (λ t. cond (is_done t) t.job.value 0) tasks (λ t m. by_role t (is_over_role t (over t m)))
      ∙ sym (sum_filter is_done (λ t. t.job.value) tasks) where
        by_role : (t : Task) → (t.role ≡ Done) ⊎ (t.role ≡ Gone) → kept_value t ≡ cond (is_done t) t.job.value 0
        by_role t (inl done) = kept_in t Done done refl
            ∙ sym (ap {B = ℕ} (λ b. cond b t.job.value 0) (passes is_done t Done true done refl))
        by_role t (inr gone) = ap {B = ℕ} (λ b. cond b 0 t.job.value) (passes is_gone t Gone true gone refl)
            ∙ sym (ap {B = ℕ} (λ b. cond b t.job.value 0) (passes is_done t Gone false gone refl))

  -- what is still kept is completed or abandoned
  rest_loses : (rules : Rules) (xs : List Step) (s : State) → Keeps J s → IsWholeRun rules s xs
      → named (printed_of xs) + all_lost J.jobs (printed_of xs) ≡ kept_values s.tasks
  rest_loses rules [] s keeps whole = absurd whole
  rest_loses rules (x ∷ xs) s keeps whole =
      by_end (is_end (step rules s)) refl whole.1
      (rest_loses rules xs (after s (step rules s)) (step_kept J valid s keeps rules)) where
        move : x.move ≡ step rules s
        move = ap (λ (y : Step). y.move) whole.0

        by_end : (b : Bool) → is_end (step rules s) ≡ b
            → MatchBool b (xs ≡ []) (IsWholeRun rules (after s (step rules s)) xs)
            → (IsWholeRun rules (after s (step rules s)) xs
            → named (printed_of xs) + all_lost J.jobs (printed_of xs) ≡ kept_values (after s (step rules s)).tasks)
            → named (printed_of (x ∷ xs)) + all_lost J.jobs (printed_of (x ∷ xs)) ≡ kept_values s.tasks
        by_end true last none more =
            let last_of = end_over J valid s keeps rules last in
            let value : ℕ = value_sum (filter is_done s.tasks) in
            let prints : printed_of (x ∷ xs) ≡ event.End value ∷ [] =
            ap (λ m. cons_option (event_of m) (printed_of xs)) (move ∙ last_of.0)
            ∙ ap (λ (ys : List Step). event.End value ∷ printed_of ys) none in
            ap (λ es. named es + all_lost J.jobs es) prints ∙ omega (arith, over_keeps s.tasks last_of.1)
        by_end false on onward more =
            let prints : printed_of (x ∷ xs) ≡ cons_option (event_of (step rules s)) (printed_of xs) =
            ap (λ m. cons_option (event_of m) (printed_of xs)) move in
            ap (λ es. named es + all_lost J.jobs es) prints
            ∙ omega (arith, step_names (step rules s) (printed_of xs) on, more onward, step_keeps s keeps rules)

-- all jobs are still kept at the opening
come_kept : (n : ℕ) (jobs : List JobFacts) → kept_values (to_come n jobs) ≡ total_value jobs
come_kept n [] = refl
come_kept n (j ∷ jobs) = omega (
  arith,
  sum_by-cons kept_value (record { number = n; job = j; role = Coming; had = 0 }) (to_come (suc n) jobs),
  sum_by-cons (λ (i : JobFacts). i.value) j jobs,
  come_kept (suc n) jobs,
)

-- a run completes or abandons the value of all jobs
pub lost_rest : (J : Instance) → IsValid J → completed_value J + all_lost J.jobs (printed J) ≡ total_value J.jobs
lost_rest J valid =
    rest_loses J valid J.rules (run J) (opening J.jobs) (opening_keeps J) (run_is_whole J valid) ∙ come_kept 0 J.jobs
