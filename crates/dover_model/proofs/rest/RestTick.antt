-- A run is at rest from the tick on at which it ends, and not before.
use Rattle.std.proofs.Common.{◌≡◌, ℕ, ◌+◌, ◌≤◌, ◌<◌, ◌⊎◌, ◌↔◌, inl, inr, List, [], ◌∷◌, ◌++◌, map, refl, sym, ap, ◌∙◌}
use Rattle.std.proofs.Common.{subst, Bool, true, false, cond, arith, eqb, ◌&&◌, nat_le, MatchBool, fold, eq-eqb, ne_eqb}
use Rattle.std.specs.List.{list_all}
use Rattle.std.proofs.lemmas.Bool.{lt-leb}
use Rattle.dover_model.specs.Common.{Fraction, Role, Coming, Fresh, Waiting, Held, Running, Gone, Task, Rules, Instance}
use Rattle.dover_model.specs.Common.{IsValid, State, opening, is_over, is_running, is_ready_behind, Move, Ticks, step}
use Rattle.dover_model.specs.Common.{open_step, after, with_role, displaced, Step, is_end, run, waits_for_mark}
use Rattle.dover_model.specs.Common.{settled_steps, settled_state, open_at, IsWholeRun, IsBefore, IsSettledRun}
use Rattle.dover_model.specs.Common.{IsOpenPath, IsMember, Each, FitsRole, IsSound, Keeps, Finish, goes_on, IsAtRest}
use Rattle.dover_model.specs.Common.{end_tick}
use Rattle.dover_model.proofs.lists.Members.{all_each, map_member}
use Rattle.dover_model.proofs.steps.Roles.{passes, one_number}
use Rattle.dover_model.proofs.steps.Deeds.{Deed, Completed, Resumed, Started, Began, Preempted, Stayed, Arrived, Taken}
use Rattle.dover_model.proofs.steps.Deeds.{Abandoned, Rested, over_rests}
use Rattle.dover_model.proofs.steps.Kept.{open_deed, open_kept, step_kept, opening_keeps}
use Rattle.dover_model.proofs.runs.Ending.{potential, end_over, run_is_whole, later_clock}
use Rattle.dover_model.proofs.settled.Settling.{settles, settled_is_run}
use Rattle.dover_model.proofs.settled.Prefixes.{step_open, over_ticked}
use Rattle.dover_model.proofs.settled.Paths.{one_settled_run, path_keeps, path_ready, path_then_settled}
use Rattle.dover_model.proofs.finishes.Readiness.{going, IsReady, Decides, step_decides, open_decides, step_ready}
use Rattle.dover_model.proofs.finishes.Readiness.{opening_ready, none_due}
use Rattle.dover_model.proofs.rest.Resting.{path_state, end_step, Rests, at_rest}
use Rattle.dover_model.proofs.lists.Tests.{never}
use Rattle.dover_model.proofs.settled.Barriers.{state_after}

-- the clock of the last step
abbrev pub end_clock : ℕ → List Step → ℕ
end_clock from xs = fold (λ clock step. step.before.clock) from xs

-- a whole run ends no sooner than it begins
whole_clock : (rules : Rules) (zs : List Step) (s : State) (from : ℕ) → IsWholeRun rules s zs
    → s.clock ≤ end_clock from zs
whole_clock rules [] s from whole = absurd whole
whole_clock rules (z ∷ zs) s from whole = subst (λ (y : Step). s.clock ≤ end_clock y.before.clock zs) (sym whole.0)
    (by_end (is_end (step rules s)) whole.1 (whole_clock rules zs (after s (step rules s)) s.clock)) where
      by_end : (b : Bool) → MatchBool b (zs ≡ []) (IsWholeRun rules (after s (step rules s)) zs)
          → (IsWholeRun rules (after s (step rules s)) zs → (after s (step rules s)).clock ≤ end_clock s.clock zs)
          → s.clock ≤ end_clock s.clock zs
      by_end true none more = subst (λ xs. s.clock ≤ end_clock s.clock xs) (sym none) (omega arith)
      by_end false rest more = omega (arith, later_clock s (step rules s), more rest)

-- ---- a job that runs on

-- some job runs and isn't done
abbrev RunsOn : List Finish → State → Type 0
RunsOn finishes s = (r : Task) × IsMember r s.tasks × (r.role ≡ Running) × (goes_on finishes r ≡ true)

module _ (finishes : List Finish) (k : Fraction) (s : State) (sound : IsSound s) (ready : IsReady finishes s) where
  -- a change of another job's role leaves it so
  still : (pressed : Bool) (x : Task) (new : Role) → IsMember x s.tasks → is_running x ≡ false → RunsOn finishes s
      → RunsOn finishes (record {
        clock = s.clock;
        tasks = map (λ t. with_role t (cond (eqb t.number x.number) new t.role)) s.tasks;
        pressed = pressed;
      })
  still pressed x new member out it = (
    with_role it.0 (cond (eqb it.0.number x.number) new it.0.role),
    map_member (λ t. with_role t (cond (eqb t.number x.number) new t.role)) s.tasks it.0 it.1,
    ap (λ b. cond b new it.0.role) (ne_eqb it.0.number x.number apart) ∙ it.2,
    it.3,
  ) where
    apart : it.0.number ≡ x.number → ⊥
    apart same = let one : it.0 ≡ x = one_number 0 s.tasks sound.numbered it.0 x it.1 member same in
        never (sym out ∙ ap is_running (sym one) ∙ passes is_running it.0 Running true it.2 refl)

  -- what takes the processor runs on
  taker : (x : Task) (others : Task → Role) → IsMember x s.tasks → goes_on finishes x ≡ true
      → RunsOn finishes (record {
        clock = s.clock;
        tasks = map (λ t. with_role t (cond (eqb t.number x.number) Running (others t))) s.tasks;
        pressed = s.pressed;
      })
  taker x others member some = (
    with_role x (cond (eqb x.number x.number) Running (others x)),
    map_member (λ t. with_role t (cond (eqb t.number x.number) Running (others t))) s.tasks x member,
    ap (λ b. cond b Running (others x)) (eq-eqb x.number x.number refl),
    some,
  )

  -- a fresh job goes on
  fresh_goes : (f : Task) → IsMember f s.tasks → f.role ≡ Fresh → goes_on finishes f ≡ true
  fresh_goes f member fresh = let fits : FitsRole s.clock Fresh f =
      subst (λ role. FitsRole s.clock role f) fresh (sound.roles f member) in
      going finishes f fits.1 (none_due finishes f fits.0)

  -- so does a waiting one
  waiting_goes : (x : Task) → IsMember x s.tasks → x.role ≡ Waiting → goes_on finishes x ≡ true
  waiting_goes x member waits = going finishes x
      (subst (λ role. FitsRole s.clock role x) waits (sound.roles x member)).0
      (ready x member (passes is_ready_behind x Waiting true waits refl))

  -- where a job runs on, it goes on, or a job runs on after the step
  runs_on : (other m : Move) → Deed k s other m → Decides finishes s m → RunsOn finishes s
      → (m ≡ other) ⊎ RunsOn finishes (after s m)
  runs_on other m (Completed r member runs) told it = never (sym (told.ends refl it.0 it.1 it.2) ∙ it.3)
  runs_on other m (Resumed p member held none least why) told it = absurd (none it.0 it.1 it.2)
  runs_on other m (Started o member waiting none first fits next) told it = absurd (none it.0 it.1 it.2)
  runs_on other m (Began f member fresh none free) told it = absurd (none it.0 it.1 it.2)
  runs_on other m (Preempted r f member runs some f_member fresh before fits) told it =
      inr (taker f (λ t. cond (eqb t.number r.number) Held t.role) f_member (fresh_goes f f_member fresh))
  runs_on other m (Stayed r f member runs some f_member fresh why) told it =
      inr (still s.pressed f Waiting f_member (passes is_running f Fresh false fresh refl) it)
  runs_on other m (Arrived c member comes now first stale busy free) told it =
      inr (still s.pressed c Fresh member (passes is_running c Coming false comes refl) it)
  runs_on other m (Taken r x member runs some x_member waiting now stale heavy) told it =
      inr (taker x (λ t. displaced t.role) x_member (waiting_goes x x_member waiting))
  runs_on other m (Abandoned r x member runs some x_member waiting now stale light) told it =
      inr (still true x Gone x_member (passes is_running x Waiting false waiting refl) it)
  runs_on other m (Rested quiet) told it = inl refl

  -- a late step is a silent tick, or a job runs on after it
  late_goes : (m : Move) → Deed k s Ticks m → Decides finishes s m → waits_for_mark m ≡ true
      → (m ≡ Ticks) ⊎ RunsOn finishes (after s m)
  late_goes m (Taken r x member runs some x_member waiting now stale heavy) told late =
      inr (taker x (λ t. displaced t.role) x_member (waiting_goes x x_member waiting))
  late_goes m (Abandoned r x member runs some x_member waiting now stale light) told late =
      inr (still true x Gone x_member (passes is_running x Waiting false waiting refl)
      (r, member, runs, going finishes r some (told.goes refl r member runs)))
  late_goes m (Rested quiet) told late = inl refl
  late_goes m _ told late = never late

module _ (J : Instance) (valid : IsValid J) where
  -- a step that isn't End is an open step
  goes : (s : State) → Keeps J s → is_end (step J.rules s) ≡ false → step J.rules s ≡ open_step J.rules s
  goes s keeps on = by_all (list_all is_over s.tasks) refl where
    by_all : (b : Bool) → list_all is_over s.tasks ≡ b → step J.rules s ≡ open_step J.rules s
    by_all true all = never (sym on ∙ ap is_end (end_step J valid s keeps (all_each is_over s.tasks all)))
    by_all false some = step_open J.rules s some

  -- where a job runs on, the run ends at a later tick
  ends_later : (zs : List Step) (s : State) (from : ℕ) → Keeps J s → IsReady J.rules.finishes s
      → RunsOn J.rules.finishes s → IsWholeRun J.rules s zs
      → s.clock + 1 ≤ end_clock from zs
  ends_later [] s from keeps ready it whole = absurd whole
  ends_later (z ∷ zs) s from keeps ready it whole =
      subst (λ (y : Step). s.clock + 1 ≤ end_clock y.before.clock zs) (sym whole.0)
      (by_end (is_end (step J.rules s)) refl whole.1
      (λ runs. ends_later zs (after s (step J.rules s)) s.clock (step_kept J valid s keeps J.rules)
      (step_ready J valid s keeps J.rules ready) runs)) where
        by_end : (b : Bool) → is_end (step J.rules s) ≡ b
            → MatchBool b (zs ≡ []) (IsWholeRun J.rules (after s (step J.rules s)) zs)
            → (RunsOn J.rules.finishes (after s (step J.rules s)) → IsWholeRun J.rules (after s (step J.rules s)) zs
            → (after s (step J.rules s)).clock + 1 ≤ end_clock s.clock zs) → s.clock + 1 ≤ end_clock s.clock zs
        by_end true last none more =
            never (sym (passes is_over it.0 Running false it.2 refl)
            ∙ (end_over J valid s keeps J.rules last).1 it.0 it.1)
        by_end false on rest more = by_goes (runs_on J.rules.finishes J.rules.ratio s keeps.sound ready Ticks
            (step J.rules s)
            (subst (Deed J.rules.ratio s Ticks) (sym (goes s keeps on)) (open_deed J valid s keeps J.rules))
            (step_decides s keeps.sound J.rules) it) where
              by_goes : (step J.rules s ≡ Ticks) ⊎ RunsOn J.rules.finishes (after s (step J.rules s))
                  → s.clock + 1 ≤ end_clock s.clock zs
              by_goes (inl ticks) =
                  let next : (after s (step J.rules s)).clock ≡ s.clock + 1 = ap (λ m. (after s m).clock) ticks in
                  omega (arith, whole_clock J.rules zs (after s (step J.rules s)) s.clock rest)
              by_goes (inr runs) = omega (arith, later_clock s (step J.rules s), more runs rest)

  -- a run that ends by the mark is a path of open steps to where all jobs are over
  comes_to_rest : (mark : ℕ) (zs : List Step) (s : State) (from : ℕ) → Keeps J s → IsReady J.rules.finishes s
      → IsWholeRun J.rules s zs
      → end_clock from zs ≤ mark
      → (t : State) × (xs : List Step) × IsOpenPath J.rules mark s xs t × Each (λ u. is_over u ≡ true) t.tasks
  comes_to_rest mark [] s from keeps ready whole low = absurd whole
  comes_to_rest mark (z ∷ zs) s from keeps ready whole low = by_end (is_end (step J.rules s)) refl whole.1
      (comes_to_rest mark zs (after s (step J.rules s)) s.clock (step_kept J valid s keeps J.rules)
      (step_ready J valid s keeps J.rules ready)) where
        ends : end_clock s.clock zs ≤ mark
        ends = subst (λ (y : Step). end_clock y.before.clock zs ≤ mark) whole.0 low

        by_end : (b : Bool) → is_end (step J.rules s) ≡ b
            → MatchBool b (zs ≡ []) (IsWholeRun J.rules (after s (step J.rules s)) zs)
            → (IsWholeRun J.rules (after s (step J.rules s)) zs → end_clock s.clock zs ≤ mark
            → (t : State) × (xs : List Step) × IsOpenPath J.rules mark (after s (step J.rules s)) xs t
            × Each (λ u. is_over u ≡ true) t.tasks)
            → (t : State) × (xs : List Step) × IsOpenPath J.rules mark s xs t × Each (λ u. is_over u ≡ true) t.tasks
        by_end true last none more = (s, [], refl, (end_over J valid s keeps J.rules last).1)
        by_end false on rest more = let it = more rest ends in (
          it.0,
          open_at J.rules s ∷ it.1,
          (refl, before, subst (λ m. IsOpenPath J.rules mark (after s m) it.1 it.0) (goes s keeps on) it.2),
          it.3,
        ) where
          early : waits_for_mark (open_step J.rules s) ≡ true → s.clock < mark
          early late = by_goes (late_goes J.rules.finishes J.rules.ratio s keeps.sound ready (open_step J.rules s)
              (open_deed J valid s keeps J.rules) (open_decides s keeps.sound J.rules) late) where
                by_goes : (open_step J.rules s ≡ Ticks) ⊎ RunsOn J.rules.finishes (after s (open_step J.rules s))
                    → s.clock < mark
                by_goes (inl ticks) =
                    let next : (after s (step J.rules s)).clock ≡ s.clock + 1 =
                    ap (λ m. (after s m).clock) (goes s keeps on ∙ ticks) in
                    omega (arith, whole_clock J.rules zs (after s (step J.rules s)) s.clock rest, ends)
                by_goes (inr runs) = omega (
                  arith,
                  later_clock s (step J.rules s),
                  ends,
                  ends_later zs (after s (step J.rules s)) s.clock
                      (step_kept J valid s keeps J.rules) (step_ready J valid s keeps J.rules ready)
                      (subst (λ m. RunsOn J.rules.finishes (after s m)) (sym (goes s keeps on)) runs) rest,
                )

          before : IsBefore J.rules mark s
          before = by_late (waits_for_mark (open_step J.rules s)) refl where
            by_late : (b : Bool) → waits_for_mark (open_step J.rules s) ≡ b → (b && nat_le mark s.clock) ≡ false
            by_late true late = lt-leb _ _ (early late)
            by_late false late = refl

  -- where all jobs are over, they stay so up to the barrier
  stays_over : (mark : ℕ) (xs : List Step) (s : State) → Keeps J s → Each (λ t. is_over t ≡ true) s.tasks
      → IsSettledRun J.rules mark s xs
      → Each (λ t. is_over t ≡ true) (state_after s xs).tasks
  stays_over mark [] s keeps over settled = over
  stays_over mark (x ∷ xs) s keeps over settled =
      let ticks : open_step J.rules s ≡ Ticks =
      over_rests J.rules.ratio s Ticks over (open_step J.rules s) (open_deed J valid s keeps J.rules) in
      subst (λ (y : Step). Each (λ t. is_over t ≡ true) (state_after (after y.before y.move) xs).tasks) (sym settled.0)
      (stays_over mark xs (after s (open_step J.rules s)) (open_kept J valid s keeps J.rules)
      (subst (λ m. Each (λ t. is_over t ≡ true) (after s m).tasks) (sym ticks) (over_ticked s over)) settled.2)

  -- steps behind steps
  after_both : (xs ys : List Step) (s : State) → state_after s (xs ++ ys) ≡ state_after (state_after s xs) ys
  after_both [] ys s = refl
  after_both (x ∷ xs) ys s = after_both xs ys (after x.before x.move)

  -- from the tick of its End on, the run is at rest
  pub rests_from : (m : ℕ) → end_tick J ≤ m → IsAtRest J m
  rests_from m low =
      let it = comes_to_rest m (run J) (opening J.jobs) 0 (opening_keeps J) (opening_ready J.rules.finishes J.jobs)
      (run_is_whole J valid) low in
      let keeps : Keeps J it.0 = path_keeps J valid m it.1 (opening J.jobs) it.0 (opening_keeps J) it.2 in
      let ready : IsReady J.rules.finishes it.0 = path_ready J valid m it.1 (opening J.jobs) it.0 (opening_keeps J)
      (opening_ready J.rules.finishes J.jobs) it.2 in
      let rest = settles J valid J.rules m (potential J.rules.finishes m it.0) it.0 keeps ready (omega arith) in
      let all : settled_steps J m ≡ it.1 ++ rest.0 =
      one_settled_run J.rules m (settled_steps J m) (it.1 ++ rest.0) (opening J.jobs)
      (settled_is_run J m valid) (path_then_settled J.rules m it.1 rest.0 (opening J.jobs) it.0 it.2 rest.1) in
      let same : settled_state J m ≡ state_after it.0 rest.0 =
      ap (state_after (opening J.jobs)) all ∙ after_both it.1 rest.0 (opening J.jobs)
      ∙ ap (λ s. state_after s rest.0) (path_state J.rules m it.1 (opening J.jobs) it.0 it.2) in
      subst (λ (s : State). Each (λ t. is_over t ≡ true) s.tasks) (sym same)
      (stays_over m rest.0 it.0 keeps it.3 rest.1)

  -- ---- and not before

  -- a path never goes back
  path_rises : (mark : ℕ) (xs : List Step) (s t : State) → IsOpenPath J.rules mark s xs t → s.clock ≤ t.clock
  path_rises mark [] s t here = subst (λ (z : State). s.clock ≤ z.clock) (sym here) (omega arith)
  path_rises mark (x ∷ xs) s t path =
      let rest : (after s (open_step J.rules s)).clock ≤ t.clock =
      path_rises mark xs (after s (open_step J.rules s)) t path.2 in
      omega (arith, later_clock s (open_step J.rules s))

  -- where all jobs are over, the run ends
  ends_here : (z : Step) (zs : List Step) (s : State) → Keeps J s → Each (λ t. is_over t ≡ true) s.tasks
      → IsWholeRun J.rules s (z ∷ zs)
      → (from : ℕ) → end_clock from (z ∷ zs) ≡ s.clock
  ends_here z zs s keeps over whole from =
      let last : is_end (step J.rules s) ≡ true = ap is_end (end_step J valid s keeps over) in
      let none : zs ≡ [] = subst
      (λ b. MatchBool b (zs ≡ []) (IsWholeRun J.rules (after s (step J.rules s)) zs)) last whole.1 in
      ap (end_clock z.before.clock) none ∙ ap (λ (y : Step). y.before.clock) whole.0

  -- the run ends by the clock of a state where all jobs are over
  ends_by : (mark : ℕ) (xs zs : List Step) (s t : State) → Keeps J s → IsOpenPath J.rules mark s xs t
      → Each (λ u. is_over u ≡ true) t.tasks
      → IsWholeRun J.rules s zs → (from : ℕ) → end_clock from zs ≤ t.clock
  ends_by mark xs [] s t keeps path over whole from = absurd whole
  ends_by mark [] (z ∷ zs) s t keeps here over whole from =
      let same : end_clock from (z ∷ zs) ≡ s.clock =
      ends_here z zs s keeps (subst (λ (y : State). Each (λ u. is_over u ≡ true) y.tasks) here over) whole from in
      let clock : t.clock ≡ s.clock = ap (λ (y : State). y.clock) here in omega arith
  ends_by mark (x ∷ xs) (z ∷ zs) s t keeps path over whole from = by_all (list_all is_over s.tasks) refl
      (ends_by mark xs zs (after s (open_step J.rules s)) t (open_kept J valid s keeps J.rules) path.2 over) where
        by_all : (b : Bool) → list_all is_over s.tasks ≡ b
            → (IsWholeRun J.rules (after s (open_step J.rules s)) zs → (next : ℕ) → end_clock next zs ≤ t.clock)
            → end_clock from (z ∷ zs) ≤ t.clock
        by_all true all more =
            let same : end_clock from (z ∷ zs) ≡ s.clock =
            ends_here z zs s keeps (all_each is_over s.tasks all) whole from in
            let low : s.clock ≤ t.clock = path_rises mark (x ∷ xs) s t path in omega arith
        by_all false some more = by_end (is_end (step J.rules s)) refl whole.1 where
          by_end : (b : Bool) → is_end (step J.rules s) ≡ b
              → MatchBool b (zs ≡ []) (IsWholeRun J.rules (after s (step J.rules s)) zs)
              → end_clock z.before.clock zs ≤ t.clock
          by_end true last none = never (sym some ∙ all_over s.tasks (end_over J valid s keeps J.rules last).1) where
            all_over : (tasks : List Task) → Each (λ u. is_over u ≡ true) tasks → list_all is_over tasks ≡ true
            all_over [] each = refl
            all_over (u ∷ tasks) each = ap (λ b. b && list_all is_over tasks) (each u (inl refl))
                ∙ all_over tasks (λ v member. each v (inr member))
          by_end false on rest = more
              (subst (λ m. IsWholeRun J.rules (after s m) zs) (step_open J.rules s some) rest) z.before.clock

  -- where it is at rest, it has ended
  pub ended_by : (m : ℕ) → IsAtRest J m → end_tick J ≤ m
  ended_by m rest =
      let r : Rests J 0 m = at_rest J valid 0 m (λ j member. omega arith) (omega arith) rest in
      let low : end_tick J ≤ r.last.clock =
      ends_by m r.steps (run J) (opening J.jobs) r.last (opening_keeps J) r.path r.over (run_is_whole J valid) 0 in
      omega (arith, r.clock)

-- both
pub rests_where_ended : (J : Instance) (m : ℕ) → IsValid J → IsAtRest J m ↔ (end_tick J ≤ m)
rests_where_ended J m valid = (ended_by J valid m, rests_from J valid m)
