-- The steps of a state are those of its jobs that aren't over.
use Rattle.std.proofs.Common.{◌≡◌, List, ◌∷◌, refl, sym, ap, ◌∙◌, Bool, true, false, cond, inl, inr, eqb, map, []}
use Rattle.std.proofs.Common.{subst, not, ℕ, ◌+◌, arith, Some, None, filter, find, sum_by, ne_eqb}
use Rattle.std.proofs.lemmas.Bool.{not-false}
use Rattle.std.proofs.lemmas.List.Sums.{sum_by-cons}
use Rattle.dover_model.proofs.steps.Roles.{passes, of_over, ticked_over, one_number, by_role}
use Rattle.dover_model.specs.Common.{Done, Gone, Waiting, Coming, Fresh, Held, Running, Task, is_over, State, is_coming}
use Rattle.dover_model.specs.Common.{is_fresh, is_waiting, is_held, is_running, is_privileged, is_done, value_sum}
use Rattle.dover_model.specs.Common.{with_role, view, Ticks, open_step, urgent_or, Move, Prints, Waits, role_after}
use Rattle.dover_model.specs.Common.{ticked, after, displaced, due_finish, finish_or, declared_open_step, is_ready}
use Rattle.dover_model.specs.Common.{Version, Rules, Instance, IsValid, Role, IsMember, IsSound, Each, Keeps, Fraction}
use Rattle.dover_model.specs.Common.{IsSilent, is_finish_of}
use Rattle.std.specs.Prelude.{◌||◌, ◌&&◌}
use Rattle.std.specs.List.{list_any}
use Rattle.dover_model.specs.Common.{Complete, is_open_job}
use Rattle.dover_model.specs.Step.{pressed_after}
use Rattle.dover_model.specs.Ready.{ready_part}
use Rattle.dover_model.proofs.lists.Tests.{never}
use Rattle.dover_model.proofs.steps.Deeds.{Deed, Completed, Resumed, Started, Began, Preempted, Stayed, Arrived, Taken}
use Rattle.dover_model.proofs.steps.Deeds.{Abandoned, Rested}
use Rattle.dover_model.proofs.lists.Members.{sum_filter}
use Rattle.dover_model.proofs.steps.Kept.{open_deed}

-- ---- what is seen

module _ {X : Type 0} (p q : X → Bool) (onward : (x : X) → q x ≡ false → p x ≡ false) where
  -- what passes is found among those that pass a weaker test
  find_part : (xs : List X) → find p (filter q xs) ≡ find p xs
  find_part [] = refl
  find_part (x ∷ xs) = by_test (q x) refl (find_part xs) where
    by_test : (b : Bool) → q x ≡ b → find p (filter q xs) ≡ find p xs
        → find p (cond b (x ∷ filter q xs) (filter q xs)) ≡ cond (p x) (Some x) (find p xs)
    by_test true is rest = ap (cond (p x) (Some x)) rest
    by_test false is rest = rest ∙ sym (ap (λ b. cond b (Some x) (find p xs)) (onward x is))

  -- and so are all that pass
  filter_part : (xs : List X) → filter p (filter q xs) ≡ filter p xs
  filter_part [] = refl
  filter_part (x ∷ xs) = by_test (q x) refl (filter_part xs) where
    by_test : (b : Bool) → q x ≡ b → filter p (filter q xs) ≡ filter p xs
        → filter p (cond b (x ∷ filter q xs) (filter q xs)) ≡ cond (p x) (x ∷ filter p xs) (filter p xs)
    by_test true is rest = ap (λ ys. cond (p x) (x ∷ ys) ys) rest
    by_test false is rest = rest ∙ sym (ap (λ b. cond b (x ∷ filter p xs) (filter p xs)) (onward x is))

  -- and some job passes just where one of those does
  any_part : (xs : List X) → list_any p (filter q xs) ≡ list_any p xs
  any_part [] = refl
  any_part (x ∷ xs) = by_test (q x) refl (any_part xs) where
    by_test : (b : Bool) → q x ≡ b → list_any p (filter q xs) ≡ list_any p xs
        → list_any p (cond b (x ∷ filter q xs) (filter q xs)) ≡ (p x || list_any p xs)
    by_test true is rest = ap (λ b. p x || b) rest
    by_test false is rest = rest ∙ sym (ap (λ b. b || list_any p xs) (onward x is))

-- a job that is over passes no test of other roles
over_fails : (p : Task → Bool) → ((t : Task) → p (with_role t Done) ≡ false)
    → ((t : Task) → p (with_role t Gone) ≡ false)
    → (t : Task) → is_ready t ≡ false → p t ≡ false
over_fails p done gone t over =
    of_over (λ role. p (with_role t role) ≡ false) (done t) (gone t) t (not-false (is_over t) over)

-- the view is that of the jobs that aren't over
pub view_ready : (version : Version) (s : State) → view version (ready_part s) ≡ view version s
view_ready version s = rw (
  find_part is_running is_ready (over_fails is_running (λ _. refl) (λ _. refl)) s.tasks,
  find_part is_fresh is_ready (over_fails is_fresh (λ _. refl) (λ _. refl)) s.tasks,
  find_part is_coming is_ready (over_fails is_coming (λ _. refl) (λ _. refl)) s.tasks,
  filter_part is_held is_ready (over_fails is_held (λ _. refl) (λ _. refl)) s.tasks,
  filter_part is_waiting is_ready (over_fails is_waiting (λ _. refl) (λ _. refl)) s.tasks,
  filter_part is_privileged is_ready (over_fails is_privileged (λ _. refl) (λ _. refl)) s.tasks,
)

-- so is the open step
pub step_ready : (rules : Rules) (s : State) → open_step rules (ready_part s) ≡ open_step rules s
step_ready rules s = ap (λ o. finish_or s.clock (find (is_finish_of o) rules.finishes) (declared_open_step rules
    (ready_part s)))
    (find_part is_running is_ready (over_fails is_running (λ _. refl) (λ _. refl)) s.tasks)
    ∙ ap (λ v. finish_or s.clock (due_finish rules.finishes s) (urgent_or rules.ratio v Ticks))
    (view_ready rules.version s)

-- ---- what is done

-- how a move changes a job
abbrev pub change : Move → Task → Task
change (Prints e) t = with_role t (role_after e t.number t.role)
change (Waits n) t = with_role t (cond (eqb t.number n) Waiting t.role)
change Ticks t = ticked t

-- the state after a move, by that change
pub after_change : (s : State) (m : Move) → (after s m).tasks ≡ map (change m) s.tasks
after_change s (Prints e) = refl
after_change s _ = refl

-- whether the state is pressed after a move that leaves these tasks
abbrev pub pressed_by : Move → Bool → List Task → Bool
pressed_by (Prints e) pressed tasks = pressed_after e pressed tasks
pressed_by _ pressed tasks = pressed

-- the state after a move is pressed by that
pub after_pressed : (s : State) (m : Move) → (after s m).pressed ≡ pressed_by m s.pressed (after s m).tasks
after_pressed s (Prints e) = refl
after_pressed s _ = refl

-- the jobs that aren't over tell it
pub pressed_ready : (m : Move) (pressed : Bool) (tasks : List Task)
    → pressed_by m pressed (filter is_ready tasks) ≡ pressed_by m pressed tasks
pressed_ready (Prints (Complete at n)) pressed tasks = ap (λ b. pressed && b)
    (any_part is_open_job is_ready (over_fails is_open_job (λ _. refl) (λ _. refl)) tasks)
pressed_ready (Prints _) pressed tasks = refl
pressed_ready _ pressed tasks = refl

-- a job that is over has another number than one that isn't
apart : (s : State) → IsSound s → (t r : Task) (role : Role) → IsMember t s.tasks → IsMember r s.tasks
    → is_over t ≡ true → r.role ≡ role
    → is_over (with_role r role) ≡ false → t.number ≡ r.number → ⊥
apart s sound t r role mt mr over is ready same =
    let one : t ≡ r = one_number 0 s.tasks sound.numbered t r mt mr same in
    never (sym (passes is_over r role false is ready) ∙ subst (λ u. is_over u ≡ true) one over)

module _ (k : Fraction) (s : State) (sound : IsSound s) (t : Task) (mt : IsMember t s.tasks)
    (over : is_over t ≡ true) where
  -- a job that is over keeps its role where another is named
  unnamed : (r : Task) (role new : Role) → IsMember r s.tasks → r.role ≡ role → is_over (with_role r role) ≡ false
      → with_role t (cond (eqb t.number r.number) new t.role) ≡ t
  unnamed r role new mr is ready =
      ap (λ b. with_role t (cond b new t.role)) (ne_eqb t.number r.number (apart s sound t r role mt mr over is ready))

  -- a displacement leaves it
  displaced_over : displaced t.role ≡ t.role
  displaced_over = of_over (λ role. displaced role ≡ role) refl refl t over

  -- no deed changes it
  deed_over : (m : Move) → Deed k s Ticks m → change m t ≡ t
  deed_over m (Completed r member runs) = unnamed r Running Done member runs refl
  deed_over m (Resumed p member held none least why) = unnamed p Held Running member held refl
  deed_over m (Started o member waiting none first fits next) = unnamed o Waiting Running member waiting refl
  deed_over m (Began f member fresh none free) = unnamed f Fresh Running member fresh refl
  deed_over m (Preempted r f member runs some f_member fresh before fits) =
      ap (λ b. with_role t (cond b Running (cond (eqb t.number r.number) Held t.role)))
      (ne_eqb t.number f.number (apart s sound t f Fresh mt f_member over fresh refl))
      ∙ unnamed r Running Held member runs refl
  deed_over m (Stayed r f member runs some f_member fresh why) = unnamed f Fresh Waiting f_member fresh refl
  deed_over m (Arrived c member comes now first stale busy free) = unnamed c Coming Fresh member comes refl
  deed_over m (Taken r x member runs some x_member waiting now stale heavy) =
      ap (λ b. with_role t (cond b Running (displaced t.role)))
      (ne_eqb t.number x.number (apart s sound t x Waiting mt x_member over waiting refl))
      ∙ ap (with_role t) displaced_over
  deed_over m (Abandoned r x member runs some x_member waiting now stale light) =
      unnamed x Waiting Gone x_member waiting refl
  deed_over m (Rested quiet) = ticked_over t over

-- a change that leaves the jobs that are over: those that aren't over afterwards are among those that weren't before
ready_map : (f : Task → Task) (xs : List Task) → Each (λ t. is_over t ≡ true → f t ≡ t) xs
    → filter is_ready (map f xs) ≡ filter is_ready (map f (filter is_ready xs))
ready_map f [] stays = refl
ready_map f (x ∷ xs) stays = by_test (is_over x) refl (ready_map f xs (λ t m. stays t (inr m))) where
  by_test : (b : Bool) → is_over x ≡ b → filter is_ready (map f xs) ≡ filter is_ready (map f (filter is_ready xs))
      → cond (is_ready (f x)) (f x ∷ filter is_ready (map f xs)) (filter is_ready (map f xs)) ≡ filter is_ready
      (map f (cond (not b) (x ∷ filter is_ready xs) (filter is_ready xs)))
  by_test true over rest = ap (λ b. cond (not b) (f x ∷ filter is_ready (map f xs)) (filter is_ready (map f xs)))
      (ap is_over (stays x (inl refl) over) ∙ over) ∙ rest
  by_test false ready rest = ap (λ ys. cond (is_ready (f x)) (f x ∷ ys) ys) rest

-- what a job is worth if it is done
abbrev done_value : Task → ℕ
done_value t = cond (is_done t) t.job.value 0

-- a job that isn't over isn't done
ready_not_done : (t : Task) → is_over t ≡ false → is_done t ≡ false
ready_not_done t = by_role (λ u role. is_over u ≡ false → is_done u ≡ false) t each where
  each : (role : Role) → is_over (with_role t role) ≡ false → is_done (with_role t role) ≡ false
  each Done h = never (sym h)
  each _ h = refl

-- what a change makes of the value of the jobs done, where it leaves those that are over
done_map : (f : Task → Task) (xs : List Task) → Each (λ t. is_over t ≡ true → f t ≡ t) xs
    → sum_by done_value (map f xs) ≡ sum_by done_value xs + sum_by done_value (map f (filter is_ready xs))
done_map f [] stays = omega arith
done_map f (x ∷ xs) stays = by_test (is_over x) refl (done_map f xs (λ t m. stays t (inr m))) where
  by_test : (b : Bool) → is_over x ≡ b
      → sum_by done_value (map f xs) ≡ sum_by done_value xs + sum_by done_value (map f (filter is_ready xs))
      → sum_by done_value (f x ∷ map f xs) ≡ sum_by done_value (x ∷ xs) + sum_by done_value
      (map f (cond (not b) (x ∷ filter is_ready xs) (filter is_ready xs)))
  by_test true over rest = omega (
    arith,
    sum_by-cons done_value (f x) (map f xs),
    sum_by-cons done_value x xs,
    ap done_value (stays x (inl refl) over),
    rest,
  )
  by_test false ready rest = omega (
    arith,
    sum_by-cons done_value (f x) (map f xs),
    sum_by-cons done_value x xs,
    sum_by-cons done_value (f x) (map f (filter is_ready xs)),
    ap (λ b. cond b x.job.value 0) (ready_not_done x ready),
    rest,
  )

-- ---- after a deed

module _ (k : Fraction) (s : State) (sound : IsSound s) (m : Move) (deed : Deed k s Ticks m) where
  -- it leaves the jobs that are over
  over_still : Each (λ t. is_over t ≡ true → change m t ≡ t) s.tasks
  over_still t mt over = deed_over k s sound t mt over m deed

  -- the jobs that aren't over are those of the part
  pub ready_then : filter is_ready (after s m).tasks ≡ filter is_ready (after (ready_part s) m).tasks
  ready_then = ap (filter is_ready) (after_change s m) ∙ ready_map (change m) s.tasks over_still
      ∙ ap (filter is_ready) (sym (after_change (ready_part s) m))

  -- what the jobs done are worth: those done before, and those done by it
  pub done_then : value_sum (filter is_done (after s m).tasks)
      ≡ value_sum (filter is_done s.tasks) + value_sum (filter is_done (after (ready_part s) m).tasks)
  done_then =
      let part : List Task = (after (ready_part s) m).tasks in
      omega (
        arith,
        sum_filter is_done (λ t. t.job.value) (after s m).tasks,
        sum_filter is_done (λ t. t.job.value) s.tasks,
        sum_filter is_done (λ t. t.job.value) part,
        ap (sum_by done_value) (after_change s m),
        ap (sum_by done_value) (after_change (ready_part s) m),
        done_map (change m) s.tasks over_still,
      )

module _ (J : Instance) (valid : IsValid J) (rules : Rules) (s : State) (keeps : Keeps J s) where
  -- an open step leaves the jobs that are over
  pub over_stays : Each (λ t. is_over t ≡ true → change (open_step rules s) t ≡ t) s.tasks
  over_stays = over_still rules.ratio s keeps.sound _ (open_deed J valid s keeps rules)

-- ---- silent steps

-- a silent move leaves jobs that aren't over so
pub silent_ready : (m : Move) → IsSilent m → (t : Task) → is_ready t ≡ true → is_ready (change m t) ≡ true
silent_ready (Prints e) silent t ready = absurd (let clash : Some e ≡ None = silent in cc)
silent_ready (Waits n) silent t ready = by_test (eqb t.number n) where
  by_test : (b : Bool) → is_ready (with_role t (cond b Waiting t.role)) ≡ true
  by_test true = refl
  by_test false = ready
silent_ready Ticks silent t ready = ready
