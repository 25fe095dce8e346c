-- Jobs that come later don't change a settled step.
use Rattle.std.proofs.Common.{◌≡◌, ℕ, ◌≤◌, ◌<◌, ◌⊎◌, inl, inr, List, [], ◌∷◌, ◌++◌, refl, sym, ap, ◌∙◌, subst, Bool}
use Rattle.std.proofs.Common.{true, false, cond, arith, Option, Some, None, find, filter, ne_eqb}
use Rattle.std.specs.Bool.{then_some}
use Rattle.dover_model.specs.Common.{Coming, Version, Release, Take, Abandon, Fraction, Rules, Task, State, with_later}
use Rattle.dover_model.specs.Common.{is_coming, is_fresh, is_waiting, is_held, is_running, is_privileged, is_heavy}
use Rattle.dover_model.specs.Common.{Move, Prints, Ticks, View, view, with_role, ◌or_else◌, completion, dispatch}
use Rattle.dover_model.specs.Common.{decision, arrival, alarm, urgent_or, open_step, declared_open_step, due_finish}
use Rattle.dover_model.specs.Common.{finish_or, Finish, is_finish_of, waits_for_mark, Each}
use Rattle.dover_model.proofs.lists.Members.{found}
use Rattle.dover_model.proofs.lists.Tests.{never}
use Rattle.std.specs.Prelude.{◌||◌}
use Rattle.std.specs.List.{list_any}

-- a filter that nothing behind passes
filter_front : (p : Task → Bool) (xs more : List Task) → Each (λ t. p t ≡ false) more
    → filter p (xs ++ more) ≡ filter p xs
filter_front p [] [] none = refl
filter_front p [] (t ∷ more) none = rw (none t (inl refl)) (filter_front p [] more (λ u m. none u (inr m)))
filter_front p (x ∷ xs) more none = ap (λ ys. cond (p x) (x ∷ ys) ys) (filter_front p xs more none)

-- what none behind passes is found before
pub find_front : (p : Task → Bool) (xs more : List Task) → Each (λ t. p t ≡ false) more
    → find p (xs ++ more) ≡ find p xs
find_front p [] [] none = refl
find_front p [] (t ∷ more) none = rw (none t (inl refl)) (find_front p [] more (λ u m. none u (inr m)))
find_front p (x ∷ xs) more none = ap (λ o. cond (p x) (Some x) o) (find_front p xs more none)

-- the first job to come is among the first tasks, or else among those behind
find_either : (p : Task → Bool) (xs more : List Task)
    → (find p (xs ++ more) ≡ find p xs) ⊎ ((find p xs ≡ None) × (find p (xs ++ more) ≡ find p more))
find_either p [] more = inr (refl, refl)
find_either p (x ∷ xs) more = by_test (p x) (find_either p xs more) where
  by_test : (b : Bool) → (find p (xs ++ more) ≡ find p xs) ⊎ ((find p xs ≡ None) × (find p (xs ++ more) ≡ find p more))
      → (cond b (Some x) (find p (xs ++ more)) ≡ cond b (Some x) (find p xs)) ⊎
      ((cond b (Some x) (find p xs) ≡ None) × (cond b (Some x) (find p (xs ++ more)) ≡ find p more))
  by_test true either = inl refl
  by_test false either = either

-- the view with another job to come
abbrev pub with_coming : View → Option Task → View
with_coming v c = record {
  clock = v.clock;
  running = v.running;
  first_held = v.first_held;
  first_waiting = v.first_waiting;
  fresh = v.fresh;
  coming = c;
  must_start = v.must_start;
  held_room = v.held_room;
  privileged_room = v.privileged_room;
  privileged_value = v.privileged_value;
  yields = v.yields;
}

-- a test of a role that jobs to come fail
pub role_passes : (p : Task → Bool) → ((t : Task) → p (with_role t Coming) ≡ false) → (more : List Task)
    → Each (λ t. t.role ≡ Coming) more
    → Each (λ t. p t ≡ false) more
role_passes p fails more coming t m = subst (λ role. p (with_role t role) ≡ false) (sym (coming t m)) (fails t)

-- where none behind passes, any passes just where one in front does
pub any_front : (p : Task → Bool) (xs more : List Task) → Each (λ t. p t ≡ false) more
    → list_any p (xs ++ more) ≡ list_any p xs
any_front p [] [] none = refl
any_front p [] (t ∷ more) none = ap (λ b. b || list_any p more) (none t (inl refl))
    ∙ any_front p [] more (λ u m. none u (inr m))
any_front p (x ∷ xs) more none = ap (λ b. p x || b) (any_front p xs more none)

-- all that the view shows is the same, but for the job to come
pub view_later : (version : Version) (s : State) (more : List Task) → Each (λ t. t.role ≡ Coming) more
    → view version (with_later s more) ≡ with_coming (view version s) (find is_coming (s.tasks ++ more))
view_later version s more coming =
    rw (
      find_front is_running s.tasks more (role_passes is_running (λ _. refl) more coming),
      find_front is_fresh s.tasks more (role_passes is_fresh (λ _. refl) more coming),
      filter_front is_held s.tasks more (role_passes is_held (λ _. refl) more coming),
      filter_front is_waiting s.tasks more (role_passes is_waiting (λ _. refl) more coming),
      filter_front is_privileged s.tasks more (role_passes is_privileged (λ _. refl) more coming),
    )

-- an arrival comes in only where cases 1 to 4 don't apply, and then the step was late
before_late : (a b d c : Option Move) (rest : Move) → waits_for_mark rest ≡ true
    → waits_for_mark (a or_else b or_else d or_else rest) ≡ false
    → (a or_else b or_else d or_else c or_else rest) ≡ (a or_else b or_else d or_else rest)
before_late None None None c rest late early = never (sym early ∙ late)
before_late _ _ _ c rest late early = refl

-- case 6 and the silent tick are late
alarm_late : (k : Fraction) (v : View) (ro x : Option Task) → waits_for_mark (alarm k v ro x or_else Ticks) ≡ true
alarm_late k v ro None = refl
alarm_late k v None (Some x) = refl
alarm_late k v (Some r) (Some x) = by_value (is_heavy k x.job.value v.privileged_value) where
  by_value : (b : Bool)
      → waits_for_mark (Prints (cond b (Take v.clock r.number x.number) (Abandon v.clock x.number))) ≡ true
  by_value true = refl
  by_value false = refl

-- no job at the mark or later arrives before the mark
arrival_at : (v : View) (c : Option Task) (mark : ℕ) → ((x : Task) → c ≡ Some x → mark ≤ x.job.release) → v.clock < mark
    → arrival v c ≡ None
arrival_at v None mark later before = refl
arrival_at v (Some x) mark later before = let at_mark : mark ≤ x.job.release = later x refl in
    ap (λ b. then_some b (Prints (Release x.number x.job))) (ne_eqb x.job.release v.clock (λ same. omega arith))

-- the step with another job to come, whose release is at the mark or later, where the step is not a late one at the
-- mark
coming_later : (k : Fraction) (v : View) (c : Option Task) (mark : ℕ) → v.coming ≡ None
    → ((x : Task) → c ≡ Some x → mark ≤ x.job.release)
    → (waits_for_mark (urgent_or k v Ticks) ≡ true → v.clock < mark)
    → urgent_or k (with_coming v c) Ticks ≡ urgent_or k v Ticks
coming_later k v c mark none later settled = by_late _ refl where
  abbrev_rest : waits_for_mark (alarm k v v.running v.must_start or_else Ticks) ≡ true
  abbrev_rest = alarm_late k v v.running v.must_start

  without : urgent_or k v Ticks ≡
      (completion v v.running or_else dispatch v v.running v.first_held v.first_waiting or_else decision v v.running
      v.fresh or_else
      alarm k v v.running v.must_start
      or_else Ticks)
  without = ap (λ x. completion v v.running or_else dispatch v v.running v.first_held v.first_waiting or_else decision v
      v.running
      v.fresh or_else arrival v x
      or_else alarm k v v.running v.must_start or_else Ticks) none

  by_late : (b : Bool) → waits_for_mark (urgent_or k v Ticks) ≡ b
      → urgent_or k (with_coming v c) Ticks ≡ urgent_or k v Ticks
  by_late true is_l =
      ap (λ a. completion v v.running or_else dispatch v v.running v.first_held v.first_waiting or_else decision v
      v.running v.fresh or_else a
      or_else alarm k v v.running v.must_start or_else Ticks) (arrival_at v c mark later (settled is_l)) ∙ sym without
  by_late false is_l = before_late (completion v v.running) (dispatch v v.running v.first_held v.first_waiting)
      (decision v v.running v.fresh) (arrival v c)
      (alarm k v v.running v.must_start or_else Ticks) abbrev_rest (subst (λ m. waits_for_mark m ≡ false) without is_l)
      ∙ sym without

-- a settled step is the same, whatever comes at the mark or later, where no job finishes early
declared_same : (rules : Rules) (s : State) (more : List Task) (mark : ℕ) → Each (λ t. t.role ≡ Coming) more
    → Each (λ t. mark ≤ t.job.release) more
    → (waits_for_mark (declared_open_step rules s) ≡ true → s.clock < mark)
    → declared_open_step rules (with_later s more) ≡ declared_open_step rules s
declared_same rules s more mark coming later settled =
    ap (λ v. urgent_or rules.ratio v Ticks) (view_later rules.version s more coming)
    ∙ by_front (find_either is_coming s.tasks more) where
      by_front : (find is_coming (s.tasks ++ more) ≡ find is_coming s.tasks) ⊎
          ((find is_coming s.tasks ≡ None) × (find is_coming (s.tasks ++ more) ≡ find is_coming more))
          → urgent_or rules.ratio (with_coming (view rules.version s) (find is_coming (s.tasks ++ more))) Ticks
          ≡ declared_open_step rules s
      by_front (inl same) = ap (λ c. urgent_or rules.ratio (with_coming (view rules.version s) c) Ticks) same
      by_front (inr behind) = ap (λ c. urgent_or rules.ratio (with_coming (view rules.version s) c) Ticks) behind.1
          ∙ coming_later rules.ratio (view rules.version s) (find is_coming more) mark behind.0
          (λ x some. later x (found is_coming more x some).0) settled

-- and where one does
pub same_step : (rules : Rules) (s : State) (more : List Task) (mark : ℕ) → Each (λ t. t.role ≡ Coming) more
    → Each (λ t. mark ≤ t.job.release) more
    → (waits_for_mark (open_step rules s) ≡ true → s.clock < mark)
    → open_step rules (with_later s more) ≡ open_step rules s
same_step rules s more mark coming later settled =
    ap (λ o. finish_or s.clock o (declared_open_step rules (with_later s more)))
    (ap (λ o. find (is_finish_of o) rules.finishes)
    (find_front is_running s.tasks more (role_passes is_running (λ _. refl) more coming)))
    ∙ by_due (due_finish rules.finishes s) settled where
      by_due : (o : Option Finish)
          → (waits_for_mark (finish_or s.clock o (declared_open_step rules s)) ≡ true → s.clock < mark)
          → finish_or s.clock o (declared_open_step rules (with_later s more))
          ≡ finish_or s.clock o (declared_open_step rules s)
      by_due None early = declared_same rules s more mark coming later early
      by_due (Some f) early = refl
