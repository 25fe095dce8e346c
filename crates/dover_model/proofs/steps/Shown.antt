-- What a step shows to have been handed in.
use Rattle.std.proofs.Common.{◌≡◌, ℕ, suc, ◌≤◌, ◌<◌, inl, inr, List, [], ◌∷◌, ◌++◌, map}
use Rattle.std.proofs.Common.{refl, sym, ap, ◌∙◌, subst, Bool, true, false, cond, arith, eqb}
use Rattle.std.specs.Prelude.{Option, Some, None, nat_lt, ◌==◌, ◌&&◌}
use Rattle.std.specs.Bool.{then_some}
use Rattle.std.specs.List.{filter, filter_map, cons_option}
use Rattle.std.proofs.lemmas.Bool.{eqb-true, eq-eqb, ne_eqb, and_parts, lt-ltb, ltb-true}
use Rattle.dover_model.specs.Common.{JobFacts, Fraction, Complete, Role, Coming, Fresh, Waiting, Held, Running, Done}
use Rattle.dover_model.specs.Common.{Gone, Task, Finish, has_come_to, State, is_coming, running, left, Move, Prints}
use Rattle.dover_model.specs.Common.{Ticks, after, with_role, displaced, ticked, Step, finish_now, is_complete}
use Rattle.dover_model.specs.Common.{IsMember, Each, IsNumberedFrom, IsSound, Item, JobItem, FinishItem, admitted_jobs}
use Rattle.dover_model.specs.Common.{early_of, handed_by}
use Rattle.dover_model.proofs.lists.Members.{some_same}
use Rattle.dover_model.proofs.steps.Roles.{passes, is_coming_role, numbers_above}
use Rattle.dover_model.proofs.steps.OneChange.{changed}
use Rattle.dover_model.proofs.steps.Deeds.{Deed, Completed, Resumed, Started, Began, Preempted, Stayed, Arrived, Taken}
use Rattle.dover_model.proofs.steps.Deeds.{Abandoned, Rested}
use Rattle.dover_model.proofs.runs.ReleaseCounts.{one_still, taker_still, displaced_coming}
use Rattle.dover_model.proofs.lists.Tests.{never, none_is_some}

-- ---- steps that complete

-- a completion, as an event
pub complete_event : (m : Move) → is_complete m ≡ true → (at : ℕ) × (n : ℕ) × (m ≡ Prints (Complete at n))
complete_event (Prints (Complete at n)) e = (at, n, refl)
complete_event _ e = never e

-- it shows the finish of the running job
pub complete_shows : (s : State) (m : Move) → is_complete m ≡ true
    → handed_by (record { before = s; move = m }) ≡ early_of s.clock (running s)
complete_shows s m e = let it = complete_event m e in
    subst (λ x. handed_by (record { before = s; move = x }) ≡ early_of s.clock (running s)) (sym it.2) refl

-- where work is left
pub early_shown : (clock : ℕ) (o : Option Task) (r : Task) → o ≡ Some r → 1 ≤ left r
    → early_of clock o ≡ Some (FinishItem (record { at = clock; finish = finish_now r }))
early_shown clock o r is some = ap (early_of clock) is
    ∙ ap (λ b. then_some b (FinishItem (record { at = clock; finish = finish_now r }))) (lt-ltb 0 (left r)
    (omega arith))

-- what an early finish that is shown says
pub record Shows (clock : ℕ) (o : Option Task) (item : Item) : Type 0 where
  pub job : Task
  pub is : o ≡ Some job
  pub some : 1 ≤ left job
  pub shown : FinishItem (record { at = clock; finish = finish_now job }) ≡ item

pub early_says : (clock : ℕ) (o : Option Task) (item : Item) → early_of clock o ≡ Some item → Shows clock o item
early_says clock None item e = none_is_some e
early_says clock (Some r) item e = by_left (nat_lt 0 (left r)) refl e where
  by_left : (b : Bool) → nat_lt 0 (left r) ≡ b
      → then_some b (FinishItem (record { at = clock; finish = finish_now r })) ≡ Some item → Shows clock (Some r) item
  by_left false none f = none_is_some f
  by_left true some f = record {
    job = r;
    is = refl;
    some = (let above : 0 < left r = ltb-true _ _ some in omega arith);
    shown = some_same (FinishItem (record { at = clock; finish = finish_now r })) item f;
  }

-- a move that is no completion and no release shows nothing, and no early finish shows a job
pub no_job_shown : (clock : ℕ) (o : Option Task) → admitted_jobs (cons_option (early_of clock o) []) ≡ []
no_job_shown clock None = refl
no_job_shown clock (Some r) = by_left (nat_lt 0 (left r)) where
  by_left : (b : Bool)
      → admitted_jobs (cons_option (then_some b (FinishItem (record { at = clock; finish = finish_now r }))) []) ≡ []
  by_left true = refl
  by_left false = refl

-- the running job has come to this very finish
pub come_to_now : (r : Task) (f : Finish) → has_come_to r f ≡ true → f ≡ finish_now r
come_to_now r f comes =
    let all = and_parts ((f.number == r.number) && (f.had == r.had)) (nat_lt 0 r.had) comes in
    let two = and_parts (f.number == r.number) (f.had == r.had) all.0 in
    ap (λ n. let g : Finish = record { number = n; had = f.had } in g) (eqb-true _ _ two.0)
    ∙ ap (λ n. let g : Finish = record { number = r.number; had = n } in g) (eqb-true _ _ two.1)

-- what an open step shows
pub data Handed (s : State) (m : Move) (item : Item) : Type 0 where
  Comes : (j : JobFacts) → j.release ≡ s.clock → item ≡ JobItem j → Handed s m item
  Finishes : is_complete m ≡ true → Shows s.clock (running s) item → Handed s m item

-- ---- jobs to come

-- the jobs that are to come
abbrev pub coming_in : List Task → List JobFacts
coming_in tasks = map (λ t. t.job) (filter is_coming tasks)

-- a change of roles that brings and takes none
pub still_in : (role : Task → Role) (tasks : List Task)
    → Each (λ t. is_coming (with_role t (role t)) ≡ is_coming t) tasks
    → coming_in (map (λ t. with_role t (role t)) tasks) ≡ coming_in tasks
still_in role [] same = refl
still_in role (t ∷ tasks) same =
    ap (λ b. map (λ (u : Task). u.job) (cond b (with_role t (role t) ∷ filter is_coming (map (λ u. with_role u
    (role u)) tasks))
    (filter is_coming (map (λ u. with_role u (role u)) tasks)))) (same t (inl refl))
    ∙ by_test (is_coming t) (still_in role tasks (λ u m. same u (inr m))) where
      by_test : (b : Bool) → coming_in (map (λ u. with_role u (role u)) tasks) ≡ coming_in tasks
          → map (λ (u : Task). u.job) (cond b
          (with_role t (role t) ∷ filter is_coming (map (λ u. with_role u (role u)) tasks))
          (filter is_coming (map (λ u. with_role u (role u)) tasks)))
          ≡ map (λ (u : Task). u.job) (cond b (t ∷ filter is_coming tasks) (filter is_coming tasks))
      by_test true rest = ap (λ js. t.job ∷ js) rest
      by_test false rest = rest

-- nor does a tick
pub tick_in : (tasks : List Task) → coming_in (map ticked tasks) ≡ coming_in tasks
tick_in [] = refl
tick_in (t ∷ tasks) = by_test (is_coming t) (tick_in tasks) where
  by_test : (b : Bool) → coming_in (map ticked tasks) ≡ coming_in tasks
      → map (λ (u : Task). u.job) (cond b (ticked t ∷ filter is_coming (map ticked tasks)) (filter is_coming
      (map ticked tasks)))
      ≡ map (λ (u : Task). u.job) (cond b (t ∷ filter is_coming tasks) (filter is_coming tasks))
  by_test true rest = ap (λ js. t.job ∷ js) rest
  by_test false rest = rest

-- the first of them is released
pub arrive_in : (n : ℕ) (tasks : List Task) → IsNumberedFrom n tasks → (c : Task) → IsMember c tasks → c.role ≡ Coming
    → Each (λ t. t.role ≡ Coming → c.number ≤ t.number) tasks
    → c.job ∷ coming_in (map (λ t. with_role t (changed c Fresh t)) tasks) ≡ coming_in tasks
arrive_in n [] numbered c member comes first = absurd member
arrive_in n (x ∷ tasks) numbered c (inl e) comes first =
    ap (λ js. c.job ∷ js) (ap (λ b. map (λ (u : Task). u.job) (cond b
    (with_role x (changed c Fresh x) ∷ filter is_coming (map (λ t. with_role t (changed c Fresh t)) tasks))
    (filter is_coming (map (λ t. with_role t (changed c Fresh t)) tasks))))
    (ap (λ b. is_coming (with_role x (cond b Fresh x.role))) (eq-eqb x.number c.number (ap (λ (t : Task). t.number)
    (sym e))))
    ∙ still_in (changed c Fresh) tasks (λ t m. ap (λ b. is_coming (with_role t (cond b Fresh t.role)))
    (ne_eqb t.number c.number (λ same. let above : suc n ≤ t.number = numbers_above (suc n) tasks numbered.1 t m in
    let here : c.number ≡ n = ap (λ (u : Task). u.number) e ∙ numbered.0 in omega (arith, above, here, same)))))
    ∙ ap (λ (u : Task). u.job ∷ coming_in tasks) e
    ∙ sym (ap (λ b. map (λ (u : Task). u.job) (cond b (x ∷ filter is_coming tasks) (filter is_coming tasks)))
    (ap (λ (u : Task). is_coming u) (sym e) ∙ passes is_coming c Coming true comes refl))
arrive_in n (x ∷ tasks) numbered c (inr member) comes first = by_x (is_coming x) refl
    (arrive_in (suc n) tasks numbered.1 c member comes (λ t m. first t (inr m))) where
      behind : x.number < c.number
      behind = let above : suc n ≤ c.number =
          numbers_above (suc n) tasks numbered.1 c member in omega (arith, above, numbered.0)

      by_x : (b : Bool) → is_coming x ≡ b
          → c.job ∷ coming_in (map (λ t. with_role t (changed c Fresh t)) tasks) ≡ coming_in tasks
          → c.job ∷ coming_in (map (λ t. with_role t (changed c Fresh t)) (x ∷ tasks)) ≡ coming_in (x ∷ tasks)
      by_x true e rest = absurd (let low : c.number ≤ x.number = first x (inl refl) (is_coming_role x e) in
          omega (arith, behind, low))
      by_x false e rest =
          ap (λ js. c.job ∷ js) (ap (λ b. map (λ (u : Task). u.job) (cond b
          (with_role x (changed c Fresh x) ∷ filter is_coming (map (λ t. with_role t (changed c Fresh t)) tasks))
          (filter is_coming (map (λ t. with_role t (changed c Fresh t)) tasks))))
          (ap (λ b. is_coming (with_role x (cond b Fresh x.role)))
          (ne_eqb x.number c.number (λ same. omega (arith, behind, same))) ∙ e))
          ∙ rest ∙ sym (ap (λ b. map (λ (u : Task). u.job) (cond b (x ∷ filter is_coming tasks)
          (filter is_coming tasks))) e)

-- the jobs that a step shows, and those to come behind it, are those to come before it
pub deed_in : (k : Fraction) (s : State) (sound : IsSound s) (m : Move) → Deed k s Ticks m
    → admitted_jobs (cons_option (handed_by (record { before = s; move = m })) []) ++ coming_in (after s m).tasks
    ≡ coming_in s.tasks
deed_in k s sound m (Completed r member runs) =
    ap (λ js. js ++ coming_in (map (λ t. with_role t (changed r Done t)) s.tasks)) (no_job_shown s.clock (running s))
    ∙ still_in (changed r Done) s.tasks (one_still s sound r member Running Done runs refl refl)
deed_in k s sound m (Resumed p member held none least why) =
    still_in (changed p Running) s.tasks (one_still s sound p member Held Running held refl refl)
deed_in k s sound m (Started o member waiting none first fits next) =
    still_in (changed o Running) s.tasks (one_still s sound o member Waiting Running waiting refl refl)
deed_in k s sound m (Began f member fresh none free) =
    still_in (changed f Running) s.tasks (one_still s sound f member Fresh Running fresh refl refl)
deed_in k s sound m (Preempted r f member runs some f_member fresh before fits) =
    still_in (λ t. cond (eqb t.number f.number) Running (changed r Held t)) s.tasks
    (taker_still s sound f f_member Fresh fresh refl (changed r Held)
    (one_still s sound r member Running Held runs refl refl))
deed_in k s sound m (Stayed r f member runs some f_member fresh why) =
    still_in (changed f Waiting) s.tasks (one_still s sound f f_member Fresh Waiting fresh refl refl)
deed_in k s sound m (Arrived c member comes now first stale busy free) =
    arrive_in 0 s.tasks sound.numbered c member comes first
deed_in k s sound m (Taken r x member runs some x_member waiting now stale heavy) =
    still_in (λ t. cond (eqb t.number x.number) Running (displaced t.role)) s.tasks
    (taker_still s sound x x_member Waiting waiting refl (λ t. displaced t.role) (λ t mt. displaced_coming t))
deed_in k s sound m (Abandoned r x member runs some x_member waiting now stale light) =
    still_in (changed x Gone) s.tasks (one_still s sound x x_member Waiting Gone waiting refl refl)
deed_in k s sound m (Rested quiet) = tick_in s.tasks

-- the items of steps
abbrev pub items_of : List Step → List Item
items_of xs = filter_map handed_by xs

-- of a step in front
pub items_cons : (x : Step) (xs : List Step)
    → admitted_jobs (items_of (x ∷ xs)) ≡ admitted_jobs (cons_option (handed_by x) []) ++ admitted_jobs (items_of xs)
items_cons x xs = by_item (handed_by x) where
  by_item : (o : Option Item) → admitted_jobs (cons_option o (items_of xs))
      ≡ admitted_jobs (cons_option o []) ++ admitted_jobs (items_of xs)
  by_item (Some (JobItem j)) = refl
  by_item _ = refl
