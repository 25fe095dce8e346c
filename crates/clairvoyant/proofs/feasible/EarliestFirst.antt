-- The schedule by earliest deadline over many ticks in which one job runs, or none.
use Rattle.std.proofs.Common.{◌≡◌, ℕ, zero, suc, ◌+◌, ◌≤◌, ◌<◌, ◌⊎◌, inl, inr, List, [], ◌∷◌, ◌++◌, map, replicate}
use Rattle.std.proofs.Common.{refl, sym, ap, ◌∙◌, subst, Bool, true, false, cond, eqb, arith, Some, ◌&&◌, nat_le}
use Rattle.std.proofs.Common.{nat_lt, Option, filter, fold, eqb-true, eq-eqb, ne_eqb, lt-ltb, ltb-true, le-leb}
use Rattle.std.proofs.Common.{leb-true}
use Rattle.std.specs.List.{list_all}
use Rattle.std.specs.Option.{option_map_or}
use Rattle.std.proofs.lemmas.Bool.{eqb-false, and_parts, and_from, or_left, or_right}
use Rattle.dover_model.specs.Common.{idle, left, earlier, first, due_first, IsMember, Each, IsNumberedFrom, given}
use Rattle.dover_model.specs.Common.{edf_from, entry_of}
use Rattle.dover_model.specs.Pieces.{is_served_fully, earliest_due}
use Rattle.dover_model.specs.declared.events.Task.{Task}
use Rattle.dover_model.specs.declared.events.Version.TheVariants.{One}
use Rattle.dover_model.proofs.steps.EntryOrders.{strict_by}
use Rattle.dover_model.proofs.lists.Members.{by_bool, filter_member, member_filter, all_each, on_map, map_member}
use Rattle.dover_model.proofs.lists.Members.{map_map, map_same, map_self, filter_none}
use Rattle.dover_model.proofs.steps.Roles.{one_number, numbered_map}

-- ---- ticks given to one job

-- the task with so many ticks more
abbrev pub had_more : ℕ → Task → Task
had_more k t = record t { had = t.had + k }

-- the task with so many ticks more, if this is its number
abbrev pub given_ticks : ℕ → ℕ → Task → Task
given_ticks k m t = cond (eqb t.number m) (had_more k t) t

-- what holds of a task after these ticks
pub by_given : (P : Task → Type 0) (k m : ℕ) (t : Task) → (t.number ≡ m → P (had_more k t)) → ((t.number ≡ m → ⊥) → P t)
    → P (given_ticks k m t)
by_given P k m t here other = by_bool (P (given_ticks k m t)) (eqb t.number m)
    (λ e. subst (λ b. P (cond b (had_more k t) t)) (sym e) (here (eqb-true t.number m e)))
    (λ e. subst (λ b. P (cond b (had_more k t) t)) (sym e) (other (eqb-false t.number m e)))

-- the task of the number
pub given_here : (k m : ℕ) (t : Task) → t.number ≡ m → given_ticks k m t ≡ had_more k t
given_here k m t e = ap (λ b. cond b (had_more k t) t) (eq-eqb t.number m e)

-- another task
pub given_other : (k m : ℕ) (t : Task) → (t.number ≡ m → ⊥) → given_ticks k m t ≡ t
given_other k m t other = ap (λ b. cond b (had_more k t) t) (ne_eqb t.number m other)

-- no ticks
given_none : (m : ℕ) (t : Task) → given_ticks 0 m t ≡ t
given_none m t = by_given (λ u. u ≡ t) 0 m t
    (λ _. ap (λ h. record t { had = h }) (let same : t.had + 0 ≡ t.had = omega arith in same)) (λ _. refl)

-- a tick, and then so many
given_one_more : (k m : ℕ) (t : Task) → given_ticks k m (given m t) ≡ given_ticks (suc k) m t
given_one_more k m t = by_bool _ (eqb t.number m)
    (λ e. ap (λ (u : Task). given_ticks k m u) (ap (λ b. cond b (had_more 1 t) t) e)
    ∙ ap (λ b. cond b (had_more k (had_more 1 t)) (had_more 1 t)) e
    ∙ ap (λ h. record t { had = h }) (let same : t.had + 1 + k ≡ t.had + suc k = omega arith in same)
    ∙ sym (ap (λ b. cond b (had_more (suc k) t) t) e))
    (λ e. ap (λ (u : Task). given_ticks k m u) (ap (λ b. cond b (had_more 1 t) t) e)
    ∙ ap (λ b. cond b (had_more k t) t) e
    ∙ sym (ap (λ b. cond b (had_more (suc k) t) t) e))

-- ---- the one that is due first

-- u is due behind the job of this deadline and number
abbrev pub IsBehind : (due m : ℕ) → Task → Type 0
IsBehind due m u = (due < u.job.deadline) ⊎ ((due ≡ u.job.deadline) × (m < u.number))

-- as a test
behind_first : (t u : Task) → IsBehind t.job.deadline t.number u → due_first One t u ≡ true
behind_first t u (inl sooner) =
    or_left (nat_lt t.job.deadline u.job.deadline) (eqb t.job.deadline u.job.deadline && nat_lt t.number u.number)
    (lt-ltb _ _ sooner)
behind_first t u (inr tie) =
    or_right (nat_lt t.job.deadline u.job.deadline) (eqb t.job.deadline u.job.deadline && nat_lt t.number u.number)
    (and_from (eqb t.job.deadline u.job.deadline) (nat_lt t.number u.number) (eq-eqb _ _ tie.0) (lt-ltb _ _ tie.1))

-- the other way round
one_way : (t u : Task) → due_first One t u ≡ true → due_first One u t ≡ false
one_way t u e = (strict_by (λ x. x.deadline) One).one_way (entry_of t) (entry_of u) e

-- not before itself
not_itself : (t : Task) → due_first One t t ≡ false
not_itself t = by_bool _ (due_first One t t) (λ e. one_way t t e) (λ e. e)

-- it, or one behind it
abbrev Follows : Task → Task → Type 0
Follows t u = (u ≡ t) ⊎ (due_first One t u ≡ true)

-- once found it stays
fold_stays : (t : Task) (xs : List Task) → Each (Follows t) xs → fold (earlier (due_first One)) t xs ≡ t
fold_stays t [] all = refl
fold_stays t (x ∷ xs) all = by_case (all x (inl refl)) (fold_stays t xs (λ u m. all u (inr m))) where
  by_case : Follows t x → fold (earlier (due_first One)) t xs ≡ t
      → fold (earlier (due_first One)) (earlier (due_first One) t x) xs ≡ t
  by_case (inl same) rest = ap (λ b. fold (earlier (due_first One)) (cond b x t) xs)
      (ap (λ (y : Task). due_first One y t) same ∙ not_itself t) ∙ rest
  by_case (inr behind) rest = ap (λ b. fold (earlier (due_first One)) (cond b x t) xs) (one_way t x behind) ∙ rest

-- it is found
fold_finds : (t : Task) (xs : List Task) (best : Task) → due_first One t best ≡ true → IsMember t xs
    → Each (Follows t) xs
    → fold (earlier (due_first One)) best xs ≡ t
fold_finds t [] best ahead member all = absurd member
fold_finds t (x ∷ xs) best ahead member all =
    by_case member (all x (inl refl)) (λ b h m. fold_finds t xs b h m (λ u n. all u (inr n))) where
      here : x ≡ t → fold (earlier (due_first One)) (earlier (due_first One) best x) xs ≡ t
      here same = ap (λ b. fold (earlier (due_first One)) (cond b x best) xs)
          (ap (λ (y : Task). due_first One y best) same ∙ ahead)
          ∙ ap (λ (y : Task). fold (earlier (due_first One)) y xs) same ∙ fold_stays t xs (λ u m. all u (inr m))

      by_case : IsMember t (x ∷ xs) → Follows t x
          → ((b : Task) → due_first One t b ≡ true → IsMember t xs → fold (earlier (due_first One)) b xs ≡ t)
          → fold (earlier (due_first One)) (earlier (due_first One) best x) xs ≡ t
      by_case (inl same) follows more = here (sym same)
      by_case (inr later) (inl same) more = here same
      by_case (inr later) (inr behind) more = by_bool _ (due_first One x best)
          (λ e. ap (λ b. fold (earlier (due_first One)) (cond b x best) xs) e ∙ more x behind later)
          (λ e. ap (λ b. fold (earlier (due_first One)) (cond b x best) xs) e ∙ more best ahead later)

-- the first is the one that all others follow
first_is : (t : Task) (xs : List Task) → IsMember t xs → Each (Follows t) xs → first (due_first One) xs ≡ Some t
first_is t [] member all = absurd member
first_is t (x ∷ xs) member all = ap Some (by_case member (all x (inl refl))) where
  here : x ≡ t → fold (earlier (due_first One)) x xs ≡ t
  here same = ap (λ (y : Task). fold (earlier (due_first One)) y xs) same ∙ fold_stays t xs (λ u m. all u (inr m))

  by_case : IsMember t (x ∷ xs) → Follows t x → fold (earlier (due_first One)) x xs ≡ t
  by_case (inl same) follows = here (sym same)
  by_case (inr later) (inl same) = here same
  by_case (inr later) (inr behind) = fold_finds t xs x behind later (λ u m. all u (inr m))

-- whether a job is released and not done
abbrev is_due : ℕ → Task → Bool
is_due clock t = nat_le t.job.release clock && nat_lt 0 (left t)

-- ---- one job runs

-- the job of number m is first for k ticks: no other is ready in front of it, and none comes
pub record Leads (k m clock : ℕ) (tasks : List Task) : Type 0 where
  pub task : Task
  pub member : IsMember task tasks
  pub number : task.number ≡ m
  pub released : task.job.release ≤ clock
  pub long : k ≤ left task
  pub first : Each (λ u. (u.number ≡ m)
      ⊎ ((left u ≡ 0) ⊎ ((clock + k ≤ u.job.release) ⊎ IsBehind task.job.deadline m u))) tasks

-- then it is the one that runs
earliest_is : (k m clock : ℕ) (tasks : List Task) → IsNumberedFrom 0 tasks → Leads (suc k) m clock tasks
    → earliest_due clock tasks ≡ m
earliest_is k m clock tasks numbered it =
    ap (λ (o : Option Task). option_map_or (λ (task : Task). task.number) o idle)
    (first_is it.task (filter (is_due clock) tasks) (filter_member (is_due clock) tasks it.task it.member due) follows)
    ∙ it.number where
      due : is_due clock it.task ≡ true
      due = and_from (nat_le it.task.job.release clock) (nat_lt 0 (left it.task)) (le-leb _ _ it.released)
          (lt-ltb _ _ (omega (arith, it.long)))

      follows : Each (Follows it.task) (filter (is_due clock) tasks)
      follows u member = by_case (member_filter (is_due clock) tasks u member) where
        by_case : IsMember u tasks × (is_due clock u ≡ true) → Follows it.task u
        by_case found = (elim (it.first u found.0) as (λ _. (nat_le u.job.release clock ≡ true) ×
            (nat_lt 0 (left u) ≡ true) → Follows it.task u) [
              | inl same ↦ λ ready. inl (one_number 0 tasks numbered u it.task found.0 it.member (same ∙ sym it.number))
              | inr (inl done) ↦ λ ready. absurd (let some : 0 < left u = ltb-true _ _ ready.1 in omega (arith, done))
              | inr (inr (inl later)) ↦ λ ready. absurd (let now : u.job.release ≤ clock = leb-true _ _ ready.0 in omega
                  (arith, later))
              | inr (inr (inr behind)) ↦ λ ready. inr (behind_first it.task u
                  (subst (λ n. IsBehind it.task.job.deadline n u) (sym it.number) behind))
            ]) (and_parts (nat_le u.job.release clock) (nat_lt 0 (left u)) found.1)

-- where some job isn't done, not all are
not_all_done : (t : Task) (tasks : List Task) → IsMember t tasks → 1 ≤ left t → list_all is_served_fully tasks ≡ false
not_all_done t tasks member some = by_bool _ (list_all is_served_fully tasks)
    (λ e. absurd (let none : left t ≡ 0 = eqb-true _ _ (all_each is_served_fully tasks e t member) in omega arith))
    (λ e. e)

-- a tick of the schedule
edf_tick : (more clock m : ℕ) (tasks : List Task) → list_all is_served_fully tasks ≡ false
    → earliest_due clock tasks ≡ m
    → edf_from (suc more) clock tasks ≡ m ∷ edf_from more (clock + 1) (map (given m) tasks)
edf_tick more clock m tasks busy runs = cc

-- after a tick it still leads
leads_on : (k m clock : ℕ) (tasks : List Task) → Leads (suc k) m clock tasks
    → Leads k m (clock + 1) (map (given m) tasks)
leads_on k m clock tasks it = record {
  task = had_more 1 it.task;
  member = subst (λ (u : Task). IsMember u (map (given m) tasks)) (given_here 1 m it.task it.number)
      (map_member (given m) tasks it.task it.member);
  number = it.number;
  released = omega (arith, it.released);
  long = omega (arith, it.long);
  first = on_map (given m)
      (λ u. (u.number ≡ m) ⊎ ((left u ≡ 0) ⊎ ((clock + 1 + k ≤ u.job.release) ⊎ IsBehind it.task.job.deadline m u)))
      tasks
      (λ u member. by_given (λ v. (v.number ≡ m)
      ⊎ ((left v ≡ 0) ⊎ ((clock + 1 + k ≤ v.job.release) ⊎ IsBehind it.task.job.deadline m v))) 1 m u
      (λ same. inl same) (λ other. still u (it.first u member)));
} where
  still : (u : Task) → (u.number ≡ m)
      ⊎ ((left u ≡ 0) ⊎ ((clock + suc k ≤ u.job.release) ⊎ IsBehind it.task.job.deadline m u))
      → (u.number ≡ m) ⊎ ((left u ≡ 0) ⊎ ((clock + 1 + k ≤ u.job.release) ⊎ IsBehind it.task.job.deadline m u))
  still u (inl same) = inl same
  still u (inr (inl done)) = inr (inl done)
  still u (inr (inr (inl later))) = inr (inr (inl (omega (arith, later))))
  still u (inr (inr (inr behind))) = inr (inr (inr behind))

-- k ticks in which one job runs
pub edf_run : (k total more clock m : ℕ) (tasks : List Task) → IsNumberedFrom 0 tasks → total ≡ k + more
    → Leads k m clock tasks
    → edf_from total clock tasks ≡ replicate k m ++ edf_from more (clock + k) (map (given_ticks k m) tasks)
edf_run zero total more clock m tasks numbered e it =
    ap (λ n. edf_from n clock tasks) (let same : total ≡ more = omega (arith, e) in same)
    ∙ ap (λ c. edf_from more c tasks) (let same : clock ≡ clock + 0 = omega arith in same)
    ∙ sym (ap (λ (ts : List Task). edf_from more (clock + 0) ts) (map_self (given_ticks 0 m) tasks (given_none m)))
edf_run (suc k) zero more clock m tasks numbered e it = absurd (omega (arith, e))
edf_run (suc k) (suc total) more clock m tasks numbered e it =
    edf_tick total clock m tasks (not_all_done it.task tasks it.member (omega (arith, it.long)))
    (earliest_is k m clock tasks numbered it)
    ∙ ap (λ xs. m ∷ xs)
    (edf_run k total more (clock + 1) m (map (given m) tasks)
    (numbered_map (given m) (λ t. by_given (λ u. u.number ≡ t.number) 1 m t (λ _. refl) (λ _. refl)) 0 tasks numbered)
    (omega (arith, e)) (leads_on k m clock tasks it)
    ∙ ap (λ c. replicate k m ++ edf_from more c (map (given_ticks k m) (map (given m) tasks)))
    (let same : clock + 1 + k ≡ clock + suc k = omega arith in same)
    ∙ ap (λ (ts : List Task). replicate k m ++ edf_from more (clock + suc k) ts)
    (map_map (given_ticks k m) (given m) tasks
    ∙ map_same (λ t. given_ticks k m (given m t)) (given_ticks (suc k) m) tasks (λ t _. given_one_more k m t)))

-- ---- no job runs

-- for k ticks no job is ready, and none comes; but some job isn't done, and none has the idle number
pub record Rests (k clock : ℕ) (tasks : List Task) : Type 0 where
  pub task : Task
  pub member : IsMember task tasks
  pub some : 1 ≤ left task
  pub named : Each (λ u. u.number ≡ idle → ⊥) tasks
  pub none : Each (λ u. (left u ≡ 0) ⊎ (clock + k ≤ u.job.release)) tasks

-- then the tick is idle
earliest_none : (k clock : ℕ) (tasks : List Task) → Rests (suc k) clock tasks → earliest_due clock tasks ≡ idle
earliest_none k clock tasks it =
    ap (λ (xs : List Task). option_map_or (λ (task : Task). task.number) (first (due_first One) xs) idle)
    (filter_none (is_due clock) tasks (λ u member. not_due u (it.none u member))) where
      not_due : (u : Task) → (left u ≡ 0) ⊎ (clock + suc k ≤ u.job.release) → is_due clock u ≡ false
      not_due u why = by_bool _ (is_due clock u)
          (λ e. absurd (clash why (and_parts (nat_le u.job.release clock) (nat_lt 0 (left u)) e))) (λ e. e) where
            clash : (left u ≡ 0) ⊎ (clock + suc k ≤ u.job.release) → (nat_le u.job.release clock ≡ true)
                × (nat_lt 0 (left u) ≡ true) → ⊥
            clash (inl done) ready = let some : 0 < left u = ltb-true _ _ ready.1 in omega (arith, done)
            clash (inr later) ready = let now : u.job.release ≤ clock = leb-true _ _ ready.0 in omega (arith, later)

-- k idle ticks
pub edf_idle : (k total more clock : ℕ) (tasks : List Task) → total ≡ k + more → Rests k clock tasks
    → edf_from total clock tasks ≡ replicate k idle ++ edf_from more (clock + k) tasks
edf_idle zero total more clock tasks e it =
    ap (λ n. edf_from n clock tasks) (let same : total ≡ more = omega (arith, e) in same)
    ∙ ap (λ c. edf_from more c tasks) (let same : clock ≡ clock + 0 = omega arith in same)
edf_idle (suc k) zero more clock tasks e it = absurd (omega (arith, e))
edf_idle (suc k) (suc total) more clock tasks e it =
    edf_tick total clock idle tasks (not_all_done it.task tasks it.member it.some) (earliest_none k clock tasks it)
    ∙ ap (λ xs. idle ∷ xs)
    (ap (λ (ts : List Task). edf_from total (clock + 1) ts)
    (map_same (given idle) (λ t. t) tasks (λ t member. given_other 1 idle t (it.named t member))
    ∙ map_self (λ t. t) tasks (λ t. refl))
    ∙ edf_idle k total more (clock + 1) tasks (omega (arith, e)) next
    ∙ ap (λ c. replicate k idle ++ edf_from more c tasks)
    (let same : clock + 1 + k ≡ clock + suc k = omega arith in same)) where
      next : Rests k (clock + 1) tasks
      next = record {
        task = it.task;
        member = it.member;
        some = it.some;
        named = it.named;
        none =
            λ u member. still u (it.none u member);
      } where
        still : (u : Task) → (left u ≡ 0) ⊎ (clock + suc k ≤ u.job.release) → (left u ≡ 0)
            ⊎ (clock + 1 + k ≤ u.job.release)
        still u (inl done) = inl done
        still u (inr later) = inr (omega (arith, later))

-- ---- the end

-- where all are done the schedule ends
pub edf_over : (more clock : ℕ) (tasks : List Task) → Each (λ t. left t ≡ 0) tasks → edf_from more clock tasks ≡ []
edf_over zero clock tasks all = refl
edf_over (suc more) clock tasks all =
    ap (λ b. cond b [] (earliest_due clock tasks ∷ edf_from more (clock + 1)
    (map (given (earliest_due clock tasks)) tasks)))
    (all_done tasks all) where
      all_done : (ts : List Task) → Each (λ t. left t ≡ 0) ts → list_all is_served_fully ts ≡ true
      all_done [] each = refl
      all_done (t ∷ ts) each =
          and_from (is_served_fully t) (list_all is_served_fully ts) (eq-eqb _ _ (each t (inl refl)))
          (all_done ts (λ u m. each u (inr m)))
