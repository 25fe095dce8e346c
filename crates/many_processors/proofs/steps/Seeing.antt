-- What the processors see: of the jobs that are on no processor all of them see the same.
use Rattle.std.proofs.Common.{◌≡◌, ℕ, suc, zero, ◌+◌, ◌≤◌, ◌<◌, ◌⊎◌, inl, inr, List, [], ◌∷◌, map, refl, sym, ap, ◌∙◌}
use Rattle.std.proofs.Common.{subst, Bool, true, false, cond, arith, filter, find, Some, not, ◌==◌}
use Rattle.std.proofs.lemmas.Bool.{and_parts}
use Rattle.dover_model.specs.declared.events.Task.{Task}
use Rattle.dover_model.specs.declared.events.Version.{Version}
use Rattle.dover_model.specs.declared.events.Role.TheVariants.{Held, Running, Done}
use Rattle.dover_model.specs.Common.{State, is_coming, is_fresh}
use Rattle.dover_model.specs.Common.{is_waiting, is_privileged, with_role, IsMember, Each}
use Rattle.dover_model.specs.Common.{is_at_latest_start, first, starts_before, waiting_order, by_density}
use Rattle.dover_model.proofs.steps.Roles.{passes, is_privileged_role}
use Rattle.many_processors.specs.State as many
use Rattle.many_processors.specs.State.{Placed, tasks_of, is_elsewhere, seen_by, seen_from}
use Rattle.many_processors.specs.Step.{Seen, seen, numbers_from, all_seen}

-- ---- what a processor sees of one job

-- the job itself, or the job as over
pub seen_either : (q : ℕ) (p : Placed) → ((seen_by q p ≡ p.task) × (is_elsewhere q p ≡ false))
    ⊎ ((seen_by q p ≡ with_role p.task Done) × (is_privileged p.task ≡ true) × (is_elsewhere q p ≡ true))
seen_either q p = by_test (is_elsewhere q p) refl where
  is_on : is_elsewhere q p ≡ true → is_privileged p.task ≡ true
  is_on e = (and_parts (is_privileged p.task) (not (p.owner == q)) e).0

  by_test : (b : Bool) → is_elsewhere q p ≡ b → ((cond b (with_role p.task Done) p.task ≡ p.task)
      × (is_elsewhere q p ≡ false))
      ⊎ ((cond b (with_role p.task Done) p.task ≡ with_role p.task Done) × (is_privileged p.task ≡ true)
      × (is_elsewhere q p ≡ true))
  by_test true e = inr (refl, is_on e, e)
  by_test false e = inl (refl, e)

-- a test that jobs on a processor and jobs that are over fail
abbrev pub Skips : (Task → Bool) → Type 0
Skips test = (t : Task) → is_privileged t ≡ true → (test t ≡ false) × (test (with_role t Done) ≡ false)

-- tests by role are so
pub fresh_skips : Skips is_fresh
fresh_skips t on = (by_role (is_privileged_role t on), refl) where
  by_role : (t.role ≡ Running) ⊎ (t.role ≡ Held) → is_fresh t ≡ false
  by_role (inl e) = passes is_fresh t Running false e refl
  by_role (inr e) = passes is_fresh t Held false e refl

pub coming_skips : Skips is_coming
coming_skips t on = (by_role (is_privileged_role t on), refl) where
  by_role : (t.role ≡ Running) ⊎ (t.role ≡ Held) → is_coming t ≡ false
  by_role (inl e) = passes is_coming t Running false e refl
  by_role (inr e) = passes is_coming t Held false e refl

pub waiting_skips : Skips is_waiting
waiting_skips t on = (by_role (is_privileged_role t on), refl) where
  by_role : (t.role ≡ Running) ⊎ (t.role ≡ Held) → is_waiting t ≡ false
  by_role (inl e) = passes is_waiting t Running false e refl
  by_role (inr e) = passes is_waiting t Held false e refl

module _ (test : Task → Bool) (skips : Skips test) (q : ℕ) where
  -- it goes by the job itself
  same_test : (p : Placed) → ((test (seen_by q p) ≡ false) × (test p.task ≡ false)) ⊎ (seen_by q p ≡ p.task)
  same_test p = by_seen (seen_either q p) where
    by_seen : ((seen_by q p ≡ p.task) × (is_elsewhere q p ≡ false))
        ⊎ ((seen_by q p ≡ with_role p.task Done) × (is_privileged p.task ≡ true) × (is_elsewhere q p ≡ true))
        → ((test (seen_by q p) ≡ false) × (test p.task ≡ false)) ⊎ (seen_by q p ≡ p.task)
    by_seen (inl same) = inr same.0
    by_seen (inr it) = inl (ap test it.0 ∙ (skips p.task it.1).1, (skips p.task it.1).0)

  -- those that pass
  pub same_filter : (jobs : List Placed) → filter test (map (seen_by q) jobs) ≡ filter test (tasks_of jobs)
  same_filter [] = refl
  same_filter (p ∷ jobs) = by_seen (same_test p) (same_filter jobs) where
    by_seen : ((test (seen_by q p) ≡ false) × (test p.task ≡ false)) ⊎ (seen_by q p ≡ p.task)
        → filter test (map (seen_by q) jobs) ≡ filter test (tasks_of jobs)
        → filter test (map (seen_by q) (p ∷ jobs)) ≡ filter test (tasks_of (p ∷ jobs))
    by_seen (inl it) rest =
        ap (λ b. cond b (seen_by q p ∷ filter test (map (seen_by q) jobs)) (filter test (map (seen_by q) jobs))) it.0
        ∙ rest ∙ sym (ap (λ b. cond b (p.task ∷ filter test (tasks_of jobs)) (filter test (tasks_of jobs))) it.1)
    by_seen (inr same) rest =
        ap (λ t. cond (test t) (t ∷ filter test (map (seen_by q) jobs)) (filter test (map (seen_by q) jobs))) same
        ∙ ap (λ ts. cond (test p.task) (p.task ∷ ts) ts) rest

  -- the first that passes
  pub same_find : (jobs : List Placed) → find test (map (seen_by q) jobs) ≡ find test (tasks_of jobs)
  same_find [] = refl
  same_find (p ∷ jobs) = by_seen (same_test p) (same_find jobs) where
    by_seen : ((test (seen_by q p) ≡ false) × (test p.task ≡ false)) ⊎ (seen_by q p ≡ p.task)
        → find test (map (seen_by q) jobs) ≡ find test (tasks_of jobs)
        → find test (map (seen_by q) (p ∷ jobs)) ≡ find test (tasks_of (p ∷ jobs))
    by_seen (inl it) rest =
        ap (λ b. cond b (Some (seen_by q p)) (find test (map (seen_by q) jobs))) it.0
        ∙ rest ∙ sym (ap (λ b. cond b (Some p.task) (find test (tasks_of jobs))) it.1)
    by_seen (inr same) rest =
        ap (λ t. cond (test t) (Some t) (find test (map (seen_by q) jobs))) same
        ∙ ap (λ o. cond (test p.task) (Some p.task) o) rest

-- ---- what all see

-- the state of all jobs, whatever processor they are on
abbrev pub whole : many.State → State
whole s = record { clock = s.clock; tasks = tasks_of s.jobs; pressed = s.pressed }

-- what a processor sees of the jobs that are on none
pub record Sees (version : Version) (s : many.State) (q : Seen) : Type 0 where
  pub is : q ≡ seen version s q.processor
  pub clock : q.view.clock ≡ s.clock
  pub first_waiting : q.view.first_waiting ≡ first (waiting_order version (by_density version s.pressed))
      (filter is_waiting (tasks_of s.jobs))
  pub fresh : q.view.fresh ≡ find is_fresh (tasks_of s.jobs)
  pub coming : q.view.coming ≡ find is_coming (tasks_of s.jobs)
  pub must_start : q.view.must_start ≡ first (starts_before version)
      (filter (is_at_latest_start (whole s)) (filter is_waiting (tasks_of s.jobs)))

-- each sees them
pub seen_sees : (version : Version) (s : many.State) (i : ℕ) → Sees version s (seen version s i)
seen_sees version s i = record {
  is = refl;
  clock = refl;
  first_waiting = ap (first (waiting_order version (by_density version s.pressed)))
      (same_filter is_waiting waiting_skips i s.jobs);
  fresh = same_find is_fresh fresh_skips i s.jobs;
  coming = same_find is_coming coming_skips i s.jobs;
  must_start = ap (λ ts. first (starts_before version) (filter (is_at_latest_start (whole s)) ts))
      (same_filter is_waiting waiting_skips i s.jobs);
}

-- the processors are below their number
pub numbers_below : (i q more : ℕ) → IsMember i (numbers_from q more) → (q ≤ i) × (i < q + more)
numbers_below i q zero member = absurd member
numbers_below i q (suc more) (inl e) = (omega (arith, e), omega (arith, e))
numbers_below i q (suc more) (inr member) =
    let it = numbers_below i (suc q) more member in (omega (arith, it.0), omega (arith, it.1))

-- and what is below is one of them
pub below_numbers : (i q more : ℕ) → q ≤ i → i < q + more → IsMember i (numbers_from q more)
below_numbers i q zero low high = absurd (omega (arith, low, high))
below_numbers i q (suc more) low high = by_first (first_or i q low)
    (λ less. below_numbers i (suc q) more less (omega (arith, high))) where
      first_or : (i q : ℕ) → q ≤ i → (i ≡ q) ⊎ (suc q ≤ i)
      first_or zero zero low = inl refl
      first_or (suc i) zero low = inr (omega arith)
      first_or zero (suc q) low = absurd (omega (arith, low))
      first_or (suc i) (suc q) low = by_less (first_or i q (omega (arith, low))) where
        by_less : (i ≡ q) ⊎ (suc q ≤ i) → (suc i ≡ suc q) ⊎ (suc (suc q) ≤ suc i)
        by_less (inl e) = inl (ap suc e)
        by_less (inr less) = inr (omega (arith, less))

      by_first : (i ≡ q) ⊎ (suc q ≤ i) → (suc q ≤ i → IsMember i (numbers_from (suc q) more))
          → IsMember i (numbers_from q (suc more))
      by_first (inl e) rest = inl e
      by_first (inr less) rest = inr (rest less)

-- a member of what all see is what one sees
pub one_of_all : (version : Version) (s : many.State) (numbers : List ℕ) (q : Seen)
    → IsMember q (map (seen version s) numbers)
    → (q ≡ seen version s q.processor) × IsMember q.processor numbers
one_of_all version s [] q member = absurd member
one_of_all version s (i ∷ numbers) q (inl e) =
    subst (λ r. (r ≡ seen version s r.processor) × IsMember r.processor (i ∷ numbers)) (sym e) (refl, inl refl)
one_of_all version s (i ∷ numbers) q (inr member) =
    let it = one_of_all version s numbers q member in (it.0, inr it.1)

-- each of all sees the jobs that are on no processor
pub each_sees : (processors : ℕ) (version : Version) (s : many.State)
    → Each (Sees version s) (all_seen processors version s)
each_sees processors version s q member =
    let it = one_of_all version s (numbers_from 0 processors) q member in
    subst (Sees version s) (sym it.0) (seen_sees version s q.processor)
