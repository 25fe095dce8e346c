-- The jobs that a policy's run keeps, as they come, are taken out, run and are put back.
use Rattle.std.proofs.Common.{◌≡◌, ℕ, ◌+◌, ◌%◌, ◌^◌, ◌≤◌, ◌<◌, ◌⊎◌, inl, inr, List, [], ◌∷◌, map, sym, ap}
use Rattle.std.proofs.Common.{◌∙◌, subst, true, cond, arith, ◌==◌, sum_by, IsPermutation, eq-eqb, ne_eqb}
use Rattle.std.proofs.lemmas.Bool.{cases_eq}
use Rattle.std.proofs.lemmas.Nat.{mod-mul-add}
use Rattle.std.proofs.lemmas.List.Sorted.{sum_by_pushed, sum_by_popped, IsPermutation-sym}
use Rattle.dover_model.specs.Common.{entry_of, left, IsMember, Each, IsNumberedFrom, idle}
use Rattle.dover_model.specs.declared.events.Task.{Task}
use Rattle.dover_model.specs.declared.events.Entry.{Entry}
use Rattle.dover_model.proofs.lists.Members.{on_map, map_member, sum_zero, term_le_sum}
use Rattle.dover_model.proofs.steps.Roles.{one_number}
use Rattle.clairvoyant.proofs.feasible.EarliestFirst.{given_ticks, by_given, given_other}
use Rattle.clairvoyant.proofs.feasible.Keeping.{member_moved}
use Rattle.policy_lab.specs.PolicyRun.{is_ready}
use Rattle.policy_lab.specs.Bench.{HasQueue, kept_as, is_of}
use Rattle.policy_lab.proofs.Given.{ready_says, says_ready}

-- ---- numbers

-- a job is kept with its number
kept_number : (ranks : Entry → ℕ) (task : Task) → task.number < 2 ^ 20 → (kept_as ranks task).0 % 2 ^ 20 ≡ task.number
kept_number ranks task low = mod-mul-add (ranks (entry_of task)) (2 ^ 20) task.number low

-- 1 if the numbers are the same
abbrev one_of : ℕ → ℕ → ℕ
one_of m n = cond (m == n) 1 0

-- what is ready later was so before, if it was released
ready_before : (t k : ℕ) (u : Task) → u.job.release ≤ t → is_ready (t + k) u ≡ true → is_ready t u ≡ true
ready_before t k u released ready =
    let says = ready_says (t + k) u ready in
    says_ready t u released says.1 (let fits : t + k + left u ≤ u.job.deadline = says.2 in omega arith)

-- ---- the queue

-- before the first tick
pub queue_begins : (ranks : Entry → ℕ) (tasks : List Task) → HasQueue ranks 0 0 idle [] tasks
queue_begins ranks tasks = record {
  each = λ k member. absurd member;
  all = λ task member low. absurd (omega (arith, low));
  apart = λ n. omega arith;
  past = λ task member low. absurd (omega (arith, low));
}

module _ (ranks : Entry → ℕ) (t released : ℕ) (kept : List (ℕ × ℕ)) (tasks : List Task)
    (numbered : IsNumberedFrom 0 tasks)
    (low : Each (λ u. u.number < 1_000_000) tasks) where
  -- the next job is released, and out
  pub queue_comes : Each (λ u. u.number ≡ released → u.job.release ≤ t) tasks
      → HasQueue ranks t released idle kept tasks
      → HasQueue ranks t (released + 1) released kept tasks
  queue_comes now it = record {
    each = λ k member. more k (it.each k member);
    all = λ u member below other ready. it.all u member (under u.number other below)
        (λ same. omega (arith, same, low u member)) ready;
    apart = it.apart;
    past = λ u member below. by_number u member (cases_eq u.number released) below;
  } where
    under : (n : ℕ) → (n ≡ released → ⊥) → n < released + 1 → n < released
    under n other below = by_case (cases_eq n released) where
      by_case : (n ≡ released) ⊎ (n ≡ released → ⊥) → n < released
      by_case (inl same) = absurd (other same)
      by_case (inr not) = omega (arith, not, below)

    more : (k : ℕ × ℕ) → ((u : Task) × IsMember u tasks × (u.number < released) × (u.number ≡ idle → ⊥)
        × (1 ≤ left u) × (k ≡ kept_as ranks u))
        → (u : Task) × IsMember u tasks × (u.number < released + 1) × (u.number ≡ released → ⊥) × (1 ≤ left u)
        × (k ≡ kept_as ranks u)
    more k found = let below : found.0.number < released = found.2 in
        (found.0, found.1, omega (arith, below), (λ same. omega (arith, same, below)), found.4, found.5)

    by_number : (u : Task) → IsMember u tasks → (u.number ≡ released) ⊎ (u.number ≡ released → ⊥)
        → u.number < released + 1 → u.job.release ≤ t
    by_number u member (inl same) below = now u member same
    by_number u member (inr other) below = it.past u member (under u.number other below)

  module _ (task : Task) (member : IsMember task tasks) (low_task : task.number < released) where
    -- the job that is out isn't ready any more
    pub queue_ends : HasQueue ranks t released task.number kept tasks → (is_ready t task ≡ true → ⊥)
        → HasQueue ranks t released idle kept tasks
    queue_ends it over = record {
      each = λ k at. more k (it.each k at);
      all = λ u at below other ready. by_number u at below ready (cases_eq u.number task.number);
      apart = it.apart;
      past = it.past;
    } where
      more : (k : ℕ × ℕ) → ((u : Task) × IsMember u tasks × (u.number < released) × (u.number ≡ task.number → ⊥)
          × (1 ≤ left u) × (k ≡ kept_as ranks u))
          → (u : Task) × IsMember u tasks × (u.number < released) × (u.number ≡ idle → ⊥) × (1 ≤ left u)
          × (k ≡ kept_as ranks u)
      more k found =
          (found.0, found.1, found.2, (λ same. omega (arith, same, low found.0 found.1)), found.4, found.5)

      by_number : (u : Task) → IsMember u tasks → u.number < released → is_ready t u ≡ true
          → (u.number ≡ task.number) ⊎ (u.number ≡ task.number → ⊥) → IsMember (kept_as ranks u) kept
      by_number u at below ready (inl same) =
          absurd
          (over (subst (λ (v : Task). is_ready t v ≡ true) (one_number 0 tasks numbered u task at member same) ready))
      by_number u at below ready (inr other) = it.all u at below other ready

    -- it is put back
    pub queue_pushed : (now : List (ℕ × ℕ)) → HasQueue ranks t released task.number kept tasks → 1 ≤ left task
        → IsPermutation (kept_as ranks task ∷ kept) now → HasQueue ranks t released idle now tasks
    queue_pushed now it some moved = record {
      each = λ k at. each k (member_moved (kept_as ranks task ∷ kept) now moved k at);
      all = λ u at below other ready.
          member_moved now (kept_as ranks task ∷ kept) (IsPermutation-sym (kept_as ranks task ∷ kept) now moved)
          (kept_as ranks u) (all u at below ready (cases_eq u.number task.number));
      apart = λ n. by_number n (cases_eq task.number n);
      past = it.past;
    } where
      each : (k : ℕ × ℕ) → (k ≡ kept_as ranks task) ⊎ IsMember k kept
          → (u : Task) × IsMember u tasks × (u.number < released) × (u.number ≡ idle → ⊥) × (1 ≤ left u)
          × (k ≡ kept_as ranks u)
      each k (inl new) =
          (task, member, low_task, (λ same. omega (arith, same, low task member)), some, new)
      each k (inr old) = more (it.each k old) where
        more : ((u : Task) × IsMember u tasks × (u.number < released) × (u.number ≡ task.number → ⊥) × (1 ≤ left u)
            × (k ≡ kept_as ranks u))
            → (u : Task) × IsMember u tasks × (u.number < released) × (u.number ≡ idle → ⊥) × (1 ≤ left u)
            × (k ≡ kept_as ranks u)
        more found =
            (found.0, found.1, found.2, (λ same. omega (arith, same, low found.0 found.1)), found.4, found.5)

      all : (u : Task) → IsMember u tasks → u.number < released → is_ready t u ≡ true
          → (u.number ≡ task.number) ⊎ (u.number ≡ task.number → ⊥)
          → IsMember (kept_as ranks u) (kept_as ranks task ∷ kept)
      all u at below ready (inl same) = inl (ap (kept_as ranks) (one_number 0 tasks numbered u task at member same))
      all u at below ready (inr other) = inr (it.all u at below other ready)

      number : (kept_as ranks task).0 % 2 ^ 20 ≡ task.number
      number = kept_number ranks task (omega (arith, low task member))

      by_number : (n : ℕ) → (task.number ≡ n) ⊎ (task.number ≡ n → ⊥) → sum_by (is_of n) now ≤ 1
      by_number n (inl same) =
          let none : sum_by (is_of n) kept ≡ 0 = sum_zero (is_of n) kept (λ k at. none_of k (it.each k at)) in
          let one : is_of n (kept_as ranks task) ≤ 1 = one_at_most ((kept_as ranks task).0 % 2 ^ 20) in
          omega (arith, none, one, sum_by_pushed (is_of n) (kept_as ranks task) kept now moved) where
            one_at_most : (m : ℕ) → one_of m n ≤ 1
            one_at_most m = grind arith

            none_of : (k : ℕ × ℕ) → ((u : Task) × IsMember u tasks × (u.number < released)
                × (u.number ≡ task.number → ⊥) × (1 ≤ left u) × (k ≡ kept_as ranks u)) → is_of n k ≡ 0
            none_of k found =
                let same_number : k.0 % 2 ^ 20 ≡ found.0.number =
                ap (λ (p : ℕ × ℕ). p.0 % 2 ^ 20) found.5
                ∙ kept_number ranks found.0 (omega (arith, low found.0 found.1)) in
                ap (λ m. one_of m n) same_number
                ∙ ap (λ b. cond {A = ℕ} b 1 0) (ne_eqb found.0.number n (λ e. found.3 (e ∙ sym same)))
      by_number n (inr other) =
          let none : is_of n (kept_as ranks task) ≡ 0 = ap (λ m. one_of m n) number
          ∙ ap (λ b. cond {A = ℕ} b 1 0) (ne_eqb task.number n other) in
          omega (arith, none, it.apart n, sum_by_pushed (is_of n) (kept_as ranks task) kept now moved)

    -- it is taken out
    pub queue_popped : (now : List (ℕ × ℕ)) → HasQueue ranks t released idle kept tasks
        → IsPermutation kept (kept_as ranks task ∷ now) → HasQueue ranks t released task.number now tasks
    queue_popped now it moved = record {
      each = λ k at. each k at (it.each k (member_moved kept (kept_as ranks task ∷ now) moved k (inr at)));
      all = λ u at below other ready. all u other at
          (member_moved (kept_as ranks task ∷ now) kept (IsPermutation-sym kept (kept_as ranks task ∷ now) moved)
          (kept_as ranks u)
          (it.all u at below (λ same. omega (arith, same, low u at)) ready));
      apart = λ n. omega (arith, it.apart n, sum_by_popped (is_of n) (kept_as ranks task) kept now moved);
      past = it.past;
    } where
      number : (u : Task) → IsMember u tasks → (kept_as ranks u).0 % 2 ^ 20 ≡ u.number
      number u at = kept_number ranks u (omega (arith, low u at))

      one : is_of task.number (kept_as ranks task) ≡ 1
      one = ap (λ b. cond {A = ℕ} b 1 0) (eq-eqb _ _ (number task member))

      each : (k : ℕ × ℕ) → IsMember k now
          → ((u : Task) × IsMember u tasks × (u.number < released) × (u.number ≡ idle → ⊥) × (1 ≤ left u)
          × (k ≡ kept_as ranks u))
          → (u : Task) × IsMember u tasks × (u.number < released) × (u.number ≡ task.number → ⊥) × (1 ≤ left u)
          × (k ≡ kept_as ranks u)
      each k at found = (found.0, found.1, found.2, other, found.4, found.5) where
        other : found.0.number ≡ task.number → ⊥
        other same =
            let its : k.0 % 2 ^ 20 ≡ task.number =
            ap (λ (p : ℕ × ℕ). p.0 % 2 ^ 20) found.5 ∙ number found.0 found.1 ∙ same in
            let also : is_of task.number k ≡ 1 = ap (λ b. cond {A = ℕ} b 1 0) (eq-eqb _ _ its) in
            omega (
              arith,
              one,
              also,
              it.apart task.number,
              sum_by_popped (is_of task.number) (kept_as ranks task) kept now moved,
              term_le_sum (is_of task.number) now k at,
            )

      all : (u : Task) → (u.number ≡ task.number → ⊥) → IsMember u tasks
          → (kept_as ranks u ≡ kept_as ranks task) ⊎ IsMember (kept_as ranks u) now → IsMember (kept_as ranks u) now
      all u other at (inl same) = absurd (other (sym (number u at)
          ∙ ap (λ (p : ℕ × ℕ). p.0 % 2 ^ 20) same ∙ number task member))
      all u other at (inr later) = later

  -- the job that is out runs
  pub queue_runs : (n k : ℕ) → HasQueue ranks t released n kept tasks
      → HasQueue ranks (t + k) released n kept (map (given_ticks k n) tasks)
  queue_runs n k it = record {
    each = λ e at. more e (it.each e at);
    all = on_map (given_ticks k n) (λ u. u.number < released → (u.number ≡ n → ⊥) → is_ready (t + k) u ≡ true
        → IsMember (kept_as ranks u) kept) tasks
        (λ u at. by_given (λ v. v.number < released → (v.number ≡ n → ⊥) → is_ready (t + k) v ≡ true
        → IsMember (kept_as ranks v) kept) k n u
        (λ same below other ready. absurd (other same))
        (λ _ below other ready. it.all u at below other (ready_before t k u (it.past u at below) ready)));
    apart = it.apart;
    past = on_map (given_ticks k n) (λ u. u.number < released → u.job.release ≤ t + k) tasks
        (λ u at. by_given (λ v. v.number < released → v.job.release ≤ t + k) k n u
        (λ _ below. omega (arith, it.past u at below)) (λ _ below. omega (arith, it.past u at below)));
  } where
    more : (e : ℕ × ℕ) → ((u : Task) × IsMember u tasks × (u.number < released) × (u.number ≡ n → ⊥) × (1 ≤ left u)
        × (e ≡ kept_as ranks u))
        → (u : Task) × IsMember u (map (given_ticks k n) tasks) × (u.number < released) × (u.number ≡ n → ⊥)
        × (1 ≤ left u)
        × (e ≡ kept_as ranks u)
    more e found = (
      found.0,
      subst (λ (u : Task). IsMember u (map (given_ticks k n) tasks)) (given_other k n found.0 found.3)
          (map_member (given_ticks k n) tasks found.0 found.1),
      found.2,
      found.3,
      found.4,
      found.5,
    )

  -- time passes
  pub queue_waits : (n k : ℕ) → HasQueue ranks t released n kept tasks → HasQueue ranks (t + k) released n kept tasks
  queue_waits n k it = record {
    each = it.each;
    all = λ u at below other ready. it.all u at below other (ready_before t k u (it.past u at below) ready);
    apart = it.apart;
    past = λ u at below. omega (arith, it.past u at below);
  }
