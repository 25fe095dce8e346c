-- How far the job that is due first runs, and what comes of it.
use Rattle.std.proofs.Common.{◌≡◌, ℕ, zero, suc, ◌+◌, ◌-◌, ◌≤◌, ◌<◌, ◌⊎◌, inl, inr, List, [], ◌∷◌, ◌++◌, length}
use Rattle.std.proofs.Common.{replicate, min, refl, sym, ap, ◌∙◌, subst, arith, Option, Some, None, slice_get}
use Rattle.std.proofs.Common.{slice_index_or}
use Rattle.std.proofs.lemmas.Bool.{cases_lt}
use Rattle.std.proofs.lemmas.List.Sorted.{length_permutation}
use Rattle.std.proofs.lemmas.Option.{slice_get_read, slice_get_within}
use Rattle.dover_model.specs.declared.events.Version.TheVariants.{Two}
use Rattle.dover_model.specs.Common.{idle, most_jobs, JobFacts, left, IsMember, stretches}
use Rattle.dover_model.specs.declared.events.Task.{Task}
use Rattle.dover_model.specs.declared.pieces.Piece.{Piece}
use Rattle.dover_model.proofs.lists.Members.{some_same}
use Rattle.dover_model.proofs.lists.Tests.{none_is_some}
use Rattle.clairvoyant.specs.feasible.Progress.{with_late, Stands, IsPending, NoneBefore, RunsUntil, kept_as}
use Rattle.clairvoyant.specs.feasible.Queue.{Kept, IsFirst, IsTakenOut}
use Rattle.clairvoyant.proofs.feasible.Standing.{next_later, number_low, stands_until, stands_moved, stands_run}
use Rattle.clairvoyant.proofs.feasible.Standing.{stands_done}
use Rattle.dover_model.proofs.valid.ValidParts.{ReleasesInOrder}

-- past the end there is no job
place_past : (jobs : List JobFacts) (i : ℕ) → slice_get jobs i ≡ None → length jobs ≤ i
place_past [] i none = omega arith
place_past (j ∷ jobs) zero none = none_is_some (sym none)
place_past (j ∷ jobs) (suc i) none = let past : length jobs ≤ i = place_past jobs i none in omega (arith, past)

-- the next job
pub next_found : (jobs : List JobFacts) (n released : ℕ) (j : JobFacts) → n ≡ released → n < length jobs
    → j ≡ slice_index_or jobs n j
    → slice_get jobs released ≡ Some j
next_found jobs n released j same low is =
    subst (λ m. slice_get jobs m ≡ Some j) same (slice_get_read jobs _ n j refl low is)

module _ (jobs : List JobFacts) (clock released l : ℕ) (some : 1 ≤ l)
    (none : NoneBefore jobs (clock + 1) released) where
  -- with a next job
  pub until_next : (j : JobFacts) (until : ℕ) → slice_get jobs released ≡ Some j → until ≡ min (clock + l) j.release
      → RunsUntil jobs clock released l until
  until_next j until found e = record {
    within = omega (arith, e);
    some = omega (arith, e, later none, some);
    none = inr (j, found, omega (arith, e));
    ends = by_end (cases_lt j.release (clock + l));
  } where
    later : NoneBefore jobs (clock + 1) released → clock < j.release
    later (inl all) = absurd (let low : released < length jobs = slice_get_within jobs released j found in omega arith)
    later (inr next) = let same : next.0.release ≡ j.release =
        ap (λ (x : JobFacts). x.release) (some_same next.0 j (sym next.1 ∙ found)) in
        let ahead : clock + 1 ≤ next.0.release = next.2 in omega arith

    by_end : (j.release < clock + l) ⊎ (clock + l ≤ j.release) → (until ≡ clock + l) ⊎ IsPending jobs until released
    by_end (inl sooner) = inr (j, found, omega (arith, e))
    by_end (inr after) = inl (omega (arith, e))

  -- with none
  pub until_end : (until : ℕ) → length jobs ≤ released → until ≡ clock + l → RunsUntil jobs clock released l until
  until_end until all e = record {
    within = omega (arith, e);
    some = omega (arith, e, some);
    none = inl all;
    ends = inl e;
  }

module _ (jobs : List JobFacts) (clock released due n l : ℕ) (kept : List Kept) (pieces : List Piece) (late : Option ℕ)
    (before : Stands jobs clock released kept pieces late (clock + 1)) (first : IsFirst ((due, n), l) kept) where
  -- the job that is due first in front
  s : Stands jobs clock released (((due, n), l) ∷ first.rest) pieces late (clock + 1)
  s = subst (λ (ks : List Kept). Stands jobs clock released ks pieces late (clock + 1)) first.is before

  -- its task
  first_task : (t : Task) × IsMember t s.tasks × (t.number < released) × (1 ≤ left t) × (((due, n), l) ≡ kept_as t)
  first_task = s.ready.each ((due, n), l) (inl refl)

  -- the job has something left
  pub some_left : 1 ≤ l
  some_left = let e : l ≡ left first_task.0 = ap (λ (x : Kept). x.1) first_task.4 in let some : 1 ≤ left first_task.0 =
      first_task.3 in omega arith

  -- its number isn't the idle one
  pub not_idle : length jobs ≤ most_jobs Two → n ≡ idle → ⊥
  not_idle count same =
      let e : n ≡ first_task.0.number = ap (λ (x : Kept). x.0.1) first_task.4 in
      let low : first_task.0.number < length jobs =
      number_low jobs clock released (((due, n), l) ∷ first.rest) pieces late (clock + 1) s first_task.0 first_task.1 in
      omega arith

  -- no job comes before the next tick
  pub none_before : NoneBefore jobs (clock + 1) released
  none_before = by_next (slice_get jobs released) refl where
    by_next : (o : Option JobFacts) → slice_get jobs released ≡ o → NoneBefore jobs (clock + 1) released
    by_next None e = inl (place_past jobs released e)
    by_next (Some j) e = inr (
      j,
      e,
      (let later : clock < j.release = next_later jobs clock released kept pieces late before j e in omega arith),
    )

  module _ (order : ReleasesInOrder jobs) (until : ℕ) (runs : RunsUntil jobs clock released l until)
      (after : List Piece)
      (now : List Kept) (stays : 1 ≤ clock + l - until → now ≡ ((due, n), clock + l - until) ∷ first.rest)
      (goes : clock + l - until ≡ 0 → IsTakenOut ((due, n), l) kept now) where
    -- so much is left, or nothing
    any_left : (until < clock + l) ⊎ (clock + l ≤ until)
    any_left = cases_lt until (clock + l)

    module _ (adds : (x : List ℕ) → length x ≡ clock → pieces ≡ stretches x
        → after ≡ stretches (x ++ replicate (until - clock) n)) where
      -- until then no job comes
      still : (ks : List Kept) → Stands jobs clock released (((due, n), l) ∷ ks) pieces late (clock + 1)
          → Stands jobs clock released (((due, n), l) ∷ ks) pieces late (clock + (until - clock))
      still ks t = subst (λ u. Stands jobs clock released (((due, n), l) ∷ ks) pieces late u)
          (let same : until ≡ clock + (until - clock) = omega (arith, runs.some) in same)
          (stands_until jobs clock released (((due, n), l) ∷ ks) pieces late (clock + 1) t order until runs.none)

      -- with something left
      ran_on : until < clock + l → Stands jobs until released now after (with_late late due (clock + l)) until
      ran_on less =
          let there : clock + (until - clock) ≡ until = omega (arith, runs.some) in
          let left_same : l - (until - clock) ≡ clock + l - until = omega (arith, runs.some) in
          subst (λ u. Stands jobs u released now after (with_late late due (clock + l)) u) there
          (subst (λ ks. Stands jobs (clock + (until - clock)) released ks after (with_late late due (clock + l))
          (clock + (until - clock)))
          (ap (λ v. ((due, n), v) ∷ first.rest) left_same ∙ sym (stays (omega (arith, less))))
          (stands_run jobs clock released due n l first.rest pieces late (until - clock) (still first.rest s)
          first.behind (omega (arith, runs.some)) (omega (arith, runs.within)) after adds (omega (arith, runs.some))))

      -- with nothing left
      ran_out : clock + l ≤ until → Stands jobs until released now after (with_late late due (clock + l)) until
      ran_out all =
          let there : clock + (until - clock) ≡ until = omega (arith, runs.some) in
          let out : IsTakenOut ((due, n), l) kept now = goes (omega (arith, all)) in
          subst (λ u. Stands jobs u released now after (with_late late due (clock + l)) u) there
          (stands_done jobs clock released due n l now pieces late (until - clock)
          (still now
          (stands_moved jobs clock released kept pieces late (clock + 1) before (((due, n), l) ∷ now) out.rest))
          out.behind (omega (arith, runs.some)) (omega (arith, runs.within)) after adds
          (omega (arith, runs.some, runs.within)))

      -- it stands at the tick to which the job ran
      pub ran : Stands jobs until released now after (with_late late due (clock + l)) until
      ran = elim any_left [ inl less ↦ ran_on less | inr all ↦ ran_out all ]

    -- where something is left, the next job is released by then
    pending : until < clock + l → IsPending jobs until released
    pending less = elim runs.ends [ inl e ↦ absurd (omega (arith, e)) | inr next ↦ next ]

    -- what is there afterwards
    pub few_after : length after ≤ length pieces + 1 → (length after + length now ≤ length pieces + length kept)
        ⊎ ((length after + length now ≤ length pieces + length kept + 1) × IsPending jobs until released)
    few_after count = by_left any_left where
      by_left : (until < clock + l) ⊎ (clock + l ≤ until)
          → (length after + length now ≤ length pieces + length kept)
          ⊎ ((length after + length now ≤ length pieces + length kept + 1) × IsPending jobs until released)
      by_left (inl less) = inr (
        omega (
          arith,
          count,
          ap (λ (ks : List Kept). length ks) (stays (omega (arith, less))),
          ap (λ (ks : List Kept). length ks) first.is,
        ),
        pending less,
      )
      by_left (inr all) = inl (omega (
        arith,
        count,
        length_permutation kept (((due, n), l) ∷ now) (goes (omega (arith, all))).rest,
      ))
