-- Windows between two ticks with more work than ticks, and that there is none.
use Rattle.std.proofs.Common.{◌≡◌, ℕ, ◌-◌, ◌≤◌, ◌<◌, List, [], ◌∷◌, ◌++◌, ◌⊎◌, inl, inr, refl, sym, ap, ◌∙◌, subst}
use Rattle.std.proofs.Common.{Bool, true, false, cond, arith, nat_le, ◌&&◌, filter, sum_by, le-leb}
use Rattle.std.proofs.lemmas.Bool.{cases_lt}
use Rattle.dover_model.specs.Common.{JobFacts, IsJob, last_tick, Each, is_inside, work_inside}
use Rattle.dover_model.proofs.valid.JobLimits.{job_limits}
use Rattle.dover_model.proofs.lists.Members.{filter_none, member_front, member_behind, member_filter}
use Rattle.dover_model.proofs.lists.Tests.{never}
use Rattle.clairvoyant.specs.feasible.Feasibility.{CanMeet, ShowsWindow}
use Rattle.clairvoyant.proofs.feasible.Overfull.{overfull_excludes}
use Rattle.clairvoyant.specs.declared.overload.stretch.Stretch.{Stretch}
use Rattle.clairvoyant.specs.overload.Collecting.{HasRoom, HasRoomWithin, IsFirst}
use Rattle.clairvoyant.specs.overload.Stretches.{MeetsSome, jobs_inside}
use Rattle.clairvoyant.proofs.overload.NoneMet.{empty_out, overfull_some, some_rules}
use Rattle.clairvoyant.proofs.overload.Outside.{inside_says}

-- where all that pass one test pass another, those that pass both are those that pass the one
pub filter_filter : {X : Type 0} (p q : X → Bool) (xs : List X) → Each (λ x. p x ≡ true → q x ≡ true) xs
    → filter p (filter q xs) ≡ filter p xs
filter_filter p q [] each = refl
filter_filter {X} p q (x ∷ xs) each =
    by_tests (p x) (q x) refl refl (each x (inl refl)) (filter_filter p q xs (λ y member. each y (inr member))) where
      by_tests : (b c : Bool) → p x ≡ b → q x ≡ c → (p x ≡ true → q x ≡ true)
          → filter p (filter q xs) ≡ filter p xs
          → filter p (cond c (x ∷ filter q xs) (filter q xs)) ≡ cond b (x ∷ filter p xs) (filter p xs)
      by_tests true true is_p is_q more rest =
          ap (λ b. cond b (x ∷ filter p (filter q xs)) (filter p (filter q xs))) is_p ∙ ap (λ ys. x ∷ ys) rest
      by_tests true false is_p is_q more rest = never (sym is_q ∙ more is_p)
      by_tests false true is_p is_q more rest =
          ap (λ b. cond b (x ∷ filter p (filter q xs)) (filter p (filter q xs))) is_p ∙ rest
      by_tests false false is_p is_q more rest = rest

-- a job inside a window is inside one around it
inside_wider : (a b from until : ℕ) (j : JobFacts) → from ≤ a → (is_inside a b j ≡ true → j.deadline ≤ until)
    → is_inside a b j ≡ true → is_inside from until j ≡ true
inside_wider a b from until j low due inside =
    let released : a ≤ j.release = (inside_says a b j inside).0 in
    ap (λ x. x && nat_le j.deadline until) (le-leb _ _ (let up : from ≤ j.release = omega (arith, low, released) in up))
    ∙ le-leb _ _ (due inside)

module _ (jobs : List JobFacts) (good : Each IsJob jobs) where
  -- a window without ticks has no work
  pub no_work : (a b : ℕ) → b ≤ a → work_inside jobs a b ≡ 0
  no_work a b less = ap (sum_by (λ (j : JobFacts). j.work))
      (filter_none (is_inside a b) jobs (λ j member. empty_out a b j (good j member) less))

  -- so one with more work than ticks has some
  pub some_ticks : (a b : ℕ) → b - a < work_inside jobs a b → a < b
  some_ticks a b full =
      elim (cases_lt a b) [ inl less ↦ less | inr less ↦ absurd (omega (arith, full, no_work a b less)) ]

  -- the jobs inside two ticks are jobs
  inside_good : (from until : ℕ) → Each IsJob (jobs_inside jobs from until)
  inside_good from until j member = good j (member_filter (is_inside from until) jobs j member).0

  -- a window between two ticks has the work of the jobs inside these
  same_work : (a b from until : ℕ) → from ≤ a
      → Each (λ j. is_inside a b j ≡ true → j.deadline ≤ until) jobs
      → work_inside (jobs_inside jobs from until) a b ≡ work_inside jobs a b
  same_work a b from until low due = ap (sum_by (λ (j : JobFacts). j.work))
      (filter_filter (is_inside a b) (is_inside from until) jobs
      (λ j member. inside_wider a b from until j low (due j member)))

  -- due by its end
  due_within : (a b until : ℕ) → b ≤ until → Each (λ j. is_inside a b j ≡ true → j.deadline ≤ until) jobs
  due_within a b until low j member inside =
      let due : j.deadline ≤ b = (inside_says a b j inside).1 in omega (arith, due, low)

  -- where jobs can all be served, a window whose work is all theirs has no more work than ticks
  room_of : (js : List JobFacts) → CanMeet js → (a b : ℕ) → work_inside jobs a b ≡ work_inside js a b
      → work_inside jobs a b ≤ b - a
  room_of js can a b same = elim (cases_lt (b - a) (work_inside jobs a b)) [
    | inr fits ↦ fits
    | inl full ↦ let some : a < b = some_ticks a b full in
        absurd (overfull_excludes (record { rules = some_rules; jobs = js }) a b (work_inside jobs a b)
        (record { window = omega (arith, some); work = same; too_much = full }) (can some_rules))
  ]

  -- so it is where the jobs inside can
  room_where : (from until : ℕ) → CanMeet (jobs_inside jobs from until) → (a b : ℕ) → from ≤ a
      → Each (λ j. is_inside a b j ≡ true → j.deadline ≤ until) jobs → work_inside jobs a b ≤ b - a
  room_where from until can a b low due =
      room_of (jobs_inside jobs from until) can a b (sym (same_work a b from until low due))

  -- so it is between the two ticks
  pub room_within : (from until : ℕ) → CanMeet (jobs_inside jobs from until) → HasRoomWithin jobs from until
  room_within from until can a b low high = room_where from until can a b low (due_within a b until high)

  -- and behind the first, where the other is the last of all
  pub room_behind : (from : ℕ) → CanMeet (jobs_inside jobs from last_tick) → HasRoom jobs from
  room_behind from can a b low =
      room_where from last_tick can a b low (λ j member inside. (job_limits (good j member)).due)

  -- where all jobs can be served, so it is everywhere
  pub room_all : CanMeet jobs → (from : ℕ) → HasRoom jobs from
  room_all can from a b low = room_of jobs can a b refl

  -- all jobs are inside all ticks
  pub all_inside : jobs_inside jobs 0 last_tick ≡ jobs
  all_inside = every jobs (λ j member. good j member) where
    every : (js : List JobFacts) → Each IsJob js → jobs_inside js 0 last_tick ≡ js
    every [] each = refl
    every (j ∷ js) each = ap (λ b. cond b (j ∷ jobs_inside js 0 last_tick) (jobs_inside js 0 last_tick))
        (ap (λ b. b && nat_le j.deadline last_tick) (le-leb 0 j.release (omega arith))
        ∙ le-leb j.deadline last_tick (job_limits (each j (inl refl))).due)
        ∙ ap (λ is. j ∷ is) (every js (λ i member. each i (inr member)))

  -- the window that is shown for the jobs inside two ticks is the first there
  pub first_shown : (from until a b work : ℕ) → ShowsWindow (jobs_inside jobs from until) a b work
      → IsFirst jobs from until (record { from = a; until = b })
  first_shown from until a b work it = record {
    later = later;
    some = some;
    within = within;
    overfull = omega (
      arith,
      it.overfull.work,
      it.overfull.too_much,
      same_work a b from until later
          (due_within a b until within),
    );
    before = before;
  } where
    later : from ≤ a
    later = subst (λ r. from ≤ r) it.start.2
        (inside_says from until it.start.0 (member_filter (is_inside from until) jobs it.start.0 it.start.1).1).0

    within : b ≤ until
    within = subst (λ d. d ≤ until) it.end.2
        (inside_says from until it.end.0 (member_filter (is_inside from until) jobs it.end.0 it.end.1).1).1

    some : a < b
    some = overfull_some (jobs_inside jobs from until) (inside_good from until) a b work it.overfull

    before : HasRoomWithin jobs from a
    before c d low high = elim (cases_lt (d - c) (work_inside jobs c d)) [
      | inr fits ↦ fits
      | inl full ↦ let ticks : c < d = some_ticks c d full in
          let up : d ≤ until = omega (arith, high, some, within) in
          let no_less : b ≤ d = it.first_end c d (work_inside jobs c d) (record {
            window = omega (arith, ticks);
            work = sym (same_work c d from until low (due_within c d until up));
            too_much = full;
          }) in
          absurd (omega (arith, no_less, high, some))
    ]

-- with one stretch behind the others, each window that begins before its end, with more work than ticks, meets one
pub meets_behind : (jobs : List JobFacts) → Each IsJob jobs → (xs : List Stretch) (y : Stretch) (at : ℕ)
    → ((a b : ℕ) → a < at → b - a < work_inside jobs a b → MeetsSome xs a b) → HasRoomWithin jobs at y.from
    → (a b : ℕ) → a < y.until → b - a < work_inside jobs a b → MeetsSome (xs ++ y ∷ []) a b
meets_behind jobs good xs y at met before a b low full = by (cases_lt a at) (cases_lt y.from b) where
  by : (a < at) ⊎ (at ≤ a) → (y.from < b) ⊎ (b ≤ y.from) → MeetsSome (xs ++ y ∷ []) a b
  by (inl early) end = let it : MeetsSome xs a b = met a b early full in
      (it.0, member_front xs (y ∷ []) it.0 it.1, it.2, it.3)
  by (inr late) (inl reaches) = (y, member_behind xs (y ∷ []) y (inl refl), reaches, low)
  by (inr late) (inr ends) = let fits : work_inside jobs a b ≤ b - a = before a b late ends in
      absurd (omega (arith, fits, full))

-- each window with more work than ticks meets one, where none that begins behind them has
pub meets_all : (jobs : List JobFacts) (xs : List Stretch) (at : ℕ)
    → ((a b : ℕ) → a < at → b - a < work_inside jobs a b → MeetsSome xs a b) → HasRoom jobs at
    → (a b : ℕ) → b - a < work_inside jobs a b → MeetsSome xs a b
meets_all jobs xs at met room a b full = by (cases_lt a at) where
  by : (a < at) ⊎ (at ≤ a) → MeetsSome xs a b
  by (inl early) = met a b early full
  by (inr late) = let fits : work_inside jobs a b ≤ b - a = room a b late in absurd (omega (arith, fits, full))
