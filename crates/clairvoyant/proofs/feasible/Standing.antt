-- Each step of the simulation, from where it stands to where it stands next.
use Rattle.std.proofs.Common.{◌≡◌, ℕ, ◌+◌, ◌-◌, ◌*◌, ◌≤◌, ◌<◌, ◌⊎◌, inl, inr, List, [], ◌∷◌, ◌++◌, length, map}
use Rattle.std.proofs.Common.{replicate, append-nil, refl, sym, ap, ◌∙◌, subst, arith, Option, IsTrue, Some, None}
use Rattle.std.proofs.Common.{slice_get, IsPermutation, sum_by, le-leb}
use Rattle.std.specs.List.{enumerate_from}
use Rattle.std.proofs.lemmas.Bool.{cases_lt, cases_eq}
use Rattle.std.proofs.lemmas.List.Sorted.{IsPermutation-sym, sum_by-IsPermutation}
use Rattle.std.proofs.lemmas.List.Sums.{sum_by-cons}
use Rattle.std.proofs.lemmas.Option.{slice_get_within}
use Rattle.dover_model.specs.declared.events.Version.TheVariants.{Two}
use Rattle.dover_model.specs.Common.{idle, most_jobs, JobFacts, IsJob, is_served, ticks_given, to_come, left, IsMember}
use Rattle.dover_model.specs.Common.{Each, jobs_of, stretches, edf, last_release}
use Rattle.dover_model.specs.declared.events.Task.{Task}
use Rattle.dover_model.specs.declared.pieces.Piece.{Piece}
use Rattle.dover_model.proofs.lists.Members.{on_map, map_member, some_same}
use Rattle.dover_model.proofs.steps.Roles.{one_number}
use Rattle.dover_model.proofs.runs.Honest.{numbers_low, count_jobs}
use Rattle.clairvoyant.specs.feasible.Progress.{AreReleased, IsLateBy, with_late, IsShown, AreServed, Stands, IsPending}
use Rattle.clairvoyant.specs.feasible.Progress.{NoneBefore, IsWhole, kept_as}
use Rattle.clairvoyant.specs.feasible.Queue.{Kept, AreBehind}
use Rattle.clairvoyant.proofs.feasible.EarliestFirst.{had_more, given_ticks, by_given, given_here, given_other}
use Rattle.clairvoyant.proofs.feasible.EarliestFirst.{IsBehind, Leads, Rests, edf_over}
use Rattle.clairvoyant.proofs.feasible.Shares.{none_behind}
use Rattle.clairvoyant.proofs.feasible.Coming.{come_run, come_idle}
use Rattle.clairvoyant.proofs.feasible.Lateness.{shown_on, late_shows, served_run, served_idle}
use Rattle.clairvoyant.proofs.feasible.Keeping.{member_moved}
use Rattle.dover_model.proofs.steps.Kept.{come_numbered, come_jobs}
use Rattle.clairvoyant.proofs.feasible.Numbered.{come_had, come_left, task_at, releases_rise, each_numbered}
use Rattle.clairvoyant.proofs.feasible.Numbered.{release_before_last}
use Rattle.clairvoyant.proofs.feasible.Stretches.{stretches_idle}
use Rattle.dover_model.proofs.valid.ValidParts.{ReleasesInOrder}
use Rattle.dover_model.proofs.valid.JobLimits.{job_limits}

-- ---- at the beginning

-- nothing has run
pub stands_first : (jobs : List JobFacts) → Stands jobs 0 0 [] [] None 0
stands_first jobs = record {
  tasks = to_come 0 jobs;
  so_far = [];
  come = record {
    numbered = come_numbered 0 jobs;
    of_jobs = come_jobs 0 jobs;
    at_most = λ t member. omega (arith, come_had 0 jobs t member);
    had = λ t member. none_behind t.number t.job.release [] (omega arith) ∙ sym (come_had 0 jobs t member);
    ticks = refl;
    more = last_release jobs + sum_by (λ j. j.work) jobs;
    rest = refl;
    enough = omega (arith, come_left 0 jobs);
    busy = λ d. record {
      since = 0;
      past = omega arith;
      filled = omega arith;
      clean =
          λ t member early due. absurd (omega arith);
    };
  };
  ready = record { each = λ e member. absurd member; all = λ t member low some. absurd (omega arith) };
  releases = record { past = λ t member low. absurd (omega arith); ahead = λ t member low. omega arith };
  stretch = refl;
  served = λ t member done. inl
      (le-leb t.job.work (ticks_given [] t.number t.job) (omega (arith, done, come_had 0 jobs t member)));
  shown = tt;
  few = omega arith;
  soon = omega arith;
}

-- ---- the jobs that are to come

module _ (jobs : List JobFacts) (clock released : ℕ) (kept : List Kept) (pieces : List Piece) (late : Option ℕ)
    (from : ℕ)
    (s : Stands jobs clock released kept pieces late from) where
  -- the task of a number
  pub task_of : (i : ℕ) (j : JobFacts) → slice_get jobs i ≡ Some j → (t : Task) × IsMember t s.tasks × (t.number ≡ i)
      × (t.job ≡ j)
  task_of i j found = at_zero (task_at 0 i s.tasks j s.come.numbered
      (subst (λ (js : List JobFacts). slice_get js i ≡ Some j) (sym s.come.of_jobs) found)) where
        at_zero : ((t : Task) × IsMember t s.tasks × (t.number ≡ 0 + i) × (t.job ≡ j))
            → (t : Task) × IsMember t s.tasks × (t.number ≡ i) × (t.job ≡ j)
        at_zero it = (it.0, it.1, (let same : it.0.number ≡ 0 + i = it.2 in omega (arith, same)), it.3)

  -- numbers are below the count of jobs
  pub number_low : Each (λ t. t.number < length jobs) s.tasks
  number_low t member = let low : t.number < 0 + length s.tasks = numbers_low 0 s.tasks s.come.numbered t member in
      omega (arith, count_jobs s.tasks, ap length s.come.of_jobs)

  -- a job that isn't released has had nothing
  had_none : clock ≤ from → (t : Task) → IsMember t s.tasks → released ≤ t.number → t.had ≡ 0
  had_none after t member high = let ahead : from ≤ t.job.release = s.releases.ahead t member high in
      sym (s.come.had t member) ∙ none_behind t.number t.job.release s.so_far (omega (arith, s.come.ticks))

  -- no job comes before a later tick
  pub released_until : ReleasesInOrder jobs → (until : ℕ) → NoneBefore jobs until released
      → AreReleased released clock until s.tasks
  released_until order until none =
      record { past = s.releases.past; ahead = λ t member high. ahead none t member high } where
        ahead : NoneBefore jobs until released → (t : Task) → IsMember t s.tasks → released ≤ t.number
            → until ≤ t.job.release
        ahead (inl all) t member high = absurd (omega (arith, number_low t member))
        ahead (inr next) t member high = by_task (task_of released next.0 next.1) where
          by_task : ((u : Task) × IsMember u s.tasks × (u.number ≡ released) × (u.job ≡ next.0)) → until ≤ t.job.release
          by_task it =
              let number : it.0.number ≡ released = it.2 in
              let release : it.0.job.release ≡ next.0.release = ap (λ (j : JobFacts). j.release) it.3 in
              let rise : it.0.job.release ≤ t.job.release =
              releases_rise 0 s.tasks s.come.numbered (subst ReleasesInOrder (sym s.come.of_jobs) order) it.0 t it.1
              member
              (omega arith) in
              let low : until ≤ next.0.release = next.2 in
              omega arith

  -- so it stands the same
  pub stands_until : ReleasesInOrder jobs → (until : ℕ) → NoneBefore jobs until released
      → Stands jobs clock released kept pieces late until
  stands_until order until none = record {
    tasks = s.tasks;
    so_far = s.so_far;
    come = s.come;
    ready = s.ready;
    releases = released_until order until none;
    stretch = s.stretch;
    served = s.served;
    shown = s.shown;
    few = s.few;
    soon = s.soon;
  }

  -- nor does it matter in which order the ready jobs are kept
  pub stands_moved : (now : List Kept) → IsPermutation kept now → Stands jobs clock released now pieces late from
  stands_moved now moved = record {
    tasks = s.tasks;
    so_far = s.so_far;
    come = s.come;
    ready = record {
      each = λ e member. s.ready.each e (member_moved kept now moved e member);
      all = λ t member low some_left.
          member_moved now kept (IsPermutation-sym kept now moved) (kept_as t) (s.ready.all t member low some_left);
    };
    releases = s.releases;
    stretch = s.stretch;
    served = s.served;
    shown = s.shown;
    few = s.few;
    soon = omega (arith, s.soon, sum_by-IsPermutation (λ (e : Kept). e.1) kept now moved);
  }

  -- one job is released
  pub stands_release : (j : JobFacts) → slice_get jobs released ≡ Some j → clock ≤ from → j.release ≤ clock → IsJob j
      → Stands jobs clock (released + 1) (((j.deadline, released), j.work) ∷ kept) pieces late from
  stands_release j found after now is_job = record {
    tasks = s.tasks;
    so_far = s.so_far;
    come = s.come;
    ready = record {
      each = each;
      all = λ t member low some_left. all t member some_left (cases_lt t.number released) low;
    };
    releases = record {
      past = λ t member low. past t member (cases_lt t.number released) low;
      ahead = λ t member high. s.releases.ahead t member (omega arith);
    };
    stretch = s.stretch;
    served = s.served;
    shown = s.shown;
    few = let low : released < length jobs = slice_get_within jobs released j found in omega arith;
    soon = omega (
      arith,
      s.soon,
      (job_limits is_job).small,
      sum_by-cons (λ (e : Kept). e.1) ((j.deadline, released), j.work) kept,
    );
  } where
    it : (t : Task) × IsMember t s.tasks × (t.number ≡ released) × (t.job ≡ j)
    it = task_of released j found

    -- the task of this number
    is_it : (t : Task) → IsMember t s.tasks → t.number ≡ released → t.job ≡ j
    is_it t member same = ap (λ (u : Task). u.job)
        (one_number 0 s.tasks s.come.numbered t it.0 member it.1 (same ∙ sym it.2)) ∙ it.3

    -- as it is kept
    as_kept : (t : Task) → IsMember t s.tasks → t.number ≡ released → kept_as t ≡ ((j.deadline, released), j.work)
    as_kept t member same =
        let job : t.job ≡ j = is_it t member same in
        let all_left : left t ≡ t.job.work = let none : t.had ≡ 0 = had_none after t member (omega arith) in
        omega (arith, none) in
        ap (λ (x : JobFacts). ((x.deadline, t.number), left t)) job ∙ ap (λ n. ((j.deadline, n), left t)) same
        ∙ ap (λ n. ((j.deadline, released), n)) (all_left ∙ ap (λ (x : JobFacts). x.work) job)

    each : (e : Kept) → (e ≡ ((j.deadline, released), j.work)) ⊎ IsMember e kept
        → (t : Task) × IsMember t s.tasks × (t.number < released + 1) × (1 ≤ left t) × (e ≡ kept_as t)
    each e (inl new) =
        let same : it.0.number ≡ released = it.2 in
        let none : it.0.had ≡ 0 = had_none after it.0 it.1 (omega arith) in
        let work : it.0.job.work ≡ j.work = ap (λ (x : JobFacts). x.work) it.3 in
        (it.0, it.1, omega arith, omega (arith, (job_limits is_job).work, none), new ∙ sym (as_kept it.0 it.1 it.2))
    each e (inr old) = more (s.ready.each e old) where
      more : ((t : Task) × IsMember t s.tasks × (t.number < released) × (1 ≤ left t) × (e ≡ kept_as t))
          → (t : Task) × IsMember t s.tasks × (t.number < released + 1) × (1 ≤ left t) × (e ≡ kept_as t)
      more found = (found.0, found.1, (let low : found.0.number < released = found.2 in omega arith), found.3, found.4)

    all : (t : Task) → IsMember t s.tasks → 1 ≤ left t → (t.number < released) ⊎ (released ≤ t.number)
        → t.number < released + 1
        → IsMember (kept_as t) (((j.deadline, released), j.work) ∷ kept)
    all t member some_left (inl low) top = inr (s.ready.all t member low some_left)
    all t member some_left (inr high) top =
        let same : t.number ≡ released = omega arith in inl (as_kept t member same)

    past : (t : Task) → IsMember t s.tasks → (t.number < released) ⊎ (released ≤ t.number) → t.number < released + 1
        → (t.job.release ≤ clock) × IsJob t.job
    past t member (inl low) top = s.releases.past t member low
    past t member (inr high) top =
        subst (λ (x : JobFacts). (x.release ≤ clock) × IsJob x) (sym (is_it t member (let same : t.number
        ≡ released = omega arith in same)))
        (now, is_job)

-- a pending job is released, where the next one comes later
pub moved_to_next : (jobs : List JobFacts) (clock old released : ℕ) (j : JobFacts) → old ≤ released
    → slice_get jobs released ≡ Some j
    → clock < j.release
    → IsPending jobs clock old → old < released
moved_to_next jobs clock old released j rises found later pending = elim (cases_lt old released) [
  | inl less ↦ less
  | inr more ↦ let same : old ≡ released = omega arith in
      let is : pending.0 ≡ j = some_same pending.0 j (sym pending.1 ∙ ap (slice_get jobs) same ∙ found) in
      let now : pending.0.release ≤ clock = pending.2 in
      absurd (let also : pending.0.release ≡ j.release = ap (λ (x : JobFacts). x.release) is in omega arith)
]

-- and where there is none
pub moved_to_end : (jobs : List JobFacts) (clock old released : ℕ) → length jobs ≤ released → IsPending jobs clock old
    → old < released
moved_to_end jobs clock old released all pending = let low : old < length jobs =
    slice_get_within jobs old pending.0 pending.1 in omega arith

-- ---- a job runs

module _ (jobs : List JobFacts) (clock released due n l : ℕ) (kept : List Kept) (pieces : List Piece) (late : Option ℕ)
    (k : ℕ)
    (s : Stands jobs clock released (((due, n), l) ∷ kept) pieces late (clock + k)) (behind : AreBehind due n kept)
    (some : 1 ≤ k) (long : k
    ≤ l) where
  -- equal in its three parts
  same_kept : (d m x : ℕ) → {y : ℕ} → d ≡ due → m ≡ n → x ≡ y → ◌≡◌ {A = Kept} ((d, m), x) ((due, n), y)
  same_kept d m x {y} e f g = ap (λ z. ((z, m), x)) e ∙ ap (λ z. ((due, z), x)) f ∙ ap (λ z. ((due, n), z)) g

  -- the task that runs
  runner : (t : Task) × IsMember t s.tasks × (t.number < released) × (1 ≤ left t) × (((due, n), l) ≡ kept_as t)
  runner = s.ready.each ((due, n), l) (inl refl)

  -- its deadline
  runner_due : due ≡ runner.0.job.deadline
  runner_due = ap (λ (e : Kept). e.0.0) runner.4

  -- its number
  runner_number : n ≡ runner.0.number
  runner_number = ap (λ (e : Kept). e.0.1) runner.4

  -- what it has left
  runner_left : l ≡ left runner.0
  runner_left = ap (λ (e : Kept). e.1) runner.4

  -- a task of another number that has something left is kept with the others
  others_kept : (u : Task) → IsMember u s.tasks → (u.number ≡ n → ⊥) → u.number < released → 1 ≤ left u
      → IsMember (kept_as u) kept
  others_kept u member other low some_left = by_member (s.ready.all u member low some_left) where
    by_member : (kept_as u ≡ ((due, n), l)) ⊎ IsMember (kept_as u) kept → IsMember (kept_as u) kept
    by_member (inl same) = absurd (other (ap (λ (e : Kept). e.0.1) same))
    by_member (inr old) = old

  -- the job leads
  leads : Leads k n clock s.tasks
  leads = record {
    task = runner.0;
    member = runner.1;
    number = sym runner_number;
    released = (s.releases.past runner.0 runner.1 runner.2).0;
    long = omega (arith, runner_left);
    first = λ u member. by_number u member (cases_eq u.number n) (cases_lt u.number released) (cases_lt 0 (left u));
  } where
    by_number : (u : Task) → IsMember u s.tasks → (u.number ≡ n) ⊎ (u.number ≡ n → ⊥) → (u.number < released)
        ⊎ (released ≤ u.number)
        → (0 < left u) ⊎ (left u ≤ 0)
        → (u.number ≡ n) ⊎ ((left u ≡ 0) ⊎ ((clock + k ≤ u.job.release) ⊎ IsBehind runner.0.job.deadline n u))
    by_number u member (inl same) low some_left = inl same
    by_number u member (inr other) (inr high) some_left = inr (inr (inl (s.releases.ahead u member high)))
    by_number u member (inr other) (inl low) (inr none) = inr (inl (omega (arith, none)))
    by_number u member (inr other) (inl low) (inl some_left) = inr (inr (inr (turn (behind (kept_as u)
        (others_kept u member other low some_left))))) where
          turn : (due < u.job.deadline) ⊎ ((due ≡ u.job.deadline) × (n < u.number)) → IsBehind runner.0.job.deadline n u
          turn (inl less) = inl (omega (arith, runner_due))
          turn (inr tie) = inr (sym runner_due ∙ tie.0, tie.1)

  -- the tasks after it
  abbrev tasks_after : List Task
  tasks_after = map (given_ticks k n) s.tasks

  -- an entry behind the job is kept of the same task
  same_entry : (e : Kept) → IsMember e kept → (t : Task) × IsMember t tasks_after × (t.number < released) × (1 ≤ left t)
      × (e ≡ kept_as t)
  same_entry e member = by_task (s.ready.each e (inr member)) where
    by_task : ((t : Task) × IsMember t s.tasks × (t.number < released) × (1 ≤ left t) × (e ≡ kept_as t))
        → (t : Task) × IsMember t tasks_after × (t.number < released) × (1 ≤ left t) × (e ≡ kept_as t)
    by_task it = (
      it.0,
      subst (λ (u : Task). IsMember u tasks_after) (given_other k n it.0 other)
          (map_member (given_ticks k n) s.tasks it.0 it.1),
      it.2,
      it.3,
      it.4,
    ) where
      other : it.0.number ≡ n → ⊥
      other same = elim (behind e member) [
        | inl less ↦ let here : e.0.0 ≡ due = ap (λ (x : Kept). x.0.0) it.4 ∙ ap (λ (t : Task). t.job.deadline)
            is_runner
            ∙ sym runner_due in omega arith
        | inr tie ↦ let here : e.0.1 ≡ n = ap (λ (x : Kept). x.0.1) it.4 ∙ same in let low : n < e.0.1 =
            tie.1 in omega arith
      ] where
        is_runner : it.0 ≡ runner.0
        is_runner = one_number 0 s.tasks s.come.numbered it.0 runner.0 it.1 runner.1 (same ∙ runner_number)

  -- the jobs that are released
  released_after : AreReleased released (clock + k) (clock + k) tasks_after
  released_after = record {
    past = on_map (given_ticks k n) (λ t. t.number < released → (t.job.release ≤ clock + k) × IsJob t.job) s.tasks
        (λ u member. by_given (λ t. t.number < released → (t.job.release ≤ clock + k) × IsJob t.job) k n u
        (λ _ low. later u (s.releases.past u member low)) (λ _ low. later u (s.releases.past u member low)));
    ahead = on_map (given_ticks k n) (λ t. released ≤ t.number → clock + k ≤ t.job.release) s.tasks
        (λ u member. by_given (λ t. released ≤ t.number → clock + k ≤ t.job.release) k n u
        (λ _. s.releases.ahead u member)
        (λ _. s.releases.ahead u member));
  } where
    later : (u : Task) → (u.job.release ≤ clock) × IsJob u.job → (u.job.release ≤ clock + k) × IsJob u.job
    later u both = (let low : u.job.release ≤ clock = both.0 in omega arith, both.1)

  -- with the late deadline
  served_after : AreServed (with_late late due (clock + l)) (s.so_far ++ replicate k n) tasks_after
  unfolding runner leads
  served_after = subst (λ x. AreServed (with_late late x (clock + l)) (s.so_far ++ replicate k n) tasks_after)
      (sym runner_due)
      (subst (λ x. AreServed (with_late late runner.0.job.deadline (clock + x)) (s.so_far ++ replicate k n) tasks_after)
      (sym runner_left)
      (served_run jobs clock s.so_far s.tasks s.come k n some leads late s.served))

  -- and what shows it
  shown_after : IsShown jobs (with_late late due (clock + l))
  shown_after = shown_on jobs late due (clock + l) s.shown
      (λ behind_time. subst (λ x. IsShown jobs (Some x)) (sym runner_due)
      (late_shows jobs clock s.so_far s.tasks s.come runner.0 runner.1
      (s.releases.past runner.0 runner.1 runner.2).1 runner.3
      (omega (arith, runner_due, runner_left))))

  module _ (after : List Piece)
      (adds : (x : List ℕ) → length x ≡ clock → pieces ≡ stretches x → after ≡ stretches (x ++ replicate k n)) where
    -- where something is left, the job is kept
    pub stands_run : k < l → Stands jobs (clock + k) released (((due, n), l - k) ∷ kept) after
        (with_late late due (clock + l)) (clock + k)
    stands_run less = record {
      tasks = tasks_after;
      so_far = s.so_far ++ replicate k n;
      come = come_run jobs clock s.so_far s.tasks s.come k n some leads;
      ready = record {
        each = each;
        all = on_map (given_ticks k n)
            (λ t. t.number < released → 1 ≤ left t → IsMember (kept_as t) (((due, n), l - k) ∷ kept)) s.tasks
            (λ u member. by_given (λ t. t.number < released → 1 ≤ left t
            → IsMember (kept_as t) (((due, n), l - k) ∷ kept)) k n u
            (λ same low some_left. inl (here u member same))
            (λ other low some_left. inr (others_kept u member other low some_left)));
      };
      releases = released_after;
      stretch = adds s.so_far s.come.ticks s.stretch;
      served = served_after;
      shown = shown_after;
      few = s.few;
      soon = omega (
        arith,
        s.soon,
        sum_by-cons (λ (e : Kept). e.1) ((due, n), l) kept,
        sum_by-cons (λ (e : Kept). e.1) ((due, n), l - k) kept,
      );
    } where
      -- the task that ran
      here : (u : Task) → IsMember u s.tasks → u.number ≡ n → kept_as (had_more k u) ≡ ((due, n), l - k)
      here u member same =
          let is : u ≡ runner.0 = one_number _ _ s.come.numbered _ _ member runner.1 (same ∙ runner_number) in
          let due_same : u.job.deadline ≡ due = ap (λ (t : Task). t.job.deadline) is ∙ sym runner_due in
          let left_same : left u ≡ l = ap left is ∙ sym runner_left in
          let left_after : left (had_more k u) ≡ l - k = omega (arith, left_same) in
          same_kept u.job.deadline u.number (left (had_more k u)) due_same same left_after

      each : (e : Kept) → (e ≡ ((due, n), l - k)) ⊎ IsMember e kept
          → (t : Task) × IsMember t tasks_after × (t.number < released) × (1 ≤ left t) × (e ≡ kept_as t)
      each e (inr old) = same_entry e old
      each e (inl new) = (
        had_more k runner.0,
        subst (λ (u : Task). IsMember u tasks_after) (given_here k n runner.0 (sym runner_number)) (map_member
            (given_ticks k n) s.tasks runner.0 runner.1),
        runner.2,
        omega (arith, runner_left),
        new ∙ sym (here runner.0 runner.1 (sym runner_number)),
      )

    -- where nothing is left, it isn't
    pub stands_done : k ≡ l → Stands jobs (clock + k) released kept after (with_late late due (clock + l)) (clock + k)
    stands_done all_run = record {
      tasks = tasks_after;
      so_far = s.so_far ++ replicate k n;
      come = come_run jobs clock s.so_far s.tasks s.come k n some leads;
      ready = record {
        each = λ e member. same_entry e member;
        all = on_map (given_ticks k n) (λ t. t.number < released → 1 ≤ left t → IsMember (kept_as t) kept) s.tasks
            (λ u member. by_given (λ t. t.number < released → 1 ≤ left t → IsMember (kept_as t) kept) k n u
            (λ same low some_left. absurd (nothing u member same some_left))
            (λ other low some_left. others_kept u member other low some_left));
      };
      releases = released_after;
      stretch = adds s.so_far s.come.ticks s.stretch;
      served = served_after;
      shown = shown_after;
      few = s.few;
      soon = omega (arith, s.soon, sum_by-cons (λ (e : Kept). e.1) ((due, n), l) kept);
    } where
      -- the task that ran
      nothing : (u : Task) → IsMember u s.tasks → u.number ≡ n → 1 ≤ left (had_more k u) → ⊥
      nothing u member same some_left =
          let is : u ≡ runner.0 = one_number _ _ s.come.numbered _ _ member runner.1 (same ∙ runner_number) in
          let left_same : left u ≡ l = ap left is ∙ sym runner_left in
          omega (arith, left_same)

-- ---- no job runs

-- the next job comes later
pub next_later : (jobs : List JobFacts) (clock released : ℕ) (kept : List Kept) (pieces : List Piece) (late : Option ℕ)
    → Stands jobs clock released kept pieces late (clock + 1) → (j : JobFacts) → slice_get jobs released ≡ Some j
    → clock < j.release
next_later jobs clock released kept pieces late s j found = by_task (task_of jobs clock released kept pieces late
    (clock + 1) s released j found) where
      by_task : ((t : Task) × IsMember t s.tasks × (t.number ≡ released) × (t.job ≡ j)) → clock < j.release
      by_task it = let number : it.0.number ≡ released = it.2 in
          let ahead : clock + 1 ≤ it.0.job.release = s.releases.ahead it.0 it.1 (omega arith) in
          let same : it.0.job.release ≡ j.release = ap (λ (x : JobFacts). x.release) it.3 in omega arith

-- the simulation waits for the next release
pub stands_idle : (jobs : List JobFacts) (clock released : ℕ) (pieces : List Piece) (late : Option ℕ)
    → length jobs ≤ most_jobs Two → ReleasesInOrder jobs
    → Stands jobs clock released [] pieces late (clock + 1) → (j : JobFacts) → slice_get jobs released ≡ Some j
    → IsJob j
    → Stands jobs j.release released [] pieces late j.release
stands_idle jobs clock released pieces late count order s j found is_job = at_release (j.release - clock) refl where
  it : (t : Task) × IsMember t s.tasks × (t.number ≡ released) × (t.job ≡ j)
  it = task_of jobs clock released [] pieces late (clock + 1) s released j found

  -- it comes later
  later : clock < j.release
  later = next_later jobs clock released [] pieces late s j found

  -- and has all its work left
  some_left : 1 ≤ left it.0
  some_left = let number : it.0.number ≡ released = it.2 in
      let none : it.0.had ≡ 0 =
      had_none jobs clock released [] pieces late (clock + 1) s (omega arith) it.0 it.1 (omega arith) in
      let work : it.0.job.work ≡ j.work = ap (λ (x : JobFacts). x.work) it.3 in omega (arith, (job_limits is_job).work)

  -- none comes until then
  until : AreReleased released clock j.release s.tasks
  until = released_until jobs clock released [] pieces late (clock + 1) s order j.release (inr (j, found, omega arith))

  -- none is ready
  rests : Rests (j.release - clock) clock s.tasks
  rests = record {
    task = it.0;
    member = it.1;
    some = some_left;
    named = λ u member same. let low : u.number < length jobs =
        number_low jobs clock released [] pieces late (clock + 1) s u member in omega arith;
    none = λ u member. by_number u member (cases_lt u.number released) (cases_lt 0 (left u));
  } where
    by_number : (u : Task) → IsMember u s.tasks → (u.number < released) ⊎ (released ≤ u.number) → (0 < left u)
        ⊎ (left u ≤ 0)
        → (left u ≡ 0) ⊎ (clock + (j.release - clock) ≤ u.job.release)
    by_number u member (inr high) some_or_none =
        inr (let ahead : j.release ≤ u.job.release = until.ahead u member high in omega (arith, later))
    by_number u member (inl low) (inr none) = inl (omega (arith, none))
    by_number u member (inl low) (inl more) = absurd (s.ready.all u member low (omega (arith, more)))

  at_release : (k : ℕ) → k ≡ j.release - clock → Stands jobs j.release released [] pieces late j.release
  at_release k same =
      let there : clock + k ≡ j.release = omega (arith, same, later) in
      let in_jobs : IsMember j jobs = subst (λ (js : List JobFacts). IsMember j js) s.come.of_jobs
      (subst (λ (x : JobFacts). IsMember x (jobs_of s.tasks)) it.3
      (map_member (λ (t : Task). t.job) s.tasks it.0 it.1)) in
      subst (λ c. Stands jobs c released [] pieces late j.release) there (record {
        tasks = s.tasks;
        so_far = s.so_far ++ replicate k idle;
        come = come_idle jobs clock s.so_far s.tasks s.come k (subst (λ x. Rests x clock s.tasks) (sym same) rests)
            (let last : j.release ≤ last_release jobs = release_before_last jobs j in_jobs in omega arith);
        ready = s.ready;
        releases = record {
          past = λ t member low. (
            let past : t.job.release
                ≤ clock = (s.releases.past t member low).0 in omega arith,
            (s.releases.past t member low).1,
          );
          ahead = until.ahead;
        };
        stretch = s.stretch ∙ sym (stretches_idle 0 s.so_far k);
        served = served_idle s.so_far (replicate k idle) s.tasks late s.served;
        shown = s.shown;
        few = s.few;
        soon = omega (arith, s.soon, (job_limits is_job).window, (job_limits is_job).due);
      })

-- ---- the end

-- all jobs are released and done
pub stands_last : (jobs : List JobFacts) (clock released : ℕ) (pieces : List Piece) (late : Option ℕ) (from : ℕ)
    → Stands jobs clock released [] pieces late from → length jobs ≤ released → length pieces ≤ 2 * released
    → IsWhole jobs pieces late
stands_last jobs clock released pieces late from s all count = record {
  stretch = s.stretch ∙ ap stretches (sym whole);
  count = omega (arith, s.few);
  served = subst (λ x. Each (λ n_j. IsTrue (is_served x n_j) ⊎ IsLateBy late n_j.1.deadline) (enumerate_from 0 jobs))
      (sym whole)
      (subst (λ (js : List JobFacts). Each (λ n_j. IsTrue (is_served s.so_far n_j)
      ⊎ IsLateBy late n_j.1.deadline) (enumerate_from 0 js)) s.come.of_jobs
      (each_numbered (λ n_j. IsTrue (is_served s.so_far n_j) ⊎ IsLateBy late n_j.1.deadline) 0 s.tasks s.come.numbered
      (λ t member. s.served t member (done t member))));
  shown = s.shown;
} where
  done : Each (λ t. left t ≡ 0) s.tasks
  done t member = by_left (cases_lt 0 (left t)) where
    by_left : (0 < left t) ⊎ (left t ≤ 0) → left t ≡ 0
    by_left (inl more) = absurd (s.ready.all t member
        (let low : t.number < length jobs = number_low jobs clock released [] pieces late from s t member in
        omega arith) (omega (arith, more)))
    by_left (inr none) = omega (arith, none)

  whole : edf jobs ≡ s.so_far
  whole = s.come.rest ∙ ap (λ xs. s.so_far ++ xs) (edf_over s.come.more clock s.tasks done) ∙ append-nil s.so_far
