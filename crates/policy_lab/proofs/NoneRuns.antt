-- A policy's run while no job runs: up to the next release or to the end.
use Rattle.std.proofs.Common.{◌≡◌, ℕ, ◌+◌, ◌-◌, ◌≤◌, ◌<◌, ◌⊎◌, inl, inr, List, [], length, sym, ap, ◌∙◌, subst, true}
use Rattle.std.proofs.Common.{arith, Some, slice_get}
use Rattle.std.proofs.lemmas.Bool.{cases_lt}
use Rattle.dover_model.specs.Common.{JobFacts, IsJob, left, IsMember, Each, idle, last_deadline, stretches}
use Rattle.dover_model.specs.declared.events.Task.{Task}
use Rattle.dover_model.specs.declared.events.Entry.{Entry}
use Rattle.dover_model.specs.declared.pieces.Piece.{Piece}
use Rattle.dover_model.proofs.valid.JobLimits.{job_limits}
use Rattle.dover_model.proofs.valid.ValidParts.{ReleasesInOrder}
use Rattle.clairvoyant.specs.feasible.Progress.{NoneBefore}
use Rattle.clairvoyant.proofs.feasible.Stretches.{stretches_idle}
use Rattle.policy_lab.specs.Picks.{Picks}
use Rattle.policy_lab.specs.Ranks.{IsRanked}
use Rattle.policy_lab.specs.PolicyRun.{is_ready, picked}
use Rattle.policy_lab.specs.declared.tally.Tally.{Tally}
use Rattle.policy_lab.specs.Counts.{stops}
use Rattle.policy_lab.specs.Bench.{tasks_at, schedule_before, served_by, Turn, kept_as, kept_of, HasQueue, HasRun}
use Rattle.policy_lab.specs.Bench.{HasTally, HasEnded, last_at}
use Rattle.policy_lab.proofs.Given.{ready_says, says_ready}
use Rattle.policy_lab.proofs.Runs.{numbered_at, good_at, low_numbers}
use Rattle.policy_lab.proofs.Leading.{Rests, RestsFor, rests_run, rests_idle}
use Rattle.policy_lab.proofs.Queueing.{queue_waits}
use Rattle.policy_lab.proofs.Choosing.{due_last, task_of, ahead_from, next_ahead}

module _ (picks : Picks) (ranks : Entry → ℕ) (ranked : IsRanked picks ranks) (jobs : List JobFacts)
    (order : ReleasesInOrder jobs)
    (good : Each IsJob jobs) (count : length jobs ≤ 1_000_000) where
  -- the jobs at tick t
  abbrev at : ℕ → List Task
  at t = tasks_at picks jobs t

  -- numbers are few
  few_numbers : (t : ℕ) → Each (λ u. u.number < 1_000_000) (at t)
  few_numbers t = low_numbers picks jobs ranked.policy count t

  module _ (t released : ℕ) (tally : Tally) (turns : List Turn) (pieces : List Piece)
      (run : HasRun picks ranks jobs t (t + 1) released idle tally turns pieces) (empty : turns ≡ []) where
    -- none is ready up to a tick before which none comes
    rests : (k : ℕ) → Each (λ u. released ≤ u.number → t + k ≤ u.job.release) (at t) → Rests k t (at t)
    rests k late u member = by_number (cases_lt u.number released) where
      not_ready : u.number < released → (left u ≡ 0) ⊎ (u.job.deadline < t + left u)
      not_ready below = by_left (cases_lt 0 (left u)) where
        by_left : (0 < left u) ⊎ (left u ≤ 0) → (left u ≡ 0) ⊎ (u.job.deadline < t + left u)
        by_left (inr over) = inl (omega (arith, over))
        by_left (inl some) = by_due (cases_lt u.job.deadline (t + left u)) where
          by_due : (u.job.deadline < t + left u) ⊎ (t + left u ≤ u.job.deadline)
              → (left u ≡ 0) ⊎ (u.job.deadline < t + left u)
          by_due (inl passed) = inr passed
          by_due (inr fits) = absurd (subst (λ (ts : List Turn). IsMember (kept_as ranks u) (kept_of ts)) empty
              (run.queue.all u member below (λ same. omega (arith, same, few_numbers t u member))
              (says_ready t u (run.queue.past u member below) some fits)))

      by_number : (u.number < released) ⊎ (released ≤ u.number)
          → (t + k ≤ u.job.release) ⊎ ((left u ≡ 0) ⊎ (u.job.deadline < t + left u))
      by_number (inl below) = inr (not_ready below)
      by_number (inr high) = inl (late u member high)

    -- no job that ran can go on
    last_none : tally.last ≡ idle
    last_none = by_last run.counts.last.ready where
      by_last : (tally.last ≡ idle) ⊎ ((u : Task) × IsMember u (at t) × (u.number ≡ tally.last)
          × (tally.last ≡ last_at picks jobs t) × (is_ready t u ≡ true)) → tally.last ≡ idle
      by_last (inl is) = is
      by_last (inr it) = absurd (by_number (cases_lt it.0.number released)) where
        by_number : (it.0.number < released) ⊎ (released ≤ it.0.number) → ⊥
        by_number (inl below) = subst (λ (ts : List Turn). IsMember (kept_as ranks it.0) (kept_of ts)) empty
            (run.queue.all it.0 it.1 below (λ same. omega (arith, same, few_numbers t it.0 it.1)) it.4)
        by_number (inr high) = omega (arith, run.ahead it.0 it.1 high, (ready_says t it.0 it.4).0)

    -- nor is it left
    over_now : Each (λ u. u.number ≡ last_at picks jobs t → left u ≡ 0) (at t)
    over_now u member same = by_first (run.counts.last.over last_none) where
      by_first : (t ≡ 0) ⊎ Each (λ v. v.number ≡ last_at picks jobs t → left v ≡ 0) (at t) → left u ≡ 0
      by_first (inr over) = over u member same
      by_first (inl first) = absurd (omega (
        arith,
        same,
        ap (last_at picks jobs) first ∙ sym (ap (λ (m : ℕ). picked picks m (at m)) first)
            ∙ rests_idle picks ranks ranked jobs good count t (rests 1 run.ahead),
        few_numbers t u member,
      ))

    -- a later tick
    until_of : (until : ℕ) → t ≤ until → t + (until - t) ≡ until
    until_of until later = omega (arith, later)

    -- what so many ticks come to
    rested : (until : ℕ) → t ≤ until → NoneBefore jobs until released
        → RestsFor picks ranks ranked jobs good count (until - t) t
    rested until later none = rests_run picks ranks ranked jobs good count (until - t) t
        (rests (until - t) (ahead_from picks ranks ranked jobs order good count t (t + (until - t)) released
        (subst (λ (m : ℕ). NoneBefore jobs m released) (sym (until_of until later)) none))) over_now

    -- it comes to the same numbers
    tally_rests : (until : ℕ) → t < until → NoneBefore jobs until released → HasTally picks jobs until tally
    tally_rests until later none = subst (λ (m : ℕ). HasTally picks jobs m tally)
        (until_of until (omega (arith, later)))
        (record {
          value = run.counts.value ∙ ap (served_by (λ j. j.value)) (sym it.tasks);
          completed = run.counts.completed ∙ ap (served_by (λ j. 1)) (sym it.tasks);
          stops = run.counts.stops ∙ sym it.stopped;
          few = omega (arith, run.counts.few);
          last = record { ready = inl last_none; over = λ _. inr it.last };
        }) where
          it : RestsFor picks ranks ranked jobs good count (until - t) t
          it = rested until (omega (arith, later)) none

    -- idle ticks are of no stretch
    same_stretches : (until : ℕ) → t ≤ until → NoneBefore jobs until released
        → pieces ≡ stretches (schedule_before picks jobs until)
    same_stretches until later none = run.stretched
        ∙ sym (stretches_idle 0 (schedule_before picks jobs t) (until - t))
        ∙ ap stretches (sym (rested until later none).schedule)
        ∙ ap (λ m. stretches (schedule_before picks jobs m)) (until_of until later)

    -- up to the next release
    pub run_waits : (next : JobFacts) → slice_get jobs released ≡ Some next
        → HasRun picks ranks jobs next.release next.release released idle tally turns pieces
    run_waits next found = record {
      queue = subst (λ (m : ℕ). HasQueue ranks m released idle (kept_of turns) (at m)) (until_of next.release later)
          (subst (HasQueue ranks (t + (next.release - t)) released idle (kept_of turns))
          (sym (rested next.release later none).tasks)
          (queue_waits ranks t released (kept_of turns) (at t) (numbered_at picks jobs t) (few_numbers t) idle
          (next.release - t) run.queue));
      ordered = run.ordered;
      ahead = ahead_from picks ranks ranked jobs order good count next.release next.release released none;
      few = run.few;
      soon = omega (
        arith,
        due_last picks ranks ranked jobs order good count t it.0 it.1,
        (job_limits (good_at picks jobs good t it.0 it.1)).window,
        ap (λ (x : JobFacts). x.release) it.3,
      );
      counts = tally_rests next.release (omega (arith, ahead)) none;
      stretched = same_stretches next.release later none;
    } where
      it : (u : Task) × IsMember u (at t) × (u.number ≡ released) × (u.job ≡ next)
      it = task_of picks ranks ranked jobs order good count t released next found

      ahead : t + 1 ≤ next.release
      ahead = next_ahead picks ranks ranked jobs order good count t (t + 1) released idle tally turns pieces run next
          found

      later : t ≤ next.release
      later = omega (arith, ahead)

      none : NoneBefore jobs next.release released
      none = inr (next, found, omega arith)

    -- or to the end
    pub run_over : length jobs ≤ released → HasEnded picks jobs tally pieces
    run_over all = record {
      value = run.counts.value ∙ ap (served_by (λ j. j.value)) (sym tasks_then);
      completed = run.counts.completed ∙ ap (served_by (λ j. 1)) (sym tasks_then);
      stops = run.counts.stops ∙ sym it.stopped
          ∙ ap (λ m. stops jobs (schedule_before picks jobs m)) (until_of (last_deadline jobs) run.soon);
      stretched = same_stretches (last_deadline jobs) run.soon (inl all);
    } where
      it : RestsFor picks ranks ranked jobs good count (last_deadline jobs - t) t
      it = rested (last_deadline jobs) run.soon (inl all)

      tasks_then : at (last_deadline jobs) ≡ at t
      tasks_then = ap at (sym (until_of (last_deadline jobs) run.soon)) ∙ it.tasks
