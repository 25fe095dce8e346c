-- When no more jobs may be ready: not where few were admitted; and then a job is refused for that alone.
use Rattle.std.proofs.Common.{◌≡◌, ℕ, zero, suc, ◌+◌, ◌<◌, ◌≤◌, List, [], ◌∷◌, length, refl, sym, ◌∙◌, ap, cond, arith}
use Rattle.std.proofs.Common.{Bool, true, false, not, Option, Some, None}
use Rattle.std.specs.Prelude.{nat_le, nat_lt, ◌&&◌, ◌*◌}
use Rattle.std.specs.List.{filter, fold, list_all}
use Rattle.std.specs.Bool.{then_some}
use Rattle.std.specs.Option.{option_or}
use Rattle.std.proofs.lemmas.Bool.{lt-leb, leb-true, le-ltb, ltb-false}
use Rattle.dover_model.specs.Common.{last_tick_in, most_ready, most_jobs, most_total, Version, One, Two, Three, Refusal}
use Rattle.dover_model.specs.Common.{BadJob}
use Rattle.dover_model.specs.Common.{Count, Total, Ratio, Late, Full, Task, JobFacts, is_job, Step, after, open_step}
use Rattle.dover_model.specs.Common.{State, opening, to_come, Instance, Rules, total_value, refusal_of}
use Rattle.dover_model.specs.Common.{is_within_ratio_both_ways, is_ready, settled_from, settled_state, waits_for_mark}
use Rattle.dover_model.specs.Common.{open_at, Session, instance_of, admitted_jobs, ready_at, is_full, refusal_in}
use Rattle.dover_model.specs.Common.{refusal_at, may_finish_early, late_refusal, refuses_lines, refused_mark}
use Rattle.dover_model.specs.Admission.{first_cause}
use Rattle.dover_model.proofs.valid.Admitting.{not_refused}
use Rattle.dover_model.proofs.settled.Settling.{unless}
use Rattle.dover_model.proofs.runs.Spending.{after_count}
use Rattle.dover_model.proofs.lists.Tests.{never, none_is_some}
use Rattle.dover_model.specs.declared.events.Version.TheVariants.{Four}

-- a run begins with a task for each job
opening_count : (n : ℕ) (jobs : List JobFacts) → length (to_come n jobs) ≡ length jobs
opening_count n [] = refl
opening_count n (j ∷ jobs) = let rest = opening_count (suc n) jobs in omega (arith, rest)

-- the state behind steps
abbrev behind : State → List Step → State
behind s steps = fold (λ s step. after step.before step.move) s steps

-- settled steps leave as many
settled_count : (rules : Rules) (mark fuel : ℕ) (s : State)
    → length (behind s (settled_from rules mark fuel s)).tasks ≡ length s.tasks
settled_count rules mark zero s = refl
settled_count rules mark (suc fuel) s =
    by_wait (waits_for_mark (open_step rules s) && nat_le mark s.clock)
    (settled_count rules mark fuel (after s (open_step rules s)) ∙ after_count s (open_step rules s)) where
      by_wait : (b : Bool)
          → length (behind (after s (open_step rules s)) (settled_from rules mark fuel (after s
          (open_step rules s)))).tasks ≡ length s.tasks
          → length (behind s (unless b (open_at rules s
          ∷ settled_from rules mark fuel (after s (open_step rules s))))).tasks ≡ length s.tasks
      by_wait true more = refl
      by_wait false more = more

-- those that are ready are among all
ready_among : (tasks : List Task) → length (filter is_ready tasks) ≤ length tasks
ready_among [] = omega arith
ready_among (t ∷ tasks) = by_ready (is_ready t) (ready_among tasks) where
  by_ready : (b : Bool) → length (filter is_ready tasks) ≤ length tasks
      → length (cond b (t ∷ filter is_ready tasks) (filter is_ready tasks)) ≤ length (t ∷ tasks)
  by_ready true rest = omega (arith, rest)
  by_ready false rest = omega (arith, rest)

-- no more jobs are ready than there are
ready_few : (J : Instance) (mark : ℕ) → ready_at J mark ≤ length J.jobs
ready_few J mark = omega (
  arith,
  ready_among (settled_state J mark).tasks,
  settled_count J.rules mark (mark + 6 * length J.jobs + 1) (opening J.jobs),
  opening_count 0 J.jobs,
)

-- where few jobs were admitted, there is room for one more
pub few_ready : (J : Instance) (mark : ℕ) → length J.jobs < most_ready → is_full J mark ≡ false
few_ready J mark few = lt-leb most_ready (ready_at J mark) (omega (arith, few, ready_few J mark))

-- where there is none, many were
pub full_many : (J : Instance) (mark : ℕ) → is_full J mark ≡ true → most_ready ≤ length J.jobs
full_many J mark full = omega (arith, leb-true most_ready (ready_at J mark) full, ready_few J mark)

-- in versions One and Two few jobs are admitted
pub few_former : (v : Version) (n : ℕ) → may_finish_early v ≡ false → n < most_jobs v → n < most_ready
few_former Three n former few = never (sym former)
few_former Four n former few = never (sym former)
few_former _ n former few = few

module _ (S : Session) (j : JobFacts) where
  -- why the job isn't admitted by itself and the jobs before it
  abbrev alone : Option Refusal
  alone = refusal_of S.rules (admitted_jobs S.items) j

  -- never for that
  pub never_alone : alone ≡ Some Full → ⊥
  never_alone = by_tests (not (is_job j && nat_le j.deadline (last_tick_in S.rules.version)))
      (nat_le (most_jobs S.rules.version) (length (admitted_jobs S.items)))
      (nat_lt (most_total S.rules.version) (total_value (admitted_jobs S.items) + j.value))
      (not (list_all (λ i. is_within_ratio_both_ways S.rules.ratio i j) (admitted_jobs S.items))) where
        by_tests : (a b c d : Bool)
            → first_cause ((a, BadJob) ∷ (b, Count) ∷ (c, Total) ∷ (d, Ratio) ∷ []) ≡ Some Full → ⊥
        by_tests true b c d e = let same : Some BadJob ≡ Some Full = e in cc
        by_tests false true c d e = let same : Some Count ≡ Some Full = e in cc
        by_tests false false true d e = let same : Some Total ≡ Some Full = e in cc
        by_tests false false false true e = let same : Some Ratio ≡ Some Full = e in cc
        by_tests false false false false e = let same : None ≡ Some Full = e in cc

  -- it is admitted where there is room
  pub admitted_in : refusal_in S j ≡ None → (alone ≡ None) × (is_full (instance_of S) j.release ≡ false)
  admitted_in = by_alone alone (is_full (instance_of S) j.release) where
    by_alone : (o : Option Refusal) (b : Bool) → option_or o (then_some b Full) ≡ None → (o ≡ None) × (b ≡ false)
    by_alone None false e = (refl, refl)
    by_alone None true e = none_is_some (sym e)
    by_alone (Some r) b e = none_is_some (sym e)

  -- it is refused for want of room where it is else admitted
  pub full_in : refusal_in S j ≡ Some Full → (alone ≡ None) × (is_full (instance_of S) j.release ≡ true)
  full_in = by_alone alone (is_full (instance_of S) j.release) never_alone where
    by_alone : (o : Option Refusal) (b : Bool) → (o ≡ Some Full → ⊥) → option_or o (then_some b Full) ≡ Some Full
        → (o ≡ None) × (b ≡ true)
    by_alone None true never e = (refl, refl)
    by_alone None false never e = none_is_some e
    by_alone (Some r) b never e = absurd (never e)

  -- and never so in versions One and Two
  pub refused_alone : (refusal : Refusal) → may_finish_early S.rules.version ≡ false
      → refusal_in S j ≡ Some refusal → alone ≡ Some refusal
  refused_alone refusal former = by_alone alone refl where
    by_alone : (o : Option Refusal) → alone ≡ o
        → option_or o (then_some (is_full (instance_of S) j.release) Full) ≡ Some refusal → o ≡ Some refusal
    by_alone (Some r) is e = e
    by_alone None is e = none_is_some (sym (ap (λ b. then_some b Full) (few_ready (instance_of S) j.release
        (few_former S.rules.version (length (admitted_jobs S.items)) former
        (not_refused S.rules (admitted_jobs S.items) j is).count))) ∙ e)

-- a late job isn't refused for want of room
late_for_late : (v : Version) → late_refusal v ≡ Some Full → ⊥
late_for_late One e = let same : None ≡ Some Full = e in cc
late_for_late Two e = let same : None ≡ Some Full = e in cc
late_for_late Three e = let same : Some Late ≡ Some Full = e in cc
late_for_late Four e = let same : Some Late ≡ Some Full = e in cc

-- so a job that is refused for that comes in time
pub full_at : (S : Session) (mark : ℕ) (j : JobFacts) → refusal_at S mark j ≡ Some Full
    → (mark ≤ j.release) × (refusal_in S j ≡ Some Full)
full_at S mark j = by_late (nat_lt j.release mark) refl where
  by_late : (b : Bool) → nat_lt j.release mark ≡ b
      → cond b (late_refusal S.rules.version) (refusal_in S j) ≡ Some Full
      → (mark ≤ j.release) × (refusal_in S j ≡ Some Full)
  by_late true late e = absurd (late_for_late S.rules.version e)
  by_late false ordered e = (ltb-false _ _ ordered, e)

-- and is so at its release
pub full_here : (S : Session) (j : JobFacts) → refusal_in S j ≡ Some Full → refusal_at S j.release j ≡ Some Full
full_here S j full = ap (λ b. cond b (late_refusal S.rules.version) (refusal_in S j))
    (le-ltb j.release j.release (omega arith)) ∙ full

-- a job is refused for that alone where jobs may finish early, so that it ends no feed
pub full_refuses : (S : Session) (j : JobFacts) → refusal_of S.rules (admitted_jobs S.items) j ≡ None
    → is_full (instance_of S) j.release ≡ true → refuses_lines S.rules.version ≡ true
full_refuses S j none full = by_version S.rules.version (λ former. few_ready (instance_of S) j.release
    (few_former S.rules.version (length (admitted_jobs S.items)) former
    (not_refused S.rules (admitted_jobs S.items) j none).count)) where
      by_version : (v : Version) → (may_finish_early v ≡ false → is_full (instance_of S) j.release ≡ false)
          → refuses_lines v ≡ true
      by_version One room = never (sym (room refl) ∙ full)
      by_version _ room = refl

-- a job that is refused by itself, or for the jobs before it, leaves the mark
pub mark_stays : (S : Session) (mark : ℕ) (j : JobFacts) (refusal : Refusal)
    → refusal_of S.rules (admitted_jobs S.items) j ≡ Some refusal → refused_mark mark j refusal ≡ mark
mark_stays S mark j Full is = absurd (never_alone S j is)
mark_stays S mark j _ is = refl
