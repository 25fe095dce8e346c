-- What a line that offers a job makes of what is kept, and one that passes.
use Rattle.std.proofs.Common.{◌≡◌, ◌≤◌, ◌<◌, ◌+◌, ℕ, List, [], ◌∷◌, ◌++◌, length, length-append, refl, sym, ap, ◌∙◌}
use Rattle.std.proofs.Common.{subst, Bool, true, cond, Option, Some, None, is_some, nat_lt, lt-ltb, le-ltb, arith}
use Rattle.std.proofs.Common.{ne_eqb, ◌==◌, ◌&&◌, le-leb, nat_le}
use Rattle.std.proofs.lemmas.Bool.{and_from}
use Rattle.dover_model.specs.declared.events.Refusal.TheVariants as refusal
use Rattle.dover_model.specs.declared.events.Version.{Version}
use Rattle.dover_model.specs.declared.events.Version.TheVariants.{Three}
use Rattle.dover_model.specs.Common.{Declaration as Rules, Faulty, IsJob, JobFacts, Open, is_job, job_of_numbers}
use Rattle.dover_model.specs.Common.{last_tick_in, most_jobs}
use Rattle.dover_model.specs.Feed as feed
use Rattle.admission.specs.Kept.{AreExtremes}
use Rattle.admission.specs.declared.extremes.Extremes.{Extremes}
use Rattle.event_feed.specs.Kept.{cause_of_fault}
use Rattle.event_feed.specs.declared.faults.Cause.{Cause}
use Rattle.event_feed.specs.declared.faults.Cause.TheVariants as cause
use Rattle.task_words.specs.declared.tasks.task.PeriodicTask.{PeriodicTask}
use Rattle.task_words.specs.declared.reading.lines.TaskLine.TheVariants.{End, Task}
use Rattle.ratio_word.specs.Account.{TextAccount, cause_of, cause_under, first_job, job_cause, later_cause, rules_of}
use Rattle.ratio_word.specs.Account.{with_line}
use Rattle.ratio_word.specs.declared.lines.TextLine.{TextLine}
use Rattle.ratio_word.specs.declared.lines.TextLine.TheVariants.{Job, Plain}
use Rattle.ratio_word.proofs.Declaring.{declared_before, undeclared}
use Rattle.ratio_word.specs.Keeping.{KeepsAccount, KeepsDeclared, KeepsRules, StandsAt, offer_cause, with_offer}
use Rattle.ratio_word.specs.declared.intake.Declaration.{Declaration}
use Rattle.ratio_word.specs.declared.intake.Intake.{Intake}
use Rattle.ratio_word.specs.declared.intake.Progress.{Progress}
use Rattle.ratio_word.specs.declared.intake.Progress.TheVariants as progress

-- ---- why a job can't stand behind others

-- by the two tests
abbrev cause_by : Bool → Bool → Option feed.Cause
cause_by job few = cond job (cond few None (Some (feed.NotAdmitted refusal.Count)))
    (Some (feed.NotAdmitted refusal.BadJob))

-- the test of the job alone
abbrev alone : Version → JobFacts → Bool
alone version j = is_job j && nat_le j.deadline (last_tick_in version)

passes_alone : (version : Version) (j : JobFacts) → IsJob j → j.deadline ≤ last_tick_in version
    → alone version j ≡ true
passes_alone version j job due = and_from (is_job j) (nat_le j.deadline (last_tick_in version)) job.passes
    (le-leb _ _ due)

pub too_many : (version : Version) (count : ℕ) (j : JobFacts) → IsJob j → j.deadline ≤ last_tick_in version
    → most_jobs Three ≤ count → job_cause version count j ≡ Some (feed.NotAdmitted refusal.Count)
too_many version count j job due full =
    ap (λ b. cause_by b (nat_lt count (most_jobs Three))) (passes_alone version j job due)
    ∙ ap (cause_by true) (le-ltb count (most_jobs Three) full)

pub fine : (version : Version) (count : ℕ) (j : JobFacts) → IsJob j → j.deadline ≤ last_tick_in version
    → count < most_jobs Three → job_cause version count j ≡ None
fine version count j job due few =
    ap (λ b. cause_by b (nat_lt count (most_jobs Three))) (passes_alone version j job due)
    ∙ ap (cause_by true) (lt-ltb count (most_jobs Three) few)

-- ---- one job more

-- what is kept of the jobs with one more
pub kept_more : (old new : Declaration) (rules : Rules) (jobs : List JobFacts) (j : JobFacts) (e : Extremes)
    → KeepsDeclared old rules jobs → old.count < most_jobs Three → new.ratio ≡ old.ratio → new.version ≡ old.version
    → new.count ≡ old.count + 1 → new.extremes ≡ Some e → AreExtremes old.ratio (jobs ++ j ∷ []) e
    → KeepsDeclared new rules (jobs ++ j ∷ [])
kept_more old new rules jobs j e keeps few ratio version count extremes it = record {
  rules_are = rw (ratio, version) keeps.rules_are;
  count = omega (arith, keeps.count, count, length-append jobs (j ∷ []));
  few = omega (arith, count, few);
  extremes = rw (ratio, extremes) it;
}

-- ---- a line that offers a job

module _ (a : TextAccount) (j : JobFacts) (intake : Intake) (opened : a.standing ≡ Open)
    (keeps : KeepsAccount intake a) where
  -- the account, by the cause
  abbrev offered : Option feed.Cause → TextAccount
  offered o = with_offer a j o

  -- where there is a cause, the job wasn't taken
  pub offered_bad : (old : Declaration) → intake.declared ≡ Some old → (c : Cause)
      → ((rules : Rules) (jobs : List JobFacts) → KeepsDeclared old rules jobs
      → job_cause rules.version (length jobs) j ≡ Some (cause_of_fault c))
      → (after : Intake) → after.lines ≡ intake.lines
      → StandsAt (progress.Refused c) after (offered (offer_cause a j))
  offered_bad old some c bad after same =
      by_rules a.rules refl (subst (λ d. KeepsRules d a.rules a.jobs) some keeps.rules) where
        by_rules : (o : Option Rules) → a.rules ≡ o → KeepsRules (Some old) o a.jobs
            → StandsAt (progress.Refused c) after (offered (offer_cause a j))
        by_rules None is kept = absurd kept
        by_rules (Some rules) is kept = ap (λ (r : Option Rules). (offered (elim r [
          | None ↦ Some feed.Declared
          | Some rules ↦ job_cause rules.version (length a.jobs) j
        ])).standing) is
            ∙ ap (λ o. (offered o).standing) (bad rules a.jobs kept)
            ∙ ap (λ n. Faulty n (cause_of_fault c)) (sym keeps.counted ∙ sym same)

-- ---- the lines that offer one

module _ (a : TextAccount) where
  -- the line of a task
  abbrev of_task : PeriodicTask → TextLine
  of_task task = Plain (Task task)

  task_line_same : (task : PeriodicTask) (o : Option feed.Cause)
      → with_offer a (first_job task) o ≡ with_line a (of_task task) o
  task_line_same task None = refl
  task_line_same task (Some why) = refl

  -- with a period its cause is that of its first job
  task_cause : (task : PeriodicTask) → (task.period ≡ 0 → ⊥) → (o : Option Rules) → elim o [
    | None ↦ Some feed.Declared
    | Some rules ↦ job_cause rules.version (length a.jobs) (first_job task)
  ] ≡ cause_under o (length a.jobs) (of_task task)
  task_cause task some None = refl
  task_cause task some (Some rules) = sym (ap (λ b. cond b (Some (feed.NotAdmitted refusal.BadJob))
      (job_cause rules.version (length a.jobs) (first_job task))) (ne_eqb _ _ some))

  pub task_offered : (task : PeriodicTask) → (task.period ≡ 0 → ⊥) → (p : Progress) (new : Intake)
      → StandsAt p new (with_offer a (first_job task) (offer_cause a (first_job task)))
      → StandsAt p new (with_line a (of_task task) (cause_of a (of_task task)))
  task_offered task some p new stands = subst (StandsAt p new)
      (task_line_same task (offer_cause a (first_job task))
      ∙ ap (with_line a (of_task task)) (task_cause task some a.rules)) stands

  job_line_same : (r c d v : ℕ) (o : Option feed.Cause)
      → with_offer a (job_of_numbers r c d v) o ≡ with_line a (Job r c d v) o
  job_line_same r c d v None = refl
  job_line_same r c d v (Some why) = refl

  job_line_cause : (r c d v : ℕ) (o : Option Rules) → elim o [
    | None ↦ Some feed.Declared
    | Some rules ↦ job_cause rules.version (length a.jobs) (job_of_numbers r c d v)
  ] ≡ cause_under o (length a.jobs) (Job r c d v)
  job_line_cause r c d v None = refl
  job_line_cause r c d v (Some rules) = refl

  -- the line of a job
  pub job_offered : (r c d v : ℕ) (p : Progress) (new : Intake)
      → StandsAt p new (with_offer a (job_of_numbers r c d v) (offer_cause a (job_of_numbers r c d v)))
      → StandsAt p new (with_line a (Job r c d v) (cause_of a (Job r c d v)))
  job_offered r c d v p new stands = subst (StandsAt p new)
      (job_line_same r c d v (offer_cause a (job_of_numbers r c d v))
      ∙ ap (with_line a (Job r c d v)) (job_line_cause r c d v a.rules)) stands

  -- ---- a line that offers none and declares nothing

  module _ (intake : Intake) (keeps : KeepsAccount intake a) (line : TextLine) (then p : Progress)
      (no_rules : rules_of line ≡ None) (first : intake.declared ≡ None → p ≡ progress.Refused cause.Declared)
      (later : is_some intake.declared ≡ true → p ≡ then) where
    -- behind the rules it stands so
    pub passed : (is_some intake.declared ≡ true → (version : Version) → StandsAt then intake
        (with_line a line (later_cause version (length a.jobs) line)))
        → StandsAt p intake (with_line a line (cause_of a line))
    passed stands = by_declared intake.declared refl where
      by_declared : (d : Option Declaration) → intake.declared ≡ d
          → StandsAt p intake (with_line a line (cause_of a line))
      by_declared None is = subst (λ s. StandsAt s intake (with_line a line (cause_of a line))) (sym (first is))
          (undeclared line a intake keeps (ap (λ (d : Option Declaration). is_some d) is) no_rules)
      by_declared (Some d) is =
          let some : is_some intake.declared ≡ true = ap (λ (d : Option Declaration). is_some d) is in
          subst (λ s. StandsAt s intake (with_line a line (cause_of a line))) (sym (later some))
          (subst (λ r. StandsAt then intake (with_line a line (cause_under r (length a.jobs) line)))
          (sym (declared_before line a intake keeps some).1)
          (stands some (declared_before line a intake keeps some).0.version))

  -- a task with no period
  pub task_bad : (task : PeriodicTask) (intake : Intake) → KeepsAccount intake a → task.period ≡ 0
      → (version : Version) → StandsAt (progress.Refused cause.BadJob) intake
      (with_line a (of_task task) (later_cause version (length a.jobs) (of_task task)))
  task_bad task intake keeps none version = ap (λ b. (with_line a (of_task task)
      (cond b (Some (feed.NotAdmitted refusal.BadJob)) (job_cause version (length a.jobs) (first_job task)))).standing)
      (ap (λ n. n == 0) none) ∙ ap (λ n. Faulty n (feed.NotAdmitted refusal.BadJob)) (sym keeps.counted)

  -- the end
  pub ends : (intake : Intake) → KeepsAccount intake a → is_some intake.declared ≡ true → (version : Version)
      → StandsAt progress.Ended intake (with_line a (Plain End) (later_cause version (length a.jobs) (Plain End)))
  ends intake keeps some version = (refl, record { counted = keeps.counted; rules = keeps.rules }, some)
