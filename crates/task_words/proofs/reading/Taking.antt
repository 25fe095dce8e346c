-- What a line makes of what is kept.
use Rattle.std.proofs.Common.{◌≡◌, ◌≤◌, ◌<◌, ◌+◌, ◌-◌, ◌*◌, ℕ, List, ◌∷◌, ◌++◌, [], length, map, refl, sym, ap, ◌∙◌}
use Rattle.std.proofs.Common.{subst, Bool, true, false, cond, Option, Some, None, is_some, arith, option_map, ne_eqb}
use Rattle.std.proofs.lemmas.List.{map-append}
use Rattle.dover_model.specs.declared.events.Refusal.{Refusal}
use Rattle.dover_model.specs.declared.events.Refusal.TheVariants as refusal
use Rattle.dover_model.specs.declared.events.Version.TheVariants.{Two}
use Rattle.dover_model.specs.Common.{most_lines, lines_of, rest_of, is_too_long, Fraction, JobFacts, job_of_numbers}
use Rattle.dover_model.specs.Common.{Declaration as Rules, refusal_of, Faulty, NotAdmitted, rules_with}
use Rattle.dover_model.proofs.lists.Members.{all_last}
use Rattle.dover_model.specs.Feed as feed
use Rattle.admission.specs.Kept as admission
use Rattle.admission.specs.Answers as admitting
use Rattle.admission.specs.Answers.{IsOther, refusal_of_refused}
use Rattle.admission.specs.declared.refused.Refused.{Refused}
use Rattle.admission.specs.declared.refused.Refused.TheVariants as refused
use Rattle.event_feed.specs.Kept.{cause_of_refused, cause_of_fault}
use Rattle.event_feed.specs.declared.faults.Cause.TheVariants as cause
use Rattle.task_words.specs.tasks.Tasks.{tested_job, count_before}
use Rattle.task_words.specs.tasks.Limits.{task_refusal, task_rules}
use Rattle.task_words.specs.declared.tasks.task.PeriodicTask.{PeriodicTask}
use Rattle.task_words.proofs.tasks.Together.{tasks_more}
use Rattle.task_words.specs.reading.Account.{TaskAccount, with_line, cause_of, cause_under, account_of_lines, account}
use Rattle.task_words.specs.reading.Account.{no_lines}
use Rattle.task_words.specs.reading.Faults.{NamesOther, NamesAt, NamesIn}
use Rattle.task_words.specs.reading.Lines.{task_line}
use Rattle.task_words.specs.reading.Keeping.{Keeps, KeepsDeclared, KeepsRules, KeepsAccount, StandsAt, TextStands}
use Rattle.task_words.specs.declared.reading.text.TaskText.{TaskText}
use Rattle.line_text.specs.Cutting as cutting
use Rattle.task_words.specs.declared.reading.intake.Declaration.{Declaration}
use Rattle.task_words.specs.declared.reading.intake.TaskIntake.{TaskIntake}
use Rattle.task_words.specs.declared.reading.intake.Progress.{Progress}
use Rattle.task_words.specs.declared.reading.intake.Progress.TheVariants as progress
use Rattle.task_words.specs.declared.reading.lines.TaskLine.{TaskLine}
use Rattle.task_words.specs.declared.reading.lines.TaskLine.TheVariants.{Task}
use Rattle.task_words.proofs.reading.Accounts.{counted, next_of, line_as, many_lines, lines_good}
use Rattle.dover_model.proofs.valid.JobLimits.{ratio_limits}

-- ---- a task behind others

module _ (until : ℕ) (task : PeriodicTask) (k : Fraction) (tasks : List PeriodicTask) where
  -- by whether it has a period
  abbrev by_period : Bool → Option Refusal
  by_period none = cond none (Some refusal.BadJob) (refusal_of (task_rules k) (map (tested_job until) tasks)
      (tested_job until task))

  pub with_period : (task.period ≡ 0 → ⊥) → task_refusal until k tasks task
      ≡ refusal_of (task_rules k) (map (tested_job until) tasks) (tested_job until task)
  with_period some = ap by_period (ne_eqb _ _ some)

module _ (until : ℕ) (task : PeriodicTask) (rules : Rules) (tasks : List PeriodicTask) (old new : Declaration)
    (keeps : KeepsDeclared until old rules tasks) (some : task.period ≡ 0 → ⊥) where
  -- what the tested job is answered
  pub answered : (o : Option Refusal)
      → refusal_of old.admission.rules (map (tested_job until) tasks) (tested_job until task) ≡ o
      → task_refusal until rules.ratio tasks task ≡ o
  answered o is = with_period until task rules.ratio tasks some
      ∙ ap (λ r. refusal_of r (map (tested_job until) tasks) (tested_job until task)) (sym keeps.limits) ∙ is

  -- the task is taken in
  pub taken : refusal_of old.admission.rules (map (tested_job until) tasks) (tested_job until task) ≡ None
      → admission.StandsFor new.admission (map (tested_job until) tasks ++ tested_job until task ∷ [])
      → new.admission.rules ≡ old.admission.rules → new.version ≡ old.version
      → KeepsDeclared until new rules (tasks ++ task ∷ [])
  taken none stands same version =
      let above : rules.ratio.q ≤ rules.ratio.p = (ratio_limits keeps.ratio).above_one in record {
        rules_are = keeps.rules_are ∙ ap (λ (r : Rules). rules_with r.ratio old.version) (sym same)
            ∙ ap (rules_with new.admission.rules.ratio) (sym version);
        limits = same ∙ keeps.limits;
        ratio = keeps.ratio;
        declarable = keeps.declarable;
        tested = subst (admission.StandsFor new.admission)
            (sym (map-append (tested_job until) tasks (task ∷ []))) stands;
        are = tasks_more until rules.ratio tasks task above keeps.are (positive task.period some)
            (ap (λ r. refusal_of r (map (tested_job until) tasks) (tested_job until task)) (sym keeps.limits) ∙ none);
      } where
        positive : (n : ℕ) → (n ≡ 0 → ⊥) → 1 ≤ n
        positive n more = omega arith

  -- the tested job is answered by its numbers
  pub took : (release : ℕ) (job : JobFacts) → release ≡ task.offset + (count_before until task - 1) * task.period
      → refusal_of old.admission.rules (map (tested_job until) tasks)
      (job_of_numbers release task.work (release + task.deadline) task.value) ≡ None
      → job ≡ job_of_numbers release task.work (release + task.deadline) task.value
      → admission.StandsFor new.admission (map (tested_job until) tasks ++ job ∷ [])
      → new.admission.rules ≡ old.admission.rules → new.version ≡ old.version
      → (cause_under until (Some rules) tasks (Task task) ≡ None) × KeepsDeclared until new rules (tasks ++ task ∷ [])
  took release job is none job_is stands same version =
      let tested : job_of_numbers release task.work (release + task.deadline) task.value ≡ tested_job until task =
      ap (λ r. job_of_numbers r task.work (r + task.deadline) task.value) is in
      let free : refusal_of old.admission.rules (map (tested_job until) tasks) (tested_job until task) ≡ None =
      ap (λ j. refusal_of old.admission.rules (map (tested_job until) tasks) j) (sym tested) ∙ none in (
        ap (option_map NotAdmitted) (answered None free),
        taken free (subst (λ j. admission.StandsFor new.admission (map (tested_job until) tasks ++ j ∷ []))
            (job_is ∙ tested) stands)
            same version,
      )

  -- it isn't admitted
  pub not_taken : (release : ℕ) → release ≡ task.offset + (count_before until task - 1) * task.period → (r : Refused)
      → refusal_of old.admission.rules (map (tested_job until) tasks)
      (job_of_numbers release task.work (release + task.deadline) task.value) ≡ Some (refusal_of_refused r)
      → cause_under until (Some rules) tasks (Task task) ≡ Some (cause_of_fault (cause_of_refused r))
  not_taken release is r refuses = ap (option_map NotAdmitted) (answered (Some (refusal_of_refused r))
      (ap (λ n. refusal_of old.admission.rules (map (tested_job until) tasks)
      (job_of_numbers n task.work (n + task.deadline) task.value)) (sym is) ∙ refuses)) ∙ same r where
        same : (r : Refused) → Some (NotAdmitted (refusal_of_refused r)) ≡ Some (cause_of_fault (cause_of_refused r))
        same refused.BadJob = refl
        same refused.Count = refl
        same refused.Total = refl
        same (refused.Ratio other) = refl

module _ (until : ℕ) (task : PeriodicTask) (rules : Rules) (tasks : List PeriodicTask) (old : Declaration)
    (keeps : KeepsDeclared until old rules tasks) where
  -- a tested job that isn't admitted names the other one
  pub named : (release : ℕ) → release ≡ task.offset + (count_before until task - 1) * task.period → (r : Refused)
      → admitting.NamesOther old.admission.rules.ratio (map (tested_job until) tasks)
      (job_of_numbers release task.work (release + task.deadline) task.value) r
      → NamesOther until (Some (Task task)) (Some rules) tasks (cause_of_refused r)
  named release is refused.BadJob names = tt
  named release is refused.Count names = tt
  named release is refused.Total names = tt
  named release is (refused.Ratio other) names = record {
    under = rules;
    rules_are = refl;
    task = task;
    line_is = refl;
    earlier = subst (λ k. IsOther k (map (tested_job until) tasks) (tested_job until task) other)
        (sym (ap (λ (r : Rules). r.ratio) keeps.rules_are))
        (subst (λ j. IsOther old.admission.rules.ratio (map (tested_job until) tasks) j other)
        (ap (λ r. job_of_numbers r task.work (r + task.deadline) task.value) is) names);
  }

-- ---- the end line

-- a text that has ended has a ratio
pub none_ended : (intake : TaskIntake) → intake.declared ≡ None → (until : ℕ) (x : List ℕ)
    → StandsAt until progress.Ended intake (account until x) → ⊥
none_ended intake none until x it = let clash : true ≡ false = sym it.2
    ∙ ap (λ (o : Option Declaration). is_some o) none in cc

-- ---- a line

module _ (until : ℕ) (old mid : TaskIntake) (ls : List (List ℕ)) (l : List ℕ) (keeps : Keeps until old ls)
    (lines_are : mid.lines ≡ old.lines + 1)
  where
    -- the account in which it is counted
    abbrev pub a : TaskAccount
    a = counted (account_of_lines until ls)

    -- what is kept of that
    pub keeps_counted : mid.until ≡ old.until → mid.tasks.items ≡ old.tasks.items → mid.declared ≡ old.declared
        → KeepsAccount until mid a
    keeps_counted until_is tasks_are declared_is = record {
      until_is = until_is ∙ keeps.keeps.until_is;
      known = keeps.keeps.known;
      counted = omega (arith, lines_are, keeps.keeps.counted);
      tasks_are = tasks_are ∙ keeps.keeps.tasks_are;
      rules = subst (λ o. KeepsRules until o (account_of_lines until ls).rules (account_of_lines until ls).tasks)
          (sym declared_is)
          keeps.keeps.rules;
    }

    -- with one of the forms
    pub line_taken : (read : TaskLine) (p : Progress) (new : TaskIntake) → mid.lines ≤ most_lines Two
        → task_line l ≡ Some read
        → StandsAt until p new (with_line a read (cause_of until a read))
        → StandsAt until p new (account_of_lines until (ls ++ l ∷ []))
    line_taken read p new few is stands = subst (StandsAt until p new) (sym (next_of until ls l keeps.stands
        ∙ line_as until a l (Some read) (omega (arith, few, lines_are, keeps.keeps.counted)) is)) stands

    -- with none
    pub line_bad : mid.lines ≤ most_lines Two → task_line l ≡ None
        → StandsAt until (progress.Refused cause.Line) mid (account_of_lines until (ls ++ l ∷ []))
    line_bad few is = ap (λ (b : TaskAccount). b.standing) (next_of until ls l keeps.stands
        ∙ line_as until a l None (omega (arith, few, lines_are, keeps.keeps.counted)) is)
        ∙ ap (λ n. Faulty n feed.Line)
        (let e : a.lines ≡ mid.lines = omega (arith, lines_are, keeps.keeps.counted) in e)

    -- one too many
    pub line_many : most_lines Two < mid.lines
        → StandsAt until (progress.Refused cause.Lines) mid (account_of_lines until (ls ++ l ∷ []))
    line_many many = ap (λ (b : TaskAccount). b.standing) (next_of until ls l keeps.stands
        ∙ many_lines until a l (omega (arith, many, lines_are, keeps.keeps.counted)))
        ∙ ap (λ n. Faulty n feed.Lines)
        (let e : a.lines ≡ mid.lines = omega (arith, lines_are, keeps.keeps.counted) in e)

-- that a line is counted changes nothing of what it names
pub named_before : (until : ℕ) (l : Option TaskLine) (a : TaskAccount) (p : Progress) → NamesAt until l (counted a) p
    → NamesAt until l a p
named_before until l a progress.Open names = tt
named_before until l a progress.Ended names = tt
named_before until l a (progress.Refused cause) names = names
named_before until l a progress.NoMemory names = tt

-- a text that goes on behind a line
pub keeps_more : (until : ℕ) (new : TaskIntake) (ls : List (List ℕ)) → new.lines ≤ most_lines Two
    → StandsAt until progress.Open new (account_of_lines until ls) → Keeps until new ls
keeps_more until new ls few stands = record { few = few; stands = stands.0; keeps = stands.1 }

-- ---- a text with one line more

module _ (until : ℕ) (x y l : List ℕ) (is : lines_of y ≡ lines_of x ++ l ∷ []) where
  -- how it stands
  pub text_at : (p : Progress) (new : TaskIntake) → StandsAt until p new (account_of_lines until (lines_of x ++ l ∷ []))
      → StandsAt until p new (account until y)
  text_at p new stands = subst (λ ls. StandsAt until p new (account_of_lines until ls)) (sym is) stands

  -- what it names
  pub text_names : (p : Progress) (old : TaskIntake) → Keeps until old (lines_of x)
      → NamesAt until (task_line l) (account_of_lines until (lines_of x)) p → NamesIn until p y
  text_names progress.Open old keeps names = tt
  text_names progress.Ended old keeps names = tt
  text_names (progress.Refused cause) old keeps names =
      record { before = lines_of x; line = l; lines = is; good = keeps.stands; other = names }
  text_names progress.NoMemory old keeps names = tt

  -- it goes on
  pub text_stands : (text : TaskText) → cutting.StandsFor text.lines y
      → (length l ≤ 128 → is_too_long (rest_of y) ≡ false) → Keeps until text.intake (lines_of x ++ l ∷ [])
      → TextStands until text y
  text_stands text cut short keeps = record {
    cut = cut;
    short = short (all_last (λ m. length m ≤ 128) (lines_of x) l
        (lines_good until (lines_of x ++ l ∷ []) no_lines keeps.stands).short);
    keeps = subst (Keeps until text.intake) (sym is) keeps;
  }
