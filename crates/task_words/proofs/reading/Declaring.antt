-- What a line of a ratio makes of what is kept.
use Rattle.std.proofs.Common.{◌≡◌, ℕ, [], refl, sym, ap, ◌∙◌, subst, true, false, cond, Option, Some, None}
use Rattle.std.proofs.Common.{is_some, arith}
use Rattle.dover_model.specs.Common.{IsRatio, Declaration as Rules, IsDeclarable, Open}
use Rattle.dover_model.specs.Common.{Faulty, rules_with}
use Rattle.dover_model.specs.Feed as feed
use Rattle.dover_model.proofs.sessions.Accounts.{declared_good, factor_good}
use Rattle.dover_model.proofs.lists.Tests.{none_is_some}
use Rattle.admission.specs.Kept as admission
use Rattle.event_feed.specs.declared.faults.Cause.TheVariants as cause
use Rattle.task_words.specs.tasks.Limits.{AreTasks, task_rules}
use Rattle.task_words.specs.reading.Account.{TaskAccount, rules_of_line, with_line, with_good_line, cause_of}
use Rattle.task_words.specs.reading.Account.{cause_under}
use Rattle.task_words.specs.reading.Keeping.{Declares, KeepsDeclared, KeepsRules, KeepsAccount, StandsAt}
use Rattle.task_words.specs.declared.reading.intake.Declaration.{Declaration}
use Rattle.task_words.specs.declared.reading.intake.TaskIntake.{TaskIntake}
use Rattle.task_words.specs.declared.reading.intake.Progress.TheVariants as progress
use Rattle.task_words.specs.declared.reading.lines.TaskLine.{TaskLine}
use Rattle.task_words.specs.declared.reading.lines.TaskLine.TheVariants.{Declared, Factored, Task, End}

-- the rules that a line declares may be declared
rules_good : (read : TaskLine) (rules : Rules) → rules_of_line read ≡ Some rules
    → IsRatio rules.ratio × IsDeclarable rules
rules_good (Declared p q version) rules e = declared_good p q version rules e
rules_good (Factored p q version b c) rules e = factor_good p q b c version rules e
rules_good (Task task) rules e = none_is_some e
rules_good End rules e = none_is_some e

module _ (until : ℕ) (read : TaskLine) (a : TaskAccount) (o : Option Rules) (declares : Declares read o)
    (intake : TaskIntake) (keeps : KeepsAccount until intake a) where
  -- what the line declares
  rules_read : (l : TaskLine) → Declares l o → rules_of_line l ≡ o
  rules_read (Declared p q version) e = sym e
  rules_read (Factored p q version b c) e = sym e
  rules_read (Task task) e = absurd e
  rules_read End e = absurd e

  -- a second one
  second : (l : TaskLine) → Declares l o → (rules : Rules) → cause_under until (Some rules) a.tasks l
      ≡ Some feed.Declared
  second (Declared p q version) e rules = refl
  second (Factored p q version b c) e rules = refl
  second (Task task) e rules = absurd e
  second End e rules = absurd e

  -- a line at fault
  at_fault : cause_of until a read ≡ Some feed.Declared
      → StandsAt until (progress.Refused cause.Declared) intake (with_line a read (cause_of until a read))
  at_fault is = ap (λ c. (with_line a read c).standing) is
      ∙ ap (λ n. Faulty n feed.Declared) (sym keeps.counted)

  -- rules were declared before
  pub twice : is_some intake.declared ≡ true
      → StandsAt until (progress.Refused cause.Declared) intake (with_line a read (cause_of until a read))
  twice some = by_rules a.rules intake.declared refl refl keeps.rules where
    by_rules : (r : Option Rules) (d : Option Declaration) → a.rules ≡ r → intake.declared ≡ d
        → KeepsRules until d r a.tasks
        → StandsAt until (progress.Refused cause.Declared) intake (with_line a read (cause_of until a read))
    by_rules None None e f kept = absurd (let no : false ≡ true = sym (ap (λ (x : Option Declaration). is_some x) f)
        ∙ some in cc)
    by_rules None (Some d) e f kept = absurd kept
    by_rules (Some rules) d e f kept =
        at_fault (ap (λ r. cause_under until r a.tasks read) e ∙ second read declares rules)

  -- no rules were declared before
  fresh : is_some intake.declared ≡ false → (a.rules ≡ None) × (a.tasks ≡ [])
  fresh none = by_rules a.rules intake.declared refl refl keeps.rules where
    by_rules : (r : Option Rules) (d : Option Declaration) → a.rules ≡ r → intake.declared ≡ d
        → KeepsRules until d r a.tasks → (a.rules ≡ None) × (a.tasks ≡ [])
    by_rules None None e f kept = (e, kept)
    by_rules r (Some d) e f kept = absurd (let no : true ≡ false =
        sym (ap (λ (x : Option Declaration). is_some x) f) ∙ none in cc)
    by_rules (Some rules) None e f kept = absurd kept

  -- the line declares nothing
  pub nothing : is_some intake.declared ≡ false → o ≡ None
      → StandsAt until (progress.Refused cause.Declared) intake (with_line a read (cause_of until a read))
  nothing none is = at_fault (ap (λ r. cause_under until r a.tasks read) (fresh none).0
      ∙ ap (λ r. cond (is_some r) None (Some feed.Declared)) (rules_read read declares ∙ is))

  -- a good line
  good_line : (l : TaskLine) → Declares l o → with_good_line a l ≡ record a { rules = rules_of_line l }
  good_line (Declared p q version) e = refl
  good_line (Factored p q version b c) e = refl
  good_line (Task task) e = absurd e
  good_line End e = absurd e

  -- the line declares these rules
  pub declared_now : is_some intake.declared ≡ false → a.standing ≡ Open → (rules : Rules) → o ≡ Some rules
      → (d : Declaration) → rules ≡ rules_with d.admission.rules.ratio d.version
      → d.admission.rules ≡ task_rules rules.ratio → admission.StandsFor d.admission []
      → StandsAt until progress.Open (record intake { declared = Some d }) (with_line a read (cause_of until a read))
  declared_now none opened rules is d rules_are limits stands =
      subst (StandsAt until progress.Open (record intake { declared = Some d })) (sym (
      ap (with_line a read) (ap (λ r. cause_under until r a.tasks read) (fresh none).0
      ∙ ap (λ r. cond (is_some r) None (Some feed.Declared)) (rules_read read declares ∙ is))
      ∙ good_line read declares ∙ ap (λ r. record a { rules = r }) (rules_read read declares ∙ is)
      )) (opened, kept) where
        both : IsRatio rules.ratio × IsDeclarable rules
        both = rules_good read rules (rules_read read declares ∙ is)

        tasks : AreTasks until rules.ratio []
        tasks = record { each = tt; few = omega arith; densities = tt }

        declared : KeepsDeclared until d rules []
        declared = record {
          rules_are = rules_are;
          limits = limits;
          ratio = both.0;
          declarable = both.1;
          tested = stands;
          are = tasks;
        }

        kept : KeepsAccount until (record intake { declared = Some d }) (record a { rules = Some rules })
        kept = record {
          until_is = keeps.until_is;
          known = keeps.known;
          counted = keeps.counted;
          tasks_are = keeps.tasks_are;
          rules = subst (KeepsDeclared until d rules) (sym (fresh none).1) declared;
        }
