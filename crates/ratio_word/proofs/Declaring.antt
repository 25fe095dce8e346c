-- What a line that declares rules makes of what is kept.
use Rattle.std.proofs.Common.{◌≡◌, refl, sym, ap, ◌∙◌, subst, true, false, cond, Option, Some, None, is_some, []}
use Rattle.std.proofs.Common.{arith, length}
use Rattle.dover_model.specs.Common.{Declaration as Rules, Faulty, Open, rules_with}
use Rattle.dover_model.specs.Feed as feed
use Rattle.dover_model.proofs.lists.Tests.{never}
use Rattle.event_feed.specs.declared.faults.Cause.TheVariants as cause
use Rattle.task_words.specs.declared.reading.lines.TaskLine.TheVariants.{Declared, Factored, Task, End}
use Rattle.ratio_word.specs.Account.{TextAccount, cause_of, cause_under, rules_of, with_good_line, with_line}
use Rattle.ratio_word.specs.Keeping.{Declares, KeepsAccount, KeepsRules, StandsAt}
use Rattle.ratio_word.specs.declared.intake.Declaration.{Declaration}
use Rattle.ratio_word.specs.declared.intake.Intake.{Intake}
use Rattle.ratio_word.specs.declared.intake.Progress.TheVariants as progress
use Rattle.ratio_word.specs.declared.lines.TextLine.{TextLine}
use Rattle.ratio_word.specs.declared.lines.TextLine.TheVariants.{Plain, Job, Mark}

module _ (read : TextLine) (a : TextAccount) (intake : Intake) (keeps : KeepsAccount intake a) where
  -- a line at fault, as the first or behind the rules
  pub at_fault : cause_of a read ≡ Some feed.Declared
      → StandsAt (progress.Refused cause.Declared) intake (with_line a read (cause_of a read))
  at_fault is = ap (λ c. (with_line a read c).standing) is
      ∙ ap (λ n. Faulty n feed.Declared) (sym keeps.counted)

  -- no rules were declared before
  pub fresh : is_some intake.declared ≡ false → (a.rules ≡ None) × (a.jobs ≡ [])
  fresh none = by_rules a.rules intake.declared refl refl keeps.rules where
    by_rules : (r : Option Rules) (d : Option Declaration) → a.rules ≡ r → intake.declared ≡ d
        → KeepsRules d r a.jobs → (a.rules ≡ None) × (a.jobs ≡ [])
    by_rules None None e f kept = (e, kept)
    by_rules None (Some d) e f kept = absurd kept
    by_rules (Some rules) None e f kept = absurd kept
    by_rules (Some rules) (Some d) e f kept = never (sym none ∙ ap (λ (o : Option Declaration). is_some o) f)

  -- and these were
  pub declared_before : is_some intake.declared ≡ true → (rules : Rules) × (a.rules ≡ Some rules)
  declared_before some = by_rules a.rules intake.declared refl refl keeps.rules where
    by_rules : (r : Option Rules) (d : Option Declaration) → a.rules ≡ r → intake.declared ≡ d
        → KeepsRules d r a.jobs → (rules : Rules) × (a.rules ≡ Some rules)
    by_rules None None e f kept = never (sym (ap (λ (o : Option Declaration). is_some o) f) ∙ some)
    by_rules None (Some d) e f kept = absurd kept
    by_rules (Some rules) None e f kept = absurd kept
    by_rules (Some rules) (Some d) e f kept = (rules, e)

  -- a first line that declares nothing
  pub undeclared : is_some intake.declared ≡ false → rules_of read ≡ None
      → StandsAt (progress.Refused cause.Declared) intake (with_line a read (cause_of a read))
  undeclared none is = at_fault (ap (λ r. cause_under r (length a.jobs) read) (fresh none).0
      ∙ ap (λ (o : Option Rules). cond (is_some o) None (Some feed.Declared)) is)

module _ (read : TextLine) (o : Option Rules) (declares : Declares read o) where
  -- what the line declares
  rules_read : (l : TextLine) → Declares l o → rules_of l ≡ o
  rules_read (Plain (Declared p q version)) e = sym e
  rules_read (Plain (Factored p q version b c)) e = sym e
  rules_read (Plain (Task task)) e = absurd e
  rules_read (Plain End) e = absurd e
  rules_read (Job release work deadline value) e = absurd e
  rules_read Mark e = absurd e

  -- a second one
  second : (l : TextLine) → Declares l o → (rules : Rules) (a : TextAccount) → a.rules ≡ Some rules
      → cause_of a l ≡ Some feed.Declared
  second (Plain (Declared p q version)) e rules a is =
      ap (λ r. cause_under r (length a.jobs) (Plain (Declared p q version))) is
  second (Plain (Factored p q version b c)) e rules a is =
      ap (λ r. cause_under r (length a.jobs) (Plain (Factored p q version b c))) is
  second (Plain (Task task)) e rules a is = absurd e
  second (Plain End) e rules a is = absurd e
  second (Job release work deadline value) e rules a is = absurd e
  second Mark e rules a is = absurd e

  -- a good line
  good_line : (a : TextAccount) (l : TextLine) → Declares l o → with_good_line a l ≡ record a { rules = rules_of l }
  good_line a (Plain (Declared p q version)) e = refl
  good_line a (Plain (Factored p q version b c)) e = refl
  good_line a (Plain (Task task)) e = absurd e
  good_line a (Plain End) e = absurd e
  good_line a (Job release work deadline value) e = absurd e
  good_line a Mark e = absurd e

  module _ (a : TextAccount) (intake : Intake) (keeps : KeepsAccount intake a) where
    -- rules were declared before
    pub twice : is_some intake.declared ≡ true
        → StandsAt (progress.Refused cause.Declared) intake (with_line a read (cause_of a read))
    twice some = let it = declared_before read a intake keeps some in
        at_fault read a intake keeps (second read declares it.0 a it.1)

    -- the line declares none
    pub none_declared : is_some intake.declared ≡ false → o ≡ None
        → StandsAt (progress.Refused cause.Declared) intake (with_line a read (cause_of a read))
    none_declared none is = undeclared read a intake keeps none (rules_read read declares ∙ is)

    -- the line declares these rules
    pub declared_now : is_some intake.declared ≡ false → a.standing ≡ Open → (d : Declaration)
        → o ≡ Some (rules_with d.ratio d.version) → d.count ≡ 0 → d.extremes ≡ None
        → StandsAt progress.Open (record intake { declared = Some d }) (with_line a read (cause_of a read))
    declared_now none opened d is no_job no_extremes =
        subst (StandsAt progress.Open (record intake { declared = Some d })) (sym (
        ap (with_line a read) (ap (λ r. cause_under r (length a.jobs) read) (fresh read a intake keeps none).0
        ∙ ap (λ (r : Option Rules). cond (is_some r) None (Some feed.Declared)) (rules_read read declares ∙ is))
        ∙ good_line a read declares ∙ ap (λ r. record a { rules = r }) (rules_read read declares ∙ is)
        )) (opened, kept) where
          kept : KeepsAccount (record intake { declared = Some d })
              (record a { rules = Some (rules_with d.ratio d.version) })
          kept = record {
            counted = keeps.counted;
            rules = rw ((fresh read a intake keeps none).1, no_job, no_extremes) (record {
              rules_are = refl;
              count = refl;
              few = omega arith;
              extremes = refl;
            });
          }
