-- A fault is kept and answered.
use Rattle.std.proofs.Common.{inr, ◌≡◌, ℕ, suc, ◌+◌, List, sym, ap, ◌∙◌, subst, refl, arith, Err, None, Some, rules}
use Rattle.std.proofs.Common.{option_map}
use Rattle.dover_model.specs.Common.{Open, account_of_lines, read_line, feed_line}
use Rattle.dover_model.specs.Feed as model
use Rattle.event_feed.specs.Kept.{Kept, KeepsAccount, IsCounted, cause_of_fault, StandsFor, standing_of, has_ended}
use Rattle.event_feed.specs.Kept.{fault_of}
use Rattle.event_feed.specs.Answers.{IsFed, counted}
use Rattle.event_feed.proofs.Taking.{next_account, fault_stays, goes_on, is_going, keeps_fault, keeps_fed}
use Rattle.event_feed.proofs.Taking.{answers_fault}
use Rattle.line_text.specs.feeds.Form.{form_of}
use Rattle.event_feed.specs.declared.intake.Standing.TheVariants as standings
use Rattle.event_feed.specs.Reading.{IsTaken}
use Rattle.event_feed.proofs.intake.Intake.take.Goals as goal

-- what an intake that goes on keeps of the lines so far
record GoesOn (inside : Kept) (ls : List (List ℕ)) : Type 0 where
  before : StandsFor inside ls
  opened : (account_of_lines ls).standing ≡ Open
  counts : inside.lines + 1 ≡ suc (account_of_lines ls).lines

going_on : (inside now : Kept) → inside ≡ now → inside.standing ≡ standings.Open → (ls : List (List ℕ))
    → StandsFor now ls → GoesOn inside ls
going_on inside now same open_still ls it = record {
  before = before;
  opened = sym before.by_account.standing ∙ ap standing_of open_still;
  counts = omega (arith, before.by_account.counted);
} where
  before : StandsFor inside ls
  before = subst (λ k. StandsFor k ls) (sym same) it

pub returns-in-Ok-clause-stands : goal.returns-in-Ok-clause-stands
returns-in-Ok-clause-stands c ls text is it =
    let still = goes_on c.self.inside.standing (ap has_ended c.self.view_is ∙ c.requires.unended)
    c.in_default.not-Faulty in
    let on = going_on _ _ c.self.view_is still ls it in
    keeps_fed ls text c.read.new.session (c.self.inside.lines + 1) c.in-Ok.fed on.opened on.counts (search rules)
    (c.in-Ok.ensures.taken (counted (account_of_lines ls)) text is on.opened (sym on.counts)
    on.before.by_account.session) c.self.inside.standing still

pub returns-in-Err : goal.returns-in-Err
returns-in-Err c = record {
  stands = λ ls text is it. keeps_fault ls text c.read.new.session (c.self.inside.lines + 1) c.in-Err.cause
      (on ls it).opened (on ls it).counts
      (taken ls text is it);
  answer = λ ls text is it. answers_fault ls text c.read.new.session (c.self.inside.lines + 1) c.in-Err.cause
      (on ls it).opened (on ls it).counts
      (taken ls text is it);
  going = tt;
  ended = (λ e. cc, λ e. cc);
  fault = refl;
  counted = omega (arith, ap (λ k. k.lines) c.self.view_is);
  again = λ fault is. absurd (let e : None ≡ Some fault =
      ap (λ s. fault_of (record { lines = c.self.inside.lines; session = c.self.inside.session; standing = s }))
      (sym still_open)
      ∙ ap fault_of c.self.view_is ∙ is in cc);
} where
  still_open : c.self.inside.standing ≡ standings.Open
  still_open = goes_on c.self.inside.standing (ap has_ended c.self.view_is ∙ c.requires.unended) c.in_default.not-Faulty

  on : (ls : List (List ℕ)) → StandsFor c.args.self.now ls → GoesOn (record {
    lines = c.self.inside.lines;
    session = c.self.inside.session;
    standing = c.self.inside.standing;
  }) ls
  on ls it = going_on _ _ c.self.view_is still_open ls it

  taken : (ls : List (List ℕ)) (text : List ℕ) → feed_line text ≡ option_map form_of c.args.line
      → StandsFor c.args.self.now ls
      → IsTaken c.read.new.session (feed_line text) (counted (account_of_lines ls))
      (read_line (counted (account_of_lines ls)) text) (Err c.in-Err.cause)
  taken ls text is it = c.in-Err.ensures.taken (counted (account_of_lines ls)) text is (on ls it).opened
      (sym (on ls it).counts) (on ls it).before.by_account.session

pub returns-in-Ok-clause-going : goal.returns-in-Ok-clause-going
returns-in-Ok-clause-going c not_over =
    is_going (c.self.inside.lines + 1) c.read.new.session c.self.inside.standing c.in-Ok.ensures.declared
    (goes_on c.self.inside.standing (ap has_ended c.self.view_is ∙ c.requires.unended) c.in_default.not-Faulty)

pub returns-in-Ok-clause-answer : goal.returns-in-Ok-clause-answer
returns-in-Ok-clause-answer c ls text is it =
    let on = going_on _ _ c.self.view_is (goes_on c.self.inside.standing
    (ap has_ended c.self.view_is ∙ c.requires.unended) c.in_default.not-Faulty) ls it in (
      on.opened,
      subst (λ a. IsFed (counted (account_of_lines ls)) a c.in-Ok.fed) (sym (next_account ls text on.opened))
          (c.in-Ok.ensures.taken (counted (account_of_lines ls)) text is on.opened (sym on.counts)
          on.before.by_account.session).gives,
    )

pub returns-in-Faulty-clause-answer : goal.returns-in-Faulty-clause-answer
returns-in-Faulty-clause-answer c ls text is it =
    let faulty : (account_of_lines ls).standing
    ≡ model.Faulty c.in-Faulty.fault.line (cause_of_fault c.in-Faulty.fault.cause) =
    sym it.by_account.standing ∙ ap (λ (k : Kept). standing_of k.standing) (sym c.self.view_is)
    ∙ ap standing_of c.in-Faulty.is in
    inr (record { faulty = faulty; after_is = fault_stays ls text _ _ faulty })

pub returns-in-Faulty-clause-stands : goal.returns-in-Faulty-clause-stands
returns-in-Faulty-clause-stands c ls text is it =
    let faulty : (account_of_lines ls).standing
    ≡ model.Faulty c.in-Faulty.fault.line (cause_of_fault c.in-Faulty.fault.cause) =
    sym it.by_account.standing ∙ ap (λ (k : Kept). standing_of k.standing) (sym c.self.view_is)
    ∙ ap standing_of c.in-Faulty.is in
    subst (KeepsAccount c.args.self.now) (sym (fault_stays ls text _ _ faulty)) it.by_account

pub returns-in-Ok-clause-again : goal.returns-in-Ok-clause-again
returns-in-Ok-clause-again c fault is = absurd (let e : None ≡ Some fault =
    ap (λ s. fault_of (record { lines = c.self.inside.lines; session = c.self.inside.session; standing = s }))
    (sym (goes_on c.self.inside.standing (ap has_ended c.self.view_is ∙ c.requires.unended) c.in_default.not-Faulty))
    ∙ ap fault_of c.self.view_is ∙ is in cc)

pub invariant_of-self-in-Ok : goal.invariant_of-self-in-Ok
invariant_of-self-in-Ok c = subst (λ s. IsCounted s (c.self.inside.lines + 1))
    (sym (goes_on c.self.inside.standing (ap has_ended c.self.view_is ∙ c.requires.unended) c.in_default.not-Faulty))
    c.in-Ok.ensures.few

pub returns-in-Ok-clause-fault : goal.returns-in-Ok-clause-fault
returns-in-Ok-clause-fault c =
    ap (λ s. fault_of (record { lines = c.self.inside.lines + 1; session = c.read.new.session; standing = s }))
    (goes_on c.self.inside.standing (ap has_ended c.self.view_is ∙ c.requires.unended) c.in_default.not-Faulty)
