-- What a line makes of what is kept.
use Rattle.std.proofs.Common.{◌≡◌, ◌≤◌, ◌<◌, ◌+◌, ◌^◌, ◌-◌, List, ◌∷◌, ◌++◌, [], ℕ, length, sym, ap, ◌∙◌, subst, Some}
use Rattle.std.proofs.Common.{None, arith}
use Rattle.dover_model.specs.declared.events.Version.TheVariants.{Three}
use Rattle.dover_model.specs.Common.{Faulty, most_lines}
use Rattle.dover_model.specs.Feed as feed
use Rattle.dialogue.proofs.Reading.{on_counted}
use Rattle.event_feed.specs.declared.faults.Cause.TheVariants as cause
use Rattle.ratio_word.specs.Account.{TextAccount, account_of_lines, cause_of, is_open, no_lines, with_line}
use Rattle.ratio_word.specs.Keeping.{KeepsAccount, KeepsRules, StandsAt}
use Rattle.ratio_word.specs.Lines.{text_line}
use Rattle.ratio_word.specs.Talk.{ratio_reading}
use Rattle.ratio_word.specs.declared.intake.Intake.{Intake}
use Rattle.ratio_word.specs.declared.intake.Progress.{Progress}
use Rattle.ratio_word.specs.declared.intake.Progress.TheVariants as progress
use Rattle.ratio_word.specs.declared.lines.TextLine.{TextLine}
use Rattle.ratio_word.proofs.Accounts.{counted, line_as, many_lines, next_of, orderly}

-- ---- a line

module _ (old mid : Intake) (ls : List (List ℕ)) (l : List ℕ) (keeps : StandsAt progress.Open old (account_of_lines ls))
    (lines_are : mid.lines ≡ old.lines + 1)
  where
    -- the account in which it is counted
    abbrev pub a : TextAccount
    a = counted (account_of_lines ls)

    -- what is kept of that
    pub keeps_counted : mid.declared ≡ old.declared → KeepsAccount mid a
    keeps_counted declared_is = record {
      counted = omega (arith, lines_are, keeps.1.counted);
      rules = subst (λ o. KeepsRules o (account_of_lines ls).rules (account_of_lines ls).jobs) (sym declared_is)
          keeps.1.rules;
    }

    -- with one of the forms
    pub line_taken : (read : TextLine) (p : Progress) (new : Intake) → mid.lines ≤ most_lines Three
        → text_line l ≡ Some read
        → StandsAt p new (with_line a read (cause_of a read))
        → StandsAt p new (account_of_lines (ls ++ l ∷ []))
    line_taken read p new few is stands = subst (StandsAt p new) (sym (next_of ls l keeps.0
        ∙ line_as a l (Some read) (omega (arith, few, lines_are, keeps.1.counted)) is)) stands

    -- with none
    pub line_bad : mid.lines ≤ most_lines Three → text_line l ≡ None
        → StandsAt (progress.Refused cause.Line) mid (account_of_lines (ls ++ l ∷ []))
    line_bad few is = ap (λ (b : TextAccount). b.standing) (next_of ls l keeps.0
        ∙ line_as a l None (omega (arith, few, lines_are, keeps.1.counted)) is)
        ∙ ap (λ n. Faulty n feed.Line)
        (let e : a.lines ≡ mid.lines = omega (arith, lines_are, keeps.1.counted) in e)

    -- one too many
    pub line_many : most_lines Three < mid.lines
        → StandsAt (progress.Refused cause.Lines) mid (account_of_lines (ls ++ l ∷ []))
    line_many many = ap (λ (b : TextAccount). b.standing) (next_of ls l keeps.0
        ∙ many_lines a l (omega (arith, many, lines_are, keeps.1.counted)))
        ∙ ap (λ n. Faulty n feed.Lines)
        (let e : a.lines ≡ mid.lines = omega (arith, lines_are, keeps.1.counted) in e)

-- where a text goes on, its lines can be counted on
pub room : (intake : Intake) (ls : List (List ℕ)) → StandsAt progress.Open intake (account_of_lines ls)
    → intake.lines < 2 ^ 64 - 1
room intake ls it =
    let few = on_counted ratio_reading orderly ls (ap (λ s. is_open (record no_lines { standing = s })) it.0) in
    let count : (account_of_lines ls).lines ≡ length ls = few.0 in
    let most : length ls ≤ 2 ^ 40 = few.1 in
    omega (arith, count, most, it.1.counted)
