-- A text that goes on, or has ended.
use Rattle.std.proofs.Common.{◌≡◌, ◌+◌, ℕ, suc, List, length, ap, sym, ◌∙◌, true, false, arith}
use Rattle.dover_model.specs.Lines.{whole_lines}
use Rattle.event_feed.specs.Answers.{short_after}
use Rattle.event_feed.specs.declared.faults.Cause.TheVariants as cause
use Rattle.event_feed.specs.declared.faults.FeedFault.{FeedFault}
use Rattle.task_words.specs.reading.Account.{is_open, account}
use Rattle.task_words.specs.reading.Keeping.{TextStands, IsSo}
use Rattle.task_words.specs.declared.reading.intake.Progress.{Progress}
use Rattle.task_words.specs.declared.reading.intake.Progress.TheVariants as progress
use Rattle.task_words.specs.declared.reading.text.TaskText.{TaskText}
use Rattle.task_words.proofs.reading.Accounts.{goes_on, open_count}

-- the fault of a short text, at a line
abbrev pub short_at : ℕ → FeedFault
short_at n = record { line = n; cause = cause.Short }

-- it is that of the line behind the last
pub short_is : (until : ℕ) (text : TaskText) (x : List ℕ) → TextStands until text x
    → short_at (text.intake.lines + 1) ≡ short_after (length (whole_lines x))
short_is until text x it =
    let n : text.intake.lines + 1 ≡ suc (length (whole_lines x)) =
    omega (arith, it.keeps.keeps.counted, open_count until x it.keeps.stands it.short) in ap short_at n

-- what is kept of a text that goes on
pub going_stands : (until : ℕ) (p : Progress) (text : TaskText) (x : List ℕ) → IsSo until p text x
    → is_open (account until x) ≡ true → TextStands until text x
going_stands until progress.Open text x it on = it
going_stands until progress.Ended text x it on = absurd (let e : false ≡ true = ap goes_on (sym it.0) ∙ on in cc)
going_stands until (progress.Refused cause) text x it on =
    absurd (let e : false ≡ true = ap goes_on (sym it.0) ∙ on in cc)
going_stands until progress.NoMemory text x it on = absurd it
