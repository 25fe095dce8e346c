use Rattle.std.proofs.Common.{◌++◌, ◌∷◌, false, ◌-◌, drop, sym, ◌∙◌, length-drop, take_all, append-nil, ◌≡◌, ℕ, List}
use Rattle.std.proofs.Common.{length, ap, subst, arith}
use Rattle.std.specs.Fmt.{digits}
use Rattle.std.proofs.lemmas.List.{take_rest}
use Rattle.dover_model.specs.Common.{job_of_numbers, feed_text, HasNumerals}
use Rattle.line_text.specs.declared.feeds.lines.FeedLine.{FeedLine}
use Rattle.line_text.specs.feeds.Form.{form_of}
use Rattle.event_feed.proofs.Spelling.{numbers_fit}
use Rattle.event_feed.proofs.intake.keep_numbers.Goals as goal

pub keep-requires-clause-fits : goal.keep-requires-clause-fits
keep-requires-clause-fits c =
    let line : List ℕ = c.args.line.now in
    let text = subst (λ (read : FeedLine). feed_text (form_of read) ≡ line) c.in-Job.is c.requires.text in
    let short = subst (λ (read : FeedLine). HasNumerals (form_of read)) c.in-Job.is c.requires.short in
    let fits = numbers_fit line
    (job_of_numbers c.in-Job.release c.in-Job.work c.in-Job.deadline c.in-Job.value) short text in
    omega (arith, fits, ap (λ (bs : List ℕ). length bs) (take_rest line 3))

pub keep-requires-clause-spelled : goal.keep-requires-clause-spelled
keep-requires-clause-spelled c =
    let text = subst (λ (read : FeedLine). feed_text (form_of read) ≡ c.args.line.now) c.in-Job.is c.requires.text in
    take_all (length c.args.line.now - 3) (drop 3 c.args.line.now) (omega (arith, length-drop 3 c.args.line.now))
    ∙ ap (λ (l : List ℕ). drop 3 l) (sym text)
    ∙ ap (λ (ds : List ℕ). 32 ∷ (digits 10 false c.in-Job.release ++ 32 ∷ (digits 10 false c.in-Job.work
    ++ 32 ∷ (digits 10 false c.in-Job.deadline ++ 32 ∷ ds)))) (sym (append-nil (digits 10 false c.in-Job.value)))
