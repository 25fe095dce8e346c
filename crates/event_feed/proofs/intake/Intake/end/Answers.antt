-- At an end of input the lines of an open feed are all counted.
use Rattle.std.proofs.Common.{◌≡◌, ◌+◌, suc, length, sym, ap, ◌∙◌, subst, arith, inl}
use Rattle.dover_model.specs.Feed.{Open, account_of_lines}
use Rattle.event_feed.specs.declared.faults.Cause.TheVariants as cause
use Rattle.event_feed.specs.declared.faults.FeedFault.{FeedFault}
use Rattle.event_feed.specs.Kept.{KeepsStanding, standing_of}
use Rattle.event_feed.proofs.Counting.{lines_counted}
use Rattle.event_feed.proofs.intake.Intake.end.Goals as goal

pub returns-in-Open-clause-answer : goal.returns-in-Open-clause-answer
returns-in-Open-clause-answer c ls it =
    let kept : KeepsStanding (record
    { lines = c.self.inside.lines; session = c.self.inside.session; standing = c.self.inside.standing })
    (account_of_lines ls) = subst (λ k. KeepsStanding k (account_of_lines ls)) (sym c.self.view_is) it in
    let opened : (account_of_lines ls).standing ≡ Open = sym kept.standing ∙ ap standing_of c.in-Open.is in
    let counts : c.self.inside.lines + 1 ≡ suc (length ls) =
    omega (arith, kept.counted, lines_counted ls opened) in
    inl (opened, ap (λ n. let fault : FeedFault = record { line = n; cause = cause.Short } in fault) counts)
