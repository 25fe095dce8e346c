-- What is kept after the skipped lines.
use Rattle.std.proofs.Common.{◌+◌, ◌++◌, replicate, sym, subst}
use Rattle.dover_model.specs.Common.{TickLine, feed_text, account_of_lines}
use Rattle.event_feed.specs.Kept.{StandsFor, IsGoing}
use Rattle.event_feed.proofs.Taking.{is_going}
use Rattle.event_feed.proofs.Skipping.{keeps_ticks, still_open}
use Rattle.event_feed.proofs.intake.Intake.skip.Goals as goal

pub returns-clause-stands : goal.returns-clause-stands
returns-clause-stands c ls it =
    subst (λ k. StandsFor (record { lines = k.lines + c.args.lines; session = k.session; standing = k.standing })
    (ls ++ replicate c.args.lines (feed_text (TickLine (account_of_lines ls).mark)))) (sym c.self.view_is)
    (keeps_ticks c.args.self.now ls c.args.lines c.requires.going c.requires.room it)

pub returns-clause-going : goal.returns-clause-going
returns-clause-going c =
    subst (λ k. IsGoing (record { lines = k.lines + c.args.lines; session = k.session; standing = k.standing }))
    (sym c.self.view_is)
    (is_going (c.args.self.now.lines + c.args.lines) c.args.self.now.session c.args.self.now.standing
    c.requires.going.declared
    (still_open c.args.self.now c.requires.going))
