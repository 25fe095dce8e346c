use Rattle.std.proofs.Common.{subst}
use Rattle.dover_model.specs.Feed.{account_of_lines}
use Rattle.event_feed.specs.Listing.{ListsIn}
use Rattle.event_feed.proofs.Ending.{ended_jobs, none_ended}
use Rattle.event_feed.proofs.gathering.listed.Goals as goal

pub unreachable-requires : goal.unreachable-requires
unreachable-requires c = none_ended c.requires.0 c.requires.1 c.args.jobs.items c.args.done_lines.items
    (subst (λ o. ListsIn o c.args.jobs.items c.args.done_lines.items (account_of_lines c.requires.0)) c.in-None.is
    c.requires.2)

pub returns : goal.returns
returns c = λ ls few ended it. ended_jobs ls ended _ few
    (subst (λ o. ListsIn o c.args.jobs.items c.args.done_lines.items (account_of_lines ls)) c.in-Some.is it)
