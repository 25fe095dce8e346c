use Rattle.event_feed.proofs.FeedsOfJobs.{feed_is}
use Rattle.event_feed.proofs.laws.feeds_of_jobs_are_read.Goals as goal

pub returns : goal.returns
returns c = feed_is
