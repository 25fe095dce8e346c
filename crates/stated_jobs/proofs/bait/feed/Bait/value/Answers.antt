use Rattle.std.proofs.Common.{ap, ◌∙◌, subst}
use Rattle.dover_model.specs.Common.{last_link, completed_value}
use Rattle.stated_jobs.specs.bait.BaitingRuns.{baiting_feed, CompletesLastAlone}
use Rattle.stated_jobs.specs.bait.Baiting.{Baiting}
use Rattle.stated_jobs.proofs.bait.Worths.{kept_completed, kept_alone}
use Rattle.stated_jobs.proofs.bait.feed.Bait.value.Goals as goal

pub returns-clause-last : goal.returns-clause-last
returns-clause-last c = c.self.invariant.numbers.last ∙ ap (λ (b : Baiting). last_link b.ratio b.rounds) c.self.view_is

pub returns-clause-completed : goal.returns-clause-completed
returns-clause-completed c = kept_completed c.self.inside c.self.invariant
    ∙ ap (λ (b : Baiting). completed_value (baiting_feed b.ratio b.rounds)) c.self.view_is

pub returns-clause-alone : goal.returns-clause-alone
returns-clause-alone c =
    subst (λ (b : Baiting). CompletesLastAlone b.ratio b.rounds (baiting_feed b.ratio b.rounds)) c.self.view_is
    (kept_alone c.self.inside c.self.invariant)
