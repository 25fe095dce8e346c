-- What a run of the feed completes.
use Rattle.std.proofs.Common.{◌≡◌, sym, ◌∙◌}
use Rattle.dover_model.specs.Run.{completed_value}
use Rattle.stated_jobs.specs.bait.BaitingRuns.{version_for, baiting_feed, CompletesLastAlone}
use Rattle.stated_jobs.proofs.bait.Completions.{completes_last_alone}
use Rattle.stated_jobs.specs.declared.bait.feed.Bait.TheInside.{Inside}
use Rattle.stated_jobs.specs.bait.Kept.{IsKept}
use Rattle.stated_jobs.proofs.bait.Giving.{kept_fits}
use Rattle.stated_jobs.proofs.bait.Validity.{some_bait, valid}

-- the last job of the chain, and no other
pub kept_alone : (a : Inside) → IsKept a → CompletesLastAlone a.k a.rounds (baiting_feed a.k a.rounds)
kept_alone a kept =
    let fits = kept_fits a kept in
    completes_last_alone a.k (version_for a.k) a.rounds kept.rounds
    (valid a.k a.rounds kept.ratio fits (some_bait a.k a.rounds kept.ratio kept.rounds fits)
    (version_for a.k))

-- the last value of the chain is what a run completes
pub kept_completed : (a : Inside) → IsKept a → a.chain.last ≡ completed_value (baiting_feed a.k a.rounds)
kept_completed a kept = kept.numbers.last ∙ sym (kept_alone a kept).worth
