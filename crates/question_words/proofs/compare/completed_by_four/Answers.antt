use Rattle.std.proofs.Common.{◌≡◌, List, subst, IfOk}
use Rattle.dover_model.specs.Common.{completed_value, Fraction, JobFacts, jobs_under}
use Rattle.dover_model.specs.declared.events.Version.TheVariants.{Four}
use Rattle.event_feed.specs.Listing.{listed_instance}
use Rattle.question_words.proofs.ByFour.{four_valid}
use Rattle.question_words.proofs.compare.completed_by_four.Goals as goal

pub completed-requires : goal.completed-requires
completed-requires g c = rw (c.with_some_factor-ratio.ensures, c.deref.ensures.value)
    (four_valid (listed_instance c.args.listed.now) c.requires.valid c.requires.listable)

pub returns-clause-value : goal.returns-clause-value
returns-clause-value g c =
    subst (λ (k : Fraction). IfOk c.completed.result
    (λ value. value ≡ completed_value (jobs_under Four k c.args.listed.now.jobs.items)))
    c.with_some_factor-ratio.ensures
    (subst (λ (js : List JobFacts). IfOk c.completed.result
    (λ value. value ≡ completed_value (jobs_under Four c.with_some_factor-ratio.result js))) c.deref.ensures.value
    c.completed.ensures.value)

pub returns-clause-count : goal.returns-clause-count
returns-clause-count g c = rw c.deref.ensures.value at c.completed.ensures.count
