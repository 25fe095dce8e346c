-- What is counted of the printed steps of a run.
use Rattle.std.specs.Prelude.{◌≡◌, ◌≤◌, ◌*◌, List, length, fold}
use Rattle.dover_model.specs.declared.events.Event.{Event}
use Rattle.dover_model.specs.Common.{most_value, value_of_end}
use Rattle.run_record.specs.intervals.Totals.{totals_of}
use Rattle.trial_words.specs.declared.tally.RunTally.{RunTally}

-- these steps were counted, and no job that they release is worth more than a job may be
pub record HasCounted (tally : RunTally) (events : List Event) : Type 0 where
  pub totals : tally.totals ≡ totals_of events
  pub value : tally.value ≡ fold (λ value e. value_of_end e value) 0 events
  pub modest : tally.totals.worth ≤ most_value * length events
