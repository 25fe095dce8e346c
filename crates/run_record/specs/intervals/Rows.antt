-- The intervals of a run as rows of six numbers.
use Rattle.std.specs.Prelude.{◌≡◌, ℕ, List, map, Option, filter_map, option_map}
use Rattle.dover_model.specs.declared.events.Event.{Event}
use Rattle.dover_model.specs.Common.{Fraction, Instance, IsListable, IsValid, Step, event_of, printed, run, privileged}
use Rattle.dover_model.specs.Common.{value_sum}
use Rattle.dover_model.specs.Intervals as model
use Rattle.run_record.specs.declared.intervals.interval.Interval.{Interval}
use Rattle.run_record.specs.declared.intervals.totals.JobTotals.{JobTotals}

-- the six numbers of an interval
abbrev pub numbers_of : model.Interval → Interval
numbers_of i = record {
  from = i.from;
  until = i.until;
  regular = i.regular;
  taken = i.taken;
  displaced = i.displaced;
  abandoned = i.abandoned;
}

-- the rows of the intervals of a run
abbrev pub rows_of : Instance → List Interval
rows_of J = map numbers_of (model.intervals J)

-- what the running and the held jobs are worth before a step, if it is printed
abbrev pub weight_of : Step → Option ℕ
weight_of step = option_map (λ e. value_sum (privileged step.before)) (event_of step.move)

-- what they are worth before each printed step of a run
abbrev pub weights : Instance → List ℕ
weights J = filter_map weight_of (run J)

-- the printed steps are those of the run of these jobs, which are valid for the ratio, and no more than a word takes
-- that keeps all of them
pub record IsRunOf (k : Fraction) (run : List Event) (J : Instance) : Type 0 where
  pub valid : IsValid J
  pub listable : IsListable J
  pub ratio : J.rules.ratio ≡ k
  pub prints : printed J ≡ run

-- rows, the value that is completed, and what the steps tell of the jobs
pub record Charged : Type 0 where
  pub rows : List Interval
  pub value : ℕ
  pub totals : JobTotals
