-- What is kept of the intervals of a run, and what each printed step does to it.
use Rattle.std.specs.Prelude.{ℕ, ◌+◌, List, [], ◌∷◌, ◌++◌, Bool, true, false, if◌then◌else◌, Option, Some, None}
use Rattle.dover_model.specs.declared.events.Event.{Event}
use Rattle.dover_model.specs.declared.events.Event.TheVariants.{Run, Take, Complete, Abandon, End}
use Rattle.run_record.specs.declared.intervals.interval.Interval.{Interval}
use Rattle.run_record.specs.declared.intervals.interval.UnderWay.{UnderWay}
use Rattle.run_record.specs.ledger.Pages.{Page, capped, worth, holds_none, value_on}

-- the interval under way, the rows of those before it, and the value that the end names
pub record Book : Type 0 where
  pub under_way : Option UnderWay
  pub rows : List Interval
  pub value : ℕ

-- before the first step
abbrev pub blank : Book
blank = record { under_way = None; rows = []; value = 0 }

-- the interval that starts at a tick
abbrev pub begun : ℕ → UnderWay
begun at = record {
  interval = record { from = at; until = at; regular = 0; taken = 0; displaced = 0; abandoned = 0 };
  took = false;
}

-- the interval under way, or one that starts now
abbrev pub begun_or : ℕ → Option UnderWay → UnderWay
begun_or at None = begun at
begun_or at (Some u) = u

-- after a take that displaces so much value
abbrev pub with_take : ℕ → ℕ → UnderWay → UnderWay
with_take at value u = record
    { interval = record u.interval { until = at; displaced = capped (u.interval.displaced + value) }; took = true }

-- after a completion
abbrev pub with_completion : ℕ → ℕ → UnderWay → UnderWay
with_completion at value u = record u {
  interval =
      if u.took then record u.interval { until = at; taken = capped (u.interval.taken + value) }
      else record u.interval { until = at; regular = capped (u.interval.regular + value) };
}

-- after an abandonment
abbrev pub with_abandonment : ℕ → ℕ → UnderWay → UnderWay
with_abandonment at value u =
    record u { interval = record u.interval { until = at; abandoned = capped (u.interval.abandoned + value) } }

-- what is done to the interval under way, if there is one
abbrev pub in_one : (UnderWay → UnderWay) → Option UnderWay → Option UnderWay
in_one f None = None
in_one f (Some u) = Some (f u)

-- the rows with the interval that was under way, if there was one
abbrev pub with_row : List Interval → Option UnderWay → List Interval
with_row rows None = rows
with_row rows (Some u) = rows ++ u.interval ∷ []

-- the book where the interval under way is a row, if it ends
abbrev pub closed : (ends : Bool) → Book → Book
closed true b = record b { under_way = None; rows = with_row b.rows b.under_way }
closed false b = b

-- the book where this is done to the interval under way
abbrev pub turned : (UnderWay → UnderWay) → Book → Book
turned f b = record b { under_way = in_one f b.under_way }

-- the book after a printed step, before which these jobs are under way
abbrev pub noted : Page → Book → Event → Book
noted p b (Run at n) = record b { under_way = Some (begun_or at b.under_way) }
noted p b (Take at stops starts) = turned (with_take at (worth p)) b
noted p b (Complete at n) = closed (holds_none p) (turned (with_completion at (value_on p (Complete at n))) b)
noted p b (Abandon at n) = turned (with_abandonment at (value_on p (Abandon at n))) b
noted p b (End value) = record b { value = value }
noted p b _ = b
