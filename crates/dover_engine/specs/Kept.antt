-- What an engine keeps.
use Rattle.std.specs.Prelude.{◌≤◌, ◌+◌, ◌*◌, List}
use Rattle.dover_model.specs.declared.events.Event.{Event}
use Rattle.dover_model.specs.Instance.{Instance}
use Rattle.dover_engine.specs.declared.engine.Engine.TheInside.{Inside}
use Rattle.dover_engine.specs.Life.{Life, most_numbered}
use Rattle.dover_engine.specs.Given.{Gave}

-- what the fields stand for
abbrev pub life_of : Inside → Life
life_of e = record {
  server = e.server;
  admission = e.admission;
  last = e.last;
  settled = e.settled;
  coming = e.coming;
  forgotten = e.forgotten;
  earned = e.earned;
}

-- some jobs were admitted, and something was given of their run
pub record IsKept (e : Inside) : Type 0 where
  pub jobs : Instance
  pub events : List Event
  pub gave : Gave (life_of e) jobs events
  pub numbered_fits : e.forgotten + e.admission.count ≤ most_numbered
  pub earned_fits : e.earned ≤ 1_000_000_000_000_000_000 * e.forgotten
