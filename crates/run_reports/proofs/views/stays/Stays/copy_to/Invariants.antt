use Rattle.std.proofs.Common.{List}
use Rattle.dover_model.specs.declared.events.Event.{Event}
use Rattle.run_reports.specs.views.Book.{Keeps}
use Rattle.run_reports.specs.views.Stays.{stays_of}
use Rattle.run_reports.proofs.views.Threading.{Goes}
use Rattle.run_reports.proofs.views.stays.Stays.copy_to.Given as goal

-- the stays that are read, and those to come
abbrev pub invariant-loop-place : goal.invariant-loop-place
invariant-loop-place l = (run : List Event) → Keeps l.self run → Goes l.self.links l.place l.own.items
    (stays_of l.number run)

abbrev pub decreases-loop-place : goal.decreases-loop-place
decreases-loop-place l = l.place
