-- Where a policy's run stands, as the code keeps it.
use Rattle.std.specs.Prelude.{ℕ, List}
use Rattle.std.specs.BinaryHeap.{heap_items}
use Rattle.dover_model.specs.declared.events.Entry.{Entry}
use Rattle.dover_model.specs.Common.{JobFacts}
use Rattle.policy_lab.specs.Picks.{Picks}
use Rattle.policy_lab.specs.Bench.{HasRun}
use Rattle.policy_lab.specs.declared.bench.Bench.{Bench}

-- what is kept is what the run has come to; no further job comes before the tick `from`, and the job `out` isn't kept
abbrev pub StandsAt : Picks → (Entry → ℕ) → List JobFacts → (from out : ℕ) → Bench → Type 0
StandsAt picks ranks jobs from out b =
    HasRun picks ranks jobs b.clock from b.released out b.tally (heap_items b.waiting) b.pieces.items
