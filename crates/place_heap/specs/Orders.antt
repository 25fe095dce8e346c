-- The items of entries, in the two orders of the model.
use Rattle.std.specs.Prelude.{◌≡◌, ℕ, ◌+◌, ◌-◌, ◌*◌, ◌/◌, ◌^◌}
use Rattle.dover_model.specs.Common.{most_value, is_due_before, is_start_before, JobFacts}
use Rattle.dover_model.specs.declared.events.Version.{Version}
use Rattle.dover_model.specs.declared.events.Version.TheVariants.{One, Two, Three, Four}
use Rattle.dover_model.specs.declared.events.Task.{Task}
use Rattle.dover_model.specs.declared.events.Entry.{Entry}
use Rattle.place_heap.specs.Items.{ItemFacts, is_before}

-- what settles equal keys before the number does: nothing, from version Two on the greater value
abbrev pub tie_of : Version → ℕ → ℕ
tie_of One value = 0
tie_of Two value = most_value - value
tie_of Three value = most_value - value
tie_of Four value = most_value - value

-- the item of an entry at a place, by its deadline
abbrev pub due_item : Version → ℕ → Entry → ItemFacts
due_item v place e = record { key = e.deadline; tie = tie_of v e.value; number = e.number; place = place }

-- the item of an entry at a place, by its latest start
abbrev pub latest_item : Version → ℕ → Entry → ItemFacts
latest_item v place e = record { key = e.latest; tie = tie_of v e.value; number = e.number; place = place }

-- the value for each tick of work, in 2^80 parts of one: densities that differ do so by more than a part
abbrev pub density_of : JobFacts → ℕ
density_of j = j.value * 2 ^ 80 / j.work

-- the item of a job at a place, by its density: the densest first, and of those as dense the first by deadline
abbrev pub dense_item : ℕ → Task → ItemFacts
dense_item place t = record {
  key = 2 ^ 112 - density_of t.job;
  tie = t.job.deadline * 2 ^ 32 + (most_value - t.job.value);
  number = t.number;
  place = place;
}

-- the items of two entries with values within the limit come in the model's orders
pub record AreOrderedAs (v : Version) (a b : Entry) (p q : ℕ) : Type 0 where
  pub due : is_before (due_item v p a) (due_item v q b) ≡ is_due_before v a b
  pub latest : is_before (latest_item v p a) (latest_item v q b) ≡ is_start_before v a b
