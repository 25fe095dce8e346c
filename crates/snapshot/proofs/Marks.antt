-- The mark behind items.
use Rattle.std.proofs.Common.{ℕ, ◌≤◌, max, List, [], ◌∷◌, ◌++◌, length, arith}
use Rattle.std.specs.List.{AllByRecursion}
use Rattle.dover_model.specs.Common.{JobFacts, Item, JobItem, RefusedItem, FinishItem, admitted_jobs, mark_after}

-- as many items as jobs at least
pub jobs_least : (items : List Item) → length (admitted_jobs items) ≤ length items
jobs_least [] = omega arith
jobs_least (JobItem j ∷ items) = omega (arith, jobs_least items)
jobs_least (_ ∷ items) = omega (arith, jobs_least items)

-- it doesn't fall
pub mark_grows : (mark : ℕ) (items : List Item) → mark ≤ mark_after mark items
mark_grows mark [] = omega arith
mark_grows mark (JobItem j ∷ items) = omega (arith, mark_grows (max mark j.release) items)
mark_grows mark (RefusedItem r ∷ items) = omega (arith, mark_grows (max mark r.at) items)
mark_grows mark (FinishItem f ∷ items) = omega (arith, mark_grows (max mark f.at) items)

-- so that behind the first isn't above that behind all
pub mark_front : (mark : ℕ) (items more : List Item) → mark_after mark items ≤ mark_after mark (items ++ more)
mark_front mark [] more = mark_grows mark more
mark_front mark (JobItem j ∷ items) more = mark_front (max mark j.release) items more
mark_front mark (RefusedItem r ∷ items) more = mark_front (max mark r.at) items more
mark_front mark (FinishItem f ∷ items) more = mark_front (max mark f.at) items more

-- no release is above it
pub released_by : (mark : ℕ) (items : List Item)
    → AllByRecursion (λ (j : JobFacts). j.release ≤ mark_after mark items) (admitted_jobs items)
released_by mark [] = tt
released_by mark (JobItem j ∷ items) = (
  omega (arith, mark_grows (max mark j.release) items),
  released_by (max mark j.release) items,
)
released_by mark (RefusedItem r ∷ items) = released_by (max mark r.at) items
released_by mark (FinishItem f ∷ items) = released_by (max mark f.at) items
