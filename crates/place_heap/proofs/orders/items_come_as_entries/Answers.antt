use Rattle.place_heap.proofs.Tying.{ordered_as}
use Rattle.place_heap.proofs.orders.items_come_as_entries.Goals as goal

pub returns : goal.returns
returns c = ordered_as
