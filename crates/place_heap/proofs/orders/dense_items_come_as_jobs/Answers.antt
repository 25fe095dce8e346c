use Rattle.place_heap.proofs.Densities.{dense_law}
use Rattle.place_heap.proofs.orders.dense_items_come_as_jobs.Goals as goal

pub returns : goal.returns
returns c = dense_law
