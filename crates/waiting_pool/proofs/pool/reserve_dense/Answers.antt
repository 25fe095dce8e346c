use Rattle.std.proofs.Common.{sym, ◌∙◌, append-nil}
use Rattle.dover_model.proofs.lists.Tests.{never}
use Rattle.waiting_pool.proofs.Pooling.{grown_by, long_enough}
use Rattle.waiting_pool.proofs.pool.reserve_dense.Goals as goal

pub returns-then-by_density-clause-grows : goal.returns-then-by_density-clause-grows
returns-then-by_density-clause-grows c =
    grown_by c.args.heap.now c.reserve.new.self c.args.places c.reserve.result c.reserve.ensures.ok
    c.reserve.ensures.err

pub returns-then-by_density-clause-fits : goal.returns-then-by_density-clause-fits
returns-then-by_density-clause-fits c =
    long_enough c.args.heap.now c.reserve.new.self c.args.places c.args.version c.reserve.result c.reserve.ensures.ok

pub returns-clause-grows : goal.returns-clause-grows
returns-clause-grows c = (0, sym (append-nil c.args.heap.now))

pub returns-clause-fits : goal.returns-clause-fits
returns-clause-fits c by = never (sym c.if-by_density.false ∙ c.by_density.ensures ∙ by)
