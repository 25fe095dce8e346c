use Rattle.std.proofs.Common.{refl, arith, heap_items}
use Rattle.dover_model.proofs.valid.ValidParts.{order_parts}
use Rattle.clairvoyant.proofs.feasible.Running.{next_found}
use Rattle.policy_lab.proofs.Choosing.{run_popped, run_fits, run_late, taken_low, taken_left}
use Rattle.policy_lab.proofs.bench.Bench.take_first.Goals as goal

pub bounds-jobs-number : goal.bounds-jobs-number
bounds-jobs-number g c =
    let law = g.met.P.Policy.law c.args._policy.now in
    let order = order_parts c.requires.in_order in
    let taken = run_popped _ _ law c.args.jobs.now order c.requires.each c.requires.count _ _ _ _ _
    c.loop-turn.invariant.0 c.in-Some.field-0 (heap_items c.pop.new.self) c.in-Some.ensures.permutation
    (c.in-Some.ensures.heap_order c.loop-turn.invariant.0.ordered).0
    (c.in-Some.ensures.below_top c.loop-turn.invariant.0.ordered) in
    taken_low _ _ law c.args.jobs.now order c.requires.each c.requires.count _ _ _ _ _ _ _ taken

pub overflow_sub-latest : goal.overflow_sub-latest
overflow_sub-latest g c =
    let law = g.met.P.Policy.law c.args._policy.now in
    let order = order_parts c.requires.in_order in
    let taken = run_popped _ _ law c.args.jobs.now order c.requires.each c.requires.count _ _ _ _ _
    c.loop-turn.invariant.0 c.in-Some.field-0 (heap_items c.pop.new.self) c.in-Some.ensures.permutation
    (c.in-Some.ensures.heap_order c.loop-turn.invariant.0.ordered).0
    (c.in-Some.ensures.below_top c.loop-turn.invariant.0.ordered) in
    let low = taken_low _ _ law c.args.jobs.now order c.requires.each c.requires.count _ _ _ _ _ _ _ taken in
    let found = next_found _ _ _ c.index-jobs-number.result refl low c.index-jobs-number.is in
    let most = taken_left _ _ law c.args.jobs.now order c.requires.each c.requires.count _ _ _ _ _ _ _ taken _ found in
    omega (arith, most, c.deadline.ensures.is)

pub returns-then-self-latest-clause-some : goal.returns-then-self-latest-clause-some
returns-then-self-latest-clause-some g c =
    let law = g.met.P.Policy.law c.args._policy.now in
    let order = order_parts c.requires.in_order in
    (run_popped _ _ law c.args.jobs.now order c.requires.each c.requires.count _ _ _ _ _
    c.loop-turn.invariant.0 c.in-Some.field-0 (heap_items c.pop.new.self) c.in-Some.ensures.permutation
    (c.in-Some.ensures.heap_order c.loop-turn.invariant.0.ordered).0
    (c.in-Some.ensures.below_top c.loop-turn.invariant.0.ordered)).run

pub returns-then-self-latest-clause-next : goal.returns-then-self-latest-clause-next
returns-then-self-latest-clause-next g c =
    let law = g.met.P.Policy.law c.args._policy.now in
    let order = order_parts c.requires.in_order in
    let taken = run_popped _ _ law c.args.jobs.now order c.requires.each c.requires.count _ _ _ _ _
    c.loop-turn.invariant.0 c.in-Some.field-0 (heap_items c.pop.new.self) c.in-Some.ensures.permutation
    (c.in-Some.ensures.heap_order c.loop-turn.invariant.0.ordered).0
    (c.in-Some.ensures.below_top c.loop-turn.invariant.0.ordered) in
    let low = taken_low _ _ law c.args.jobs.now order c.requires.each c.requires.count _ _ _ _ _ _ _ taken in
    let found = next_found _ _ _ c.index-jobs-number.result refl low c.index-jobs-number.is in
    let most = taken_left _ _ law c.args.jobs.now order c.requires.each c.requires.count _ _ _ _ _ _ _ taken _ found in
    run_fits _ _ law c.args.jobs.now order c.requires.each c.requires.count _ _ _ _ _ _ _ taken _ found
    (omega (arith, most, c.if-self-latest.true, c.deadline.ensures.is))

pub loop-turn-preserved : goal.loop-turn-preserved
loop-turn-preserved g c =
    let law = g.met.P.Policy.law c.args._policy.now in
    let order = order_parts c.requires.in_order in
    let taken = run_popped _ _ law c.args.jobs.now order c.requires.each c.requires.count _ _ _ _ _
    c.loop-turn.invariant.0 c.in-Some.field-0 (heap_items c.pop.new.self) c.in-Some.ensures.permutation
    (c.in-Some.ensures.heap_order c.loop-turn.invariant.0.ordered).0
    (c.in-Some.ensures.below_top c.loop-turn.invariant.0.ordered) in
    let low = taken_low _ _ law c.args.jobs.now order c.requires.each c.requires.count _ _ _ _ _ _ _ taken in
    let found = next_found _ _ _ c.index-jobs-number.result refl low c.index-jobs-number.is in
    let most = taken_left _ _ law c.args.jobs.now order c.requires.each c.requires.count _ _ _ _ _ _ _ taken _ found
    in (
      run_late _ _ law c.args.jobs.now order c.requires.each c.requires.count _ _ _ _ _ _ _ taken _ found
          (omega (arith, most, c.if-self-latest.false, c.deadline.ensures.is)),
      c.loop-turn.invariant.1,
      c.loop-turn.invariant.2,
    )
