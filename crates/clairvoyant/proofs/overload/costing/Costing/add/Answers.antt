use Rattle.std.proofs.Common.{arith}
use Rattle.clairvoyant.proofs.overload.Filling.{room_within}
use Rattle.clairvoyant.proofs.overload.Near.{near_few, near_work}
use Rattle.clairvoyant.proofs.overload.costing.Costing.add.Goals as goal

pub work_inside-requires : goal.work_inside-requires
work_inside-requires c = omega (
  arith,
  near_few c.args.jobs.now c.near.result.now c.args.ticks.from c.args.ticks.until
      c.near.ensures,
  c.requires.count,
)

pub push-requires-clause-first : goal.push-requires-clause-first
push-requires-clause-first c = record {
  later = c.in_ok-fill.ensures.ahead;
  some = omega arith;
  within = omega arith;
  overfull = omega (
    arith,
    c.if-work_inside-until.false,
    c.work_inside.ensures,
    near_work c.args.jobs.now c.near.result.now c.args.ticks.from c.args.ticks.until c.requires.each c.near.ensures,
  );
  before = room_within c.args.jobs.now c.requires.each c.fill.new.self.at c.args.ticks.from c.in_ok-fill.ensures.met;
}
