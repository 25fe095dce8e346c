use Rattle.std.proofs.Common.{arith, ap, refl, subst, take_all}
use Rattle.run_reports.specs.report.Counts.{jobs_released}
use Rattle.run_reports.specs.report.Kept.{HaveDensities}
use Rattle.run_reports.proofs.report.Counting.{released_more}
use Rattle.run_reports.proofs.report.kept.densities_of.Goals as goal

pub take_released-requires : goal.take_released-requires
take_released-requires c = omega (arith, c.loop-event.invariant.few, c.loop-event-test.true, c.requires)

pub loop-event-preserved : goal.loop-event-preserved
loop-event-preserved c =
    let run = c.args.run.now in
    let i = c.loop-event.event-index in
    record {
      are = subst (λ jobs. HaveDensities c.args.k.now jobs c.take_released.new.kept)
          (released_more run i c.event-item.result _ c.event-item.is c.loop-event-test.true refl)
          (c.take_released.ensures.kept _ c.loop-event.invariant.are);
      few = omega (arith, c.take_released.ensures.count, c.loop-event.invariant.few);
    }

pub returns : goal.returns
returns c = subst (λ jobs. HaveDensities c.args.k.now jobs c.loop-event.kept)
    (ap jobs_released (take_all c.loop-event.event-index c.args.run.now (omega (arith, c.loop-event-test.false))))
    c.loop-event.invariant.are
