use Rattle.std.proofs.Common.{arith}
use Rattle.run_reports.proofs.views.Filling.{filled_more, filled_all}
use Rattle.run_reports.proofs.views.template.put.Goals as goal

pub loop-byte-preserved : goal.loop-byte-preserved
loop-byte-preserved c = record {
  is = filled_more c.args.template.now c.args.numbers.now c.loop-byte.byte-index c.loop-byte.next
      c.place_behind-next.result c.loop-byte.text.items c.put_part.new.text.items _ c.loop-byte-test.true
      c.in_ok-put_part.ensures (c.place_behind-next.ensures.is c.args.numbers.now) c.loop-byte.invariant.is;
  few = omega (arith, c.loop-byte.invariant.few, c.place_behind-next.ensures.few);
}

pub returns : goal.returns
returns c = filled_all c.args.template.now c.args.numbers.now c.loop-byte.byte-index c.loop-byte.next
    c.loop-byte.text.items _ (omega arith) c.loop-byte.invariant.is
