use Rattle.std.proofs.Common.{◌+◌, ◌∙◌, false, get_or, sym, ap, arith}
use Rattle.clairvoyant.proofs.overload.Inside.{so_far, none_before, one_more, all_added}
use Rattle.clairvoyant.proofs.overload.costing.value_inside.Goals as goal

pub loop-place-init : goal.loop-place-init
loop-place-init c = record {
  few = c.released-place.ensures.few;
  value = sym (none_before _ (λ n. get_or c.args.done.now n false) _ c.args.until _ c.released-place.ensures);
  most = omega arith;
}

pub loop-place-preserved : goal.loop-place-preserved
loop-place-preserved c = record {
  few = omega (arith, c.loop-place-test.true, c.released-second.ensures.few);
  value = ap (λ v. v + c.value_if-value.result) c.loop-place.invariant.value
      ∙ ap (λ v. so_far c.args.jobs.now (λ n. get_or c.args.done.now n false) c.args.from c.args.until
      c.loop-place.place + v)
      (rw c.is_done.ensures at c.value_if-value.ensures.is)
      ∙ sym (one_more c.args.jobs.now (λ n. get_or c.args.done.now n false) c.args.from c.args.until c.loop-place.place
      c.index-jobs-place.result (omega (arith, c.loop-place-test.true, c.released-second.ensures.few))
      c.index-jobs-place.is);
  most = omega (arith, c.loop-place.invariant.most, c.value_if-value.ensures.modest);
}

pub returns : goal.returns
returns c = c.loop-place.invariant.value ∙ all_added _ (λ n. get_or c.args.done.now n false) _ _ _ _ c.requires.each
    c.released-second.ensures (omega (arith, c.loop-place-test.false))
