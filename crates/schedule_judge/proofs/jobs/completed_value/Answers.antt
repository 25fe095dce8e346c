use Rattle.std.proofs.Common.{◌+◌, ◌∙◌, ap, sym, arith, sum_by, take}
use Rattle.std.proofs.lemmas.List.Sums.{sum_by_more}
use Rattle.schedule_judge.specs.Jobs.{value_done}
use Rattle.schedule_judge.proofs.jobs.completed_value.Goals as goal

pub loop-told-preserved : goal.loop-told-preserved
loop-told-preserved c =
    let jobs = c.args.jobs.now in
    let i = c.loop-told.told-index in
    record {
      sum = ap (λ n. n + c.from-sum.result) c.loop-told.invariant.sum
          ∙ ap (λ n. sum_by value_done (take i jobs) + n) (c.from-sum.ensures ∙ c.value_done.ensures.is
          ∙ ap value_done c.told-item.is)
          ∙ sym (sum_by_more value_done jobs i c.told-item.result c.loop-told-test.true);
      small = omega (arith, c.from-sum.ensures, c.value_done.ensures.modest, c.loop-told.invariant.small);
    }
