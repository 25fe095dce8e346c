use Rattle.std.proofs.Common.{◌≡◌, ◌*◌, ◌-◌, ◌∙◌, ap, get_or, arith}
use Rattle.std.specs.List.{sum_by, enumerate_from}
use Rattle.std.proofs.lemmas.List.{take_all, get_or_default}
use Rattle.clairvoyant.proofs.overload.Inside.{job_more}
use Rattle.clairvoyant.proofs.overload.Paying.{beyond_by, worth_most}
use Rattle.clairvoyant.proofs.overload.layers.Priced.most.Goals as goal

pub loop-place-preserved : goal.loop-place-preserved
loop-place-preserved c =
    let prices = c.args.self.now.prices.items in
    let price : c.index.result.now ≡ get_or prices c.loop-place.place 0 = c.index.ensures
    ∙ get_or_default prices c.loop-place.place c.index.result.now 0
    (omega (arith, c.loop-place-test.true, c.requires.priced.count)) in record {
      few = omega (arith, c.loop-place-test.true);
      sum = omega (
        arith,
        c.loop-place.invariant.sum,
        c.beyond-most.ensures.is,
        ap (λ p. 1_000_000_000_000_000 * c.index-jobs-place.result.value - p * c.index-jobs-place.result.work) price,
        job_more (beyond_by 1_000_000_000_000_000 prices) c.args.jobs.now c.loop-place.place c.index-jobs-place.result
            c.loop-place-test.true
            c.index-jobs-place.is,
      );
      small = omega (arith, c.loop-place.invariant.small, c.beyond-most.ensures.small);
    }

pub returns : goal.returns
returns c = λ rules s. omega (
  arith,
  worth_most c.args.jobs.now c.args.self.now.prices.items c.args.self.now.cost 1_000_000_000_000_000
      c.requires.priced.pays rules s,
  c.loop-place.invariant.sum,
  ap (λ js. sum_by (beyond_by 1_000_000_000_000_000 c.args.self.now.prices.items) (enumerate_from 0 js))
      (take_all c.loop-place.place c.args.jobs.now (omega (arith, c.loop-place-test.false))),
)
