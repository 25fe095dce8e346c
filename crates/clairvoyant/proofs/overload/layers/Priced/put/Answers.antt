use Rattle.std.proofs.Common.{◌≡◌, ◌*◌, ◌-◌, ◌∙◌, List, ℕ, length, ap, subst, arith}
use Rattle.std.specs.List.{sum_by, enumerate_from}
use Rattle.std.specs.Vec.{with_items}
use Rattle.std.proofs.lemmas.List.{with_items_is}
use Rattle.clairvoyant.specs.overload.Pricing.{IsRaised, paid}
use Rattle.clairvoyant.proofs.overload.Paying.{pays_layer}
use Rattle.clairvoyant.proofs.overload.layers.Priced.put.Goals as goal

pub returns : goal.returns
returns c =
    let jobs = c.args.jobs.now in
    let old = c.args.self.now.prices.items in
    let new = c.raise.new.prices in
    let raised : IsRaised jobs c.args.ticks.from c.args.ticks.until c.args.more old new =
    subst (λ (prices : List ℕ). IsRaised jobs c.args.ticks.from c.args.ticks.until c.args.more prices new)
    c.deref_mut.ensures.value c.raise.ensures.raised in
    let cost : c.in-Some.cost ≡ c.args.more * (c.args.ticks.until - c.args.ticks.from) =
    c.in-Some.ensures.1 ∙ ap (λ ticks. c.args.more * ticks) c.from.ensures in
    let filled : (with_items c.args.self.now.prices new).items ≡ new =
    with_items_is c.args.self.now.prices new (c.raise.ensures.count ∙ c.deref_mut.ensures.len) in record {
      count = ap length filled ∙ c.raise.ensures.count ∙ ap length c.deref_mut.ensures.value ∙ c.requires.priced.count;
      small = omega (arith, c.if-self-gt-MOST_COST.false, c.if-cost-gt-MOST_COST.false);
      pays = λ s. omega (
        arith,
        cost,
        ap (λ (prices : List ℕ). sum_by (paid prices s) (enumerate_from 0 jobs)) filled,
        pays_layer jobs c.args.ticks.from c.args.ticks.until c.args.more old new raised s
            c.args.self.now.cost c.requires.priced.pays,
      );
    }
