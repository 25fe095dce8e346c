use Rattle.admission.proofs.Firsts.{each_more, least_more, densest_more}
use Rattle.admission.proofs.extremes.Extremes.widen.Goals as goal

pub returns : goal.returns
returns c jobs it number = let k = c.args.ratio.now in let e = c.args.self.now in let y = c.args.next.now in record {
  each = each_more k jobs e it y c.requires number;
  least = least_more k jobs e it y c.requires number c.keep_less_dense.new.kept c.keep_less_dense.ensures.next
      c.keep_less_dense.ensures.kept;
  densest = densest_more k jobs e it y c.requires number c.keep_denser.new.kept c.keep_denser.ensures.next
      c.keep_denser.ensures.kept;
  keep = c.keeps_ratio-self.ensures;
}
