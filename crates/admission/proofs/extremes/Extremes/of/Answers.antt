use Rattle.admission.proofs.Firsts.{of_one}
use Rattle.admission.proofs.extremes.Extremes.of.Goals as goal

pub returns : goal.returns
returns c number = of_one c.args.ratio.now c.args.first c.keeps_ratio.result c.requires number c.keeps_ratio.ensures
