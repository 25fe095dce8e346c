use Rattle.std.proofs.Common.{◌∷◌, ap, ◌∙◌, arith}
use Rattle.std.proofs.lemmas.List.{drop-set, drop_all}
use Rattle.line_text.proofs.back_line.BackLine.clear.Goals as goal

pub returns : goal.returns
returns c = drop-set c.self.inside.bytes 169 10 (omega (arith, c.self.ranges))
    ∙ ap (λ bs. 10 ∷ bs) (drop_all 170 c.self.inside.bytes (omega (arith, c.self.ranges)))
