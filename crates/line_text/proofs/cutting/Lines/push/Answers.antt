use Rattle.std.proofs.Common.{subst, sym, ◌∷◌, ◌++◌, []}
use Rattle.line_text.specs.Cutting.{Cutting, StandsFor, HasCut, with_byte}
use Rattle.line_text.specs.declared.cutting.ByteEffect.{ByteEffect}
use Rattle.line_text.proofs.Cut.{after_byte-Goes, after_byte-StandsFor}
use Rattle.line_text.proofs.cutting.Lines.push.Goals as goal

pub returns-clause-stands : goal.returns-clause-stands
returns-clause-stands c =
    λ bytes stands. subst (λ (k : Cutting). StandsFor k (with_byte bytes c.args.byte)) (sym c.keep.ensures.is)
    (after_byte-StandsFor c.args.self.now bytes c.args.byte stands)

pub returns-clause-cut : goal.returns-clause-cut
returns-clause-cut c = λ bytes stands short.
    subst (λ (s : ByteEffect). HasCut s c.keep.new.self.line bytes (bytes ++ c.args.byte ∷ []))
    (sym c.keep.ensures.last)
    (subst (λ (k : Cutting). HasCut k.last k.line bytes (bytes ++ c.args.byte ∷ [])) (sym c.keep.ensures.is)
    (after_byte-Goes c.args.self.now bytes c.args.byte stands short).cut)
