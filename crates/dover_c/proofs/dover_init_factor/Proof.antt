-- `dover_init_factor` writes what `make_with_factor` gives into the place.
use types.Run.{init}
use Rattle.dover_c.proofs.Steps.{List, [], ◌∷◌, refl, ◌$◌, !, move, enter, of_opd, unit_lit, stop, no_more, and_then}
use Rattle.dover_c.proofs.Steps.{assigns, returns, alloc_all, pass_all, free_all, look_at, get, through, sets, lands_as}
use Rattle.dover_c.proofs.Exports.{Copied, Values, copied, word32}
use Rattle.dover_c.proofs.Makes.{makes, writes}
use Rattle.std.proofs.alloc.Global.TheLaws as heap
use Rattle.dover_model.specs.Fraction.{fraction, with_factor}
use Rattle.dover_c.specs.Codes.{IsMade}
use Rattle.dover_c.proofs.dover_init_factor.Statement.{statement}
use Rattle.dover_c.proofs.dover_init_factor.Code as code
use Rattle.dover_c.proofs.slot.make_with_factor.Met.{met}

pub dover_init_factor_spec : {M : Type 1} → statement M
dover_init_factor_spec 𝓤 𝓛 𝓜 𝓡 wired =
    let h : Copied = copied heap.the_row_laws heap.the_row_copy in
    let gs : List Copied = word32 ∷ word32 ∷ word32 ∷ word32 ∷ word32 ∷ word32 ∷ [] in
    let Says = λ (a : Values 0 tt gs).
    IsMade (with_factor (fraction a.0 a.1.0) a.1.1.1.1.0 a.1.1.1.1.1.0) a.1.1.0 a.1.1.1.0 in
    writes 𝓛 𝓜 𝓡 h gs Says code.function (code.unfolded 𝓤 𝓛.H 𝓜 𝓡 wired) (λ b o a fit Q ends.
    enter ! _ _ _ _ _ $ alloc_all ! (λ l. pass_all ! refl (fit.0, ((tt, tt), fit.1)) $
    makes 𝓛 𝓜 𝓡 (h ∷ gs) (λ a. Says a.1) (met 𝓤 𝓛 𝓜 𝓡 (code.calls-dover_c::slot::make_with_factor 𝓡.env wired)) a
    (λ i. and_then ! (get ! refl) (and_then ! (get ! refl) (and_then ! (get ! refl) (and_then ! (get ! refl)
    (and_then ! (get ! refl) (and_then ! (get ! refl) (and_then ! (get ! refl) (no_more !)))))))) (λ u w is said.
    lands_as ! refl refl is $ sets ! (of_opd ! (get ! refl)) refl (tt, tt) $
    sets ! (of_opd ! (get ! refl)) refl is $ move ! (1 ∷ []) $
    assigns ! (of_opd ! (get ! refl)) (through ! refl (stop !)) (init ! 0 refl is) $
    sets ! (of_opd ! (unit_lit !)) refl (tt, tt) $
    returns ! (look_at ! 0 refl) $ free_all ! refl $ ends u w said)))
