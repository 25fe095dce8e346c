-- `dover_drop` lends the slot at the address for one call of `end`.
use Rattle.dover_c.proofs.Steps.{[], ◌∷◌, refl, id⊢, vunit, ◌$◌, !, move, drop, feq_i, enter, of_opd, unit_lit, addr}
use Rattle.dover_c.proofs.Steps.{stop, no_more, and_then, returns, alloc_all, pass_all, free_all, look_at, get, through}
use Rattle.dover_c.proofs.Steps.{sets, lands_as}
use Rattle.dover_c.proofs.Exports.{nought}
use Rattle.dover_c.proofs.Lends.{lends, lends_once}
use Rattle.dover_c.specs.Codes.{DropAnswers}
use Rattle.dover_c.proofs.dover_drop.Statement.{statement}
use Rattle.dover_c.proofs.dover_drop.Code as code
use Rattle.dover_c.proofs.slot.end.Met.{met}

pub dover_drop_spec : {M : Type 1} → statement M
dover_drop_spec 𝓤 𝓛 𝓜 𝓡 wired =
    lends_once 𝓛 𝓜 𝓡 [] nought (λ a v w _. DropAnswers v w) code.function (code.unfolded 𝓤 𝓛.H 𝓜 𝓡 wired)
    (λ b o v a fit Q ends.
    enter ! _ _ _ _ _ $ alloc_all ! (λ l. pass_all ! refl ((tt, tt), fit) $
    sets ! (of_opd ! (get ! refl)) refl (tt, tt) $ sets ! (addr ! (through ! refl (stop !))) refl (tt, tt) $
    lends [] nought (λ _ a v w _. DropAnswers v w) 𝓛 𝓜 𝓡 (met 𝓤 𝓛 𝓜 𝓡 (code.calls-dover_c::slot::end 𝓡.env wired)) b o v
    _ (λ _. a) (λ _. id⊢ 𝓤 _) (λ κs i j. and_then ! (get ! refl) (no_more !)) (λ u r w is said.
    lands_as ! refl refl is $ sets ! (of_opd ! (unit_lit !)) refl (tt, tt) $
    returns ! (look_at ! 0 refl) $ free_all ! refl $ move ! (1 ∷ []) $ drop ! $
    feq_i ! _ (vunit ∷ []) _ refl $ move ! (1 ∷ []) $ ends vunit tt w said.1)))
