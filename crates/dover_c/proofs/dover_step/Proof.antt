-- `dover_step` lends the slot at the address for one call of `step`.
use Rattle.dover_c.proofs.Steps.{List, [], ◌∷◌, refl, id⊢, ◌$◌, !, enter, of_opd, addr, stop, no_more, and_then}
use Rattle.dover_c.proofs.Steps.{returns, alloc_all, pass_all, free_all, look_at, get, through, sets, lands_as}
use Rattle.dover_c.proofs.Exports.{Copied, Values, copied, word64}
use Rattle.dover_c.proofs.Lends.{lends, lends_once}
use Rattle.std.proofs.rt.Memory.TheLaws as memory
use Rattle.dover_c.specs.Codes.{StepAnswers}
use Rattle.dover_c.proofs.Decided.TheLaws.{the_row_laws, the_row_copy}
use Rattle.dover_c.proofs.dover_step.Statement.{statement}
use Rattle.dover_c.proofs.dover_step.Code as code
use Rattle.dover_c.proofs.slot.step.Met.{met}

pub dover_step_spec : {M : Type 1} → statement M
dover_step_spec 𝓤 𝓛 𝓜 𝓡 wired =
    let gs : List Copied = word64 ∷ copied memory.the_row_laws memory.the_row_copy ∷ [] in
    let R : Copied = copied the_row_laws the_row_copy in
    let Says = λ (a : Values 0 tt gs). StepAnswers a.0 in
    lends_once 𝓛 𝓜 𝓡 gs R Says code.function (code.unfolded 𝓤 𝓛.H 𝓜 𝓡 wired) (λ b o v a fit Q ends.
    enter ! _ _ _ _ _ $ alloc_all ! (λ l. pass_all ! refl ((tt, tt), fit) $
    sets ! (of_opd ! (get ! refl)) refl (tt, tt) $ sets ! (addr ! (through ! refl (stop !))) refl (tt, tt) $
    lends gs R (λ _. Says) 𝓛 𝓜 𝓡 (met 𝓤 𝓛 𝓜 𝓡 (code.calls-dover_c::slot::step 𝓡.env wired)) b o v _ (λ _. a)
    (λ _. id⊢ 𝓤 _) (λ κs i j. and_then ! (get ! refl) (and_then ! (get ! refl) (and_then ! (get ! refl) (no_more !))))
    (λ u r w is said.
    lands_as ! refl refl is $ returns ! (look_at ! 0 refl) $ free_all ! refl $ ends u r w said.1)))
