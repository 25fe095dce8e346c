-- `dover_admit` lends the slot at the address for one call of `admit`.
use Rattle.dover_c.proofs.Steps.{List, [], ◌∷◌, refl, id⊢, ◌$◌, !, enter, of_opd, addr, stop, no_more, and_then}
use Rattle.dover_c.proofs.Steps.{returns, alloc_all, pass_all, free_all, look_at, get, through, sets, lands_as}
use Rattle.dover_c.proofs.Exports.{Copied, Values, copied, word64}
use Rattle.dover_c.proofs.Lends.{lends, lends_once}
use Rattle.dover_model.specs.JobFacts.{job_of_numbers}
use Rattle.dover_c.specs.declared.slot.Slot.{Slot}
use Rattle.dover_c.specs.Codes.{AdmitAnswers}
use Rattle.dover_c.proofs.Admitted.TheLaws.{the_row_laws, the_row_copy}
use Rattle.dover_c.proofs.dover_admit.Statement.{statement}
use Rattle.dover_c.proofs.dover_admit.Code as code
use Rattle.dover_c.proofs.slot.admit.Met.{met}

pub dover_admit_spec : {M : Type 1} → statement M
dover_admit_spec 𝓤 𝓛 𝓜 𝓡 wired =
    let gs : List Copied = word64 ∷ word64 ∷ word64 ∷ word64 ∷ [] in
    let R : Copied = copied the_row_laws the_row_copy in
    let Says = λ (a : Values 0 tt gs) (v w : Slot). AdmitAnswers v w (job_of_numbers a.0 a.1.0 a.1.1.0 a.1.1.1.0) in
    lends_once 𝓛 𝓜 𝓡 gs R Says code.function (code.unfolded 𝓤 𝓛.H 𝓜 𝓡 wired) (λ b o v a fit Q ends.
    enter ! _ _ _ _ _ $ alloc_all ! (λ l. pass_all ! refl ((tt, tt), fit) $
    sets ! (of_opd ! (get ! refl)) refl (tt, tt) $ sets ! (addr ! (through ! refl (stop !))) refl (tt, tt) $
    lends gs R (λ _. Says) 𝓛 𝓜 𝓡 (met 𝓤 𝓛 𝓜 𝓡 (code.calls-dover_c::slot::admit 𝓡.env wired)) b o v _ (λ _. a)
    (λ _. id⊢ 𝓤 _) (λ κs i j. and_then ! (get ! refl) (and_then ! (get ! refl) (and_then ! (get ! refl)
    (and_then ! (get ! refl) (and_then ! (get ! refl) (no_more !)))))) (λ u r w is said.
    lands_as ! refl refl is $ returns ! (look_at ! 0 refl) $ free_all ! refl $ ends u r w said.1)))
