-- `dover_next` lends the slot at the address for one call of `next`.
use Rattle.dover_c.proofs.Exports.{copied}
use Rattle.dover_c.proofs.Lends.{answers}
use Rattle.dover_c.specs.Codes.{NextAnswers}
use Rattle.dover_c.proofs.Due.TheLaws.{the_row_laws, the_row_copy}
use Rattle.dover_c.proofs.dover_next.Statement.{statement}
use Rattle.dover_c.proofs.dover_next.Code as code
use Rattle.dover_c.proofs.slot.next.Met.{met}

pub dover_next_spec : {M : Type 1} → statement M
dover_next_spec 𝓤 𝓛 𝓜 𝓡 wired =
    answers 𝓛 𝓜 𝓡 (copied the_row_laws the_row_copy) NextAnswers
    (code.unfolded 𝓤 𝓛.H 𝓜 𝓡 wired)
    (met 𝓤 𝓛 𝓜 𝓡 (code.calls-dover_c::slot::next 𝓡.env wired))
