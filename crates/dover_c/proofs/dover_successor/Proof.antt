-- `dover_successor` lends the slot at the address for one call of `successor`.
use Rattle.dover_c.proofs.Exports.{copied}
use Rattle.dover_c.proofs.Lends.{answers}
use Rattle.dover_c.specs.Codes.{SuccessorAnswers}
use Rattle.dover_c.proofs.Named.TheLaws.{the_row_laws, the_row_copy}
use Rattle.dover_c.proofs.dover_successor.Statement.{statement}
use Rattle.dover_c.proofs.dover_successor.Code as code
use Rattle.dover_c.proofs.slot.successor.Met.{met}

pub dover_successor_spec : {M : Type 1} → statement M
dover_successor_spec 𝓤 𝓛 𝓜 𝓡 wired =
    answers 𝓛 𝓜 𝓡 (copied the_row_laws the_row_copy) SuccessorAnswers
    (code.unfolded 𝓤 𝓛.H 𝓜 𝓡 wired)
    (met 𝓤 𝓛 𝓜 𝓡 (code.calls-dover_c::slot::successor 𝓡.env wired))
