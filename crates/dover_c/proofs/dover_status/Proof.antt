-- `dover_status` lends the slot at the address for one call of `status`.
use Rattle.dover_c.proofs.Exports.{word32}
use Rattle.dover_c.proofs.Lends.{answers}
use Rattle.dover_c.specs.Codes.{StatusAnswers}
use Rattle.dover_c.proofs.dover_status.Statement.{statement}
use Rattle.dover_c.proofs.dover_status.Code as code
use Rattle.dover_c.proofs.slot.status.Met.{met}

pub dover_status_spec : {M : Type 1} → statement M
dover_status_spec 𝓤 𝓛 𝓜 𝓡 wired =
    answers 𝓛 𝓜 𝓡 word32 StatusAnswers (code.unfolded 𝓤 𝓛.H 𝓜 𝓡 wired)
    (met 𝓤 𝓛 𝓜 𝓡 (code.calls-dover_c::slot::status 𝓡.env wired))
