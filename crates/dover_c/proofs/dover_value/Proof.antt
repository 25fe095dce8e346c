-- `dover_value` lends the slot at the address for one call of `value`.
use Rattle.dover_c.proofs.Exports.{word64}
use Rattle.dover_c.proofs.Lends.{answers}
use Rattle.dover_c.specs.Codes.{ValueAnswers}
use Rattle.dover_c.proofs.dover_value.Statement.{statement}
use Rattle.dover_c.proofs.dover_value.Code as code
use Rattle.dover_c.proofs.slot.value.Met.{met}

pub dover_value_spec : {M : Type 1} → statement M
dover_value_spec 𝓤 𝓛 𝓜 𝓡 wired =
    answers 𝓛 𝓜 𝓡 word64 ValueAnswers (code.unfolded 𝓤 𝓛.H 𝓜 𝓡 wired)
    (met 𝓤 𝓛 𝓜 𝓡 (code.calls-dover_c::slot::value 𝓡.env wired))
