-- `dover_value_high` lends the slot at the address for one call of `value_high`.
use Rattle.dover_c.proofs.Exports.{word64}
use Rattle.dover_c.proofs.Lends.{answers}
use Rattle.dover_c.specs.Codes.{HighAnswers}
use Rattle.dover_c.proofs.dover_value_high.Statement.{statement}
use Rattle.dover_c.proofs.dover_value_high.Code as code
use Rattle.dover_c.proofs.slot.value_high.Met.{met}

pub dover_value_high_spec : {M : Type 1} → statement M
dover_value_high_spec 𝓤 𝓛 𝓜 𝓡 wired =
    answers 𝓛 𝓜 𝓡 word64 HighAnswers (code.unfolded 𝓤 𝓛.H 𝓜 𝓡 wired)
    (met 𝓤 𝓛 𝓜 𝓡 (code.calls-dover_c::slot::value_high 𝓡.env wired))
