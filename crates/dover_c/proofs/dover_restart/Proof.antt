-- `dover_restart` lends the slot at the address for one call of `restart`.
use Rattle.dover_c.proofs.Exports.{copied}
use Rattle.dover_c.proofs.Lends.{answers}
use Rattle.dover_c.specs.Codes.{RestartAnswers}
use Rattle.dover_c.proofs.Restarted.TheLaws.{the_row_laws, the_row_copy}
use Rattle.dover_c.proofs.dover_restart.Statement.{statement}
use Rattle.dover_c.proofs.dover_restart.Code as code
use Rattle.dover_c.proofs.slot.restart.Met.{met}

pub dover_restart_spec : {M : Type 1} → statement M
dover_restart_spec 𝓤 𝓛 𝓜 𝓡 wired =
    answers 𝓛 𝓜 𝓡 (copied the_row_laws the_row_copy) RestartAnswers
    (code.unfolded 𝓤 𝓛.H 𝓜 𝓡 wired)
    (met 𝓤 𝓛 𝓜 𝓡 (code.calls-dover_c::slot::restart 𝓡.env wired))
