-- `dover_spare` lends the slot at the address for one call of `room`.
use Rattle.dover_c.proofs.Exports.{word32}
use Rattle.dover_c.proofs.Lends.{answers}
use Rattle.dover_c.specs.Codes.{RoomAnswers}
use Rattle.dover_c.proofs.dover_spare.Statement.{statement}
use Rattle.dover_c.proofs.dover_spare.Code as code
use Rattle.dover_c.proofs.slot.room.Met.{met}

pub dover_spare_spec : {M : Type 1} → statement M
dover_spare_spec 𝓤 𝓛 𝓜 𝓡 wired =
    answers 𝓛 𝓜 𝓡 word32 RoomAnswers (code.unfolded 𝓤 𝓛.H 𝓜 𝓡 wired)
    (met 𝓤 𝓛 𝓜 𝓡 (code.calls-dover_c::slot::room 𝓡.env wired))
