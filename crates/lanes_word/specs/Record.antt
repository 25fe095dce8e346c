-- What the moves of a call come to.
use Rattle.std.specs.Prelude.{◌≡◌, ◌⊎◌, List, []}
use Rattle.dover_port.specs.Moves.{Move}
use Rattle.dover_port.specs.declared.status.Status.{Status}
use Rattle.dover_port.specs.declared.status.Status.TheVariants.{Memory}
use Rattle.dialogue.specs.Talk.{Talks}
use Rattle.lanes_word.specs.Talk.{lanes_talk}

-- what the talk comes to; or there was no memory for it to begin, and nothing was read or put
abbrev pub Serves : Status → List Move → Type 0
Serves status moves = Talks lanes_talk status moves ⊎ ((status ≡ Memory) × (moves ≡ []))
