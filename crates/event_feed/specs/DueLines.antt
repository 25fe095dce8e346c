-- The text of a line that is due for a feed.
use Rattle.std.specs.Prelude.{ℕ, List, [], ◌∷◌}
use Rattle.dover_model.specs.Common.{job_of_numbers, RefusedJob, RefusedDone, header, text_of, refused_text}
use Rattle.dover_model.specs.Common.{step_numbers, rules_with, fault_text, AreShort}
use Rattle.event_feed.specs.Kept.{cause_of_fault}
use Rattle.event_feed.specs.declared.due_line.DueLine.{DueLine}
use Rattle.event_feed.specs.declared.due_line.DueLine.TheVariants.{Header, Step, Refuse, RefuseDone, Refused}

-- the text of a line
abbrev pub out_text : DueLine → List ℕ
out_text (Header version k) = header (rules_with k version)
out_text (Step e) = text_of e
out_text (Refuse at release work deadline value cause) =
    refused_text (record { at = at; line = RefusedJob (job_of_numbers release work deadline value) cause })
out_text (RefuseDone at tick number) = refused_text (record { at = at; line = RefusedDone tick number })
out_text (Refused line cause) = fault_text line (cause_of_fault cause)

-- its numbers have numerals
abbrev pub HasNumerals : DueLine → Type 0
HasNumerals (Header version k) = Unit {0}
HasNumerals (Step e) = AreShort (step_numbers e)
HasNumerals (Refuse at release work deadline value cause) = AreShort (at ∷ release ∷ work ∷ deadline ∷ value ∷ [])
HasNumerals (RefuseDone at tick number) = AreShort (at ∷ tick ∷ number ∷ [])
HasNumerals (Refused line cause) = Unit {0}
