-- The lines of a trace, and which values have one.
use Rattle.std.specs.Prelude.{ℕ, ◌≤◌, List, [], ◌∷◌, Option, Some, None, codes}
use Rattle.dover_model.specs.declared.events.Event.{Event}
use Rattle.dover_model.specs.declared.events.Event.TheVariants.{Release, Run, Preempt, Take, Complete, Abandon, End}
use Rattle.dover_model.specs.declared.events.Refusal.{Refusal}
use Rattle.dover_model.specs.Common.{IsJob, job_of_numbers, AreShort, with_numbers, Declaration, Item, JobItem}
use Rattle.dover_model.specs.Common.{RefusedItem, RefusedJob, refused_done_at, text_of, refused_text, step_numbers}
use Rattle.dover_model.specs.Session as session
use Rattle.dover_model.specs.Verdict.{rules_from}
use Rattle.line_text.specs.declared.traces.lines.TraceLine.{TraceLine}
use Rattle.line_text.specs.declared.traces.lines.TraceLine.TheVariants.{Header, Step, Refused, RefusedDone}

-- the greatest number of a job
abbrev pub last_number : ℕ
last_number = 3_999_999_999

-- the refused line of these numbers
abbrev pub refused_job : (at release work deadline value : ℕ) → Refusal → session.Refused
refused_job at release work deadline value cause =
    record { at = at; line = RefusedJob (job_of_numbers release work deadline value) cause }

-- the refused done line of these numbers
abbrev pub refused_done : (at tick number : ℕ) → session.Refused
refused_done at tick number = record { at = at; line = session.RefusedDone tick number }

-- both numbers of a pair, if there is one
abbrev pub pair_of : Option (ℕ × ℕ) → List ℕ
pair_of None = []
pair_of (Some pair) = pair.0 ∷ pair.1 ∷ []

-- the bytes of a line
abbrev pub trace_text : TraceLine → List ℕ
trace_text (Header version p q factor) = with_numbers (codes "dover") (version ∷ p ∷ q ∷ pair_of factor)
trace_text (Step e) = text_of e
trace_text (Refused at r c d v cause) = refused_text (refused_job at r c d v cause)
trace_text (RefusedDone at tick number) = refused_text (refused_done at tick number)

-- its jobs have numbers that jobs may have, and a job that is released is one
abbrev pub NamesJobs : Event → Type 0
NamesJobs (Release n j) = (n ≤ last_number) × IsJob j
NamesJobs (Run at n) = n ≤ last_number
NamesJobs (Preempt at stops starts) = (stops ≤ last_number) × (starts ≤ last_number)
NamesJobs (Take at stops starts) = (stops ≤ last_number) × (starts ≤ last_number)
NamesJobs (Complete at n) = n ≤ last_number
NamesJobs (Abandon at n) = n ≤ last_number
NamesJobs (End value) = Unit {0}

-- the numbers have numerals, and a step names jobs
abbrev pub HasForm : TraceLine → Type 0
HasForm (Header version p q factor) = AreShort (version ∷ p ∷ q ∷ pair_of factor)
HasForm (Step e) = AreShort (step_numbers e) × NamesJobs e
HasForm (Refused at r c d v cause) = AreShort (at ∷ r ∷ c ∷ d ∷ v ∷ [])
HasForm (RefusedDone at tick number) = AreShort (at ∷ tick ∷ number ∷ [])

-- the item that the line names
abbrev pub item_in : TraceLine → Option Item
item_in (Header version p q factor) = None
item_in (Step (Release n j)) = Some (JobItem j)
item_in (Step _) = None
item_in (Refused at r c d v cause) = Some (RefusedItem (refused_job at r c d v cause))
item_in (RefusedDone at tick number) = Some (refused_done_at at tick number)

-- the rules that the line declares
abbrev pub rules_in : TraceLine → Option Declaration
rules_in (Header version p q factor) = rules_from (version ∷ p ∷ q ∷ pair_of factor)
rules_in (Step e) = None
rules_in (Refused at r c d v cause) = None
rules_in (RefusedDone at tick number) = None
