-- How a line of a trace is read, field by field.
use Rattle.std.specs.Prelude.{ℕ, List, [], ◌∷◌, Bool, false, nat_le, if◌then◌else◌, Option, Some, None, codes, bytes_eq}
use Rattle.std.specs.Bool.{then_some}
use Rattle.std.specs.Option.{option_and_then, option_map, option_or}
use Rattle.dover_model.specs.declared.events.Event.{Event}
use Rattle.dover_model.specs.declared.events.Event.TheVariants.{Release, Run, Preempt, Take, Complete, Abandon, End}
use Rattle.dover_model.specs.declared.events.Refusal.{Refusal}
use Rattle.dover_model.specs.Common.{JobFacts, is_job, job_of_numbers, numerals}
use Rattle.dover_model.specs.Verdict.{refusal_of_word}
use Rattle.line_text.specs.Reading.{number_of_first}
use Rattle.line_text.specs.declared.traces.lines.TraceLine.{TraceLine}
use Rattle.line_text.specs.declared.traces.lines.TraceLine.TheVariants.{Header, Step, Refused, RefusedDone}
use Rattle.line_text.specs.traces.Form.{last_number}

-- what follows from a value, if there is one
infixl 10 ◌>>=◌
abbrev pub ◌>>=◌ : {A B : Type 0} → Option A → (A → Option B) → Option B
None >>= f = None
(Some x) >>= f = f x

-- the number as a job's, if jobs may have it
abbrev pub job_number : ℕ → Option ℕ
job_number n = then_some (nat_le n last_number) n

-- the job of four numbers, if they are within the limits
abbrev pub new_job : (release work deadline value : ℕ) → Option JobFacts
new_job r c d v = then_some (is_job (job_of_numbers r c d v)) (job_of_numbers r c d v)

-- a release, of a number and a job's four numbers
abbrev pub release_of : List ℕ → Option Event
release_of (n ∷ r ∷ c ∷ d ∷ v ∷ []) = job_number n >>= λ number. new_job r c d v >>= λ job. Some (Release number job)
release_of _ = None

-- a clock and the number of one job
abbrev pub one_job : List ℕ → Option (ℕ × ℕ)
one_job (at ∷ n ∷ []) = job_number n >>= λ number. Some (at, number)
one_job _ = None

-- a clock and the numbers of two jobs
abbrev pub two_jobs : List ℕ → Option (ℕ × ℕ × ℕ)
two_jobs (at ∷ a ∷ b ∷ []) = job_number a >>= λ stops. job_number b >>= λ starts. Some (at, stops, starts)
two_jobs _ = None

-- the run of a job at a clock
abbrev pub run_of : List ℕ → Option Event
run_of ns = one_job ns >>= λ f. Some (Run f.0 f.1)

-- its completion
abbrev pub complete_of : List ℕ → Option Event
complete_of ns = one_job ns >>= λ f. Some (Complete f.0 f.1)

-- its being abandoned
abbrev pub abandon_of : List ℕ → Option Event
abandon_of ns = one_job ns >>= λ f. Some (Abandon f.0 f.1)

-- its being preempted by another
abbrev pub preempt_of : List ℕ → Option Event
preempt_of ns = two_jobs ns >>= λ f. Some (Preempt f.0 f.1 f.2)

-- its being displaced by a take
abbrev pub take_of : List ℕ → Option Event
take_of ns = two_jobs ns >>= λ f. Some (Take f.0 f.1 f.2)

-- the end, of a value
abbrev pub end_of : List ℕ → Option Event
end_of (value ∷ []) = Some (End value)
end_of _ = None

-- the step of a word and numbers
abbrev pub step_of_word : List ℕ → List ℕ → Option Event
step_of_word word ns =
    if bytes_eq word (codes "job") then release_of ns else
    (if bytes_eq word (codes "run") then run_of ns else
    (if bytes_eq word (codes "complete") then complete_of ns else
    (if bytes_eq word (codes "preempt") then preempt_of ns else
    (if bytes_eq word (codes "abandon") then abandon_of ns else
    (if bytes_eq word (codes "take") then take_of ns else
    (if bytes_eq word (codes "end") then end_of ns else None))))))

-- a header, of three numbers, or of five
abbrev pub header_of : List ℕ → Option TraceLine
header_of (version ∷ p ∷ q ∷ []) = Some (Header version p q None)
header_of (version ∷ p ∷ q ∷ b ∷ c ∷ []) = Some (Header version p q (Some (b, c)))
header_of _ = None

-- the line of a word and numbers
abbrev pub line_of_word : List ℕ → List ℕ → Option TraceLine
line_of_word word ns = if bytes_eq word (codes "dover") then header_of ns else option_map Step (step_of_word word ns)

-- the refusal that one field is the word of
abbrev pub last_word : List (List ℕ) → Option Refusal
last_word (word ∷ []) = refusal_of_word word
last_word _ = None

-- the refused line of five numbers and a word
unfoldable pub refused_of : List (List ℕ) → Option TraceLine
refused_of fields = number_of_first fields >>= λ t. number_of_first t.1 >>= λ r. number_of_first r.1 >>= λ c.
    number_of_first c.1 >>= λ d.
    number_of_first d.1 >>= λ v. last_word v.1 >>= λ cause. Some (Refused t.0 r.0 c.0 d.0 v.0 cause)

-- whether one field is the word of a refused done line
abbrev pub is_done_left : List (List ℕ) → Bool
is_done_left (word ∷ []) = bytes_eq word (codes "done")
is_done_left _ = false

-- the refused done line of three numbers and its word
unfoldable pub refused_done_of : List (List ℕ) → Option TraceLine
refused_done_of fields = number_of_first fields >>= λ t. number_of_first t.1 >>= λ u. number_of_first u.1 >>= λ n.
    then_some (is_done_left n.1) (RefusedDone t.0 u.0 n.0)

-- the refused line of these fields, of a job or of a done line
abbrev pub refusal_of : List (List ℕ) → Option TraceLine
refusal_of fields = option_or (refused_of fields) (refused_done_of fields)

-- the line of these fields
abbrev pub line_of_fields : List (List ℕ) → Option TraceLine
line_of_fields [] = None
line_of_fields (word ∷ fields) =
    if bytes_eq word (codes "refuse") then refusal_of fields else option_and_then (line_of_word word) (numerals fields)
