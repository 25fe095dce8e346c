-- The line of a verdict, and its status.
use Rattle.std.specs.Prelude.{ℕ, List, [], ◌∷◌, ◌++◌, codes, decimal}
use Rattle.dover_model.specs.Common.{bound, line_of, with_numbers, completed_value, instance_of, text_of, Expected}
use Rattle.dover_model.specs.Common.{Header, Nothing, Verdict, Accepted, Wrong}
use Rattle.dover_model.specs.Verdict.{Step, Short}
use Rattle.dover_port.specs.declared.status.Status.{Status}
use Rattle.dover_port.specs.declared.status.Status.TheVariants.{Done, No}
use Rattle.trace_judge.specs.declared.verdict.Verdict.{Verdict as Told}
use Rattle.trace_judge.specs.declared.verdict.Verdict.TheVariants as told

-- what is due in place of a wrong line
abbrev pub expected_text : Expected → List ℕ
expected_text Header = codes "header"
expected_text (Step e) = text_of e
expected_text Nothing = codes "nothing"

-- the line of a wrong text before what is due there
abbrev pub wrong_front : ℕ → List ℕ
wrong_front line = line_of (codes "wrong" ∷ decimal line ∷ codes "expected " ∷ [])

-- An accepted trace: the value that its run completes, and the bound. A wrong text: its first wrong line, and what is
-- due there. A short text: how many whole lines it has.
abbrev pub verdict_line : Verdict → List ℕ
verdict_line (Accepted S) = let value : ℕ = completed_value (instance_of S) in
    with_numbers (codes "accepted") (value ∷ bound S.rules.ratio value ∷ [])
verdict_line (Wrong line due) = line_of (codes "wrong" ∷ decimal line ∷ codes "expected" ∷ expected_text due ∷ [])
verdict_line (Short lines) = with_numbers (codes "short") (lines ∷ [])

-- with its line feed
abbrev pub verdict_text : Verdict → List ℕ
verdict_text v = verdict_line v ++ 10 ∷ []

-- the status of a verdict
abbrev pub status_of : Told → Status
status_of (told.Accepted k version value most jobs) = Done
status_of (told.Wrong line due) = No
status_of (told.Short lines) = No
