use Rattle.std.proofs.Common.{◌≡◌, ℕ, append_assoc, ◌∷◌, ◌++◌, [], codes, decimal, sym, ap, ◌∙◌}
use Rattle.dover_model.specs.Verdict.{Expected, Wrong}
use Rattle.dialogue.proofs.Putting.{puts_behind, puts_cut}
use Rattle.trace_judge.specs.Reads.{expected_of}
use Rattle.trace_words.specs.judge.Line.{wrong_front, expected_text, verdict_text}
use Rattle.trace_words.proofs.judge.lines.put_wrong.Goals as goal

-- the line in two parts
in_parts : (line : ℕ) (due : Expected)
    → wrong_front line ++ (expected_text due ++ 10 ∷ []) ≡ verdict_text (Wrong line due)
in_parts line due = ap (λ l. codes "wrong" ++ 32 ∷ l)
    (append_assoc (decimal line) (codes " expected ") (expected_text due ++ 10 ∷ [])
    ∙ sym (append_assoc (decimal line) (codes " expected " ++ expected_text due) (10 ∷ [])))

pub due_line-requires : goal.due_line-requires
due_line-requires g c = (c.requires.0, c.args.number, c.requires.1)

pub returns-in-Err-clause-text : goal.returns-in-Err-clause-text
returns-in-Err-clause-text g c = rw (sym (in_parts c.args.number (expected_of c.args.expected)))
    (puts_cut _ _ _ _ _ _ _ (rw (c.bytes.ensures.is, c.wrong_front.ensures) at c.in-Err.ensures.text.part))

pub returns-clause-text : goal.returns-clause-text
returns-clause-text g c = rw (sym (in_parts c.args.number (expected_of c.args.expected)))
    (puts_behind _ _ _ _ _ _ _ _ _ (rw (c.bytes.ensures.is, c.wrong_front.ensures) at c.in-Ok.ensures.text.all)
    (rw (c.bytes-2.ensures.is, c.due_line.ensures) at c.put-2.ensures.text))

pub returns-in-Err-clause-cause : goal.returns-in-Err-clause-cause
returns-in-Err-clause-cause g c = c.in-Err.ensures.cause

pub returns-in-Err-clause-stops : goal.returns-in-Err-clause-stops
returns-in-Err-clause-stops g c = c.in-Err.ensures.stops

pub returns-clause-cause : goal.returns-clause-cause
returns-clause-cause g c = rw (c.in-Ok.ensures.cause.ok, c.in-Ok.ensures.cause.other) at c.put-2.ensures.cause
