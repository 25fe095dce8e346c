-- The step that comes next has the form of a trace's line, and a line has one form.
use Rattle.std.proofs.Common.{◌≡◌, ℕ, List, ◌∷◌, ◌++◌, sym, ap, ◌∙◌, subst}
use Rattle.dover_model.specs.Common.{State, printed, printed_of, Session, instance_of, fields_of, PrintsNext}
use Rattle.dover_model.specs.declared.events.Event.{Event}
use Rattle.dover_model.proofs.lists.Members.{some_same, all_at}
use Rattle.dover_model.proofs.sessions.SessionParts.{session_jobs}
use Rattle.line_text.specs.declared.traces.lines.TraceLine.{TraceLine}
use Rattle.line_text.specs.declared.traces.lines.TraceLine.TheVariants.{Step}
use Rattle.line_text.specs.traces.Form.{HasForm, trace_text}
use Rattle.line_text.specs.traces.Reading.{line_of_fields}
use Rattle.line_text.proofs.traces.Named.{HaveForm, printed_form}
use Rattle.line_text.proofs.traces.Spelled.{text_read}
use Rattle.trace_judge.specs.Reading.{Sees}
use Rattle.trace_judge.proofs.Seeing.{sees_next}

-- a line has one form
pub one_form : (x y : TraceLine) → HasForm x → HasForm y → trace_text x ≡ trace_text y → x ≡ y
one_form x y form_x form_y same =
    some_same x y (sym (text_read x form_x) ∙ ap (λ l. line_of_fields (fields_of l)) same ∙ text_read y form_y)

-- what is printed next has the form of a trace's line
pub next_form : (ls : List (List ℕ)) (S : Session) (floor : ℕ) (z : State) → Sees ls S floor z → (e : Event) (y : State)
    → PrintsNext (instance_of S).rules z e y → HasForm (Step e)
next_form ls S floor z sees e y next =
    let it : (more : List Event) × (printed (instance_of S) ≡ printed_of sees.steps ++ e ∷ more) =
    sees_next ls S floor z sees e y next in
    all_at (λ e. HasForm (Step e)) (printed_of sees.steps) e it.0
    (subst HaveForm it.1 (printed_form (instance_of S) (session_jobs sees.valid)))
