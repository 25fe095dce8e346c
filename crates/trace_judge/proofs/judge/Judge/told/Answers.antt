use Rattle.std.proofs.Common.{sym, ap, ◌∙◌, subst, Vec, Global}
use Rattle.dover_model.specs.declared.events.Event.{Event}
use Rattle.dover_model.proofs.lists.Tests.{never}
use Rattle.trace_judge.specs.Judging.{Judged, Tells, steps_told}
use Rattle.dover_model.specs.Lines.{whole_lines}
use Rattle.trace_judge.specs.Reads.{Ends}
use Rattle.trace_judge.proofs.Judging.{ends_accepted, steps_accepted, steps_left}
use Rattle.trace_judge.proofs.judge.Judge.told.Goals as goal
use Rattle.trace_judge.proofs.judge.Judge.told.Goals.{in-Accepted, in_default, then-not-matches, else-not-matches}

pub returns-clause-steps : goal.returns-clause-steps
returns-clause-steps c text stands = elim c.if-not-matches.branch [
  | then-not-matches w ↦ elim c.match-matches.branch [
    | in-Accepted x ↦ never (sym w.if-not-matches.true ∙ x.matches-is)
    | in_default x ↦ ap (λ (v : Vec Event Global). v.items) w.steps-is ∙ w.clear.ensures.items
        ∙ steps_left c.args.self text stands c.args.verdict
        (c.requires text stands) x.in_default.not-Accepted
  ]
  | else-not-matches w ↦ elim c.match-matches.branch [
    | in-Accepted x ↦
        let told = subst (λ v. Tells v text) x.in-Accepted.is (c.requires text stands) in
        ap (λ (v : Vec Event Global). v.items) w.steps-is ∙ c.into_steps-steps.ensures
        ∙ ap (λ (j : Judged). j.reader.steps) c.self.view_is
        ∙ steps_accepted c.args.self text stands told.0 told.1 ∙ ap (steps_told c.args.self.reader.keep) (sym told.1)
    | in_default x ↦ never (sym x.matches-is ∙ w.if-not-matches.false)
  ]
]

pub returns-clause-refused : goal.returns-clause-refused
returns-clause-refused c text S stands told = c.refused-refused.ensures (whole_lines text) S
    (subst (λ (j : Judged). Ends j.reader (whole_lines text) S) (sym c.self.view_is)
    (ends_accepted c.args.self text stands S told))
