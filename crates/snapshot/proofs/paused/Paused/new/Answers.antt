use Rattle.std.proofs.Common.{ap, ◌∙◌, false}
use Rattle.dover_model.specs.Common.{Fraction, rules_with, in_lines}
use Rattle.snapshot.specs.Pausing.{lines_left}
use Rattle.snapshot.proofs.Pausing.{lines_few, mark_known, jobs_few, finishes_few, text_is}
use Rattle.snapshot.proofs.paused.Paused.new.Goals as goal

pub invariant_of-result : goal.invariant_of-result
invariant_of-result c =
    let s = c.args.server.now in let k = c.args.roster in (
      lines_few s k c.args.lines c.args.mark c.requires.0 c.requires.1,
      mark_known s k c.args.lines c.args.mark c.requires.0 c.requires.1,
      jobs_few s k c.args.lines c.args.mark c.requires.0 c.requires.1,
      finishes_few s k c.args.lines c.args.mark c.requires.0 c.requires.1,
    )

pub returns : goal.returns
returns c = λ F it.
    ap (λ version. in_lines (lines_left false false c.args.roster.roll (rules_with c.ratio.result version) c.args.lines
    c.args.mark 0 0)) c.version.ensures
    ∙ ap (λ (k : Fraction). in_lines (lines_left false false c.args.roster.roll
    (rules_with k c.args.server.now.ready.rules.version) c.args.lines c.args.mark 0 0)) c.ratio.ensures
    ∙ text_is c.args.server.now c.args.roster c.args.lines c.args.mark F it
