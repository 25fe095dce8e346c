use Rattle.std.proofs.Common.{sym, ap, ◌∙◌, subst, arith}
use Rattle.dover_model.specs.Lines.{whole_lines}
use Rattle.dover_model.specs.Verdict as model
use Rattle.line_text.specs.Cutting.{is_over}
use Rattle.trace_judge.specs.Reads.{Reads}
use Rattle.trace_judge.specs.Judging.{Judged, StandsFor}
use Rattle.trace_judge.proofs.Readings.{reads_ahead}
use Rattle.trace_judge.proofs.Judging.{reads_few, rest_long}
use Rattle.trace_judge.proofs.judge.Judge.overrun.Goals as goal

pub returns-clause-stands : goal.returns-clause-stands
returns-clause-stands g c before text it =
    let misses = c.miss.ensures.missed in
    let reads : Reads c.args.self.now.reader (whole_lines text) =
    subst (Reads c.args.self.now.reader) (sym it.parts.0) it.reads in
    subst (λ j. StandsFor j text) (sym misses.is)
    (rest_long c.args.self.now.reader text reads (sym it.cut.over ∙ ap is_over it.last)
    ∙ ap (λ n. model.Wrong n (model.expected_after (whole_lines text)))
    (omega (
      arith,
      reads_few c.args.self.now.reader (whole_lines text) reads,
      it.cut.count,
      c.count.ensures,
      ap (λ (j : Judged). j.lines.count) c.self.view_is,
      c.saturating_add-line.ensures,
    ))
    ∙ ap (model.Wrong c.saturating_add-line.result)
    (misses.expects (whole_lines text) (reads_ahead c.args.self.now.reader (whole_lines text) reads)))

pub returns-clause-paid : goal.returns-clause-paid
returns-clause-paid g c = c.miss.ensures.paid
