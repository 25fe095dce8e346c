use Rattle.std.proofs.Common.{◌++◌, ap, ◌∙◌}
use Rattle.dover_model.specs.Lines.{in_lines}
use Rattle.run_reports.specs.report.Kept.{kept_lines}
use Rattle.trace_words.proofs.report.Answering.{same_run}
use Rattle.trace_words.proofs.report.word.text_of.Goals as goal

pub of-requires : goal.of-requires
of-requires c = (c.requires.0, same_run _ _ _ _ c.deref.ensures.value c.requires.1)

pub returns : goal.returns
returns c J of three =
    let same = same_run _ _ _ _ c.deref.ensures.value of in
    let lines = kept_lines c.in_ok-found.found.kept in (
      lines,
      c.in_ok-found.ensures.kept J same,
      c.in_ok-text.ensures ∙ ap (λ t. t ++ in_lines lines) (c.in_ok-found.ensures.report J same three),
    )
