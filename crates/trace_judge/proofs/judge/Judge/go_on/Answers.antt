use Rattle.std.proofs.Common.{◌≡◌, ◌<◌, length, sym, ap, ◌∙◌, subst, arith, false}
use Rattle.dover_model.specs.Lines.{whole_lines}
use Rattle.dover_model.specs.Verdict as model
use Rattle.dover_model.proofs.lists.Tests.{never}
use Rattle.line_text.specs.Cutting.{is_over}
use Rattle.trace_judge.specs.declared.stage.TraceStage.TheVariants.{Ended}
use Rattle.line_text.specs.declared.cutting.ByteEffect.TheVariants.{More}
use Rattle.trace_judge.specs.Judging.{Judged, IsCut}
use Rattle.trace_judge.specs.Reads.{Reads}
use Rattle.trace_judge.proofs.Readings.{reads_ahead, ends_of, ended_due}
use Rattle.trace_judge.proofs.Judging.{is_ended, reads_few, rest_behind, rest_open, good_stands, not_ended}
use Rattle.trace_judge.proofs.judge.Judge.go_on.Goals as goal
use Rattle.trace_judge.proofs.judge.Judge.go_on.Goals.{in-Ended, in_default, Else-matches}

pub returns-then-matches-clause-stands : goal.returns-then-matches-clause-stands
returns-then-matches-clause-stands c before text it =
    let at = subst (λ j. IsCut j More before text) (sym c.self.view_is) it in
    let reads : Reads c.self.inside.reader (whole_lines text) =
    subst (Reads c.self.inside.reader) (sym at.parts.0) at.reads in
    let ended : c.self.inside.reader.stage ≡ Ended =
    elim c.match-matches.branch [
      | in-Ended w ↦ sym c.stage.ensures
          ∙ w.in-Ended.is
      | in_default w ↦ never (sym w.matches-is ∙ c.if-matches.true)
    ] in
    let end = ends_of c.self.inside.reader (whole_lines text) ended
    (reads_ahead c.self.inside.reader (whole_lines text) reads) in
    rest_behind c.self.inside.reader text reads (ap is_ended ended)
    (subst (λ l. 0 < length l) (sym it.parts.1) c.requires.some)
    ∙ ap (λ n. model.Wrong n (model.expected_after (whole_lines text)))
    (omega (
      arith,
      reads_few c.self.inside.reader (whole_lines text) reads,
      at.cut.count,
      c.count.ensures,
      c.saturating_add.ensures,
    ))
    ∙ ap (model.Wrong c.saturating_add.result) (ended_due c.self.inside.reader (whole_lines text) end.0 end.1)

pub returns-else-matches-clause-stands : goal.returns-else-matches-clause-stands
returns-else-matches-clause-stands c before text it =
    let reads : Reads c.args.self.now.reader (whole_lines text) =
    subst (Reads c.args.self.now.reader) (sym it.parts.0) it.reads in
    good_stands c.args.self.now text c.requires.good record {
      cut = it.cut;
      counts = rest_open c.args.self.now.reader text reads (goes_on c) (sym it.cut.over ∙ ap is_over it.last);
      reads = reads;
    } where
      goes_on : (c : Else-matches) → is_ended c.args.self.now.reader.stage ≡ false
      goes_on c = elim c.match-matches.branch [
        | in-Ended w ↦ never (sym c.if-matches.false ∙ w.matches-is)
        | in_default w ↦ not_ended c.args.self.now.reader.stage (λ is. w.in_default.not-Ended
            (c.stage.ensures ∙ ap (λ (j : Judged). j.reader.stage) c.self.view_is ∙ is))
      ]
