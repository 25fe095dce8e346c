use Rattle.std.proofs.Common.{arith, ap, sym, ◌∙◌, subst}
use Rattle.line_text.specs.declared.cutting.ByteEffect.TheVariants.{Line}
use Rattle.trace_judge.specs.Reads.{IsPaid, job_lines_in}
use Rattle.trace_judge.specs.Judging.{Judged, IsCut}
use Rattle.trace_judge.proofs.Judging.{ok_onto, err_onto}
use Rattle.trace_judge.proofs.EndedLines.{noted_stands, unroomed}
use Rattle.trace_judge.proofs.judge.Judge.take_line.Goals as goal

pub returns-clause-stands : goal.returns-clause-stands
returns-clause-stands g c = ok_onto c.note.result c.note.ensures.ok (λ ok before text it.
    let at = subst (λ j. IsCut j Line before text) (sym c.self.view_is) it in
    noted_stands
    (record { lines = c.self.inside.lines; reader = c.take-taken.new.self; found = c.self.inside.found })
    c.note.new.self c.self.inside.reader c.self.inside.lines.line before text
    (ap (λ (j : Judged). j.found) c.self.view_is ∙ c.requires.good) at.cut at.parts at.reads c.take-taken.result ok
    (rw c.line.ensures at c.take-taken.ensures.took) c.note.ensures.notes)

pub returns-clause-room : goal.returns-clause-room
returns-clause-room g c = err_onto c.note.result c.note.ensures.err (λ failed.
    let more = unroomed c.take-taken.result _ _ c.take-taken.ensures.room failed in omega (
      arith,
      rw c.line.ensures at more,
      ap (λ (j : Judged). j.reader.spare) c.self.view_is,
      ap (λ (j : Judged). job_lines_in j.lines.line) c.self.view_is,
    ))

pub returns-clause-paid : goal.returns-clause-paid
returns-clause-paid g c start paid = c.note.ensures.paid start (c.take-taken.ensures.paid start
    (subst (λ (j : Judged). IsPaid j.reader start c.args.comparisons.now) (sym c.self.view_is) paid))
