use Rattle.std.proofs.Common.{◌++◌, arith, ap, sym, ◌∙◌, subst}
use Rattle.std.proofs.Math.Nat.{lt_of_not-le}
use Rattle.trace_judge.specs.Judging.{Judged, IsGood, Fed, IsOverfed, HasPaidFor}
use Rattle.trace_judge.proofs.Judging.{ok_onto, err_onto, named_whole, stands_good}
use Rattle.trace_judge.proofs.EndedLines.{noted_fed, noted_over, ok_not_err}
use Rattle.trace_judge.proofs.judge.Judge.take_whole.Goals as goal

pub returns-clause-fed : goal.returns-clause-fed
returns-clause-fed g c = ok_onto c.note.result c.note.ensures.ok (λ ok.
    let old : Judged =
    record { lines = c.self.inside.lines; reader = c.self.inside.reader; found = c.self.inside.found } in
    let good = ap (λ (j : Judged). j.found) c.self.view_is ∙ c.requires.good in
    let mid : Judged = record old { lines = c.pass-line.new.self; reader = c.take-taken.new.self } in
    subst (λ j. Fed j c.note.new.self c.args.bytes.now) c.self.view_is
    (noted_fed old mid c.note.new.self c.pass-line.result.now c.args.bytes.now
    good good c.pass-line.ensures.stands c.pass-line.ensures.cut c.take-taken.result ok
    c.take-taken.ensures.took c.note.ensures.notes c.note.ensures.kept c.take-taken.ensures.spare
    c.take-taken.ensures.keep))

pub returns-clause-room : goal.returns-clause-room
returns-clause-room g c = err_onto c.note.result c.note.ensures.err (λ err.
    let old : Judged =
    record { lines = c.self.inside.lines; reader = c.self.inside.reader; found = c.self.inside.found } in
    let good = ap (λ (j : Judged). j.found) c.self.view_is ∙ c.requires.good in
    let mid : Judged = record old { lines = c.pass-line.new.self; reader = c.take-taken.new.self } in
    subst (λ j. IsOverfed j c.args.bytes.now) c.self.view_is
    (noted_over old mid c.note.new.self c.pass-line.result.now c.args.bytes.now
    good good c.pass-line.ensures.stands c.pass-line.ensures.cut
    (lt_of_not-le (λ low. ok_not_err c.take-taken.result (c.take-taken.ensures.room low) err))))

pub returns-clause-paid : goal.returns-clause-paid
returns-clause-paid g c = λ text start stands it.
    let was = subst (λ j. HasPaidFor j text start c.args.comparisons.now) (sym c.self.view_is) it in
    let good = subst (λ j. IsGood j text) (sym c.self.view_is)
    (stands_good c.args.self.now text c.requires.good stands) in
    record {
      paid = c.note.ensures.paid start (c.take-taken.ensures.paid start was.paid);
      few = omega (
        arith,
        c.take-taken.ensures.jobs,
        c.note.ensures.kept.jobs,
        was.few,
        named_whole c.pass-line.result.now text (text ++ c.args.bytes.now) (c.pass-line.ensures.cut text good.cut),
      );
    }
