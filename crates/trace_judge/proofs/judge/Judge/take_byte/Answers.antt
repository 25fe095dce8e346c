use Rattle.std.proofs.Common.{◌<◌, ◌++◌, ◌∷◌, [], ℕ, List, length, sym, ap, ◌∙◌, subst, arith}
use Rattle.line_text.specs.declared.cutting.ByteEffect.TheVariants.{More, Line}
use Rattle.line_text.specs.Cutting.{Cutting}
use Rattle.trace_judge.specs.Reads.{IsPaid, Reading, job_lines_in}
use Rattle.trace_judge.specs.Judging.{Judged, StandsFor, IsGood, IsCut, Fed, IsOverfed, HasPaidFor}
use Rattle.trace_judge.proofs.Judging.{stands_good, ok_onto, err_onto, some_line, is_cut, named_ended, named_more}
use Rattle.trace_judge.proofs.judge.Judge.take_byte.Goals as goal

pub returns-in-Line-clause-fed : goal.returns-in-Line-clause-fed
returns-in-Line-clause-fed g c =
    let old : Judged =
    record { lines = c.self.inside.lines; reader = c.self.inside.reader; found = c.self.inside.found } in
    let good = ap (λ (j : Judged). j.found) c.self.view_is ∙ c.requires.good in
    ok_onto c.take_line.result c.take_line.ensures.stands
    (λ (meets : (before text : List ℕ) → IsCut (record old { lines = c.push.new.self }) Line before text
    → StandsFor c.take_line.new.self text).
    subst (λ j. Fed j c.take_line.new.self (c.args.byte ∷ [])) c.self.view_is (record {
      stands = λ text stands. meets text (text ++ c.args.byte ∷ [])
          (is_cut old c.push.new.self Line c.args.byte text
          (stands_good old text good stands)
          c.push.ensures.stands (sym c.in-Line.is ∙ c.push.ensures.last) c.in-Line.ensures.cut);
      spare = λ text stands. omega (
        arith,
        c.take_line.ensures.spare,
        named_ended (record old { lines = c.push.new.self }) text (text ++ c.args.byte ∷ [])
            (is_cut old c.push.new.self Line c.args.byte text
            (stands_good old text good stands)
            c.push.ensures.stands (sym c.in-Line.is ∙ c.push.ensures.last) c.in-Line.ensures.cut),
      );
      keep = c.take_line.ensures.keep;
    }))

pub returns-in-Line-clause-room : goal.returns-in-Line-clause-room
returns-in-Line-clause-room g c =
    let old : Judged =
    record { lines = c.self.inside.lines; reader = c.self.inside.reader; found = c.self.inside.found } in
    let good = ap (λ (j : Judged). j.found) c.self.view_is ∙ c.requires.good in
    err_onto c.take_line.result c.take_line.ensures.room
    (λ (low : old.reader.spare < job_lines_in c.push.new.self.line).
    subst (λ j. IsOverfed j (c.args.byte ∷ [])) c.self.view_is (λ text stands. omega (
      arith,
      low,
      named_ended (record old { lines = c.push.new.self }) text (text ++ c.args.byte ∷ [])
          (is_cut old c.push.new.self Line c.args.byte text
          (stands_good old text good stands)
          c.push.ensures.stands (sym c.in-Line.is ∙ c.push.ensures.last) c.in-Line.ensures.cut),
    )))

pub go_on-requires-clause-some : goal.go_on-requires-clause-some
go_on-requires-clause-some g c = subst (λ l. 0 < length l) (sym (ap (λ (l : Cutting). l.line) c.push.ensures.is))
    (some_line c.self.inside.lines c.args.byte
    (sym c.in-More.is ∙ c.push.ensures.last ∙ ap (λ (l : Cutting). l.last) c.push.ensures.is))

pub returns-in-More-clause-fed : goal.returns-in-More-clause-fed
returns-in-More-clause-fed g c =
    let old : Judged =
    record { lines = c.self.inside.lines; reader = c.self.inside.reader; found = c.self.inside.found } in
    let good = ap (λ (j : Judged). j.found) c.self.view_is ∙ c.requires.good in
    subst (λ j. Fed j c.go_on.new.self (c.args.byte ∷ [])) c.self.view_is (record {
      stands = λ text stands. c.go_on.ensures.stands text (text ++ c.args.byte ∷ [])
          (is_cut old c.push.new.self More c.args.byte text
          (stands_good old text good stands)
          c.push.ensures.stands (sym c.in-More.is ∙ c.push.ensures.last) c.in-More.ensures.cut);
      spare = λ text stands. omega
          (arith, ap (λ (r : Reading). r.spare) c.go_on.ensures.reader, named_more text (c.args.byte ∷ []));
      keep = ap (λ (r : Reading). r.keep) c.go_on.ensures.reader;
    })

pub returns-in-Line-clause-paid : goal.returns-in-Line-clause-paid
returns-in-Line-clause-paid g c = λ text start stands it.
    let was = subst (λ j. HasPaidFor j text start c.args.comparisons.now) (sym c.self.view_is) it in
    let good = subst (λ j. IsGood j text) (sym c.self.view_is)
    (stands_good c.args.self.now text c.requires.good stands) in
    record {
      paid = c.take_line.ensures.paid start was.paid;
      few = omega (
        arith,
        c.take_line.ensures.jobs,
        was.few,
        named_ended
            (record { lines = c.push.new.self; reader = c.self.inside.reader; found = c.self.inside.found })
            text (text ++ c.args.byte ∷ [])
            (is_cut _ c.push.new.self Line c.args.byte text good
            c.push.ensures.stands (sym c.in-Line.is ∙ c.push.ensures.last) c.in-Line.ensures.cut),
      );
    }

pub returns-in-More-clause-paid : goal.returns-in-More-clause-paid
returns-in-More-clause-paid g c = λ text start stands it.
    let was = subst (λ j. HasPaidFor j text start c.args.comparisons.now) (sym c.self.view_is) it in
    record {
      paid = subst (λ (r : Reading). IsPaid r start c.args.comparisons.now) (sym c.go_on.ensures.reader) was.paid;
      few = omega (
        arith,
        ap (λ (r : Reading). r.course.jobs) c.go_on.ensures.reader,
        was.few,
        named_more text (c.args.byte ∷ []),
      );
    }

pub returns-in-TooLong-clause-paid : goal.returns-in-TooLong-clause-paid
returns-in-TooLong-clause-paid g c = λ text start stands it.
    let was = subst (λ j. HasPaidFor j text start c.args.comparisons.now) (sym c.self.view_is) it in
    record {
      paid = c.overrun.ensures.paid start was.paid;
      few = omega (arith, c.overrun.ensures.kept.jobs, was.few, named_more text (c.args.byte ∷ []));
    }
