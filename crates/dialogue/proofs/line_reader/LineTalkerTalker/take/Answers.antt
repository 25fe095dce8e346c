use Rattle.std.proofs.Common.{◌∙◌, ◌++◌, refl, sym, true, false, length, eqb-true}
use Rattle.std.proofs.lemmas.List.{nil_from_length}
use Rattle.dialogue.specs.Reading.{lines_talk}
use Rattle.dialogue.specs.Taking.{HasTaken}
use Rattle.dialogue.proofs.Cutting.{front_more, front_none, front_takes, front_whole, of_piece, rest_less}
use Rattle.dialogue.proofs.Hearing.{takes_whole}
use Rattle.dialogue.proofs.line_reader.LineTalkerTalker.take.Goals as goal

pub loop-rest-init : goal.loop-rest-init
loop-rest-init g c = λ a x it on. front_none (g.R.LineReader.reading a) _ x c.args.piece.now it on

pub take_front-requires-clause-taken : goal.take_front-requires-clause-taken
take_front-requires-clause-taken g c =
    let asked = c.requires.stands in
    let h = c.loop-rest.invariant asked.0 asked.1 asked.2 asked.3 in
    (asked.0, asked.1 ++ h.front, h.taken, h.goes_on)

pub returns-in-Err : goal.returns-in-Err
returns-in-Err g c = record {
  takes = λ a x it on.
      let h = c.loop-rest.invariant a x it on in
      let o = c.laws.ensures.orderly a in
      let r = g.R.LineReader.reading a in
      let failed = c.in-Err.ensures a (x ++ h.front) h.taken h.goes_on in (
        of_piece r _ x c.args.piece.now c.loop-rest.rest.now h c.front-count.result o (λ b. r.lacks b false) o.lacking
            failed.0,
        of_piece r _ x c.args.piece.now c.loop-rest.rest.now h c.front-count.result o
            (g.R.LineReader.costs a c.take_front.new.meter) (c.laws.ensures.behind a c.take_front.new.meter) failed.1,
      );
}

pub loop-rest-preserved : goal.loop-rest-preserved
loop-rest-preserved g c = λ a x it on.
    let h = c.loop-rest.invariant a x it on in
    let taken = c.in-Ok.ensures a (x ++ h.front) h.taken h.goes_on in
    front_more (g.R.LineReader.reading a) _ x c.args.piece.now c.loop-rest.rest.now h c.front-count.result _ true taken
    (sym (c.goes_on.ensures a _ _ taken.taken) ∙ c.if-not-goes_on.false)

pub returns-then-not-goes_on : goal.returns-then-not-goes_on
returns-then-not-goes_on g c = record {
  takes = λ a x it on.
      let h = c.loop-rest.invariant a x it on in
      let taken = c.in-Ok.ensures a (x ++ h.front) h.taken h.goes_on in
      let r = g.R.LineReader.reading a in
      front_takes r (HasTaken (g.R.LineReader.stands a c.take_front.new.self.reader c.take_front.new.meter)
      c.take_front.new.self.lines) x c.args.piece.now _ false
      (front_more r _ x c.args.piece.now c.loop-rest.rest.now h c.front-count.result _ false taken
      (sym (c.goes_on.ensures a _ _ taken.taken) ∙ c.if-not-goes_on.true))
      (rest_less r _ x c.args.piece.now c.loop-rest.rest.now h c.front-count.result c.front-count.ensures.some
      c.front-count.ensures.within);
}

pub returns : goal.returns
returns g c = record {
  takes = λ a x it on.
      let r = g.R.LineReader.reading a in
      takes_whole (lines_talk r) (HasTaken (g.R.LineReader.stands a c.loop-rest.self.reader c.loop-rest.meter)
      c.loop-rest.self.lines) x c.args.piece.now c.requires.some refl
      (front_whole r _ x c.args.piece.now c.loop-rest.rest.now true (c.loop-rest.invariant a x it on)
      (nil_from_length c.loop-rest.rest.now
      (eqb-true (length c.loop-rest.rest.now) 0 (sym c.is_empty.ensures ∙ c.loop-rest-test.false))));
}
