use Rattle.std.proofs.Common.{List, ℕ, length, ap, arith}
use Rattle.dover_model.specs.Lines.{lines_of}
use Rattle.dialogue.proofs.Reading.{bytes_behind, lines_steady, on_few}
use Rattle.dialogue.proofs.line_reader.LineTalkerTalker.laws.Goals as goal

pub returns : goal.returns
returns g c = record {
  steady = λ a. lines_steady (g.R.LineReader.reading a) (c.laws.ensures.orderly a);
  few = λ a t m x it on. on_few (g.R.LineReader.reading a) (c.laws.ensures.orderly a) x on;
  parts = λ a t m x rest it. omega (arith, ap (λ (l : List (List ℕ)). length l) it.1);
  spent = λ a t m x rest it. c.laws.ensures.spent a t.reader m (lines_of x) it.0.taken;
  rested = λ a t m x it. c.laws.ensures.spent a t.reader m (lines_of x) it.taken;
  behind = λ a m x y it. bytes_behind (g.R.LineReader.reading a) (c.laws.ensures.orderly a)
      (g.R.LineReader.costs a m) (c.laws.ensures.behind a m) x y it;
}
