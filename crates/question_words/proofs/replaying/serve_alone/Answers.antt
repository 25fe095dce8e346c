use Rattle.std.proofs.Common.{[], arith}
use Rattle.question_words.proofs.replaying.serve_alone.Goals as goal

pub serve_listed-requires-clause-begins : goal.serve_listed-requires-clause-begins
serve_listed-requires-clause-begins g c = record {
  events = [];
  served = c.in_ok-server.ensures.serves;
  shown = c.requires.begins;
}

pub serve_listed-requires-clause-paid : goal.serve_listed-requires-clause-paid
serve_listed-requires-clause-paid g c = c.in_ok-server.ensures.paid c.args.comparisons.now c.args.comparisons.now
    (omega arith)

pub returns-clause-run : goal.returns-clause-run
returns-clause-run g c = c.serve_listed.ensures.run

pub returns-clause-count : goal.returns-clause-count
returns-clause-count g c = c.serve_listed.ensures.count
