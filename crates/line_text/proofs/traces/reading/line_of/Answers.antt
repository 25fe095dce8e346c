use Rattle.line_text.proofs.traces.NoLine.{no_line}
use Rattle.line_text.proofs.traces.reading.line_of.Goals as goal

pub returns : goal.returns
returns g c = no_line c.args.line.now record {
  job = c.in_default.ensures.none;
  run = c.in_default-behind_word.ensures.none;
  complete = c.in_default-behind_word-2.ensures.none;
  preempt = c.in_default-behind_word-3.ensures.none;
  abandon = c.in_default-behind_word-4.ensures.none;
  displace = c.in_default-behind_word-5.ensures.none;
  refuse = c.in_default-behind_word-6.ensures.none;
  end = c.in_default-behind_word-7.ensures.none;
  dover = c.in_default-behind_word-8.ensures.none;
}
