use Rattle.std.proofs.Common.{[], sym, ◌∙◌}
use Rattle.dover_model.specs.Lines.{lines_of}
use Rattle.feed_words.proofs.serve.Snapped.{taken_to}
use Rattle.feed_words.proofs.serve.pause.pause.Goals as goal

pub new-requires : goal.new-requires
new-requires g c = (
  c.requires.0,
  taken_to c.args.pausing.serving.feed c.args.pausing.roster c.requires.0 c.requires.1 c.requires.2 c.requires.3
      c.into_lane-lane.result c.into_lane-lane.ensures
      c.in-Some.server (sym c.into_server.ensures ∙ c.in-Some.is) c.lines-lines.result c.lines-lines.ensures
      c.mark-mark.result c.mark-mark.ensures,
)

pub returns-clause-text : goal.returns-clause-text
returns-clause-text g c = λ x rests may listed. c.new.ensures x
    (taken_to c.args.pausing.serving.feed c.args.pausing.roster x rests may listed c.into_lane-lane.result
    c.into_lane-lane.ensures c.in-Some.server
    (sym c.into_server.ensures ∙ c.in-Some.is) c.lines-lines.result c.lines-lines.ensures
    c.mark-mark.result c.mark-mark.ensures)

pub returns-clause-paid : goal.returns-clause-paid
returns-clause-paid g c = λ x start now rests may paid.
    c.laws.ensures.few c.args.pausing.serving.feed.lane (lines_of x) [] start now rests.lane.stands paid
