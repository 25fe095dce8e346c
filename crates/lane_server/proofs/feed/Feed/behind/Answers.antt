use Rattle.std.proofs.Common.{[], length, ap, ◌∙◌}
use Rattle.dover_model.specs.Common.{account, lines_of}
use Rattle.line_text.proofs.WholeLines.{lines_whole}
use Rattle.event_feed.proofs.Counting.{lines_counted}
use Rattle.lane_server.proofs.Adding.{open_stands}
use Rattle.lane_server.proofs.feed.Feed.behind.Goals as goal

pub returns-clause-rests : goal.returns-clause-rests
returns-clause-rests c = λ x none goes quiet. record {
  cut = c.behind.ensures x (c.lines.ensures (lines_of x) [] quiet.stands
      ∙ lines_counted (lines_of x) (open_stands (account x) goes) ∙ ap length (lines_whole x none)) none;
  lane = quiet;
}
