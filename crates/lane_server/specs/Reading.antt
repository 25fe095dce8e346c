-- The lines of the input, as they are read.
use Rattle.lane_server.specs.Lanes as model
use Rattle.lane_server.specs.declared.reading.LaneLine.{LaneLine}
use Rattle.lane_server.specs.declared.reading.LaneLine.TheVariants.{OfLane, Close}

-- the line that is read
abbrev pub line_read : LaneLine → model.LaneLine
line_read (OfLane lane line) = model.OfLane lane line.now
line_read Close = model.Close
