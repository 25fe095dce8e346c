use Rattle.clairvoyant.proofs.feasible.Overfull.{overfull_excludes}
use Rattle.clairvoyant.proofs.feasible.laws.an_overfull_window_excludes_meeting.Goals as goal

pub returns : goal.returns
returns c = overfull_excludes
