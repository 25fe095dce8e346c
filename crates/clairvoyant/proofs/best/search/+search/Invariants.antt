use Rattle.std.proofs.Common.{◌-◌, length}
use Rattle.clairvoyant.proofs.best.search.+search.Given as goal

abbrev pub decreases-search : goal.decreases-search
decreases-search l = length l.jobs.now - l.next
