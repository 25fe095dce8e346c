use Rattle.std.proofs.Common.{[]}
use Rattle.lanes_word.proofs.hosting.HostingTalker.goes_on.Goals as goal

pub returns : goal.returns
returns g c = λ a x at. c.goes_on.ensures x [] at.rests.stands
