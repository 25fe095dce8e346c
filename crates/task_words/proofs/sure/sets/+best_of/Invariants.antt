use Rattle.std.proofs.Common.{◌+◌, ◌-◌, length}
use Rattle.task_words.specs.sure.Kept.{left_from}
use Rattle.task_words.specs.sure.Streams.{streams_of}
use Rattle.task_words.proofs.sure.sets.+best_of.Given as goal

abbrev pub decreases-best_of : goal.decreases-best_of
decreases-best_of l = length (left_from (streams_of l.tasks.now) l.number l.next l.left) + (length l.tasks.now - l.next)
