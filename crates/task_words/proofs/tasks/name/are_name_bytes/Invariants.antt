use Rattle.std.proofs.Common.{◌≡◌, take, true}
use Rattle.std.specs.List.{list_all}
use Rattle.task_words.specs.tasks.Names.{is_name_byte}
use Rattle.task_words.proofs.tasks.name.are_name_bytes.Given as goal

-- no other byte so far
abbrev pub invariant-loop-at : goal.invariant-loop-at
invariant-loop-at l = list_all is_name_byte (take l.at l.bytes) ≡ true
