-- The trace that follows a task text.
use Rattle.std.specs.Prelude.{List, ℕ, [], ◌∷◌, ◌++◌, if◌then◌else◌}
use Rattle.task_words.specs.reading.Account.{account, is_open}

-- what follows of these bytes, behind those that were read, once these end the task text or are at fault
abbrev pub behind_from : (read bytes : List ℕ) → List ℕ
behind_from read [] = []
behind_from read (b ∷ bs) = if is_open (account 0 read) then behind_from (read ++ b ∷ []) bs else b ∷ bs

-- what follows the task text that the bytes begin with, or nothing where it goes on
abbrev pub behind : List ℕ → List ℕ
behind bytes = behind_from [] bytes
