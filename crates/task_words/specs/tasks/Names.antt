-- The names of tasks.
use Rattle.std.specs.Prelude.{ℕ, ◌-◌, List, [], ◌∷◌, ◌++◌, length, take, replicate, Bool, ◌&&◌, ◌||◌, ◌==◌, nat_le}
use Rattle.std.specs.Char.{is_ascii_alphanumeric}
use Rattle.std.specs.List.{list_all}
use Rattle.task_words.specs.declared.tasks.name.TaskName.{TaskName}

-- a letter, a digit, '-' or '_'
abbrev pub is_name_byte : ℕ → Bool
is_name_byte b = is_ascii_alphanumeric b || (b == 45) || (b == 95)

-- 1 to 16 of these
abbrev pub is_name : List ℕ → Bool
is_name bytes = nat_le 1 (length bytes) && nat_le (length bytes) 16 && list_all is_name_byte bytes

-- bytes, and zeros up to 16
abbrev pub padded : List ℕ → List ℕ
padded bytes = bytes ++ replicate (16 - length bytes) 0

-- the name of these bytes
abbrev pub named : List ℕ → TaskName
named bytes = record { bytes = padded bytes; count = length bytes }

-- a task without a name has that of no bytes
abbrev pub unnamed : TaskName
unnamed = named []

-- read of no list
abbrev pub blank_name : TaskName
blank_name = record { bytes = []; count = 0 }

-- the bytes of a name
abbrev pub name_bytes : TaskName → List ℕ
name_bytes name = take name.count name.bytes

-- a name behind a space, or nothing where there is none
abbrev pub name_field : List ℕ → List ℕ
name_field [] = []
name_field (b ∷ bs) = 32 ∷ b ∷ bs

-- what stands behind the numbers of a task in its line
abbrev pub name_text : TaskName → List ℕ
name_text name = name_field (name_bytes name)
