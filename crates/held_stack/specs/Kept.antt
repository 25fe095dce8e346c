-- The rooms of held jobs, as they are kept without the jobs.
use Rattle.std.specs.Prelude.{◌≡◌, ℕ, ◌^◌, ◌<◌, List, [], ◌∷◌, Option, Some, None}
use Rattle.dover_model.specs.declared.events.Entry.{Entry}
use Rattle.dover_model.specs.Entries.{room_of}
use Rattle.held_stack.specs.Stack.{value_of, IsByDeadline}

-- from the top down the ticks until which the rooms last, how many more fit, and the sum of the values
pub record Lasting : Type 0 where
  pub untils : List ℕ
  pub spare : ℕ
  pub value : ℕ

-- for each job the tick until which the room lasts that it and those below it leave: what it is at tick 0
abbrev pub untils_of : List Entry → List ℕ
untils_of [] = []
untils_of (e ∷ below) = room_of 0 (e ∷ below) ∷ untils_of below

-- the first of these ticks
abbrev pub first_of : List ℕ → Option ℕ
first_of [] = None
first_of (until ∷ more) = Some until

-- these are the rooms of these jobs
pub record AreRoomsOf (rooms : Lasting) (held : List Entry) : Type 0 where
  pub untils : rooms.untils ≡ untils_of held
  pub order : IsByDeadline held
  pub sum : rooms.value ≡ value_of held
  pub total : rooms.value < 10 ^ 18
