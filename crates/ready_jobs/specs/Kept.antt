-- What is kept of the ready jobs by their roles.
use Rattle.std.specs.Prelude.{reverse, vec_capacity}
use Rattle.ready_jobs.specs.Parts.{Parted, AreParts}
use Rattle.ready_jobs.specs.declared.parts.Parts.TheInside.{Inside}

-- what the fields stand for
abbrev pub parted_of : Inside → Parted
parted_of a = record {
  version = a.pool.version;
  clock = a.clock;
  pressed = a.pressed;
  running = a.running;
  fresh = a.fresh;
  held = reverse a.held.items;
  waiting = a.pool.tasks;
  room = a.room;
}

-- the fields agree
abbrev pub IsKept : Inside → Type 0
IsKept a = AreParts (parted_of a) a.rooms a.pool (vec_capacity a.held)
