-- Early finishes: a job that declares more work than it needs is done once it has had what it needs.
use Rattle.std.specs.Prelude.{ℕ, List, Bool, not, ◌&&◌, ◌==◌, nat_lt, nat_le, if◌then◌else◌, [], ◌∷◌, false}
use Rattle.std.specs.Prelude.{Option, Some, None}
use Rattle.std.specs.List.{list_any}
use Rattle.dover_model.specs.declared.events.Task.{Task}
use Rattle.dover_model.specs.State.{left}

-- the job of this number finishes once it has had so many ticks, though work may be left
pub record Finish : Type 0 where
  pub number : ℕ
  pub had : ℕ

-- the job has come to this finish, by a tick
abbrev pub has_come_to : Task → Finish → Bool
has_come_to t f = (f.number == t.number) && (f.had == t.had) && nat_lt 0 t.had

-- so has the job, if there is one
abbrev pub is_finish_of : Option Task → Finish → Bool
is_finish_of None f = false
is_finish_of (Some t) f = has_come_to t f

-- the job has come to one of these finishes
abbrev pub is_due : List Finish → Task → Bool
is_due finishes t = list_any (has_come_to t) finishes

-- the job has work left, and has come to no finish
abbrev pub goes_on : List Finish → Task → Bool
goes_on finishes t = nat_lt 0 (left t) && not (is_due finishes t)

-- how many ticks the job of number n and of this work needs: the least that one of its finishes names, or all its work
abbrev pub need : List Finish → ℕ → ℕ → ℕ
need [] n work = work
need (f ∷ finishes) n work =
    let more = need finishes n work in
    if (f.number == n) && nat_lt 0 f.had && nat_le f.had more then f.had else more
