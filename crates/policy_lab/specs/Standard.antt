-- Two policies: earliest deadline first, and greatest density first.
use Rattle.std.specs.Prelude.{◌*◌, Bool, ◌||◌, ◌&&◌, ◌==◌, nat_lt, option_map}
use Rattle.dover_model.specs.declared.events.Entry.{Entry}
use Rattle.dover_model.specs.Orders.{first}
use Rattle.policy_lab.specs.Picks.{Picks, number_of}

-- due before b, ties to the smaller number
abbrev pub is_due_first : Entry → Entry → Bool
is_due_first a b = nat_lt a.deadline b.deadline || ((a.deadline == b.deadline) && nat_lt a.number b.number)

-- worth more for each tick left than b, ties to the smaller number
abbrev pub is_denser : Entry → Entry → Bool
is_denser a b = nat_lt (b.value * a.left) (a.value * b.left) ||
    ((a.value * b.left == b.value * a.left) && nat_lt a.number b.number)

-- earliest deadline first
abbrev pub earliest_deadline : Picks
earliest_deadline entries = option_map number_of (first is_due_first entries)

-- greatest value for each tick left first
abbrev pub greatest_density : Picks
greatest_density entries = option_map number_of (first is_denser entries)
