-- The two orders of jobs, and the threshold of a take.
use Rattle.std.specs.Prelude.{◌≡◌, ℕ, ◌-◌, ◌*◌, List, Bool, false, not, ◌||◌, ◌&&◌, nat_lt, IsTrue, if◌then◌else◌}
use Rattle.std.specs.Prelude.{Option, Some, None}
use Rattle.std.specs.List.{reduce}
use Rattle.dover_model.specs.declared.events.Version.{Version}
use Rattle.dover_model.specs.declared.events.Version.TheVariants.{One, Two, Three, Four}
use Rattle.dover_model.specs.Fraction.{Fraction}
use Rattle.dover_model.specs.declared.factors.Factor.{Factor}
use Rattle.dover_model.specs.declared.events.Task.{Task}
use Rattle.dover_model.specs.Entries.{entry_of, is_due_before, is_start_before}

-- a comes before b in the order by deadline
abbrev pub due_first : Version → Task → Task → Bool
due_first v a b = is_due_before v (entry_of a) (entry_of b)

-- a comes before b in the order by latest start
abbrev pub starts_before : Version → Task → Task → Bool
starts_before v a b = is_start_before v (entry_of a) (entry_of b)

-- a has less value for each tick of its work than b
abbrev pub is_less_dense : Task → Task → Bool
is_less_dense a b = nat_lt (a.job.value * b.job.work) (b.job.value * a.job.work)

-- whether waiting jobs are chosen by density: in version Four, in a pressed state
abbrev pub by_density : Version → Bool → Bool
by_density One pressed = false
by_density Two pressed = false
by_density Three pressed = false
by_density Four pressed = pressed

-- the version that always chooses them by deadline
abbrev pub IsByDeadline : Version → Type 0
IsByDeadline v = (pressed : Bool) → by_density v pressed ≡ false

-- a comes before b among waiting jobs: by deadline or by density
abbrev pub waiting_order : Version → Bool → Task → Task → Bool
waiting_order v dense a b =
    if dense then is_less_dense b a || (not (is_less_dense a b) && due_first v a b) else due_first v a b

-- the one of the two that comes first
abbrev pub earlier : {X : Type 0} → (X → X → Bool) → X → X → X
earlier before best t = if before t best then t else best

-- the one before which no other comes
abbrev pub first : {X : Type 0} → (X → X → Bool) → List X → Option X
first before xs = reduce (earlier before) xs

-- whether the value v, where it is more than w, is more than so many times w: by the factor b/c, or by (1 + √(p/q))
abbrev pub is_over : Fraction → Option Factor → ℕ → ℕ → Bool
is_over k None v w = nat_lt (k.p * w * w) (k.q * (v - w) * (v - w))
is_over k (Some f) v w = nat_lt (f.b * w) (f.c * v)

-- whether the value v is more than w, and more than so many times w
abbrev pub is_heavy : Fraction → ℕ → ℕ → Bool
is_heavy k v w = nat_lt w v && is_over k k.factor v w

-- the same as a fact
abbrev pub IsHeavy : Fraction → ℕ → ℕ → Type 0
IsHeavy k v w = IsTrue (is_heavy k v w)
