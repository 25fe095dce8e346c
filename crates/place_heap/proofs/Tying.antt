-- The items of entries come in the model's orders.
use Rattle.std.proofs.Common.{◌≡◌, ℕ, ◌-◌, ◌≤◌, nat_lt, ap, arith, ◌||◌, ◌&&◌, ◌==◌}
use Rattle.dover_model.specs.Common.{most_value, wins_tie}
use Rattle.dover_model.specs.declared.events.Entry.{Entry}
use Rattle.dover_model.specs.declared.events.Version.{Version}
use Rattle.dover_model.specs.declared.events.Version.TheVariants.{One, Two, Three, Four}
use Rattle.place_heap.specs.Items.{less_or}
use Rattle.place_heap.specs.Orders.{tie_of, AreOrderedAs}

tie_one : (m n : ℕ) → less_or 0 0 (nat_lt m n) ≡ nat_lt m n
tie_one m n = grind arith

tie_two : (most v w m n : ℕ) → v ≤ most → w ≤ most
    → less_or (most - v) (most - w) (nat_lt m n) ≡ (nat_lt w v || ((v == w) && nat_lt m n))
tie_two most v w m n v_fits w_fits = grind arith

ties_agree : (v : Version) (a b : Entry) → a.value ≤ most_value → b.value ≤ most_value
    → less_or (tie_of v a.value) (tie_of v b.value) (nat_lt a.number b.number) ≡ wins_tie v a b
ties_agree One a b a_fits b_fits = tie_one a.number b.number
ties_agree Two a b a_fits b_fits = tie_two most_value a.value b.value a.number b.number a_fits b_fits
ties_agree Three a b a_fits b_fits = tie_two most_value a.value b.value a.number b.number a_fits b_fits
ties_agree Four a b a_fits b_fits = tie_two most_value a.value b.value a.number b.number a_fits b_fits

pub ordered_as : (v : Version) (a b : Entry) (p q : ℕ) → a.value ≤ most_value → b.value ≤ most_value
    → AreOrderedAs v a b p q
ordered_as v a b p q a_fits b_fits =
    let ties = ties_agree v a b a_fits b_fits in
    record { due = ap (less_or a.deadline b.deadline) ties; latest = ap (less_or a.latest b.latest) ties }
