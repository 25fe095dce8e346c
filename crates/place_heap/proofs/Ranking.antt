-- The order of items, as one by which they can be sorted.
use Rattle.std.proofs.Common.{◌≡◌, ℕ, Bool, true, false, nat_lt, refl, arith}
use Rattle.dover_model.proofs.steps.EntryOrders.{less_one_way}
use Rattle.place_heap.specs.Items.{ItemFacts, less_or, is_before}

-- ---- by one number, and where two are equal by something else

one_way_or : (k l : ℕ) (t u : Bool) → (t ≡ true → u ≡ false) → less_or k l t ≡ true → less_or l k u ≡ false
one_way_or k l t u ties h = grind arith

-- t, u and w say that b is before a, c before b, and c before a
behind_or : (k l m : ℕ) (t u w : Bool) → (t ≡ false → u ≡ false → w ≡ false) → less_or l k t ≡ false
    → less_or m l u ≡ false
    → less_or m k w ≡ false
behind_or k l m t u w ties h i = grind arith

less_behind : (k l m : ℕ) → nat_lt l k ≡ false → nat_lt m l ≡ false → nat_lt m k ≡ false
less_behind k l m h i = grind arith

-- ---- items

abbrev by_tie : ItemFacts → ItemFacts → Bool
by_tie a b = less_or a.tie b.tie (nat_lt a.number b.number)

-- no two come before each other
pub one_way : (a b : ItemFacts) → is_before a b ≡ true → is_before b a ≡ false
one_way a b = one_way_or a.key b.key (by_tie a b) (by_tie b a)
    (one_way_or a.tie b.tie (nat_lt a.number b.number) (nat_lt b.number a.number) (less_one_way a.number b.number))

-- so none before itself
pub itself : (a : ItemFacts) → is_before a a ≡ false
itself a = of (is_before a a) refl where
  of : (b : Bool) → is_before a a ≡ b → is_before a a ≡ false
  of true is = one_way a a is
  of false is = is

-- what isn't before b, which isn't before a, isn't before a
pub behind : (a b c : ItemFacts) → is_before b a ≡ false → is_before c b ≡ false → is_before c a ≡ false
behind a b c = behind_or a.key b.key c.key (by_tie b a) (by_tie c b) (by_tie c a)
    (behind_or a.tie b.tie c.tie (nat_lt b.number a.number) (nat_lt c.number b.number) (nat_lt c.number a.number)
    (less_behind a.number b.number c.number))
