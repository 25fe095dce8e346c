-- One hold more, and one less.
use Rattle.std.proofs.Common.{◌≡◌, ℕ, ◌+◌, ◌-◌, ◌^◌, ◌<◌, inl, inr, suc, List, [], ◌∷◌, ◌++◌, length, Some, None}
use Rattle.std.proofs.Common.{reverse, option_map, refl, ap, ◌∙◌, sym, subst, arith}
use Rattle.std.specs.List.{AllByRecursion}
use Rattle.std.proofs.lemmas.List.{reverse-append}
use Rattle.std.proofs.lemmas.List.Sums.{sum_by-cons}
use Rattle.dover_model.specs.declared.events.Entry.{Entry}
use Rattle.dover_model.specs.Common.{room_of, Each}
use Rattle.held_stack.specs.Kept.{Lasting, AreRoomsOf, untils_of, first_of}
use Rattle.held_stack.specs.Stack.{value_of, room_at, IsByDeadline, IsDueBeforeAll, IsDueBeforeTop}
use Rattle.held_stack.proofs.FirstDue.{room_later}

-- the room at a clock, by what is kept of the job on top
pub room_now : (now : ℕ) (held : List Entry) → option_map (λ u. u - now) (first_of (untils_of held)) ≡ room_at now held
room_now now [] = refl
room_now now (e ∷ below) = ap Some (sym (room_later now (e ∷ below)))

before_more : (d : ℕ) (e : Entry) (held : List Entry) → d < e.deadline → IsDueBeforeAll e held
    → AllByRecursion (λ f. d < f.deadline) held
before_more d e [] less all = tt
before_more d e (f ∷ more) less all = (omega (arith, all.0), before_more d e more less all.1)

order_more : (e : Entry) (held : List Entry) → IsDueBeforeTop e held → IsByDeadline held → IsByDeadline (e ∷ held)
order_more e [] first order = (tt, tt)
order_more e (f ∷ below) first order = ((first f refl, before_more e.deadline f below (first f refl) order.0), order)

each_member : (P : Entry → Type 0) (held : List Entry) → AllByRecursion P held → Each P held
each_member P [] all x m = absurd m
each_member P (f ∷ more) all x (inl is) = subst P (sym is) all.0
each_member P (f ∷ more) all x (inr m) = each_member P more all.1 x m

-- what is due before the one on top is due before all
pub before_each : (e : Entry) (held : List Entry) → IsDueBeforeTop e held → IsByDeadline held
    → Each (λ f. e.deadline < f.deadline) held
before_each e held first order = each_member (λ f. e.deadline < f.deadline) held (order_more e held first order).0

pub before_top : (e : Entry) (held : List Entry) → Each (λ f. e.deadline < f.deadline) held → IsDueBeforeTop e held
before_top e [] all x at = absurd (let no : None ≡ Some x = at in cc)
before_top e (f ∷ more) all x at = all x (inl (let is : Some f ≡ Some x = at in cc))

-- one more
pub held_more : (items : List ℕ) (until spare : ℕ) (rooms : Lasting) (e : Entry) (held : List Entry)
    → rooms.untils ≡ reverse items → until ≡ room_of 0 (e ∷ held) → AreRoomsOf rooms held → IsDueBeforeTop e held
    → rooms.value + e.value < 10 ^ 18
    → AreRoomsOf
    (record { untils = reverse (items ++ until ∷ []); spare = spare; value = rooms.value + e.value }) (e ∷ held)
held_more items until spare rooms e held is lasts are first total =
    let one_more : value_of (e ∷ held) ≡ e.value + value_of held = sum_by-cons (λ e. e.value) e held in
    record {
      untils = reverse-append items (until ∷ []) ∙ ap (λ l. until ∷ l) (sym is ∙ are.untils)
          ∙ ap (λ u. u ∷ untils_of held) lasts;
      order = order_more e held first are.order;
      sum = omega (arith, are.sum, one_more);
      total = total;
    }

tail_same : (m n : ℕ) (xs ys : List ℕ) → m ∷ xs ≡ n ∷ ys → xs ≡ ys
tail_same m n xs ys is = cc

-- one less
pub held_less : (items : List ℕ) (last spare value : ℕ) (rooms : Lasting) (e : Entry) (below : List Entry)
    → rooms.untils ≡ reverse (items ++ last ∷ []) → e.value ≡ value → AreRoomsOf rooms (e ∷ below)
    → AreRoomsOf (record { untils = reverse items; spare = spare; value = rooms.value - value }) below
held_less items last spare value rooms e below is worth are =
    let turned : rooms.untils ≡ last ∷ reverse items = is ∙ reverse-append items (last ∷ []) in
    let one_more : value_of (e ∷ below) ≡ e.value + value_of below = sum_by-cons (λ e. e.value) e below in
    record {
      untils = tail_same last (room_of 0 (e ∷ below)) (reverse items) (untils_of below) (sym turned ∙ are.untils);
      order = are.order.1;
      sum = omega (arith, are.sum, one_more, worth);
      total = omega (arith, are.total);
    }

-- for each there is one tick
pub as_many : (held : List Entry) → length (untils_of held) ≡ length held
as_many [] = refl
as_many (e ∷ below) = ap suc (as_many below)

-- how many more fit is another matter
pub spare_kept : (rooms : Lasting) (held : List Entry) (spare : ℕ) → AreRoomsOf rooms held
    → AreRoomsOf (record rooms { spare = spare }) held
spare_kept rooms held spare are =
    record { untils = are.untils; order = are.order; sum = are.sum; total = are.total }
