-- Entries in the order of their deadlines: the same members, sums and room.
use Rattle.std.proofs.Common.{◌≡◌, ◌⊎◌, inl, inr, List, ◌∷◌, Bool, true, false, nat_lt, cond, ℕ, ◌+◌, ◌-◌, arith, refl}
use Rattle.std.proofs.Common.{[], map, min, ap, ◌∙◌, sym, sum_by, unwrap_or}
use Rattle.std.proofs.lemmas.List.Sums.{sum_by-cons}
use Rattle.dover_model.specs.declared.events.Entry.{Entry}
use Rattle.dover_model.specs.Common.{IsMember, least, left, demand_up_to, room, room_of, entry_of}
use Rattle.held_stack.specs.Stack.{put_in, by_deadline, room_at}
use Rattle.held_stack.proofs.FirstDue.{least_cons, demand}
use Rattle.dover_model.proofs.lists.Members.{sum_filter, map_same, sum_map, map_map}
use Rattle.dover_model.specs.declared.events.Task.{Task}

-- ---- members

member_put : (e : Entry) (xs : List Entry) (y : Entry) → IsMember y (put_in e xs) → (y ≡ e) ⊎ IsMember y xs
member_put e [] y m = m
member_put e (x ∷ xs) y m = by_test (nat_lt x.deadline e.deadline) m (member_put e xs y) where
  by_test : (b : Bool) → IsMember y (cond b (x ∷ put_in e xs) (e ∷ x ∷ xs))
      → (IsMember y (put_in e xs) → (y ≡ e) ⊎ IsMember y xs)
      → (y ≡ e) ⊎ ((y ≡ x) ⊎ IsMember y xs)
  by_test true (inl is) rest = inr (inl is)
  by_test true (inr m) rest = elim (rest m) [ inl is ↦ inl is | inr later ↦ inr (inr later) ]
  by_test false m rest = m

-- and no other comes in
pub member_sorted : (xs : List Entry) (y : Entry) → IsMember y (by_deadline xs) → IsMember y xs
member_sorted [] y m = absurd m
member_sorted (x ∷ xs) y m =
    elim (member_put x (by_deadline xs) y m) [ inl is ↦ inl is | inr later ↦ inr (member_sorted xs y later) ]

-- ---- sums

sum_put : (f : Entry → ℕ) (e : Entry) (xs : List Entry) → sum_by f (put_in e xs) ≡ f e + sum_by f xs
sum_put f e [] = sum_by-cons f e []
sum_put f e (x ∷ xs) = by_test (nat_lt x.deadline e.deadline) (sum_put f e xs) where
  by_test : (b : Bool) → sum_by f (put_in e xs) ≡ f e + sum_by f xs
      → sum_by f (cond b (x ∷ put_in e xs) (e ∷ x ∷ xs)) ≡ f e + sum_by f (x ∷ xs)
  by_test true rest = omega (arith, rest, sum_by-cons f x (put_in e xs), sum_by-cons f x xs)
  by_test false rest = sum_by-cons f e (x ∷ xs)

pub sum_sorted : (f : Entry → ℕ) (xs : List Entry) → sum_by f (by_deadline xs) ≡ sum_by f xs
sum_sorted f [] = refl
sum_sorted f (x ∷ xs) = omega (arith, sum_put f x (by_deadline xs), sum_sorted f xs, sum_by-cons f x xs)

-- ---- the least

put_some : (f : Entry → ℕ) (e : Entry) (xs : List Entry) → (b : ℕ) × (m : List ℕ) × (map f (put_in e xs) ≡ b ∷ m)
put_some f e [] = (f e, [], refl)
put_some f e (x ∷ xs) = by_test (nat_lt x.deadline e.deadline) where
  by_test : (b : Bool) → (a : ℕ) × (m : List ℕ) × (map f (cond b (x ∷ put_in e xs) (e ∷ x ∷ xs)) ≡ a ∷ m)
  by_test true = (f x, map f (put_in e xs), refl)
  by_test false = (f e, map f (x ∷ xs), refl)

least_put : (f : Entry → ℕ) (e : Entry) (xs : List Entry) → least (map f (put_in e xs)) ≡ least (f e ∷ map f xs)
least_put f e [] = refl
least_put f e (x ∷ xs) = by_test (nat_lt x.deadline e.deadline) (least_put f e xs) where
  two : (l : List ℕ) → min (f x) (least (f e ∷ l)) ≡ min (f e) (least (f x ∷ l))
  two [] = omega arith
  two (n ∷ more) = omega arith

  by_test : (b : Bool) → least (map f (put_in e xs)) ≡ least (f e ∷ map f xs)
      → least (map f (cond b (x ∷ put_in e xs) (e ∷ x ∷ xs))) ≡ least (f e ∷ f x ∷ map f xs)
  by_test true rest =
      let some = put_some f e xs in
      least_cons (f x) some.0 (map f (put_in e xs)) some.1 some.2 ∙ ap (min (f x)) rest ∙ two (map f xs)
  by_test false rest = refl

least_sorted : (f : Entry → ℕ) (xs : List Entry) → least (map f (by_deadline xs)) ≡ least (map f xs)
least_sorted f [] = refl
least_sorted f (x ∷ []) = refl
least_sorted f (x ∷ y ∷ ys) =
    let some = put_some f y (by_deadline ys) in
    least_put f x (by_deadline (y ∷ ys)) ∙ least_cons (f x) some.0 (map f (by_deadline (y ∷ ys))) some.1 some.2
    ∙ ap (min (f x)) (least_sorted f (y ∷ ys))

-- ---- the room

demand_sorted : (xs : List Entry) (t : Entry) → demand (by_deadline xs) t ≡ demand xs t
demand_sorted xs t = ap (λ n. t.left + n) (
    sum_filter (λ u. nat_lt u.deadline t.deadline) (λ u. u.left) (by_deadline xs)
    ∙ sum_sorted (λ u. cond (nat_lt u.deadline t.deadline) u.left 0) xs
    ∙ sym (sum_filter (λ u. nat_lt u.deadline t.deadline) (λ u. u.left) xs))

-- the order leaves the room as it is
pub room_sorted : (clock : ℕ) (xs : List Entry) → room_of clock (by_deadline xs) ≡ room_of clock xs
room_sorted clock xs =
    ap least (map_same (λ t. t.deadline - (clock + demand (by_deadline xs) t)) (λ t. t.deadline - (clock + demand xs t))
    (by_deadline xs)
    (λ t m. ap (λ n. t.deadline - (clock + n)) (demand_sorted xs t)))
    ∙ least_sorted (λ t. t.deadline - (clock + demand xs t)) xs

demand_map : (ts : List Task) (t : Task) → demand (map entry_of ts) (entry_of t) ≡ demand_up_to ts t
demand_map ts t = ap (λ n. left t + n) (
    sum_filter (λ u. nat_lt u.deadline t.job.deadline) (λ u. u.left) (map entry_of ts)
    ∙ sum_map entry_of (λ u. cond (nat_lt u.deadline t.job.deadline) u.left 0) ts
    ∙ sym (sum_filter (λ u. nat_lt u.job.deadline t.job.deadline) left ts))

-- jobs have the room of their entries
pub room_map : (clock : ℕ) (ts : List Task) → room_of clock (map entry_of ts) ≡ room clock ts
room_map clock ts = ap least (
    map_map (λ e. e.deadline - (clock + demand (map entry_of ts) e)) entry_of ts
    ∙ map_same (λ t. t.job.deadline - (clock + demand (map entry_of ts) (entry_of t)))
    (λ t. t.job.deadline - (clock + demand_up_to ts t)) ts
    (λ t m. ap (λ n. t.job.deadline - (clock + n)) (demand_map ts t)))

-- the room at the top of the stack
pub room_or_none : (clock : ℕ) (held : List Entry) → unwrap_or (room_at clock held) 0 ≡ room_of clock held
room_or_none clock [] = refl
room_or_none clock (e ∷ held) = refl
