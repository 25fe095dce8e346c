-- An amount that is at most the room of a set fits before each member.
use Rattle.std.proofs.Common.{ℕ, ◌+◌, ◌-◌, ◌≤◌, List, [], ◌∷◌, map, ◌<◌, inl, inr, refl, arith, ◌⊎◌}
use Rattle.std.proofs.lemmas.Bool.{cases_lt}
use Rattle.dover_model.specs.Common.{Task, demand_up_to, least, room, IsMember, Each}
use Rattle.dover_model.proofs.lists.Members.{map_member}

-- the least is at most each
least_le : (xs : List ℕ) (n : ℕ) → IsMember n xs → least xs ≤ n
least_le [] n member = absurd member
least_le (x ∷ []) n (inl e) = omega (arith, e)
least_le (x ∷ []) n (inr member) = absurd member
least_le (x ∷ y ∷ more) n (inl e) = omega (arith, e)
least_le (x ∷ y ∷ more) n (inr member) = let low : least (y ∷ more) ≤ n = least_le (y ∷ more) n member in omega arith

-- what is at most the room fits before each member
pub room_fits : (amount clock : ℕ) (set : List Task) → 1 ≤ amount → amount ≤ room clock set
    → Each (λ t. clock + demand_up_to set t + amount ≤ t.job.deadline) set
room_fits amount clock set some low t m =
    let least_here : room clock set ≤ t.job.deadline - (clock + demand_up_to set t) =
    least_le (map (λ u. u.job.deadline - (clock + demand_up_to set u)) set) _
    (map_member (λ u. u.job.deadline - (clock + demand_up_to set u)) set t m) in
    omega arith

-- an amount above the least of some terms is above one of them
pub least_reached : {X : Type 0} (f : X → ℕ) (amount : ℕ) (x : X) (xs : List X) → least (map f (x ∷ xs)) < amount
    → (y : X) × IsMember y (x ∷ xs) × (f y < amount)
least_reached {X} f amount x [] low = (x, inl refl, low)
least_reached {X} f amount x (z ∷ xs) low = by_first (cases_lt (f x) amount) (least_reached f amount z xs) where
  by_first : (f x < amount) ⊎ (amount ≤ f x)
      → (least (map f (z ∷ xs)) < amount → (y : X) × IsMember y (z ∷ xs) × (f y < amount))
      → (y : X) × IsMember y (x ∷ z ∷ xs) × (f y < amount)
  by_first (inl here) more = (x, inl refl, here)
  by_first (inr high) more = let it : (y : X) × IsMember y (z ∷ xs) × (f y < amount) = more (omega arith) in
      (it.0, inr it.1, it.2)

-- an amount that doesn't fit before some member
pub room_crowded : (amount clock : ℕ) (t : Task) (set : List Task) → IsMember t set → room clock set < amount
    → (j : Task) × IsMember j set × (j.job.deadline < clock + demand_up_to set j + amount)
room_crowded amount clock t [] member low = absurd member
room_crowded amount clock t (x ∷ set) member low =
    let it : (j : Task) × IsMember j (x ∷ set) × (j.job.deadline - (clock + demand_up_to (x ∷ set) j) < amount) =
    least_reached (λ j. j.job.deadline - (clock + demand_up_to (x ∷ set) j)) amount x set low in
    (it.0, it.1, let less : it.0.job.deadline - (clock + demand_up_to (x ∷ set) it.0) < amount = it.2 in omega arith)
