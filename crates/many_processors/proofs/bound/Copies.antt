-- Lists in which each element stands so many times.
use Rattle.std.proofs.Common.{◌≡◌, ℕ, suc, zero, ◌+◌, ◌*◌, ◌≤◌, List, [], ◌∷◌, inl, inr, refl, ap, ◌∙◌, arith, sum_by}
use Rattle.std.proofs.lemmas.List.Sums.{sum_by-cons}
use Rattle.dover_model.specs.Sound.{Each}
use Rattle.dover_model.proofs.lists.Members.{each_cons}
use Rattle.many_processors.specs.Books.{Interval, EndInOrder}

module _ {X : Type 0} where
  -- x so many times in front
  abbrev pub copies : ℕ → X → List X → List X
  copies zero x xs = xs
  copies (suc n) x xs = x ∷ copies n x xs

  -- each so many times
  abbrev pub each_times : ℕ → List X → List X
  each_times n [] = []
  each_times n (x ∷ xs) = copies n x (each_times n xs)

  copies_sum : (f : X → ℕ) (n : ℕ) (x : X) (xs : List X) → sum_by f (copies n x xs) ≡ n * f x + sum_by f xs
  copies_sum f zero x xs = omega arith
  copies_sum f (suc n) x xs = omega (arith, sum_by-cons f x (copies n x xs), copies_sum f n x xs)

  -- a sum over it is so many times that over the list
  pub times_sum : (f : X → ℕ) (n : ℕ) (xs : List X) → sum_by f (each_times n xs) ≡ n * sum_by f xs
  times_sum f n [] = omega arith
  times_sum f n (x ∷ xs) = copies_sum f n x (each_times n xs)
      ∙ omega (arith, ap (λ m. n * m) (sum_by-cons f x xs), times_sum f n xs)

  copies_each : (P : X → Type 0) (n : ℕ) (x : X) (xs : List X) → P x → Each P xs → Each P (copies n x xs)
  copies_each P zero x xs one all = all
  copies_each P (suc n) x xs one all = each_cons P x (copies n x xs) one (copies_each P n x xs one all)

  -- what holds of each holds of each here
  pub times_each : (P : X → Type 0) (n : ℕ) (xs : List X) → Each P xs → Each P (each_times n xs)
  times_each P n [] all = all
  times_each P n (x ∷ xs) all = copies_each P n x (each_times n xs) (all x (inl refl))
      (times_each P n xs (λ y member. all y (inr member)))

copies_order : (n : ℕ) (i : Interval) (later : List Interval) → Each (λ other. i.until ≤ other.until) later
    → EndInOrder later → EndInOrder (copies n i later)
copies_order zero i later none order = order
copies_order (suc n) i later none order =
    (copies_each (λ other. i.until ≤ other.until) n i later (omega arith) none, copies_order n i later none order)

-- the order of ends stays
pub times_order : (n : ℕ) (intervals : List Interval) → EndInOrder intervals → EndInOrder (each_times n intervals)
times_order n [] order = tt
times_order n (i ∷ later) order = copies_order n i (each_times n later)
    (times_each (λ other. i.until ≤ other.until) n later order.0) (times_order n later order.1)
