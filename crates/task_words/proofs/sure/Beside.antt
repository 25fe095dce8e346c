-- Sums over all streams but one, and the jobs of these.
use Rattle.std.proofs.Common.{◌≡◌, ℕ, suc, ◌+◌, ◌-◌, ◌≤◌, ◌<◌, ◌⊎◌, inl, inr, List, [], ◌∷◌, length}
use Rattle.std.proofs.Common.{refl, ap, ◌∙◌, get_or, replicate, Bool, true, false, cond, eqb, arith}
use Rattle.std.proofs.Common.{length-append}
use Rattle.std.specs.List.{sum_by, enumerate_from}
use Rattle.std.proofs.lemmas.Bool.{ne_eqb, eq-eqb, cases_lt}
use Rattle.std.proofs.lemmas.List.{length-replicate}
use Rattle.std.proofs.lemmas.List.Sums.{sum_by-cons}
use Rattle.task_laws.specs.Sure.{Stream, stream_at, blank_stream, most_crossing, others}

module _ {X : Type 0} (f : X → ℕ) (x : ℕ) where
  -- a member counts, unless its number is x
  abbrev pub but : ℕ × X → ℕ
  but y_s = cond (eqb y_s.0 x) 0 (f y_s.1)

  -- the head of a numbered list
  but_cons : (k : ℕ) (y : X) (xs : List X) → sum_by but (enumerate_from k (y ∷ xs))
      ≡ cond (eqb k x) 0 (f y) + sum_by but (enumerate_from (k + 1) xs)
  but_cons k y xs = sum_by-cons but (k, y) (enumerate_from (k + 1) xs)

  -- behind that number all count
  all_behind : (k : ℕ) (xs : List X) → x < k → sum_by but (enumerate_from k xs) ≡ sum_by f xs
  all_behind k [] less = refl
  all_behind k (y ∷ xs) less =
      let counts : cond (eqb k x) 0 (f y) ≡ f y =
      ap (λ b. cond b 0 (f y)) (ne_eqb k x (λ same. absurd (omega (arith, same, less)))) in
      omega (arith, but_cons k y xs, counts, all_behind (k + 1) xs (omega (arith, less)), sum_by-cons f y xs)

  -- all but one, and that one, are all
  pub but_one : (k : ℕ) (xs : List X) (d : X) → k ≤ x → x < k + length xs
      → sum_by but (enumerate_from k xs) + f (get_or xs (x - k) d) ≡ sum_by f xs
  but_one k [] d low high = absurd (omega (arith, low, high))
  but_one k (y ∷ xs) d low high = by_order (cases_lt k x) (λ more. but_one (k + 1) xs d more (omega (arith, high)))
    where
      by_order : (k < x) ⊎ (x ≤ k)
          → (k + 1 ≤ x → sum_by but (enumerate_from (k + 1) xs) + f (get_or xs (x - (k + 1)) d) ≡ sum_by f xs)
          → sum_by but (enumerate_from k (y ∷ xs)) + f (get_or (y ∷ xs) (x - k) d) ≡ sum_by f (y ∷ xs)
      by_order (inl less) rest =
          let counts : cond (eqb k x) 0 (f y) ≡ f y =
          ap (λ b. cond b 0 (f y)) (ne_eqb k x (λ same. absurd (omega (arith, same, less)))) in
          let there : f (get_or (y ∷ xs) (x - k) d) ≡ f (get_or xs (x - (k + 1)) d) =
          ap (λ i. f (get_or (y ∷ xs) i d)) (let e : x - k ≡ suc (x - (k + 1)) = omega (arith, less) in e) in
          omega (arith, but_cons k y xs, counts, there, rest (omega (arith, less)), sum_by-cons f y xs)
      by_order (inr more) _ =
          let same : k ≡ x = omega (arith, low, more) in
          let skips : cond (eqb k x) 0 (f y) ≡ 0 = ap (λ b. cond b 0 (f y)) (eq-eqb k x same) in
          let there : f (get_or (y ∷ xs) (x - k) d) ≡ f y =
          ap (λ i. f (get_or (y ∷ xs) i d)) (let e : x - k ≡ 0 = omega (arith, same) in e) in
          let rest : sum_by but (enumerate_from (k + 1) xs) ≡ sum_by f xs =
          all_behind (k + 1) xs (omega (arith, same)) in
          omega (arith, but_cons k y xs, skips, there, rest, sum_by-cons f y xs)

-- ---- the jobs of the others

-- no copies, or some
pub copied : (b : Bool) (n : ℕ) (s : Stream) → cond b [] (replicate n s) ≡ replicate (cond b 0 n) s
copied true n s = refl
copied false n s = refl

-- how many there are
pub length_others : (x k : ℕ) (streams : List Stream) → length (others x (enumerate_from k streams))
    ≡ sum_by (but most_crossing x) (enumerate_from k streams)
length_others x k [] = refl
length_others x k (s ∷ streams) =
    let head : length (cond (eqb k x) [] (replicate (most_crossing s) s)) ≡ cond (eqb k x) 0 (most_crossing s) =
    ap (λ (l : List Stream). length l) (copied (eqb k x) (most_crossing s) s)
    ∙ length-replicate (cond (eqb k x) 0 (most_crossing s)) s in
    omega (
      arith,
      length-append (cond (eqb k x) [] (replicate (most_crossing s) s)) (others x (enumerate_from (k + 1) streams)),
      head,
      length_others x (k + 1) streams,
      but_cons most_crossing x k s streams,
    )

-- a sum over all others, and the one's own, are that of all
pub sum_all : (f : Stream → ℕ) (streams : List Stream) (x : ℕ) → x < length streams
    → sum_by (but f x) (enumerate_from 0 streams) + f (stream_at streams x) ≡ sum_by f streams
sum_all f streams x less =
    let it : sum_by (but f x) (enumerate_from 0 streams) + f (get_or streams (x - 0) blank_stream) ≡ sum_by f streams =
    but_one f x 0 streams blank_stream (omega arith) (omega (arith, less)) in
    let same : f (get_or streams (x - 0) blank_stream) ≡ f (stream_at streams x) =
    ap (λ n. f (get_or streams n blank_stream)) (let e : x - 0 ≡ x = omega arith in e) in
    omega (arith, it, same)
