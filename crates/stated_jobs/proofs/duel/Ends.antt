-- The links end.
use Rattle.std.proofs.Common.{◌≡◌, ℕ, zero, suc, ◌+◌, ◌-◌, ◌*◌, ◌/◌, ◌≤◌, ◌<◌, ◌⊎◌, inl, inr, refl, sym, subst, arith}
use Rattle.std.proofs.lemmas.Bool.{cases_lt}
use Rattle.std.proofs.lemmas.Nat.{mul-le}
use Rattle.std.proofs.Math.Nat.{mul-div-le, lt-mul-div-succ}
use Rattle.dover_model.specs.Fraction.{Fraction}
use Rattle.dover_model.proofs.bound.Calculus.{cancel}
use Rattle.stated_jobs.specs.duel.Links.{IsTooMuch, next_link, staying, leaving}
use Rattle.stated_jobs.proofs.duel.Rising.{rises, modest}

-- the link of a number
abbrev pub link : Fraction → (a b first : ℕ) → ℕ → ℕ × ℕ
link k a b first zero = (0, first)
link k a b first (suc n) = next_link k a b (link k a b first n)

-- a work from which on rounding doesn't matter
abbrev pub first_work : Fraction → ℕ → ℕ
first_work k b = 32 * (b * b) * (k.p * k.p) + 1

-- staying with this link is a loss without a further one
abbrev pub IsLast : Fraction → (whole part : ℕ) → ℕ × ℕ → Type 0
IsLast k whole part l = staying k whole l < leaving k part l

-- each link has some work
pub works : (k : Fraction) (a b first n : ℕ) → 1 ≤ first → 1 ≤ (link k a b first n).1
works k a b first zero some = some
works k a b first (suc n) some = omega arith

-- the least with which staying is a loss
pub loses : (k : Fraction) (a b t w : ℕ) → 1 ≤ k.q → 1 ≤ b → staying k a (t, w) < leaving k b (next_link k a b (t, w))
loses k a b t w some_q some_b = level (t + w - 1) ((a * k.q * w - b * k.p * (t + w - 1)) / (b * k.q))
    (lt-mul-div-succ (a * k.q * w - b * k.p * (t + w - 1)) (mul-le 1 1 b k.q some_b some_q)) where
      level : (y z : ℕ) → a * k.q * w - b * k.p * y < b * k.q * (z + 1)
          → a * (k.q * w) < b * (k.p * y + k.q * (z + 1))
      level y z under = omega (arith, under)

pub stays : (k : Fraction) (a b first n : ℕ) → 1 ≤ k.q → 1 ≤ b
    → staying k a (link k a b first n) < leaving k b (link k a b first (suc n))
stays k a b first n some_q some_b = loses k a b (link k a b first n).0 (link k a b first n).1 some_q some_b

module _ (k : Fraction) (a b : ℕ) (some_q : 1 ≤ k.q) (ratio : k.q ≤ k.p) (some_b : 1 ≤ b)
    (short : IsTooMuch k a b) where
  -- the part by which a step rises, as its inverse
  abbrev part : ℕ
  part = 16 * (k.p * k.p) * (b * b)

  -- what n steps have come to
  record Climbs (n t w : ℕ) : Type 0 where
    some : 1 ≤ w
    large : 32 * (b * b) * (k.p * k.p) ≤ t + w - 1
    risen : n * w ≤ part * (t + w - 1)

  over : k.q * a ≤ (k.p + k.q) * b + (k.q * a - (k.p + k.q) * b)
  over = omega arith

  small : k.q * a < 4 * k.p * b
  small = modest k.p k.q a b (k.q * a - (k.p + k.q) * b) some_q ratio some_b over short

  -- so many steps are too many
  abbrev most : ℕ
  most = part * (a * k.q + b * k.p) + 1

  abbrev Found : Type 0
  Found = (n : ℕ) × IsLast k a b (link k a b (first_work k b) n)
      × ((m : ℕ) → m < n → leaving k b (link k a b (first_work k b) m) ≤ staying k a (link k a b (first_work k b) m))

  some_pb : 1 ≤ b * k.p
  some_pb = mul-le 1 1 b k.p some_b (omega (arith, some_q, ratio))

  -- a link that climbed so far is the last
  top : (t w : ℕ) → Climbs most t w → staying k a (t, w) < leaving k b (t, w)
  top t w climbs = by_order (cases_lt (staying k a (t, w)) (leaving k b (t, w))) where
    by_order : (staying k a (t, w) < leaving k b (t, w)) ⊎ (leaving k b (t, w) ≤ staying k a (t, w))
        → staying k a (t, w) < leaving k b (t, w)
    by_order (inl less) = less
    by_order (inr more) = absurd
        (let here : (b * k.p) * (t + w - 1) ≤ (b * k.p) * (t + w) =
        mul-le (b * k.p) (t + w - 1) (b * k.p) (t + w) (omega arith) (omega arith) in
        let bounded : (b * k.p) * (t + w - 1) ≤ (a * k.q + b * k.p) * w = omega (arith, here, more) in
        let times : part * ((b * k.p) * (t + w - 1)) ≤ part * ((a * k.q + b * k.p) * w) =
        mul-le part ((b * k.p) * (t + w - 1)) part ((a * k.q + b * k.p) * w) (omega arith) bounded in
        let risen : (b * k.p) * (most * w) ≤ (b * k.p) * (part * (t + w - 1)) =
        mul-le (b * k.p) (most * w) (b * k.p) (part * (t + w - 1)) (omega arith) climbs.risen in
        let once : 1 * (most * w) ≤ (b * k.p) * (most * w) =
        mul-le 1 (most * w) (b * k.p) (most * w) some_pb (omega arith) in
        level part (a * k.q + b * k.p) w (t + w - 1) (b * k.p) times risen once climbs.some) where
          level : (m c w y u : ℕ) → m * (u * y) ≤ m * (c * w) → u * ((m * c + 1) * w) ≤ u * (m * y)
              → 1 * ((m * c + 1) * w) ≤ u * ((m * c + 1) * w)
              → 1 ≤ w → ⊥
          level m c w y u times risen once some = omega (arith, times, risen, once, some)

  -- where the work is cut off, the next link is the last
  cut : (y m : ℕ) → m ≡ 0 → 32 * (b * b) * (k.p * k.p) ≤ y → staying k a (y, m / (b * k.q) + 1)
      < leaving k b (y, m / (b * k.q) + 1)
  cut y m none large =
      let some_bq : 1 ≤ b * k.q = mul-le 1 1 b k.q some_b some_q in
      let low : (b * k.q) * (m / (b * k.q)) ≤ m = mul-div-le m (b * k.q) in
      let once : 1 * (m / (b * k.q)) ≤ (b * k.q) * (m / (b * k.q)) =
      mul-le 1 (m / (b * k.q)) (b * k.q) (m / (b * k.q)) some_bq (omega arith) in
      let squares : 1 * 1 ≤ (b * b) * (k.p * k.p) =
      mul-le 1 1 (b * b) (k.p * k.p) (mul-le 1 1 b b some_b some_b)
      (mul-le 1 1 k.p k.p (omega (arith, some_q, ratio)) (omega (arith, some_q, ratio))) in
      let times : (b * k.p) * 4 ≤ (b * k.p) * y =
      mul-le (b * k.p) 4 (b * k.p) y (omega arith) (omega (arith, squares, large)) in
      level (m / (b * k.q)) (omega (arith, low, once, none)) times where
        level : (d : ℕ) → d ≡ 0 → (b * k.p) * 4 ≤ (b * k.p) * y → a * (k.q * (d + 1)) < b * (k.p * y + k.q * (d + 1))
        level d is times = subst (λ n. a * (k.q * (n + 1)) < b * (k.p * y + k.q * (n + 1))) (sym is)
            (omega (arith, times, small))

  -- otherwise one step more has risen
  more : (t w n : ℕ) → Climbs n t w → leaving k b (t, w) ≤ staying k a (t, w) → b * k.p * (t + w - 1) ≤ a * k.q * w
      → Climbs (suc n) (next_link k a b (t, w)).0 (next_link k a b (t, w)).1
  more t w n climbs on whole = step (t + w - 1) ((a * k.q * w - b * k.p * (t + w - 1)) / (b * k.q)) climbs.large
      climbs.risen
      (mul-div-le (a * k.q * w - b * k.p * (t + w - 1)) (b * k.q))
      (lt-mul-div-succ (a * k.q * w - b * k.p * (t + w - 1)) (mul-le 1 1 b k.q some_b some_q)) whole where
        some_a : 1 ≤ a
        some_a = by_order (cases_lt 0 a) where
          by_order : (0 < a) ⊎ (a ≤ 0) → 1 ≤ a
          by_order (inl some) = some
          by_order (inr none) = absurd
              (let least : 1 * 1 ≤ k.q * w = mul-le 1 1 k.q w some_q climbs.some in
              let worth : 1 * 1 ≤ b * (k.p * t + k.q * w) =
              mul-le 1 1 b (k.p * t + k.q * w) some_b (omega (arith, least)) in
              let nothing : a * (k.q * w) ≤ 0 * (k.q * w) = mul-le a (k.q * w) 0 (k.q * w) none (omega arith) in
              omega (arith, worth, nothing, on))

        step : (y d : ℕ) → 32 * (b * b) * (k.p * k.p) ≤ y → n * w ≤ part * y
            → (b * k.q) * d ≤ a * k.q * w - b * k.p * y → a * k.q * w - b * k.p * y < (b * k.q) * (d + 1)
            → b * k.p * y ≤ a * k.q * w → Climbs (suc n) y (d + 1)
        step y d large risen low up whole = record {
          some = omega arith;
          large = omega (arith, large);
          risen = cancel w (suc n * (d + 1)) (part * (y + (d + 1) - 1)) climbs.some
              (let rise : part * (y * (d + 1)) + w * (d + 1) ≤ part * ((y + (d + 1) - 1) * w) =
              rises k.p k.q a b (k.q * a - (k.p + k.q) * b) y (d + 1) w (y + (d + 1) - 1) some_q ratio some_b
              (omega arith) large over short (omega (arith, low, whole)) (omega (arith, up)) some_a in
              let times : (n * w) * (d + 1) ≤ (part * y) * (d + 1) =
              mul-le (n * w) (d + 1) (part * y) (d + 1) risen (omega arith) in
              omega (arith, rise, times));
        }

  abbrev GoOn : ℕ → Type 0
  GoOn m = leaving k b (link k a b (first_work k b) m) ≤ staying k a (link k a b (first_work k b) m)

  -- the links from a number on, so many of them: one is the last, or the one behind them climbed so far
  climb : (fuel n : ℕ) → n + fuel ≡ most → Climbs n (link k a b (first_work k b) n).0 (link k a b (first_work k b) n).1
      → ((m : ℕ) → m < n → GoOn m) → Found
  climb zero n count climbs before = (
    n,
    top (link k a b (first_work k b) n).0 (link k a b (first_work k b) n).1
        (subst (λ m. Climbs m (link k a b (first_work k b) n).0 (link k a b (first_work k b) n).1) (omega
        (arith, count))
        climbs),
    before,
  )
  climb (suc fuel) n count climbs before = by_test (link k a b (first_work k b) n).0 (link k a b (first_work k b) n).1
      refl climbs (λ further more. climb fuel (suc n) (omega (arith, count)) further more) where
        until : GoOn n → (m : ℕ) → m < suc n → GoOn m
        until on m less = by_order (cases_lt m n) where
          by_order : (m < n) ⊎ (n ≤ m) → GoOn m
          by_order (inl low) = before m low
          by_order (inr high) = subst (λ i. GoOn i) (same high less) on where
            same : n ≤ m → m < suc n → n ≡ m
            same high less = omega (arith, high, less)

        by_test : (t w : ℕ) → link k a b (first_work k b) n ≡ (t, w) → Climbs n t w
            → (Climbs (suc n) (next_link k a b (t, w)).0 (next_link k a b (t, w)).1
            → ((m : ℕ) → m < suc n → GoOn m) → Found) → Found
        by_test t w is climbs goes = by_last (cases_lt (staying k a (t, w)) (leaving k b (t, w)))
            (cases_lt (a * k.q * w) (b * k.p * (t + w - 1))) where
              by_last : (staying k a (t, w) < leaving k b (t, w)) ⊎ (leaving k b (t, w) ≤ staying k a (t, w))
                  → (a * k.q * w < b * k.p * (t + w - 1)) ⊎ (b * k.p * (t + w - 1) ≤ a * k.q * w) → Found
              by_last (inl last) order = (n, subst (λ l. IsLast k a b l) (sym is) last, before)
              by_last (inr on) (inl less) = (
                suc n,
                subst (λ l. IsLast k a b (next_link k a b l)) (sym is)
                    (cut (t + w - 1) (a * k.q * w - b * k.p * (t + w - 1)) (omega (arith, less)) climbs.large),
                until (subst (λ l. leaving k b l ≤ staying k a l) (sym is) on),
              )
              by_last (inr on) (inr whole) = goes (more t w n climbs on whole)
                  (until (subst (λ l. leaving k b l ≤ staying k a l) (sym is) on))

  -- the links end
  pub ends : Found
  ends = climb most 0 (omega arith) (record {
    some = omega arith;
    large = omega arith;
    risen = omega arith;
  }) (λ m less. absurd (omega (arith, less)))

  -- a small job is worth too little at each link up to the last
  pub cheap : (n : ℕ) → ((m : ℕ) → m < n → GoOn m) → (m : ℕ) → m ≤ n
      → a * (k.p * 1) < leaving k b (link k a b (first_work k b) m)
  cheap n on zero less =
      let some_p : 1 ≤ k.p = omega (arith, some_q, ratio) in
      let up : (k.q * a) * k.p ≤ (4 * k.p * b) * k.p =
      mul-le (k.q * a) k.p (4 * k.p * b) k.p (omega (arith, small)) (omega arith) in
      let q_up : (1 * a) * k.p ≤ (k.q * a) * k.p =
      mul-le (1 * a) k.p (k.q * a) k.p (mul-le 1 a k.q a some_q (omega arith)) (omega arith) in
      let bb : (b * 1) * (k.p * k.p) ≤ (b * b) * (k.p * k.p) =
      mul-le (b * 1) (k.p * k.p) (b * b) (k.p * k.p) (mul-le b 1 b b (omega arith) some_b) (omega arith) in
      let bq : (1 * 1) * (32 * (b * b) * (k.p * k.p) + 1) ≤ (b * k.q) * (32 * (b * b) * (k.p * k.p) + 1) =
      mul-le (1 * 1) (32 * (b * b) * (k.p * k.p) + 1) (b * k.q) (32 * (b * b) * (k.p * k.p) + 1)
      (mul-le 1 1 b k.q some_b some_q) (omega arith) in
      omega (arith, up, q_up, bb, bq)
  cheap n on (suc m) less =
      omega (
        arith,
        cheap n on m (omega (arith, less)),
        on m (omega (arith, less)),
        stays k a b (first_work k b) m some_q
            some_b,
      )
