-- The order of waiting jobs, by deadline or by density, is strict among jobs that have work.
use Rattle.std.proofs.Common.{◌≡◌, ◌≢◌, ℕ, ◌+◌, ◌*◌, ◌<◌, ◌≤◌, ◌⊎◌, inl, inr, Bool, true, false, not, refl, sym, ap}
use Rattle.std.proofs.Common.{◌∙◌, arith, nat_lt, lt-ltb, ltb-true, ltb-false}
use Rattle.std.proofs.lemmas.Bool.{cases_lt}
use Rattle.std.specs.Prelude.{◌||◌, ◌&&◌}
use Rattle.std.proofs.Math.Nat.{mul-le-mul_left}
use Rattle.dover_model.specs.Common.{Version, Task, entry_of, due_first, is_less_dense, waiting_order}
use Rattle.dover_model.proofs.lists.Tests.{never}
use Rattle.dover_model.proofs.steps.EntryOrders.{strict_by}

-- of three jobs with the values a, b and c, and the works u, v and w
module _ (a b c u v w : ℕ) (u_some : 1 ≤ u) (v_some : 1 ≤ v) (w_some : 1 ≤ w) where
  -- the first is denser than the second, and that isn't less dense than the third
  denser_then : b * u < a * v → c * v ≤ b * w → c * u < a * w
  denser_then one two = by_order (cases_lt (c * u) (a * w)) where
    by_order : (c * u < a * w) ⊎ (a * w ≤ c * u) → c * u < a * w
    by_order (inl less) = less
    by_order (inr more) = absurd (omega (
      arith,
      w_some,
      mul-le-mul_left v more,
      mul-le-mul_left u two,
      mul-le-mul_left w (let it : b * u + 1 ≤ a * v = omega (arith, one) in it),
    ))

  -- the first isn't less dense than the second, and that is denser than the third
  then_denser : b * u ≤ a * v → c * v < b * w → c * u < a * w
  then_denser one two = by_order (cases_lt (c * u) (a * w)) where
    by_order : (c * u < a * w) ⊎ (a * w ≤ c * u) → c * u < a * w
    by_order (inl less) = less
    by_order (inr more) = absurd (omega (
      arith,
      u_some,
      mul-le-mul_left v more,
      mul-le-mul_left u (let it : c * v + 1 ≤ b * w = omega (arith, two) in it),
      mul-le-mul_left w one,
    ))

  -- neither is less dense than the next
  no_less_dense : b * u ≤ a * v → c * v ≤ b * w → c * u ≤ a * w
  no_less_dense one two = by_order (cases_lt (a * w) (c * u)) where
    by_order : (a * w < c * u) ⊎ (c * u ≤ a * w) → c * u ≤ a * w
    by_order (inr fine) = fine
    by_order (inl less) = absurd (omega (
      arith,
      v_some,
      mul-le-mul_left v (let it : a * w + 1 ≤ c * u = omega (arith, less) in it),
      mul-le-mul_left u two,
      mul-le-mul_left w one,
    ))

-- a test that comes to true in one of two ways
either_way : (p q r : Bool) → (p || (not q && r)) ≡ true → (p ≡ true) ⊎ ((q ≡ false) × (r ≡ true))
either_way true q r h = inl refl
either_way false false r h = inr (refl, h)
either_way false true r h = never h

one_way_of : (p q r s : Bool) → (p ≡ true → q ≡ false) → (r ≡ true → s ≡ false) → (p || (not q && r)) ≡ true
    → (q || (not p && s)) ≡ false
one_way_of true q r s first then h = ap (λ b. b || false) (first refl)
one_way_of false false r s first then h = then h
one_way_of false true r s first then h = never h

second_way : (p q r : Bool) → q ≡ false → r ≡ true → (p || (not q && r)) ≡ true
second_way true q r e f = refl
second_way false q r e f = ap (λ b. not b && r) e ∙ f

total_of : (p q r s : Bool) → (r ≡ false → s ≡ true) → (p || (not q && r)) ≡ false → (q || (not p && s)) ≡ true
total_of true q r s then h = never (sym h)
total_of false true r s then h = refl
total_of false false r s then h = then h

-- a job that has work
abbrev pub HasWork : Task → Type 0
HasWork t = 1 ≤ t.job.work

module _ (v : Version) where
  -- by deadline
  due_one_way : (a b : Task) → due_first v a b ≡ true → due_first v b a ≡ false
  due_one_way a b = (strict_by (λ e. e.deadline) v).one_way (entry_of a) (entry_of b)

  pub waiting_one_way : (dense : Bool) (a b : Task) → waiting_order v dense a b ≡ true
      → waiting_order v dense b a ≡ false
  waiting_one_way false a b h = due_one_way a b h
  waiting_one_way true a b h = one_way_of (is_less_dense b a) (is_less_dense a b) (due_first v a b) (due_first v b a)
      (less (b.job.value * a.job.work) (a.job.value * b.job.work)) (due_one_way a b) h where
        less : (m n : ℕ) → nat_lt m n ≡ true → nat_lt n m ≡ false
        less m n e = grind arith

  pub waiting_onward : (dense : Bool) (a b c : Task) → HasWork a → HasWork b → HasWork c
      → waiting_order v dense a b ≡ true → waiting_order v dense b c ≡ true → waiting_order v dense a c ≡ true
  waiting_onward false a b c _ _ _ one two =
      (strict_by (λ e. e.deadline) v).onward (entry_of a) (entry_of b) (entry_of c) one two
  waiting_onward true a b c some_a some_b some_c one two =
      by_ways (either_way _ _ _ one) (either_way _ _ _ two) where
        i : ℕ
        i = a.job.value

        j : ℕ
        j = b.job.value

        k : ℕ
        k = c.job.value

        l : ℕ
        l = a.job.work

        m : ℕ
        m = b.job.work

        n : ℕ
        n = c.job.work

        denser : k * l < i * n → waiting_order v true a c ≡ true
        denser less = ap (λ b. b || (not (is_less_dense a c) && due_first v a c)) (lt-ltb (k * l) (i * n) less)

        by_ways : (is_less_dense b a ≡ true) ⊎ ((is_less_dense a b ≡ false) × (due_first v a b ≡ true))
            → (is_less_dense c b ≡ true) ⊎ ((is_less_dense b c ≡ false) × (due_first v b c ≡ true))
            → waiting_order v true a c ≡ true
        by_ways (inl e) (inl f) =
            let first : j * l < i * m = ltb-true _ _ e in
            let next : k * m < j * n = ltb-true _ _ f in
            denser (denser_then i j k l m n some_a some_b some_c first (omega (arith, next)))
        by_ways (inl e) (inr f) =
            denser (denser_then i j k l m n some_a some_b some_c (ltb-true _ _ e) (ltb-false _ _ f.0))
        by_ways (inr e) (inl f) =
            denser (then_denser i j k l m n some_a some_b some_c (ltb-false _ _ e.0) (ltb-true _ _ f))
        by_ways (inr e) (inr f) = second_way (is_less_dense c a) (is_less_dense a c) (due_first v a c)
            (no_less (i * n) (k * l)
            (no_less_dense i j k l m n some_a some_b some_c (ltb-false _ _ e.0) (ltb-false _ _ f.0)))
            ((strict_by (λ e. e.deadline) v).onward (entry_of a) (entry_of b) (entry_of c) e.1 f.1) where
              no_less : (x y : ℕ) → y ≤ x → nat_lt x y ≡ false
              no_less x y h = grind arith

  pub waiting_total : (dense : Bool) (a b : Task) → a.number ≢ b.number → waiting_order v dense a b ≡ false
      → waiting_order v dense b a ≡ true
  waiting_total false a b apart = (strict_by (λ e. e.deadline) v).total (entry_of a) (entry_of b) apart
  waiting_total true a b apart = total_of (is_less_dense b a) (is_less_dense a b) (due_first v a b) (due_first v b a)
      ((strict_by (λ e. e.deadline) v).total (entry_of a) (entry_of b) apart)
