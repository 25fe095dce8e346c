-- How many comparisons the loops of a heap take, by the binary digits of its length.
use Rattle.std.proofs.Common.{◌≡◌, ℕ, zero, suc, ◌+◌, ◌-◌, ◌*◌, ◌/◌, ◌^◌, ◌<◌, ◌≤◌, ap, ◌∙◌, arith, inl, inr, pow-add}
use Rattle.std.proofs.lemmas.Bool.{cases_lt}
use Rattle.std.proofs.Math.Pow.{pow_mono}

double : (e : ℕ) → 2 ^ suc e ≡ 2 * 2 ^ e
double e = let one : suc e ≡ 1 + e = omega arith in ap (λ n. 2 ^ n) one ∙ pow-add 2 1 e

pub double_twice : (e : ℕ) → 2 ^ suc (suc e) ≡ 4 * 2 ^ e
double_twice e = omega (arith, double e, double (suc e))

pub pow_less : (m d : ℕ) → 2 ^ m < 2 ^ d → m < d
pow_less m d h = elim (cases_lt m d)
    [ inl less ↦ less | inr more ↦ let high : 2 ^ d ≤ 2 ^ m = pow_mono more in omega arith ]

-- ---- up: a step to a parent takes a comparison and two digits

-- d digits for three times the start are enough for the steps so far and for what is above at
abbrev pub CountsUp : (from start at now : ℕ) → Type 0
CountsUp from start at now = (d : ℕ) → from * 3 + 1 < 2 ^ d
    → (e : ℕ) × (at * 3 + 1 < 2 ^ e) × (2 * now + e ≤ 2 * start + d)

pub up_more : (from start at p now next : ℕ) → CountsUp from start at now → p * 4 + 1 ≤ at → next ≡ now + 1
    → CountsUp from start p next
up_more from start at p now next count above step d fits = by_cases (count d fits) where
  by_cases : ((e : ℕ) × (at * 3 + 1 < 2 ^ e) × (2 * now + e ≤ 2 * start + d))
      → (e : ℕ) × (p * 3 + 1 < 2 ^ e) × (2 * next + e ≤ 2 * start + d)
  by_cases (zero, low, high) = absurd (omega arith)
  by_cases (suc zero, low, high) = absurd (omega arith)
  by_cases (suc (suc e), low, high) = (e, omega (arith, double_twice e), omega arith)

-- where no step is left
pub up_end : (from start at now d : ℕ) → CountsUp from start at now → from < 2 ^ d → 2 * now ≤ 2 * start + d + 1
up_end from start at now d count fits = by_cases (count (suc (suc d)) (omega (arith, double_twice d))) where
  by_cases : ((e : ℕ) × (at * 3 + 1 < 2 ^ e) × (2 * now + e ≤ 2 * start + suc (suc d))) → 2 * now ≤ 2 * start + d + 1
  by_cases (zero, low, high) = absurd (omega arith)
  by_cases (suc e, low, high) = omega arith

-- after one comparison more, with a parent that stays
pub up_last : (from start at now next d : ℕ) → CountsUp from start at now → 0 < at → next ≡ now + 1 → from < 2 ^ d
    → 2 * next ≤ 2 * start + d + 1
up_last from start at now next d count some step fits =
    let above : (at - 1) / 4 * 4 + 1 ≤ at = omega arith in
    up_end from start ((at - 1) / 4) next d (up_more from start at ((at - 1) / 4) now next count above step) fits

-- ---- down: a step to a child takes three comparisons and two digits

abbrev pub CountsDown : (start at now : ℕ) → Type 0
CountsDown start at now = (m : ℕ) × (2 ^ m ≤ at * 3 + 1) × (2 * now ≤ 2 * start + 3 * m)

pub down_more : (start at c now next : ℕ) → CountsDown start at now → at * 4 + 1 ≤ c → next ≤ now + 3
    → CountsDown start c next
down_more start at c now next count below step =
    (suc (suc count.0), omega (arith, double_twice count.0, count.1), omega (arith, count.2))

-- where there are no children
pub down_end : (len start at now d : ℕ) → CountsDown start at now → at < len → len + 2 < 2 ^ d
    → 2 * now ≤ 2 * start + 3 * d + 3
down_end len start at now d count inside fits =
    let less : count.0 < suc (suc d) = pow_less count.0 (suc (suc d)) (omega (arith, count.1, double_twice d)) in
    omega (arith, count.2)

-- ---- down, and then up
pub settle_end : (len start mid next d : ℕ) → 0 < len → len + 2 < 2 ^ d → 2 * mid ≤ 2 * start + 3 * d + 3
    → ((d : ℕ) → len < 2 ^ d → 2 * next ≤ 2 * mid + d + 1) → next ≤ start + 3 * d
settle_end len start mid next d some fits down up =
    let one : 1 < d = pow_less 1 d (omega arith) in
    let most = up d (omega arith) in
    omega (arith, most)
