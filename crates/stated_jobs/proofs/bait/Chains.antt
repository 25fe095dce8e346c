-- A chain, value by value.
use Rattle.std.proofs.Common.{◌≡◌, ℕ, zero, suc, ◌+◌, ◌-◌, ◌*◌, ◌≤◌, ◌<◌, List, [], ◌∷◌, Some, None, true, false, refl}
use Rattle.std.proofs.Common.{sym, ap, ◌∙◌, arith, Fits, w64, unwrap_or, sum}
use Rattle.std.specs.List.{last_or}
use Rattle.std.proofs.lemmas.List.Sums.{sum_by-cons}
use Rattle.dover_model.specs.Common.{Fraction, most_light, chain_from, chain, first_link, last_link}

-- one value, and the others from the least that is heavy against it
pub chain_step : (k : Fraction) (more less w light : ℕ) → more ≡ suc less → light ≡ most_light k w
    → chain_from k more w ≡ w ∷ chain_from k less (light + 1)
chain_step k more less w light is lights = ap (λ m. chain_from k m w) is ∙ ap (λ n. w ∷ chain_from k less n)
    (ap suc (sym lights) ∙ next light) where
      next : (n : ℕ) → suc n ≡ n + 1
      next n = omega arith

-- the sum so far and the rest of the chain
pub sum_step : (k : Fraction) (more less w light sofar all : ℕ) → more ≡ suc less → light ≡ most_light k w
    → sofar + sum (chain_from k more w) ≡ all → sofar + w + sum (chain_from k less (light + 1)) ≡ all
sum_step k more less w light sofar all is lights whole =
    level (sum (chain_from k more w)) (sum (chain_from k less (light + 1)))
    (ap (λ ws. sum ws) (chain_step k more less w light is lights)
    ∙ sum_by-cons (λ x. x) w (chain_from k less (light + 1))) whole where
      level : (before after : ℕ) → before ≡ w + after → sofar + before ≡ all → sofar + w + after ≡ all
      level before after one two = omega arith

-- the last value of some that begin with one
abbrev pub last_from : ℕ → List ℕ → ℕ
last_from w ws = unwrap_or (last_or (Some w) ws) 0

pub last_step : (k : Fraction) (more less last w light end : ℕ) → more ≡ suc less → light ≡ most_light k w
    → last_from last (chain_from k more w) ≡ end → last_from w (chain_from k less (light + 1)) ≡ end
last_step k more less last w light end is lights whole =
    sym (ap (λ ws. last_from last ws) (chain_step k more less w light is lights)) ∙ whole

last_start : (ws : List ℕ) → last_from 0 ws ≡ unwrap_or (last_or None ws) 0
last_start [] = refl
last_start (w ∷ ws) = refl

-- at the beginning all values are still to come
pub all_to_come : (k : Fraction) (rounds first : ℕ) → 1 ≤ first → first ≡ first_link k
    → chain_from k (rounds - 0) (first - 1 + 1) ≡ chain k rounds
all_to_come k rounds first some is = ap (λ m. chain_from k m (first - 1 + 1)) all
    ∙ ap (λ w. chain_from k rounds w) (same ∙ is) where
      all : rounds - 0 ≡ rounds
      all = omega arith

      same : first - 1 + 1 ≡ first
      same = omega arith

pub last_to_come : (k : Fraction) (rounds first : ℕ) → 1 ≤ first → first ≡ first_link k
    → last_from 0 (chain_from k (rounds - 0) (first - 1 + 1)) ≡ last_link k rounds
last_to_come k rounds first some is = ap (λ ws. last_from 0 ws) (all_to_come k rounds first some is)
    ∙ last_start (chain k rounds)

-- at the end none is
pub none_to_come : (k : Fraction) (rounds w : ℕ) → chain_from k (rounds - rounds) w ≡ []
none_to_come k rounds w = ap (λ m. chain_from k m w) none where
  none : rounds - rounds ≡ zero
  none = omega arith

-- ---- what the loop over a chain keeps, in numbers

pub from_nothing : (rest all : ℕ) → rest ≡ all → 0 + rest ≡ all
from_nothing rest all is = omega arith

pub first_low : (first : ℕ) → first ≤ 1_000_000 → first - 1 ≤ 1_000_000_000_000
first_low first low = omega arith

pub nothing_few : 0 < 1_000_000
nothing_few = omega arith

pub no_more : {A : Type 0} → 1 ≤ 0 → A
no_more {A} h = absurd (omega (arith, h))

pub one_fewer : (rounds i : ℕ) → i < rounds → rounds - i ≡ suc (rounds - (i + 1))
one_fewer rounds i less = omega arith

pub low_step : (sofar light more : ℕ) → sofar + (light + 1) < 1_000_000 → more ≤ 1_000_000 * (light + 1)
    → more ≤ 1_000_000_000_000
low_step sofar light more few most = omega arith

pub last_fits : (light : ℕ) → light ≤ 1_000_000_000_000 → Fits w64 (light + 1)
last_fits light low = omega (arith, low)

pub sum_fits : (sofar light : ℕ) → sofar < 1_000_000 → light ≤ 1_000_000_000_000 → Fits w64 (sofar + (light + 1))
sum_fits sofar light few low = omega (arith, few, low)

pub some_step : (light more : ℕ) → light + 1 ≤ more → 1 ≤ more
some_step light more least = omega arith

-- a part that is too much makes the whole too much
pub too_much : (part rest all : ℕ) → part + rest ≡ all → 1_000_000 ≤ part → all < 1_000_000 → false ≡ true
too_much part rest all whole much few = absurd (omega arith)

pub sum_part : (k : Fraction) (more less w sofar all : ℕ) → more ≡ suc less → sofar + sum (chain_from k more w) ≡ all
    → 1_000_000 ≤ sofar + w
    → all < 1_000_000 → false ≡ true
sum_part k more less w sofar all is whole much few =
    too_much _ _ _ (sum_step k more less w (most_light k w) sofar all is refl whole) much few

-- where none is to come the sum so far is all
pub all_summed : (k : Fraction) (rounds i w sofar all : ℕ) → i ≡ rounds
    → sofar + sum (chain_from k (rounds - i) w) ≡ all → sofar ≡ all
all_summed k rounds i w sofar all end whole =
    level (sum (chain_from k (rounds - i) w))
    (ap (λ m. sum (chain_from k (rounds - m) w)) end ∙ ap (λ ws. sum ws) (none_to_come k rounds w)) whole
  where
    level : (rest : ℕ) → rest ≡ 0 → sofar + rest ≡ all → sofar ≡ all
    level rest none whole = omega arith

-- and the last value so far is the last of all
pub last_summed : (k : Fraction) (rounds i w last end : ℕ) → i ≡ rounds
    → last_from last (chain_from k (rounds - i) w) ≡ end → last ≡ end
last_summed k rounds i w last end over whole = cc (none_to_come k rounds w)

pub all_done : (rounds i : ℕ) → i ≤ rounds → rounds ≤ i → i ≡ rounds
all_done rounds i low high = omega arith

pub some_done : (rounds i : ℕ) → 1 ≤ rounds → i ≡ rounds → 1 ≤ i
some_done rounds i some is = omega arith
