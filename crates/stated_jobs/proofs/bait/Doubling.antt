-- At ratio one each link is twice the one before it and one, and the schedule is worth almost four times the last.
use Rattle.std.proofs.Common.{◌≡◌, ℕ, zero, suc, ◌+◌, ◌-◌, ◌*◌, ◌/◌, ◌^◌, ◌≤◌, ◌<◌, [], ◌∷◌, sym, ap, ◌∙◌, subst, arith}
use Rattle.std.proofs.Common.{None, sum}
use Rattle.std.proofs.lemmas.List.Sums.{sum_by-cons}
use Rattle.std.proofs.Math.Nat.{pow-succ', div_self, mul-div_cancel_left}
use Rattle.dover_model.specs.declared.events.Version.TheVariants.{Two}
use Rattle.dover_model.specs.Common.{most_jobs, Fraction, IsRatio, greatest, is_heavy, unit_value, most_light}
use Rattle.dover_model.specs.Common.{first_link, chain_from, chain, last_link, bait_value, bait_tick, plan_value}
use Rattle.dover_model.proofs.bound.Calculus.{square_order, heavy_more}
use Rattle.root_compare.proofs.Roots.{one_greatest}
use Rattle.stated_jobs.specs.bait.Baiting.{FitsLimits}
use Rattle.stated_jobs.proofs.bait.Heavy.{is_light, light_is, root_is, heavy_zero, first_is}
use Rattle.stated_jobs.proofs.bait.Coming.{sum_least}
use Rattle.stated_jobs.proofs.bait.Chains.{last_from}
use Rattle.stated_jobs.proofs.bait.Feeds.{small}
use Rattle.stated_jobs.proofs.bait.Validity.{last_link_within}
use Rattle.dover_model.proofs.valid.JobLimits.{ratio_limits}

-- one more power
double : (power more w next last : ℕ) → more ≡ 2 * power → next ≡ w + w + 1 → last + 1 ≡ power * (next + 1)
    → last + 1 ≡ more * (w + 1)
double power more w next last twice is whole =
    whole ∙ ap (λ x. power * (x + 1)) is ∙ level ∙ ap (λ x. x * (w + 1)) (sym twice) where
      level : power * (w + w + 1 + 1) ≡ 2 * power * (w + 1)
      level = omega arith

-- one more term
add : (power more w next m all rest : ℕ) → more ≡ 2 * power → next ≡ w + w + 1 → all ≡ w + rest
    → rest + m + 1 + next + 1 ≡ 2 * (power * (next + 1))
    → all + suc m + 1 + w + 1 ≡ 2 * (more * (w + 1))
add power more w next m all rest twice is sums whole =
    level (power * (next + 1)) (power * (w + 1)) (more * (w + 1)) whole (ap (λ x. power * (x + 1)) is ∙ spread)
    (ap (λ x. x * (w + 1)) twice ∙ turned) where
      spread : power * (w + w + 1 + 1) ≡ 2 * (power * (w + 1))
      spread = omega arith

      turned : 2 * power * (w + 1) ≡ 2 * (power * (w + 1))
      turned = omega arith

      level : (a b c : ℕ) → rest + m + 1 + next + 1 ≡ 2 * a → a ≡ 2 * b → c ≡ 2 * b → all + suc m + 1 + w + 1 ≡ 2 * c
      level a b c row one two = omega (arith, is, sums)

module _ (k : Fraction) (ratio : IsRatio k) (plain : k.factor ≡ None) (one : k.p ≡ k.q) where
  unit_one : unit_value k ≡ 1
  unit_one = ap (λ p. p / k.q) one ∙ div_self (omega (arith, (ratio_limits ratio).least))

  first_one : first_link k ≡ 1
  first_one = subst (λ v. suc (greatest (λ n. is_heavy k v n)) ≡ 1) (sym unit_one)
      (first_is k 1 1 ratio same modest same (heavy_zero k 1 ratio same)
      (λ heavy. never (heavy_more k 1 1 heavy)))
    where
      same : 1 ≤ 1
      same = omega arith

      modest : 1 ≤ 1_000_000_000
      modest = omega arith

      never : 1 < 1 → ⊥
      never less = omega arith

  light_double : (w : ℕ) → w ≤ 1_000_000 → most_light k w ≡ w + w
  light_double w small = one_greatest (is_light k w) (most_light k w) (w + w)
      (light_is k w ratio (omega (arith, small)))
      (root_is k w w ratio plain (subst (λ n. w * w ≤ n) (sym under) (omega arith))
      (λ r less. square_order r w (subst (λ n. r * r ≤ n) under less)))
    where
      under : k.p * (w * w) / k.q ≡ w * w
      under = ap (λ p. p * (w * w) / k.q) one ∙ mul-div_cancel_left (w * w) (omega (arith, (ratio_limits ratio).least))

  next_link : (w all rest : ℕ) → all ≡ w + rest → all < most_jobs Two → suc (most_light k w) ≡ w + w + 1
  next_link w all rest is few = level (most_light k w) (light_double w (omega (arith, is, few))) where
    level : (light : ℕ) → light ≡ w + w → suc light ≡ w + w + 1
    level light is = omega arith

  doubles : (m w : ℕ) → sum (chain_from k (suc m) w) < most_jobs Two
      → (last_from w (chain_from k m (suc (most_light k w))) + 1 ≡ 2 ^ m * (w + 1))
      × (sum (chain_from k (suc m) w) + m + 1 + w + 1 ≡ 2 *
      (2 ^ m * (w + 1)))
  doubles zero w few = (one_time, once (sum (w ∷ [])) (sum_by-cons (λ x. x) w [])) where
    one_time : w + 1 ≡ 1 * (w + 1)
    one_time = omega arith

    once : (all : ℕ) → all ≡ w + 0 → all + 0 + 1 + w + 1 ≡ 2 * (1 * (w + 1))
    once all is = omega arith
  doubles (suc m) w few =
      let next : ℕ = suc (most_light k w) in
      let cons : sum (chain_from k (suc (suc m)) w) ≡ w + sum (chain_from k (suc m) next) =
      sum_by-cons (λ x. x) w (chain_from k (suc m) next) in
      let is : next ≡ w + w + 1 =
      next_link w (sum (chain_from k (suc (suc m)) w)) (sum (chain_from k (suc m) next)) cons few in
      let more = doubles m next
      (less (sum (chain_from k (suc (suc m)) w)) (sum (chain_from k (suc m) next)) cons few) in (
        double _ _ _ _ _ (pow-succ' 2 m) is more.0,
        add _ _ _ _ _ _ _ (pow-succ' 2 m) is cons more.1,
      ) where
        less : (all rest : ℕ) → all ≡ w + rest → all < most_jobs Two → rest < most_jobs Two
        less all rest is few = omega arith

  both : (m : ℕ) → FitsLimits k (suc m) → (last_link k (suc m) + 1 ≡ 2 ^ suc m)
      × (sum (chain k (suc m)) + suc m ≡ 2 * last_link k (suc m))
  both m fits =
      let rows = doubles m (first_link k) (small k (suc m) fits) in
      let last : last_link k (suc m) + 1 ≡ 2 ^ m * (1 + 1) = rows.0 ∙ ap (λ w. 2 ^ m * (w + 1)) first_one in
      let total : sum (chain k (suc m)) + m + 1 + 1 + 1 ≡ 2 * (2 ^ m * (1 + 1)) =
      ap (λ w. sum (chain k (suc m)) + m + 1 + w + 1) (sym first_one) ∙ rows.1
      ∙ ap (λ w. 2 * (2 ^ m * (w + 1))) first_one in (
        last ∙ power (2 ^ m) (2 ^ suc m) (pow-succ' 2 m),
        level (last_link k (suc m)) (sum (chain k (suc m))) (2 ^ m) last total,
      ) where
        power : (a b : ℕ) → b ≡ 2 * a → a * (1 + 1) ≡ b
        power a b is = omega arith

        level : (last all a : ℕ) → last + 1 ≡ a * (1 + 1) → all + m + 1 + 1 + 1 ≡ 2 * (a * (1 + 1))
            → all + suc m ≡ 2 * last
        level last all a one two = omega arith

  pub last_is : (rounds : ℕ) → 1 ≤ rounds → FitsLimits k rounds → last_link k rounds + 1 ≡ 2 ^ rounds
  last_is zero many fits = absurd (omega (arith, many))
  last_is (suc m) many fits = (both m fits).0

  pub plan_is_four : (rounds : ℕ) → 1 ≤ rounds → FitsLimits k rounds
      → plan_value k rounds + 2 * rounds ≡ 4 * last_link k rounds
  plan_is_four zero many fits = absurd (omega (arith, many))
  plan_is_four (suc m) many fits =
      ap (λ u. u * bait_tick k (suc m) + bait_value k (suc m) + 2 * suc m) unit_one
      ∙ ap (λ v. 1 * bait_tick k (suc m) + v + 2 * suc m)
      (light_double (last_link k (suc m)) (low (last_link k (suc m)) (sum (chain k (suc m)))
      (last_link_within k (suc m) many).1 (small k (suc m) fits)))
      ∙ level (last_link k (suc m)) (sum (chain k (suc m))) (both m fits).1
      (sum_least k (suc m) (first_link k) (omega arith)) where
        low : (last all : ℕ) → last ≤ all → all < most_jobs Two → last ≤ 1_000_000
        low last all within few = omega arith

        level : (last all : ℕ) → all + suc m ≡ 2 * last → suc m ≤ all
            → 1 * (all - suc m) + (last + last) + 2 * suc m ≡ 4 * last
        level last all total many = omega arith
