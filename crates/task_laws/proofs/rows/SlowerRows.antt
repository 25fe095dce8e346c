-- Worked rows: the bound against jobs of which a schedule needs less than they ask for.
use Rattle.std.proofs.Common.{◌≡◌, ℕ, refl, true, false}
use Rattle.dover_model.specs.Common.{Fraction, fraction, with_factor}
use Rattle.task_laws.specs.Slower.{is_within_slower}

-- the ratio p with the factor b/c
abbrev ratio : (p b c : ℕ) → Fraction
ratio p b c = with_factor (fraction p 1) b c

-- a tenth: 10.8 times as much, by the root and by the factor that is one more

shorter : is_within_slower (ratio 4 3 1) (fraction 1 10) 54 5 ≡ true
shorter = refl

no_more : is_within_slower (ratio 4 3 1) (fraction 1 10) 55 5 ≡ false
no_more = refl

so_by_the_root : is_within_slower (fraction 4 1) (fraction 1 10) 54 5 ≡ true
so_by_the_root = refl

no_more_by_the_root : is_within_slower (fraction 4 1) (fraction 1 10) 55 5 ≡ false
no_more_by_the_root = refl

-- where (1+e)·k/(β-1) is more than one: 2·1.4 + 4.4 + 4.4
by_less : is_within_slower (ratio 4 2 1) (fraction 1 10) 58 5 ≡ true
by_less = refl

no_more_by_less : is_within_slower (ratio 4 2 1) (fraction 1 10) 59 5 ≡ false
no_more_by_less = refl

-- where one is more: 9·1.4 + 4.4 + 1
by_more : is_within_slower (ratio 4 9 1) (fraction 1 10) 90 5 ≡ true
by_more = refl

no_more_by_more : is_within_slower (ratio 4 9 1) (fraction 1 10) 91 5 ≡ false
no_more_by_more = refl
