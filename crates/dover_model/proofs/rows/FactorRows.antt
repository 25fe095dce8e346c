-- Feeds and traces with a factor, and its bounds, by computation.
use Rattle.std.proofs.Common.{◌≡◌, ℕ, List, [], ◌∷◌, refl, codes, true, false}
use Rattle.std.specs.Fmt.{digits}
use Rattle.dover_model.specs.Common.{Fraction, fraction, with_factor, is_heavy, instance_of, completed_value, bound}
use Rattle.dover_model.specs.Common.{verdict, Verdict, Accepted, Wrong, closed}
use Rattle.dover_model.proofs.rows.Written.{bytes}

-- the ratio p with the factor b/c
abbrev ratio : (p b c : ℕ) → Fraction
ratio p b c = with_factor (fraction p 1) b c

-- what an accepted trace is worth, and its bound
abbrev worth_and_bound : Verdict → List ℕ
worth_and_bound (Accepted S) =
    completed_value (instance_of S) ∷ bound S.rules.ratio (completed_value (instance_of S)) ∷ []
worth_and_bound _ = []

-- ---- the threshold

above : is_heavy (ratio 1_000_000 2 1) 201 100 ≡ true
above = refl

exactly : is_heavy (ratio 1_000_000 2 1) 200 100 ≡ false
exactly = refl

by_the_root : is_heavy (fraction 1_000_000 1) 100_100 100 ≡ false
by_the_root = refl

above_the_root : is_heavy (fraction 1_000_000 1) 100_101 100 ≡ true
above_the_root = refl

-- ---- the bound

-- where k/(β-1) is more than one
of_two : bound (ratio 100 2 1) 10 ≡ 2_020
of_two = refl

-- where one is more
of_three : bound (ratio 1 3 1) 10 ≡ 50
of_three = refl

-- the factor that is one more than the root has the bound of the root
of_the_root : bound (ratio 4 3 1) 7 ≡ 63
of_the_root = refl

so_it_has : bound (fraction 4 1) 7 ≡ 63
so_it_has = refl

-- the greatest of all
greatest : bound (ratio 1_000_000 1_001 1_000) 999_999_999_999_999_999 ≡ 1_001_000_001_000_999_998_998_999_998
greatest = refl

-- ---- feeds

-- an alarm that is worth more than twice what it stops
alarm : closed (bytes (codes "k 1000000 1 3 2 1/job 0 10 10 10/job 4 1 5 21/end/")) ≡ bytes
    (codes "dover 3 1000000 1 2 1/job 0 0 10 10 10/run 0 0/job 1 4 1 5 21/take 4 0 1/abandon 4 0/complete 5 1/end 21/")
unfolding digits
alarm = refl

-- and one that is worth exactly twice that
no_alarm : closed (bytes (codes "k 1000000 1 3 2 1/job 0 10 10 10/job 4 1 5 20/end/")) ≡ bytes
    (codes "dover 3 1000000 1 2 1/job 0 0 10 10 10/run 0 0/job 1 4 1 5 20/abandon 4 1/complete 10 0/end 10/")
unfolding digits
no_alarm = refl

-- a factor of one, and one in version Two, aren't taken, and a numerator alone is no form
one_is_none : closed (bytes (codes "k 1 1 3 1 1/end/")) ≡ bytes (codes "refused 1 declared/")
unfolding digits
one_is_none = refl

none_in_two : closed (bytes (codes "k 1 1 2 3 1/end/")) ≡ bytes (codes "refused 1 declared/")
unfolding digits
none_in_two = refl

half_a_factor : closed (bytes (codes "k 1 1 3 3/end/")) ≡ bytes (codes "refused 1 line/")
unfolding digits
half_a_factor = refl

-- ---- verdicts

-- the line of a wrong text
abbrev wrong_line : Verdict → ℕ
wrong_line (Wrong line expected) = line
wrong_line _ = 0

judged : worth_and_bound (verdict (bytes
    (codes "dover 3 1000000 1 2 1/job 0 0 10 10 10/run 0 0/job 1 4 1 5 21/take 4 0 1/abandon 4 0/complete 5 1/end 21/")))
    ≡ 21 ∷ 42_000_042 ∷ []
unfolding digits
judged = refl

-- a factor in version Two, or in One, is wrong in the first line
wrong_in_two : wrong_line (verdict (bytes (codes "dover 2 1 1 2 1/end 0/"))) ≡ 1
unfolding digits
wrong_in_two = refl

wrong_in_one : wrong_line (verdict (bytes (codes "dover 1 1 1 2 1/end 0/"))) ≡ 1
unfolding digits
wrong_in_one = refl
