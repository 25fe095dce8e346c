-- Baiting feeds, by computation.
use Rattle.std.proofs.Common.{◌≡◌, ℕ, List, [], ◌∷◌, length, refl}
use Rattle.dover_model.specs.Common.{Instance, Fraction, fraction, worth, completed_value, bound, chain, bait_jobs}
use Rattle.dover_model.specs.Common.{bait_plan, plan_value}
use Rattle.dover_model.proofs.rows.Written.{job, one}

abbrev ratio : ℕ → ℕ → Fraction
ratio p q = fraction p q

abbrev baiting : ℕ → ℕ → ℕ → Instance
baiting p q rounds = one p q (bait_jobs (ratio p q) rounds)

-- how many jobs, what the run is worth, what the plan is worth, and the bound
abbrev four_numbers : ℕ → ℕ → ℕ → List ℕ
four_numbers p q rounds =
    length (bait_jobs (ratio p q) rounds) ∷ completed_value (baiting p q rounds) ∷ worth (baiting p q rounds)
    (bait_plan (ratio p q) rounds) ∷ bound (ratio p q) (completed_value (baiting p q rounds)) ∷ []

chain_1_1_4 : chain (ratio 1 1) 4 ≡ 1 ∷ 3 ∷ 7 ∷ 15 ∷ []
chain_1_1_4 = refl

numbers_1_1_4 : four_numbers 1 1 4 ≡ 27 ∷ 15 ∷ 52 ∷ 60 ∷ []
numbers_1_1_4 = refl

plan_value_1_1_4 : plan_value (ratio 1 1) 4 ≡ 52
plan_value_1_1_4 = refl

chain_1_1_1 : chain (ratio 1 1) 1 ≡ 1 ∷ []
chain_1_1_1 = refl

numbers_1_1_1 : four_numbers 1 1 1 ≡ 2 ∷ 1 ∷ 2 ∷ 4 ∷ []
numbers_1_1_1 = refl

plan_value_1_1_1 : plan_value (ratio 1 1) 1 ≡ 2
plan_value_1_1_1 = refl

chain_4_1_2 : chain (ratio 4 1) 2 ≡ 2 ∷ 7 ∷ []
chain_4_1_2 = refl

numbers_4_1_2 : four_numbers 4 1 2 ≡ 10 ∷ 7 ∷ 49 ∷ 63 ∷ []
numbers_4_1_2 = refl

plan_value_4_1_2 : plan_value (ratio 4 1) 2 ≡ 49
plan_value_4_1_2 = refl

chain_2_1_3 : chain (ratio 2 1) 3 ≡ 1 ∷ 3 ∷ 8 ∷ []
chain_2_1_3 = refl

numbers_2_1_3 : four_numbers 2 1 3 ≡ 13 ∷ 8 ∷ 37 ∷ 46 ∷ []
numbers_2_1_3 = refl

plan_value_2_1_3 : plan_value (ratio 2 1) 3 ≡ 37
plan_value_2_1_3 = refl

chain_9_4_2 : chain (ratio 9 4) 2 ≡ 1 ∷ 3 ∷ []
chain_9_4_2 = refl

numbers_9_4_2 : four_numbers 9 4 2 ≡ 5 ∷ 3 ∷ 11 ∷ 18 ∷ []
numbers_9_4_2 = refl

plan_value_9_4_2 : plan_value (ratio 9 4) 2 ≡ 11
plan_value_9_4_2 = refl

jobs_1_1_4 : bait_jobs (ratio 1 1) 4 ≡ job 0 1 1 1 ∷ job 0 3 3 3 ∷ job 0 1 1 1 ∷ job 1 1 2 1 ∷ job 2 7 9 7 ∷ job 2 1 3 1
    ∷ job 3 1 4 1
    ∷ job 4 1 5 1 ∷ job 5 1 6 1 ∷ job 6 1 7 1 ∷ job 7 1 8 1 ∷ job 8 15 23 15 ∷ job 8 1 9 1 ∷ job 9 1 10 1
    ∷ job 10 1 11 1 ∷ job 11 1 12 1
    ∷ job 12 1 13 1 ∷ job 13 1 14 1 ∷ job 14 1 15 1 ∷ job 15 1 16 1 ∷ job 16 1 17 1 ∷ job 17 1 18 1 ∷ job 18 1 19 1
    ∷ job 19 1 20 1
    ∷ job 20 1 21 1 ∷ job 21 1 22 1 ∷ job 22 30 52 30 ∷ []
jobs_1_1_4 = refl
