-- The generator's first jobs and draws, by computation.
use Rattle.std.proofs.Common.{◌≡◌, [], ◌∷◌, refl}
use Rattle.dover_model.specs.Common.{fraction, next_state, high_bits, generated_jobs}
use Rattle.dover_model.proofs.rows.Written.{job}

first_draw : next_state 1 ≡ 1103527590
first_draw = refl

first_number : high_bits (next_state 1) ≡ 16838
first_number = refl

eighth_draw : high_bits 486256185 ≡ 7419
eighth_draw = refl

two_jobs : generated_jobs 1 2 (fraction 1 1) ≡ job 6 19 28 19 ∷ job 9 8 17 8 ∷ []
two_jobs = refl

-- densities are next_state up to the ratio, rounded down, and to 1,000
five_jobs : generated_jobs 2147483647 5
    (fraction 2001 2) ≡ job 1 10 33 7190 ∷ job 2 7 29 448 ∷ job 2 15 40 8550 ∷ job 5 17 41 7463
    ∷ job 12 3 22 2274 ∷ []
five_jobs = refl

four_jobs : generated_jobs 77 4 (fraction 5000 1) ≡ job 5 1 25 250 ∷ job 10 10 27 2100 ∷ job 11 11 34 5137
    ∷ job 17 12 48 11316 ∷ []
four_jobs = refl
