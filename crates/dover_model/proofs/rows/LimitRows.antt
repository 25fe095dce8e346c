-- The limits that take long feeds to reach, by computation from an account or a list at the limit.
use Rattle.std.proofs.Common.{◌≡◌, ℕ, ◌++◌, [], ◌∷◌, replicate, refl, Some, None, codes}
use Rattle.std.specs.Fmt.{digits}
use Rattle.dover_model.specs.Common.{fraction, Version, One, Two, Three, BadJob, Total, Ratio, Declaration, refusal_of}
use Rattle.dover_model.specs.Common.{new_session, Account, Open, Ended, Faulty, Lines, next_line, short_lines}
use Rattle.dover_model.proofs.rows.Written.{job}

abbrev up_to : ℕ → Version → Declaration
up_to p version = record { ratio = fraction p 1; version = version }

-- an account of so many lines
abbrev after : Version → (lines : ℕ) → Account
after version lines = record {
  lines = lines;
  session = Some (new_session (up_to 1 version));
  mark = 0;
  standing = Open;
}

too_many_lines : (next_line (after One 4_000_000) (codes "end")).standing ≡ Faulty 4_000_001 Lines
too_many_lines = refl

too_many_lines_of_two : (next_line (after Two 4_000_000) (codes "end")).standing ≡ Faulty 4_000_001 Lines
too_many_lines_of_two = refl

more_lines_of_three : (next_line (after Three 4_000_000) (codes "tick 1")).standing ≡ Open
more_lines_of_three = refl

too_many_lines_of_three : (next_line (after Three 16_000_000_000) (codes "end")).standing ≡ Faulty 16_000_000_001 Lines
too_many_lines_of_three = refl

too_many_lines_and_too_long : (next_line (after One 4_000_000)
    (codes "xxxxxxxxxxxxxxxxxxxxxxxxxxxxxxxxxxxxxxxxxxxxxxxxxxxxxxxxxxxxxxxxxxxxxxxxxxxxxxxxxxxxxxxxxxxxxxxxxxxx"
    ++ codes "xxxxxxxxxxxxxxxxxxxxxxxxxxxxx")).standing ≡ Faulty 4_000_001 Lines
too_many_lines_and_too_long = refl

end_at_the_limit : (next_line (after One 3_999_999) (codes "end")).standing ≡ Ended
end_at_the_limit = refl

short_at_the_limit : short_lines 4_000_000 (after One 4_000_000) ≡ codes "refused 4000001 short" ∷ []
unfolding digits
short_at_the_limit = refl

-- jobs whose values have the greatest sum
total_before_ratio : refusal_of (up_to 1 One) (replicate 10_000 (job 0 1 1 1_000_000_000)) (job 0 1 1 1) ≡ Some Total
total_before_ratio = refl

greater_total_of_three : refusal_of (up_to 1 Three) (replicate 10_000 (job 0 1 1 1_000_000_000)) (job 0 1 1 1)
    ≡ Some Ratio
greater_total_of_three = refl

job_before_total : refusal_of (up_to 1 One) (replicate 10_000 (job 0 1 1 1_000_000_000)) (job 0 2 1 1) ≡ Some BadJob
job_before_total = refl

ratio_of_a_denser_job : refusal_of (up_to 1 One) (job 0 1 1 1 ∷ []) (job 0 1 1 2) ≡ Some Ratio
ratio_of_a_denser_job = refl

ratio_of_a_less_dense_job : refusal_of (up_to 1 One) (job 0 1 1 2 ∷ []) (job 0 1 1 1) ≡ Some Ratio
ratio_of_a_less_dense_job = refl

within_the_ratio : refusal_of (up_to 2 One) (job 0 1 1 2 ∷ []) (job 0 1 1 1) ≡ None
within_the_ratio = refl

-- the last tick of a version, and the most work
due_at_the_last_tick_of_three : refusal_of (up_to 1 Three) [] (job 0 1 10_000_000_000_000_000 1) ≡ None
due_at_the_last_tick_of_three = refl

due_after_the_last_tick_of_two : refusal_of (up_to 1 Two) [] (job 0 1 1_000_000_000_001 1) ≡ Some BadJob
due_after_the_last_tick_of_two = refl

due_after_the_last_tick : refusal_of (up_to 1 Three) [] (job 0 1 10_000_000_000_000_001 1) ≡ Some BadJob
due_after_the_last_tick = refl

too_much_work : refusal_of (up_to 1 Three) [] (job 0 1_000_000_000_001 10_000_000_000_000_000 1) ≡ Some BadJob
too_much_work = refl
