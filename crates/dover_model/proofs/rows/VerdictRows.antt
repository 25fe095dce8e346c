-- Verdicts on texts, by computation.
use Rattle.std.proofs.Common.{◌≡◌, ◌++◌, ℕ, List, [], ◌∷◌, refl, codes}
use Rattle.std.specs.Fmt.{digits}
use Rattle.dover_model.specs.Common.{Run, Complete, Abandon, End, instance_of, completed_value, bound, verdict, Verdict}
use Rattle.dover_model.specs.Common.{Accepted, Wrong, Header, Nothing}
use Rattle.dover_model.specs.Verdict.{Short, Step}
use Rattle.dover_model.proofs.rows.Written.{bytes}

-- what is said of an accepted text
abbrev value_and_bound : Verdict → List ℕ
value_and_bound (Accepted S) =
    completed_value (instance_of S) ∷ bound S.rules.ratio (completed_value (instance_of S)) ∷ []
value_and_bound _ = []

accepted : value_and_bound (verdict (bytes (codes "dover 1 1 1/job 0 0 2 2 2/run 0 0/complete 2 0/end 2/"))) ≡ 2 ∷ 8
    ∷ []
unfolding digits
accepted = refl

wrong_take : verdict (bytes
    (codes "dover 1 1 1/job 0 0 10 10 10/run 0 0/job 1 0 20 20 20/take 0 0 1/complete 10 0/end 10/")) ≡ Wrong 5
    (Step (Abandon 0 1))
unfolding digits
wrong_take = refl

left_out : verdict (bytes (codes "dover 1 1 1/job 0 0 10 10 10/run 0 0/job 1 0 20 20 20/complete 10 0/end 10/"))
    ≡ Wrong 5 (Step (Abandon 0 1))
unfolding digits
left_out = refl

without_a_last_line_feed : verdict (bytes (codes "dover 1 1 1/job 0 0 2 2 2/run 0")) ≡ Short 2
unfolding digits
without_a_last_line_feed = refl

line_after_the_end : verdict (bytes (codes "dover 1 1 1/job 0 0 2 2 2/run 0 0/complete 2 0/end 2/x/")) ≡ Wrong 6 Nothing
unfolding digits
line_after_the_end = refl

byte_after_the_end : verdict (bytes (codes "dover 1 1 1/job 0 0 2 2 2/run 0 0/complete 2 0/end 2/x")) ≡ Wrong 6 Nothing
unfolding digits
byte_after_the_end = refl

empty_text : verdict [] ≡ Short 0
unfolding digits
empty_text = refl

no_version_five : verdict (bytes (codes "dover 5 1 1/")) ≡ Wrong 1 Header
unfolding digits
no_version_five = refl

ratio_below_one : verdict (bytes (codes "dover 1 1 2/")) ≡ Wrong 1 Header
unfolding digits
ratio_below_one = refl

two_spaces : verdict (bytes (codes "dover 1 1 1/job 0 0 2 2 2/run  0 0/")) ≡ Wrong 3 (Step (Run 0 0))
unfolding digits
two_spaces = refl

job_outside_the_ratio : verdict (bytes (codes "dover 1 2 1/job 0 0 1 5 1/run 0 0/job 1 0 1 5 3/")) ≡ Wrong 4
    (Step (Complete 1 0))
unfolding digits
job_outside_the_ratio = refl

wrong_number : verdict (bytes (codes "dover 1 1 1/job 1 0 2 2 2/")) ≡ Wrong 2 (Step (End 0))
unfolding digits
wrong_number = refl

rest_of_128_bytes : verdict (bytes
    (codes "xxxxxxxxxxxxxxxxxxxxxxxxxxxxxxxxxxxxxxxxxxxxxxxxxxxxxxxxxxxxxxxxxxxxxxxxxxxxxxxxxxxxxxxxxxxxxxxxxxxxxxxxxxxxxxxxxxxxxxxxxxxxxxxx"))
    ≡ Short 0
unfolding digits
rest_of_128_bytes = refl

rest_of_129_bytes : verdict (bytes
    (codes "xxxxxxxxxxxxxxxxxxxxxxxxxxxxxxxxxxxxxxxxxxxxxxxxxxxxxxxxxxxxxxxxxxxxxxxxxxxxxxxxxxxxxxxxxxxxxxxxxxxxxxxxxxxxxxxxxxxxxxxxxxxxxxxxx"))
    ≡ Wrong 1 Header
unfolding digits
rest_of_129_bytes = refl

release_after_a_take_of_its_tick : verdict
    (bytes (codes "dover 2 2 1/job 0 0 1 1 1/run 0 0/job 1 0 3 3 6/take 0 0 1/job 2 0 2 7 4/")) ≡ Wrong 6
    (Step (Abandon 0 0))
unfolding digits
release_after_a_take_of_its_tick = refl

ties_of_version_two : value_and_bound
    (verdict (bytes (codes "dover 2 1 1/job 0 0 3 3 3/run 0 0/job 1 0 4 10 4/job 2 0 5 10 5/complete 3 0/run 3 2/abandon 6 1/complete 8 2/end 8/"))) ≡
    8 ∷ 32 ∷ []
unfolding digits
ties_of_version_two = refl

tie_of_version_one_in_version_two : verdict
    (bytes (codes "dover 2 1 1/job 0 0 3 3 3/run 0 0/job 1 0 4 10 4/job 2 0 5 10 5/complete 3 0/run 3 1/")) ≡ Wrong 7
    (Step (Run 3 2))
unfolding digits
tie_of_version_one_in_version_two = refl

refused_lines : value_and_bound
    (verdict (bytes
    (codes "dover 2 2 1/job 0 0 1 5 1/run 0 0/job 1 0 1 5 2/refuse 0 0 1 5 3 ratio/refuse 0 3 9 5 9 job/complete 1 0/run 1 1/"
    ++ codes "complete 2 1/end 3/"))) ≡ 3 ∷ 17 ∷ []
unfolding digits
refused_lines = refl

refused_for_another_cause : verdict
    (bytes (codes
    "dover 2 2 1/job 0 0 1 5 1/run 0 0/job 1 0 1 5 2/refuse 0 0 1 5 3 total/refuse 0 3 9 5 9 job/complete 1 0/run 1 1/complete 2 1/end 3/")) ≡
    Wrong 5 (Step (Complete 1 0))
unfolding digits
refused_for_another_cause = refl

refused_at_another_tick : verdict
    (bytes (codes
    "dover 2 2 1/job 0 0 1 5 1/run 0 0/job 1 0 1 5 2/refuse 1 0 1 5 3 ratio/refuse 0 3 9 5 9 job/complete 1 0/run 1 1/complete 2 1/end 3/")) ≡
    Wrong 5 (Step (Complete 1 0))
unfolding digits
refused_at_another_tick = refl

-- the trace of another session
without_the_refused_line : value_and_bound
    (verdict (bytes (codes "dover 2 2 1/job 0 0 1 5 1/run 0 0/job 1 0 1 5 2/refuse 0 3 9 5 9 job/complete 1 0/run 1 1/complete 2 1/end 3/"))) ≡ 3
    ∷ 17 ∷ []
unfolding digits
without_the_refused_line = refl

refused_line_of_version_one : verdict (bytes (codes "dover 1 1 1/refuse 0 1 1 1 1 job/")) ≡ Wrong 2 (Step (End 0))
unfolding digits
refused_line_of_version_one = refl

refused_line_before_a_settled_step : verdict (bytes (codes "dover 2 1 1/job 0 0 2 2 2/refuse 0 1 1 1 1 job/")) ≡ Wrong 3
    (Step (Run 0 0))
unfolding digits
refused_line_before_a_settled_step = refl

-- more than one tick may fit a place
refused_line_of_a_later_tick : value_and_bound
    (verdict (bytes (codes "dover 2 1 1/job 0 0 2 2 2/run 0 0/refuse 1 1 1 1 1 job/complete 2 0/end 2/"))) ≡ 2 ∷ 8 ∷ []
unfolding digits
refused_line_of_a_later_tick = refl

refused_line_after_a_completion : value_and_bound
    (verdict (bytes (codes "dover 2 1 1/job 0 0 2 2 2/run 0 0/complete 2 0/refuse 2 2 5 6 5 job/end 2/"))) ≡ 2 ∷ 8 ∷ []
unfolding digits
refused_line_after_a_completion = refl

refused_line_before_a_completion_of_its_tick : verdict
    (bytes (codes "dover 2 1 1/job 0 0 2 2 2/run 0 0/refuse 2 2 5 6 5 job/")) ≡ Wrong 4
    (Step (Complete 2 0))
unfolding digits
refused_line_before_a_completion_of_its_tick = refl
