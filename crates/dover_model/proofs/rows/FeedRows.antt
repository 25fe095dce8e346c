-- What is due for a feed, and at the end of its input, by computation.
use Rattle.std.proofs.Common.{◌≡◌, [], refl, codes}
use Rattle.std.specs.Fmt.{digits}
use Rattle.dover_model.specs.Due.{due, closed}
use Rattle.dover_model.proofs.rows.Written.{bytes}

whole_feed : closed (bytes (codes "k 1 1/job 0 2 2 2/end/")) ≡ bytes
    (codes "dover 1 1 1/job 0 0 2 2 2/run 0 0/complete 2 0/end 2/")
unfolding digits
whole_feed = refl

completion_at_the_mark_is_settled : due (bytes (codes "k 1 1/job 0 2 2 2/tick 2/")) ≡ bytes
    (codes "dover 1 1 1/job 0 0 2 2 2/run 0 0/complete 2 0/")
unfolding digits
completion_at_the_mark_is_settled = refl

latest_start_at_the_mark_is_not_settled : due (bytes (codes "k 1 1/job 0 10 10 10/job 0 20 20 20/")) ≡ bytes
    (codes "dover 1 1 1/job 0 0 10 10 10/run 0 0/job 1 0 20 20 20/")
unfolding digits
latest_start_at_the_mark_is_not_settled = refl

latest_start_before_the_mark_is_settled : due (bytes (codes "k 1 1/job 0 10 10 10/job 0 20 20 20/tick 1/")) ≡ bytes
    (codes "dover 1 1 1/job 0 0 10 10 10/run 0 0/job 1 0 20 20 20/abandon 0 1/")
unfolding digits
latest_start_before_the_mark_is_settled = refl

bytes_without_a_line_feed_are_no_line : due (bytes (codes "k 1 1/job 0 2 2 2")) ≡ bytes (codes "dover 1 1 1/")
unfolding digits
bytes_without_a_line_feed_are_no_line = refl

breach_of_the_ratio : closed (bytes (codes "k 2 1/job 0 1 5 1/job 0 1 5 2/job 0 1 5 3/")) ≡ bytes
    (codes "dover 1 2 1/job 0 0 1 5 1/run 0 0/job 1 0 1 5 2/refused 4 ratio/")
unfolding digits
breach_of_the_ratio = refl

deadline_after_the_last_tick : closed (bytes (codes "k 1 1/job 0 1 1000000000001 1/")) ≡ bytes
    (codes "dover 1 1 1/refused 2 job/")
unfolding digits
deadline_after_the_last_tick = refl

release_after_the_last_tick : closed (bytes (codes "k 1 1/job 1000000000001 1 1000000000002 1/")) ≡ bytes
    (codes "dover 1 1 1/refused 2 job/")
unfolding digits
release_after_the_last_tick = refl

tick_after_the_last_tick : closed (bytes (codes "k 1 1/tick 1000000000001/")) ≡ bytes
    (codes "dover 1 1 1/refused 2 order/")
unfolding digits
tick_after_the_last_tick = refl

job_before_the_ratio : closed (bytes (codes "job 0 1 1 1/")) ≡ bytes (codes "refused 1 declared/")
unfolding digits
job_before_the_ratio = refl

tick_before_the_ratio : closed (bytes (codes "tick 5/")) ≡ bytes (codes "refused 1 declared/")
unfolding digits
tick_before_the_ratio = refl

no_form_before_the_ratio : closed (bytes (codes "junk/")) ≡ bytes (codes "refused 1 line/")
unfolding digits
no_form_before_the_ratio = refl

end_before_the_ratio : closed (bytes (codes "end/")) ≡ bytes (codes "refused 1 declared/")
unfolding digits
end_before_the_ratio = refl

ratio_below_one : closed (bytes (codes "k 1 2/")) ≡ bytes (codes "refused 1 declared/")
unfolding digits
ratio_below_one = refl

second_ratio : closed (bytes (codes "k 1 1/k 1 1/")) ≡ bytes (codes "dover 1 1 1/refused 2 declared/")
unfolding digits
second_ratio = refl

version_1 : closed (bytes (codes "k 1 1 1/")) ≡ bytes (codes "refused 1 declared/")
unfolding digits
version_1 = refl

version_5 : closed (bytes (codes "k 1 1 5/")) ≡ bytes (codes "refused 1 declared/")
unfolding digits
version_5 = refl

version_with_a_zero : closed (bytes (codes "k 1 1 02/")) ≡ bytes (codes "refused 1 line/")
unfolding digits
version_with_a_zero = refl

version_two : closed (bytes (codes "k 1 1 2/end/")) ≡ bytes (codes "dover 2 1 1/end 0/")
unfolding digits
version_two = refl

falling_tick : closed (bytes (codes "k 1 1/tick 5/tick 4/")) ≡ bytes (codes "dover 1 1 1/refused 3 order/")
unfolding digits
falling_tick = refl

-- the order is tested before the job
release_below_the_mark : closed (bytes (codes "k 1 1/tick 5/job 4 0 0 0/")) ≡ bytes
    (codes "dover 1 1 1/refused 3 order/")
unfolding digits
release_below_the_mark = refl

leading_zero : closed (bytes (codes "k 1 1/job 0 01 5 1/")) ≡ bytes (codes "dover 1 1 1/refused 2 line/")
unfolding digits
leading_zero = refl

nineteen_digits : closed (bytes (codes "k 1 1/tick 1000000000000000000/")) ≡ bytes (codes "dover 1 1 1/refused 2 line/")
unfolding digits
nineteen_digits = refl

two_spaces : closed (bytes (codes "k 1 1/tick  1/")) ≡ bytes (codes "dover 1 1 1/refused 2 line/")
unfolding digits
two_spaces = refl

space_at_the_end : closed (bytes (codes "k 1 1/end /")) ≡ bytes (codes "dover 1 1 1/refused 2 line/")
unfolding digits
space_at_the_end = refl

empty_line : closed (bytes (codes "k 1 1//")) ≡ bytes (codes "dover 1 1 1/refused 2 line/")
unfolding digits
empty_line = refl

empty_input : closed [] ≡ bytes (codes "refused 1 short/")
unfolding digits
empty_input = refl

no_end : closed (bytes (codes "k 1 1/job 0 2 2 2/")) ≡ bytes
    (codes "dover 1 1 1/job 0 0 2 2 2/run 0 0/refused 3 short/")
unfolding digits
no_end = refl

after_the_end : closed (bytes (codes "k 1 1/end/junk")) ≡ bytes (codes "dover 1 1 1/end 0/")
unfolding digits
after_the_end = refl

rest_of_128_bytes : closed (bytes
    (codes "xxxxxxxxxxxxxxxxxxxxxxxxxxxxxxxxxxxxxxxxxxxxxxxxxxxxxxxxxxxxxxxxxxxxxxxxxxxxxxxxxxxxxxxxxxxxxxxxxxxxxxxxxxxxxxxxxxxxxxxxxxxxxxxx"))
    ≡ bytes (codes "refused 1 short/")
unfolding digits
rest_of_128_bytes = refl

rest_of_129_bytes : closed (bytes
    (codes "xxxxxxxxxxxxxxxxxxxxxxxxxxxxxxxxxxxxxxxxxxxxxxxxxxxxxxxxxxxxxxxxxxxxxxxxxxxxxxxxxxxxxxxxxxxxxxxxxxxxxxxxxxxxxxxxxxxxxxxxxxxxxxxxx"))
    ≡ bytes (codes "refused 1 line/")
unfolding digits
rest_of_129_bytes = refl

line_of_129_bytes : closed (bytes
    (codes "xxxxxxxxxxxxxxxxxxxxxxxxxxxxxxxxxxxxxxxxxxxxxxxxxxxxxxxxxxxxxxxxxxxxxxxxxxxxxxxxxxxxxxxxxxxxxxxxxxxxxxxxxxxxxxxxxxxxxxxxxxxxxxxxx/"))
    ≡ bytes (codes "refused 1 line/")
unfolding digits
line_of_129_bytes = refl
