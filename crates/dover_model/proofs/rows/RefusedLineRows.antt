-- Refused job lines of version Two, by computation.
use Rattle.std.proofs.Common.{◌≡◌, refl, codes}
use Rattle.std.specs.Fmt.{digits}
use Rattle.dover_model.specs.Due.{due, closed}
use Rattle.dover_model.proofs.rows.Written.{bytes}

ratio_and_window : closed (bytes (codes "k 2 1 2/job 0 1 5 1/job 0 1 5 2/job 0 1 5 3/job 3 9 5 9/end/")) ≡ bytes
    (codes "dover 2 2 1/job 0 0 1 5 1/run 0 0/job 1 0 1 5 2/refuse 0 0 1 5 3 ratio/refuse 0 3 9 5 9 job/complete 1 0/run 1 1/complete 2 1/end 3/")
unfolding digits
ratio_and_window = refl

after_a_completion_at_its_tick : closed (bytes (codes "k 1 1 2/job 0 2 2 2/tick 2/job 2 5 6 5/end/")) ≡ bytes
    (codes "dover 2 1 1/job 0 0 2 2 2/run 0 0/complete 2 0/refuse 2 2 5 6 5 job/end 2/")
unfolding digits
after_a_completion_at_its_tick = refl

order_ends_the_feed : closed (bytes (codes "k 1 1 2/tick 5/job 4 1 9 1/")) ≡ bytes
    (codes "dover 2 1 1/refused 3 order/")
unfolding digits
order_ends_the_feed = refl

-- a refused line does not move the mark, so a later job may be released before it
before_any_job : closed (bytes (codes "k 1 1 2/job 7 0 0 0/job 0 1 1 1/end/")) ≡ bytes
    (codes "dover 2 1 1/refuse 0 7 0 0 0 job/job 0 0 1 1 1/run 0 0/complete 1 0/end 1/")
unfolding digits
before_any_job = refl

before_a_latest_start_at_its_tick : closed (bytes (codes "k 1 1 2/job 0 10 10 10/job 0 20 20 20/job 0 1 0 1/end/"))
    ≡ bytes
    (codes "dover 2 1 1/job 0 0 10 10 10/run 0 0/job 1 0 20 20 20/refuse 0 0 1 0 1 job/abandon 0 1/complete 10 0/end 10/")
unfolding digits
before_a_latest_start_at_its_tick = refl

answered_at_once : due (bytes (codes "k 1 1 2/job 0 2 2 2/job 1 1 1 1/")) ≡ bytes
    (codes "dover 2 1 1/job 0 0 2 2 2/run 0 0/refuse 0 1 1 1 1 job/")
unfolding digits
answered_at_once = refl

line_ends_the_feed : closed (bytes (codes "k 1 1 2/job 0 2 2 2/job 1 1 1/")) ≡ bytes
    (codes "dover 2 1 1/job 0 0 2 2 2/run 0 0/refused 3 line/")
unfolding digits
line_ends_the_feed = refl

short_after_a_refused_line : closed (bytes (codes "k 1 1 2/job 1 1 1 1/")) ≡ bytes
    (codes "dover 2 1 1/refuse 0 1 1 1 1 job/refused 3 short/")
unfolding digits
short_after_a_refused_line = refl

refused_in_version_one : closed (bytes (codes "k 1 1/job 1 1 1 1/")) ≡ bytes (codes "dover 1 1 1/refused 2 job/")
unfolding digits
refused_in_version_one = refl
