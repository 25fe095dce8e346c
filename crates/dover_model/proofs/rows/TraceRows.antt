-- Traces of version One, by computation.
use Rattle.std.proofs.Common.{◌≡◌, ◌++◌, [], ◌∷◌, refl, codes}
use Rattle.std.specs.Fmt.{digits}
use Rattle.dover_model.specs.Trace.{trace}
use Rattle.dover_model.proofs.rows.Written.{job, one, bytes}

no_jobs : trace (one 1 1 []) ≡ bytes (codes "dover 1 1 1/end 0/")
unfolding digits
no_jobs = refl

one_job : trace (one 1 1 (job 0 2 2 2 ∷ [])) ≡ bytes (codes "dover 1 1 1/job 0 0 2 2 2/run 0 0/complete 2 0/end 2/")
unfolding digits
one_job = refl

preemption : trace (one 1 1 (job 0 4 10 4 ∷ job 1 2 5 2 ∷ [])) ≡ bytes
    (codes "dover 1 1 1/job 0 0 4 10 4/run 0 0/job 1 1 2 5 2/preempt 1 0 1/complete 3 1/run 3 0/complete 6 0/end 6/")
unfolding digits
preemption = refl

exactly_twice_is_not_heavy : trace (one 1 1 (job 0 10 10 10 ∷ job 0 20 20 20 ∷ [])) ≡ bytes
    (codes "dover 1 1 1/job 0 0 10 10 10/run 0 0/job 1 0 20 20 20/abandon 0 1/complete 10 0/end 10/")
unfolding digits
exactly_twice_is_not_heavy = refl

more_than_twice_is_heavy : trace (one 1 1 (job 0 10 10 10 ∷ job 0 21 21 21 ∷ [])) ≡ bytes
    (codes "dover 1 1 1/job 0 0 10 10 10/run 0 0/job 1 0 21 21 21/take 0 0 1/abandon 0 0/complete 21 1/end 21/")
unfolding digits
more_than_twice_is_heavy = refl

-- the held job counts in what a taker has to outweigh
take_over_a_held_job : trace (one 1 1 (job 0 3 30 3 ∷ job 0 2 4 2 ∷ job 0 12 12 12 ∷ [])) ≡ bytes
    (codes "dover 1 1 1/job 0 0 3 30 3/run 0 0/job 1 0 2 4 2/preempt 0 0 1/job 2 0 12 12 12/take 0 1 2/abandon 2 1/"
    ++ codes "complete 12 2/run 12 0/complete 15 0/end 15/")
unfolding digits
take_over_a_held_job = refl

no_take_over_a_held_job : trace (one 1 1 (job 0 3 30 3 ∷ job 0 2 4 2 ∷ job 0 10 10 10 ∷ [])) ≡ bytes
    (codes "dover 1 1 1/job 0 0 3 30 3/run 0 0/job 1 0 2 4 2/preempt 0 0 1/job 2 0 10 10 10/abandon 0 2/complete 2 1/run 2 0/complete 5 0/end 5/")
unfolding digits
no_take_over_a_held_job = refl

-- 14 squared is 196 and not above 200
a_root_that_is_not_whole : trace (one 2 1 (job 0 10 10 10 ∷ job 0 20 20 24 ∷ [])) ≡ bytes
    (codes "dover 1 2 1/job 0 0 10 10 10/run 0 0/job 1 0 20 20 24/abandon 0 1/complete 10 0/end 10/")
unfolding digits
a_root_that_is_not_whole = refl

equal_deadlines_do_not_preempt : trace (one 1 1 (job 0 3 10 3 ∷ job 1 1 10 1 ∷ [])) ≡ bytes
    (codes "dover 1 1 1/job 0 0 3 10 3/run 0 0/job 1 1 1 10 1/complete 3 0/run 3 1/complete 4 1/end 4/")
unfolding digits
equal_deadlines_do_not_preempt = refl

no_room_for_a_waiting_job : trace (one 1 1 (job 0 10 14 10 ∷ job 1 2 5 2 ∷ job 1 3 8 3 ∷ [])) ≡ bytes
    (codes "dover 1 1 1/job 0 0 10 14 10/run 0 0/job 1 1 2 5 2/preempt 1 0 1/job 2 1 3 8 3/complete 3 1/run 3 0/abandon 5 2/complete 12 0/end 12/")
unfolding digits
no_room_for_a_waiting_job = refl

room_for_a_waiting_job : trace (one 1 1 (job 0 10 14 10 ∷ job 1 2 5 2 ∷ job 1 2 8 2 ∷ [])) ≡ bytes
    (codes "dover 1 1 1/job 0 0 10 14 10/run 0 0/job 1 1 2 5 2/preempt 1 0 1/job 2 1 2 8 2/complete 3 1/run 3 2/complete 5 2/"
    ++ codes "run 5 0/complete 14 0/end 14/")
unfolding digits
room_for_a_waiting_job = refl

completion_before_release : trace (one 1 1 (job 0 2 2 2 ∷ job 2 1 3 1 ∷ [])) ≡ bytes
    (codes "dover 1 1 1/job 0 0 2 2 2/run 0 0/complete 2 0/job 1 2 1 3 1/run 2 1/complete 3 1/end 3/")
unfolding digits
completion_before_release = refl

dispatch_then_preemption : trace (one 1 1 (job 0 5 9 5 ∷ job 0 4 10 4 ∷ job 6 1 7 1 ∷ [])) ≡ bytes
    (codes "dover 1 1 1/job 0 0 5 9 5/run 0 0/job 1 0 4 10 4/complete 5 0/run 5 1/job 2 6 1 7 1/preempt 6 1 2/complete 7 2/"
    ++ codes "run 7 1/complete 10 1/end 10/")
unfolding digits
dispatch_then_preemption = refl

release_before_latest_starts : trace (one 1 1 (job 0 9 9 9 ∷ job 0 3 6 3 ∷ job 3 30 33 30 ∷ [])) ≡ bytes
    (codes "dover 1 1 1/job 0 0 9 9 9/run 0 0/job 1 0 3 6 3/job 2 3 30 33 30/abandon 3 1/take 3 0 2/abandon 3 0/complete 33 2/end 30/")
unfolding digits
release_before_latest_starts = refl
