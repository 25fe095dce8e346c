-- The same jobs in both versions, by computation: version Two breaks ties by value.
use Rattle.std.proofs.Common.{◌≡◌, [], ◌∷◌, refl, codes}
use Rattle.std.specs.Fmt.{digits}
use Rattle.dover_model.specs.Trace.{trace}
use Rattle.dover_model.proofs.rows.Written.{job, one, two, bytes}

by_deadline_two : trace (two 1 1 (job 0 3 3 3 ∷ job 0 4 10 4 ∷ job 0 5 10 5 ∷ [])) ≡ bytes
    (codes "dover 2 1 1/job 0 0 3 3 3/run 0 0/job 1 0 4 10 4/job 2 0 5 10 5/complete 3 0/run 3 2/abandon 6 1/complete 8 2/end 8/")
unfolding digits
by_deadline_two = refl

by_deadline_one : trace (one 1 1 (job 0 3 3 3 ∷ job 0 4 10 4 ∷ job 0 5 10 5 ∷ [])) ≡ bytes
    (codes "dover 1 1 1/job 0 0 3 3 3/run 0 0/job 1 0 4 10 4/job 2 0 5 10 5/complete 3 0/run 3 1/abandon 5 2/complete 7 1/end 7/")
unfolding digits
by_deadline_one = refl

by_latest_start_two : trace (two 1 1 (job 0 10 10 10 ∷ job 0 20 20 20 ∷ job 0 21 21 21 ∷ [])) ≡ bytes
    (codes "dover 2 1 1/job 0 0 10 10 10/run 0 0/job 1 0 20 20 20/job 2 0 21 21 21/take 0 0 2/abandon 0 1/abandon 0 0/complete 21 2/end 21/")
unfolding digits
by_latest_start_two = refl

by_latest_start_one : trace (one 1 1 (job 0 10 10 10 ∷ job 0 20 20 20 ∷ job 0 21 21 21 ∷ [])) ≡ bytes
    (codes "dover 1 1 1/job 0 0 10 10 10/run 0 0/job 1 0 20 20 20/job 2 0 21 21 21/abandon 0 1/take 0 0 2/abandon 0 0/complete 21 2/end 21/")
unfolding digits
by_latest_start_one = refl
