-- Reports and intervals, by computation.
use Rattle.std.proofs.Common.{◌≡◌, ◌++◌, [], ◌∷◌, true, false, refl, codes}
use Rattle.std.specs.Fmt.{digits}
use Rattle.dover_model.specs.Common.{fraction, Instance, ran, completed_value, worth, generated_jobs, intervals, report}
use Rattle.dover_model.specs.Common.{table, summary}
use Rattle.dover_model.proofs.rows.Written.{job, one, bytes}

-- a take over a running and a held job
abbrev take_over : Instance
take_over = one 1 1 (job 0 3 30 3 ∷ job 0 2 4 2 ∷ job 0 12 12 12 ∷ [])

take_report : report take_over ≡ bytes
    (codes "ratio 1 1/jobs 3/completed 2 15/abandoned 1 2/taken 1/changes 4 1 1/bound 60/interval 1 0 12 0 12 5 2/"
    ++ codes "interval 2 12 15 3 0 0 0/")
unfolding digits
take_report = refl

take_table : table take_over ≡ bytes
    (codes "job,release,work,deadline,value,fate,tick,start,runs/0,0,3,30,3,complete,15,0,2/1,0,2,4,2,abandon,2,0,1/"
    ++ codes "2,0,12,12,12,complete,12,0,1/")
unfolding digits
take_table = refl

-- its intervals, with what is lost in them
take_intervals : intervals take_over ≡
    record { from = 0; until = 12; regular = 0; taken = 12; displaced = 5; abandoned = 2; lost = 2 ∷ []; took = true }
    ∷ record { from = 12; until = 15; regular = 3; taken = 0; displaced = 0; abandoned = 0; lost = []; took = false }
    ∷ []
take_intervals = refl

-- a take in each of two intervals
two_takes : intervals (one 1 1 (job 0 3 12 3 ∷ job 0 1 1 1 ∷ job 0 1 10 1 ∷ job 0 9 9 9 ∷ [])) ≡
    record { from = 0; until = 9; regular = 0; taken = 9; displaced = 4; abandoned = 1; lost = 1 ∷ []; took = true }
    ∷ record { from = 9; until = 12; regular = 0; taken = 3; displaced = 1; abandoned = 1; lost = 1 ∷ []; took = true }
    ∷ []
two_takes = refl

-- the run as a schedule is worth what it says
take_schedule : worth take_over (ran take_over) ≡ completed_value take_over
take_schedule = refl

no_jobs : summary (one 1 1 []) ≡ bytes (codes "jobs 0/completed 0 0/abandoned 0 0/taken 0/bound 0/")
unfolding digits
no_jobs = refl

two_generated_jobs : summary (one 1 1 (generated_jobs 1 2 (fraction 1 1))) ≡ bytes
    (codes "jobs 2/completed 1 19/abandoned 1 8/taken 0/bound 76/")
unfolding digits
two_generated_jobs = refl
