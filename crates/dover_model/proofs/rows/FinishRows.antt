-- Worked rows: jobs that finish early.
use Rattle.std.proofs.Common.{◌≡◌, ℕ, List, [], ◌∷◌, refl, false}
use Rattle.dover_model.specs.Common.{JobFacts, Finish, Instance, finishing, Release, Run, Take, Complete, Abandon, End}
use Rattle.dover_model.specs.Common.{printed, ran, completed_value, worth, observed, is_within, finishes_up_to}
use Rattle.dover_model.proofs.rows.Written.{job, one}

-- a finish
abbrev finish : ℕ → ℕ → Finish
finish n had = record { number = n; had = had }

-- a job with slack, and one without that waits behind it
abbrev two_jobs : List JobFacts
two_jobs = job 0 4 4 4 ∷ job 1 3 5 3 ∷ []

-- the first finishes after two ticks, so that the second isn't given up
abbrev early : Instance
early = finishing (one 1 1 two_jobs) (finish 0 2 ∷ [])

-- without the finish the second is lost
late_one_is_lost : printed (one 1 1 two_jobs) ≡ Release 0 (job 0 4 4 4) ∷ Run 0 0 ∷ Release 1 (job 1 3 5 3)
    ∷ Abandon 2 1 ∷ Complete 4 0 ∷ End 4 ∷ []
late_one_is_lost = refl

-- with it both complete: the completion comes before the latest start of its tick
both_complete : printed early ≡ Release 0 (job 0 4 4 4) ∷ Run 0 0 ∷ Release 1 (job 1 3 5 3) ∷ Complete 2 0 ∷ Run 2 1
    ∷ Complete 5 1 ∷ End 7 ∷ []
both_complete = refl

-- the schedule is worth what is completed by the works as observed, and less by the declared ones
observed_is_served : worth (observed early) (ran early) ≡ 7
observed_is_served = refl

declared_is_not : worth early (ran early) ≡ 3
declared_is_not = refl

-- the finishes that the run comes to
met_by_one : finishes_up_to 1 early ≡ []
met_by_one = refl

met_by_two : finishes_up_to 2 early ≡ finish 0 2 ∷ []
met_by_two = refl

-- a finish after no tick, of no job, or past the work, comes to nothing
without_effect : printed (finishing (one 1 1 two_jobs) (finish 0 0 ∷ finish 2 1 ∷ finish 0 5 ∷ finish 1 1 ∷ []))
    ≡ printed (one 1 1 two_jobs)
without_effect = refl

-- a taker that finishes early
taker_finishes : printed (finishing (one 1 1 (job 0 3 9 3 ∷ job 0 9 9 9 ∷ [])) (finish 1 2 ∷ []))
    ≡ Release 0 (job 0 3 9 3)
    ∷ Run 0 0 ∷ Release 1 (job 0 9 9 9) ∷ Take 0 0 1 ∷ Complete 2 1 ∷ Run 2 0 ∷ Complete 5 0 ∷ End 12 ∷ []
taker_finishes = refl

-- as the run observed it, the first job asks for two ticks
early_as_observed : (observed early).jobs ≡ job 0 2 4 4 ∷ job 1 3 5 3 ∷ []
early_as_observed = refl

-- three jobs, of which two are given up at once; both are said to need one tick, which the run never comes to
abbrev given_up : Instance
given_up = finishing (one 1 1 (job 0 2 2 2 ∷ job 0 3 3 3 ∷ job 0 4 4 4 ∷ [])) (finish 1 1 ∷ finish 2 1 ∷ [])

-- a job that is given up isn't observed: it asks for all that it declares
given_up_as_observed : (observed given_up).jobs ≡ given_up.jobs
given_up_as_observed = refl

-- The bound doesn't hold against what all jobs need, also those that the run gives up: a schedule serves the three by
-- it, which are worth 9, where the run completes 2.
needs_exceed : worth (one 1 1 (job 0 2 2 2 ∷ job 0 1 3 3 ∷ job 0 1 4 4 ∷ [])) (0 ∷ 0 ∷ 1 ∷ 2 ∷ []) ≡ 9
needs_exceed = refl

two_complete : completed_value given_up ≡ 2
two_complete = refl

nine_is_beyond : is_within (one 1 1 []).rules.ratio 9 2 ≡ false
nine_is_beyond = refl
