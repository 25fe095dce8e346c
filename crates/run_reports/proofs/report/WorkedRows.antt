-- Reports on runs in which jobs finish early, by computation.
use Rattle.dover_model.specs.Common.{fraction, with_factor, Finish, Instance, JobFacts, report, table, summary}
use Rattle.std.proofs.Common.{◌≡◌, ℕ, List, [], ◌∷◌, ◌++◌, refl, codes}
use Rattle.std.specs.Fmt.{digits}
use Rattle.dover_model.specs.declared.events.Version.TheVariants.{Three}
use Rattle.dover_model.proofs.rows.Written.{job, bytes}

-- jobs of version Three under the ratio 1, with their early finishes
abbrev pub finishing : List Finish → List JobFacts → Instance
finishing finishes jobs = record {
  rules = record { ratio = fraction 1 1; version = Three; finishes = finishes };
  jobs = jobs;
}

-- the job of number n finishes once it has had so many ticks
abbrev pub finish : ℕ → ℕ → Finish
finish n had = record { number = n; had = had }

-- a job is held, its displacer finishes early, and so does it
abbrev pub held_and_early : Instance
held_and_early = finishing (finish 1 1 ∷ finish 0 3 ∷ []) (job 0 4 10 4 ∷ job 1 2 5 2 ∷ [])

-- the first job finishes early, and the last one is abandoned, which else completes
abbrev pub anomaly : Instance
anomaly = finishing (finish 0 1 ∷ []) (job 0 2 2 2 ∷ job 0 2 3 2 ∷ job 0 3 5 3 ∷ [])

-- a job that took the processor finishes early
abbrev pub took_and_early : Instance
took_and_early = finishing (finish 2 1 ∷ []) (job 0 3 30 3 ∷ job 0 2 4 2 ∷ job 0 12 12 12 ∷ [])

-- jobs of version Three under the ratio 1 and the factor 5/2, of which the last one is just not heavy
abbrev pub with_a_factor : Instance
with_a_factor = record {
  rules = record { ratio = with_factor (fraction 1 1) 5 2; version = Three; finishes = [] };
  jobs = job 0 2 2 2 ∷ job 0 5 5 5 ∷ [];
}

-- no job has work left
abbrev pub none_early : Instance
none_early = finishing [] (job 0 2 2 2 ∷ [])

held_report : report held_and_early ≡ bytes
    (codes "ratio 1 1/jobs 2/completed 2 6/abandoned 0 0/taken 0/changes 3 1 0/early 2 2/bound 24/"
    ++ codes "interval 1 0 4 6 0 0 0/")
unfolding digits
held_report = refl

held_table : table held_and_early ≡ bytes (codes "job,release,work,deadline,value,fate,tick,had,start,runs/"
    ++ codes "0,0,4,10,4,complete,4,3,0,2/1,1,2,5,2,complete,2,1,1,1/")
unfolding digits
held_table = refl

anomaly_report : report anomaly ≡ bytes (codes
    "ratio 1 1/jobs 3/completed 2 4/abandoned 1 3/taken 0/changes 2 0 0/early 1 1/bound 16/"
    ++ codes "interval 1 0 1 2 0 0 0/interval 2 1 3 2 0 0 3/")
unfolding digits
anomaly_report = refl

anomaly_table : table anomaly ≡ bytes (codes "job,release,work,deadline,value,fate,tick,had,start,runs/"
    ++ codes "0,0,2,2,2,complete,1,1,0,1/1,0,2,3,2,complete,3,2,1,1/2,0,3,5,3,abandon,2,0,,0/")
unfolding digits
anomaly_table = refl

took_report : report took_and_early ≡ bytes
    (codes "ratio 1 1/jobs 3/completed 3 17/abandoned 0 0/taken 1/changes 5 1 1/early 1 11/bound 68/"
    ++ codes "interval 1 0 1 0 12 5 0/interval 2 1 3 2 0 0 0/interval 3 3 6 3 0 0 0/")
unfolding digits
took_report = refl

took_table : table took_and_early ≡ bytes (codes "job,release,work,deadline,value,fate,tick,had,start,runs/"
    ++ codes "0,0,3,30,3,complete,6,3,0,2/1,0,2,4,2,complete,3,2,0,2/2,0,12,12,12,complete,1,1,0,1/")
unfolding digits
took_table = refl

-- in version Three the line stands there, and the column, though no job finishes early
none_report : report none_early ≡ bytes
    (codes "ratio 1 1/jobs 1/completed 1 2/abandoned 0 0/taken 0/changes 1 0 0/early 0 0/bound 8/"
    ++ codes "interval 1 0 2 2 0 0 0/")
unfolding digits
none_report = refl

none_table : table none_early ≡ bytes (codes "job,release,work,deadline,value,fate,tick,had,start,runs/"
    ++ codes "0,0,2,2,2,complete,2,2,0,1/")
unfolding digits
none_table = refl

-- the line of the ratio has the factor, and the bound is that by the factor
factor_report : report with_a_factor ≡ bytes (codes
    "ratio 1 1 5 2/jobs 2/completed 1 2/abandoned 1 5/taken 0/changes 1 0 0/early 0 0/bound 9/interval 1 0 2 2 0 0 5/")
unfolding digits
factor_report = refl

-- a summary alone has no such line
held_summary : summary held_and_early ≡ bytes (codes "jobs 2/completed 2 6/abandoned 0 0/taken 0/bound 24/")
unfolding digits
held_summary = refl
