-- Valid jobs are valid with one that is admitted, whichever finish early.
use Rattle.std.proofs.Common.{◌≡◌, ◌≤◌, [], ◌∷◌, None}
use Rattle.std.specs.List.{AllByRecursion}
use Rattle.dover_model.specs.Common.{refusal_of, Instance, IsValid, declared_by, with_jobs, JobFacts}
use Rattle.dover_model.proofs.valid.Admitting.{admits}
use Rattle.dover_model.proofs.sessions.Growing.{instance_with}
use Rattle.dover_model.proofs.finishes.Meeting.{finishing_valid}

pub admitted_valid : (J : Instance) (j : JobFacts) → IsValid J → AllByRecursion (λ i. i.release ≤ j.release) J.jobs
    → refusal_of (declared_by J.rules) J.jobs j ≡ None → IsValid (with_jobs J (j ∷ []))
admitted_valid J j valid known none =
    finishing_valid (with_jobs (instance_with (declared_by J.rules) J.jobs) (j ∷ [])) J.rules.finishes
    (admits (declared_by J.rules) J.jobs j (finishing_valid J [] valid) known none)
