-- Numbers that make no job are refused as that.
use Rattle.dover_model.specs.Common.{JobFacts, job_of_numbers}
use Rattle.admission.proofs.Refusing.{bad_refused}
use Rattle.admission.proofs.admitting.Admission.check.Goals as goal

pub returns-in_default-clause-refusal : goal.returns-in_default-clause-refusal
returns-in_default-clause-refusal c jobs stands =
    let j : JobFacts = job_of_numbers c.args.release c.args.work c.args.deadline c.args.value in
    bad_refused c.args.self.now.rules jobs j (λ job due. absurd (cc (c.in_default.ensures.allowed.1 job)))
