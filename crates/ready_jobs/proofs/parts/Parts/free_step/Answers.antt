use Rattle.std.proofs.Common.{◌≡◌, None, rules, find}
use Rattle.dover_model.specs.State.{is_coming}
use Rattle.ready_jobs.specs.Parts.{state_of}
use Rattle.ready_jobs.proofs.Seeing.{seen_coming}
use Rattle.ready_jobs.proofs.parts.Parts.free_step.Goals as goal

pub returns-clause-is : goal.returns-clause-is
returns-clause-is c =
    let p = c.args.self.now in
    let arrives : find is_coming (state_of p).tasks ≡ None = seen_coming p c.laws.ensures.roles in
    search rules
