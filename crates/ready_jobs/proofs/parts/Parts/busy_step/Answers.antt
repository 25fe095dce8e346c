use Rattle.std.proofs.Common.{◌≡◌, None, rules, find}
use Rattle.dover_model.specs.State.{is_coming}
use Rattle.ready_jobs.specs.Parts.{state_of}
use Rattle.ready_jobs.proofs.Seeing.{seen_coming}
use Rattle.ready_jobs.proofs.parts.Parts.busy_step.Goals as goal

pub returns-in-Some-first_late-clause-is : goal.returns-in-Some-first_late-clause-is
returns-in-Some-first_late-clause-is c =
    let p = c.args.self.now in
    let arrives : find is_coming (state_of p).tasks ≡ None = seen_coming p c.laws.ensures.roles in
    search rules

pub returns-in-None-clause-is : goal.returns-in-None-clause-is
returns-in-None-clause-is c =
    let p = c.args.self.now in
    let arrives : find is_coming (state_of p).tasks ≡ None = seen_coming p c.laws.ensures.roles in
    search rules
