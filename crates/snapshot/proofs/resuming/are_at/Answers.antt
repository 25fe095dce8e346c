use Rattle.std.proofs.Common.{refl, arith, map}
use Rattle.std.proofs.lemmas.List.{length-map}
use Rattle.ready_server.specs.Roster.{job_at}
use Rattle.snapshot.proofs.Comparing.{all_at}
use Rattle.snapshot.proofs.resuming.are_at.Goals as goal

pub returns : goal.returns
returns c =
    let f = job_at c.args.roster.now.roll c.args.mark in
    let jobs = c.args.roster.now.roll.jobs in
    let long = length-map jobs f in (
      λ e. all_at (map f jobs) c.args.stances.now (omega (arith, c.requires, long)) c.loop-number.number
          (omega (arith, c.loop-number-test.false, c.loop-number.auto.number-end, c.requires, long))
          c.loop-number.invariant,
      λ all. refl,
    )
