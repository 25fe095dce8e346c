use Rattle.std.proofs.Common.{subst, arith}
use Rattle.dover_model.specs.Feed.{account_of_lines}
use Rattle.lane_server.specs.Lane.{Owes}
use Rattle.lane_server.proofs.Feeding.{owes_jobs, owes_nothing}
use Rattle.lane_server.proofs.lane.Lane.most_jobs.Goals as goal

pub returns-in-Some-clause-many : goal.returns-in-Some-clause-many
returns-in-Some-clause-many c = λ ls rest it. omega (
  arith,
  c.jobs.ensures,
  (owes_jobs c.args.self.now.work c.in-Some.server (account_of_lines ls) rest
      (subst (λ o. Owes c.args.self.now.work o (account_of_lines ls) rest) c.in-Some.is it.owes)).few,
)

pub returns-in-Some-clause-declared : goal.returns-in-Some-clause-declared
returns-in-Some-clause-declared c = λ ls rest it some.
    (owes_jobs c.args.self.now.work c.in-Some.server (account_of_lines ls) rest
    (subst (λ o. Owes c.args.self.now.work o (account_of_lines ls) rest) c.in-Some.is it.owes)).declared

pub returns-in-None-clause-many : goal.returns-in-None-clause-many
returns-in-None-clause-many c = λ ls rest it. omega (
  arith,
  owes_nothing c.args.self.now.work (account_of_lines ls) rest
      (subst (λ o. Owes c.args.self.now.work o (account_of_lines ls) rest) c.in-None.is it.owes),
)
