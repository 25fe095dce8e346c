use Rattle.std.proofs.Common.{subst, arith}
use Rattle.ratio_word.specs.Account.{account_of_lines}
use Rattle.ratio_word.specs.Keeping.{StandsAt}
use Rattle.ratio_word.proofs.Ended.{ended_kept, faulty, none_ended, short}
use Rattle.ratio_word.proofs.Taking.{room}
use Rattle.ratio_word.proofs.reading.close.Goals as goal

pub overflow_add-result : goal.overflow_add-result
overflow_add-result c = omega (
  arith,
  room c.args.intake.now c.requires.0
      (subst (λ p. StandsAt p c.args.intake.now (account_of_lines c.requires.0)) c.in-Open.is c.requires.1),
)

pub returns-in-Open-clause-fault : goal.returns-in-Open-clause-fault
returns-in-Open-clause-fault c = λ ls it. short c.args.intake.now (account_of_lines ls)
    (subst (λ p. StandsAt p c.args.intake.now (account_of_lines ls)) c.in-Open.is it)

pub returns-in-Refused-clause-fault : goal.returns-in-Refused-clause-fault
returns-in-Refused-clause-fault c = λ ls it. faulty c.args.intake.now (account_of_lines ls) _
    (subst (λ p. StandsAt p c.args.intake.now (account_of_lines ls)) c.in-Refused.is it)

pub returns-in-Some-clause-ended : goal.returns-in-Some-clause-ended
returns-in-Some-clause-ended c = λ ls it. ended_kept c.args.intake.now (account_of_lines ls)
    (subst (λ p. StandsAt p c.args.intake.now (account_of_lines ls)) c.in-Ended.is it) _ c.in-Some.is

pub unreachable-requires : goal.unreachable-requires
unreachable-requires c = none_ended c.args.intake.now (account_of_lines c.requires.0)
    (subst (λ p. StandsAt p c.args.intake.now (account_of_lines c.requires.0)) c.in-Ended.is c.requires.1) c.in-None.is
