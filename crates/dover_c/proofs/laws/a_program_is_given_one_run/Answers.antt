use Rattle.dover_c.proofs.Acts.{given_append}
use Rattle.dover_c.proofs.Programs.{numbers, settled_given, ended_given, begins_given, within_given, observed_given}
use Rattle.dover_c.proofs.Programs.{as_declared_given, honest_given, underload_given, unlost_given, done_given}
use Rattle.dover_c.proofs.Programs.{named_given}
use Rattle.dover_c.proofs.Programs.{within_anew, observed_anew, value_anew}
use Rattle.dover_c.proofs.laws.a_program_is_given_one_run.Goals as goal

pub returns-clause-numbers : goal.returns-clause-numbers
returns-clause-numbers c = numbers

pub returns-clause-settled : goal.returns-clause-settled
returns-clause-settled c = settled_given

pub returns-clause-ended : goal.returns-clause-ended
returns-clause-ended c = ended_given

pub returns-clause-online : goal.returns-clause-online
returns-clause-online c = given_append

pub returns-clause-begins : goal.returns-clause-begins
returns-clause-begins c = begins_given

pub returns-clause-within : goal.returns-clause-within
returns-clause-within c = λ version k capacity pasts acts t s program.
    within_given version k capacity pasts acts t program s

pub returns-clause-observed : goal.returns-clause-observed
returns-clause-observed c = λ version k capacity pasts acts t s program.
    observed_given version k capacity pasts acts t program s

pub returns-clause-as_declared : goal.returns-clause-as_declared
returns-clause-as_declared c = as_declared_given

pub returns-clause-done : goal.returns-clause-done
returns-clause-done c = done_given

pub returns-clause-successor : goal.returns-clause-successor
returns-clause-successor c = named_given

pub returns-clause-honest : goal.returns-clause-honest
returns-clause-honest c = honest_given

pub returns-clause-underload : goal.returns-clause-underload
returns-clause-underload c = underload_given

pub returns-clause-none_lost : goal.returns-clause-none_lost
returns-clause-none_lost c = unlost_given

pub returns-clause-within_anew : goal.returns-clause-within_anew
returns-clause-within_anew c = λ version k capacity pasts acts t s program.
    within_anew version k capacity pasts acts t program s

pub returns-clause-observed_anew : goal.returns-clause-observed_anew
returns-clause-observed_anew c = λ version k capacity pasts acts t s program.
    observed_anew version k capacity pasts acts t program s

pub returns-clause-value_anew : goal.returns-clause-value_anew
returns-clause-value_anew c = value_anew
