use Rattle.ratio_word.specs.Account.{account_of_lines}
use Rattle.ratio_word.proofs.Ended.{answered, refused}
use Rattle.ratio_word.proofs.reading.TextLineReader.answer.Goals as goal

pub returns-in-Ok-clause-answers : goal.returns-in-Ok-clause-answers
returns-in-Ok-clause-answers g c = λ a ls it.
    let by = c.in-Ok.ensures.ended ls it.reads in
    answered (account_of_lines ls) _ _ _ _ c.in-Ok.declared by (c.answer.ensures.says _ _ by.1.2)

pub returns-in-Err-clause-answers : goal.returns-in-Err-clause-answers
returns-in-Err-clause-answers g c = λ a ls it.
    refused (account_of_lines ls) _ _ _ _ c.in-Err.fault (c.in-Err.ensures.fault ls it.reads)
    c.refuse.ensures.answers
