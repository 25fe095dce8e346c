use Rattle.demand_words.proofs.answering.put_told.Goals as goal

pub returns-in-Size-clause-text : goal.returns-in-Size-clause-text
returns-in-Size-clause-text g c = rw c.in-Size.is c.put_numbers-in-Size.ensures.text
