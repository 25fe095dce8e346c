use Rattle.clairvoyant.proofs.best.optimum.best.Goals as goal

pub returns-in-Ok-clause-most : goal.returns-in-Ok-clause-most
returns-in-Ok-clause-most c = c.in-Ok.ensures.most

pub returns-in-Ok-clause-worth : goal.returns-in-Ok-clause-worth
returns-in-Ok-clause-worth c = c.in-Ok.ensures.worth
