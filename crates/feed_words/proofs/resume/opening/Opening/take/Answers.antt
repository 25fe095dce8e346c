use Rattle.feed_words.proofs.resume.opening.Opening.take.Goals as goal

pub returns-in-Ok-clause-takes : goal.returns-in-Ok-clause-takes
returns-in-Ok-clause-takes g c =
    λ x stands. (c.front-count.ensures.some, c.front-count.ensures.within, c.in-Ok.ensures.takes x stands)

pub returns-in-Err-clause-takes : goal.returns-in-Err-clause-takes
returns-in-Err-clause-takes g c =
    λ x stands. (c.front-count.result, c.front-count.ensures.within, c.in-Err.ensures.takes x stands)

pub returns-in-Ok-clause-jobs : goal.returns-in-Ok-clause-jobs
returns-in-Ok-clause-jobs g c =
    λ x stands. (c.front-count.result, c.front-count.ensures.within, c.in-Ok.ensures.jobs x stands)

pub returns-in-Err-clause-jobs : goal.returns-in-Err-clause-jobs
returns-in-Err-clause-jobs g c =
    λ x stands. (c.front-count.result, c.front-count.ensures.within, c.in-Err.ensures.jobs x stands)

pub returns-in-Ok-clause-count : goal.returns-in-Ok-clause-count
returns-in-Ok-clause-count g c = c.in-Ok.ensures.count

pub returns-in-Err-clause-count : goal.returns-in-Err-clause-count
returns-in-Err-clause-count g c = c.in-Err.ensures.count

pub open_front-requires-clause-stands : goal.open_front-requires-clause-stands
open_front-requires-clause-stands g c = c.requires.stands
