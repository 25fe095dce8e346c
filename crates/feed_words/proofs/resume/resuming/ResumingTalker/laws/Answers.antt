use Rattle.feed_words.proofs.resume.Talking.{resume_steady, frugal_more}
use Rattle.feed_words.proofs.resume.Laws.{few, few_parts, spent, rested}
use Rattle.feed_words.proofs.resume.resuming.ResumingTalker.laws.Goals as goal

pub returns-clause-steady : goal.returns-clause-steady
returns-clause-steady g c = resume_steady

pub returns-clause-few : goal.returns-clause-few
returns-clause-few g c = λ a t m x at goes. few a m x t.stage at.1 goes

pub returns-clause-parts : goal.returns-clause-parts
returns-clause-parts g c = λ a t m x rest at. few_parts a m x rest t.stage at.1

pub returns-clause-spent : goal.returns-clause-spent
returns-clause-spent g c = λ a t m x rest at.
    spent a m x rest t.stage (λ s call H parts. c.laws.ensures.spent call s m H parts) at.1

pub returns-clause-rested : goal.returns-clause-rested
returns-clause-rested g c = λ a t m x at. rested a m x t.stage (λ s call H. c.laws.ensures.rested call s m H) at.1

pub returns-clause-behind : goal.returns-clause-behind
returns-clause-behind g c = λ a m x y it. frugal_more a.start m x y it
