use Rattle.feed_words.specs.declared.serve.at_end.AtEnd.TheVariants.{Pause}
use Rattle.feed_words.proofs.serve.Talking.{steady}
use Rattle.feed_words.proofs.serve.pausing.PausingTalker.laws.Goals as goal

pub returns-clause-steady : goal.returns-clause-steady
returns-clause-steady g c = λ a. steady a Pause

pub returns-clause-few : goal.returns-clause-few
returns-clause-few g c = λ a t m x at goes. c.laws.ensures.few a t.serving m x at.ready goes

pub returns-clause-parts : goal.returns-clause-parts
returns-clause-parts g c = λ a t m x rest at. c.laws.ensures.parts a t.serving m x rest at.giving

pub returns-clause-spent : goal.returns-clause-spent
returns-clause-spent g c = λ a t m x rest at. c.laws.ensures.spent a t.serving m x rest at.giving

pub returns-clause-rested : goal.returns-clause-rested
returns-clause-rested g c = λ a t m x at. c.laws.ensures.rested a t.serving m x at.ready

pub returns-clause-behind : goal.returns-clause-behind
returns-clause-behind g c = c.laws.ensures.behind
