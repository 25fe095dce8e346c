use Rattle.std.proofs.Common.{◌++◌, []}
use Rattle.dover_model.specs.Lines.{lines_of}
use Rattle.feed_words.specs.declared.serve.at_end.AtEnd.TheVariants.{Refuse}
use Rattle.feed_words.proofs.serve.Talking.{steady, few, few_parts, costs_more}
use Rattle.feed_words.proofs.serve.serving.ServingTalker.laws.Goals as goal

pub returns-clause-steady : goal.returns-clause-steady
returns-clause-steady g c = λ a. steady a Refuse

pub returns-clause-few : goal.returns-clause-few
returns-clause-few g c = λ a t m x at goes. few a x goes

pub returns-clause-parts : goal.returns-clause-parts
returns-clause-parts g c = λ a t m x rest at. few_parts a t.feed m x rest at

pub returns-clause-spent : goal.returns-clause-spent
returns-clause-spent g c = λ a t m x rest at.
    c.laws.ensures.few t.feed.lane (lines_of (a.feed ++ x)) at.left a.start m at.stands.lane at.paid

pub returns-clause-rested : goal.returns-clause-rested
returns-clause-rested g c = λ a t m x at.
    c.laws.ensures.few t.feed.lane (lines_of (a.feed ++ x)) [] a.start m at.rests.lane.stands at.paid

pub returns-clause-behind : goal.returns-clause-behind
returns-clause-behind g c = λ a m x y it. costs_more a m x y it
