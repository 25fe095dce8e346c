use Rattle.trace_words.proofs.schedule.Talking.{few, steady}
use Rattle.trace_words.proofs.schedule.talker.DrawingTalker.laws.Goals as goal

pub returns-clause-steady : goal.returns-clause-steady
returns-clause-steady g c = λ a. steady a.form

pub returns-clause-few : goal.returns-clause-few
returns-clause-few g c = λ a t m x at goes. few t.reader x at.reads goes

pub returns-clause-spent : goal.returns-clause-spent
returns-clause-spent g c = λ a t m x rest at. at.0.counts

pub returns-clause-rested : goal.returns-clause-rested
returns-clause-rested g c = λ a t m x at. at.counts

pub returns-clause-behind : goal.returns-clause-behind
returns-clause-behind g c = λ a m x y costs. costs
