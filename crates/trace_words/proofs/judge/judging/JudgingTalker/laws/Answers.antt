use Rattle.trace_words.proofs.judge.Talking.{steady, few, spent, spent_behind}
use Rattle.trace_words.proofs.judge.judging.JudgingTalker.laws.Goals as goal

pub returns-clause-steady : goal.returns-clause-steady
returns-clause-steady g c = λ call. steady (g.T.Teller.says call.teller) g.T.Teller.lacks
    (c.laws.ensures.stays call.teller) c.laws.ensures.lacking

pub returns-clause-few : goal.returns-clause-few
returns-clause-few g c = λ call t m x at goes. few _ call _ _ m x at goes

pub returns-clause-spent : goal.returns-clause-spent
returns-clause-spent g c = λ call t m x rest at. spent _ call _ _ m x at.0

pub returns-clause-rested : goal.returns-clause-rested
returns-clause-rested g c = λ call t m x at. spent _ call _ _ m x at

pub returns-clause-behind : goal.returns-clause-behind
returns-clause-behind g c = λ call. spent_behind call.start
