use Rattle.task_report.proofs.Reading.{few, spent}
use Rattle.task_report.proofs.Talking.{costs_behind, steady}
use Rattle.task_report.proofs.talker.ReportingTalker.laws.Goals as goal

pub returns-clause-steady : goal.returns-clause-steady
returns-clause-steady g c = λ call. steady call.form

pub returns-clause-few : goal.returns-clause-few
returns-clause-few g c = λ call t m x at goes. few call t.form t.reader t.judge m x at goes

pub returns-clause-spent : goal.returns-clause-spent
returns-clause-spent g c = λ call t m x rest at. spent call t.form t.reader t.judge m x at.0

pub returns-clause-rested : goal.returns-clause-rested
returns-clause-rested g c = λ call t m x at. spent call t.form t.reader t.judge m x at

pub returns-clause-behind : goal.returns-clause-behind
returns-clause-behind g c = λ call m x y costs. costs_behind call.start m x y costs
