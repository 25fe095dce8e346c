use Rattle.lane_server.proofs.Owing.{lane_empty, lane_given}
use Rattle.lane_server.proofs.lane.Lane.next_out.Goals as goal

pub run-requires-clause-work : goal.run-requires-clause-work
run-requires-clause-work g c = c.in-Run.is

pub run-requires-clause-stands : goal.run-requires-clause-stands
run-requires-clause-stands g c = c.requires

pub admit-requires-clause-work : goal.admit-requires-clause-work
admit-requires-clause-work g c = c.in-Admit.is

pub admit-requires-clause-stands : goal.admit-requires-clause-stands
admit-requires-clause-stands g c = c.requires

pub finish-requires-clause-work : goal.finish-requires-clause-work
finish-requires-clause-work g c = c.in-Finish.is

pub finish-requires-clause-stands : goal.finish-requires-clause-stands
finish-requires-clause-stands g c = c.requires

pub returns-in-Nothing-clause-gives : goal.returns-in-Nothing-clause-gives
returns-in-Nothing-clause-gives g c = λ ls rest it. lane_empty c.args.self.now ls rest it c.in-Nothing.is

pub returns-in-Nothing-clause-paid : goal.returns-in-Nothing-clause-paid
returns-in-Nothing-clause-paid g c = λ start paid. paid

pub returns-in-Give-clause-gives : goal.returns-in-Give-clause-gives
returns-in-Give-clause-gives g c = λ ls rest it. lane_given c.args.self.now _ ls rest it c.in-Give.is

pub returns-in-Give-clause-paid : goal.returns-in-Give-clause-paid
returns-in-Give-clause-paid g c = λ start paid. paid

pub returns-in-Run-clause-gives : goal.returns-in-Run-clause-gives
returns-in-Run-clause-gives g c = c.run.ensures.gives

pub returns-in-Run-clause-paid : goal.returns-in-Run-clause-paid
returns-in-Run-clause-paid g c = c.run.ensures.paid

pub returns-in-Admit-clause-gives : goal.returns-in-Admit-clause-gives
returns-in-Admit-clause-gives g c = c.admit.ensures.gives

pub returns-in-Admit-clause-paid : goal.returns-in-Admit-clause-paid
returns-in-Admit-clause-paid g c = c.admit.ensures.paid

pub returns-in-Finish-clause-gives : goal.returns-in-Finish-clause-gives
returns-in-Finish-clause-gives g c = c.finish.ensures.gives

pub returns-in-Finish-clause-paid : goal.returns-in-Finish-clause-paid
returns-in-Finish-clause-paid g c = c.finish.ensures.paid
