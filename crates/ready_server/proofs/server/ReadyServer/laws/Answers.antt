use Rattle.ready_jobs.proofs.Spending.{paid_few}
use Rattle.ready_server.proofs.Stepping.{serves_begins, place_where_few}
use Rattle.ready_server.proofs.server.ReadyServer.laws.Goals as goal

pub returns-clause-begins : goal.returns-clause-begins
returns-clause-begins c = serves_begins

pub returns-clause-few : goal.returns-clause-few
returns-clause-few c s J to events start now serves paid =
    paid_few s.ready J serves.state serves.follows start now paid.paid

pub returns-clause-place : goal.returns-clause-place
returns-clause-place c = place_where_few
