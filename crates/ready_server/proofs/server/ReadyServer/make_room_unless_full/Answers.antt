use Rattle.std.proofs.Common.{sym, ap, subst, arith}
use Rattle.ready_jobs.specs.Course.{Course}
use Rattle.ready_jobs.specs.Spending.{HasPaidFreely}
use Rattle.ready_server.proofs.Stepping.{place_made, serves_roomy}
use Rattle.ready_server.proofs.server.ReadyServer.make_room_unless_full.Goals as goal

pub returns-clause-room : goal.returns-clause-room
returns-clause-room c = place_made c.args.self.now c.reserve.new.self c.max.result c.reserve.result
    c.reserve.ensures.same c.reserve.ensures.room (omega (arith, c.max.ensures))

pub returns-clause-serves : goal.returns-clause-serves
returns-clause-serves c J to events serves =
    serves_roomy c.args.self.now c.reserve.new.self c.reserve.ensures.same J to events serves

pub returns-clause-paid : goal.returns-clause-paid
returns-clause-paid c start now paid = record {
  paid = c.reserve.ensures.paid start now paid.paid;
  freely = λ less. subst (λ d. HasPaidFreely d start now) (sym c.reserve.ensures.same)
      (paid.freely (omega (arith, less, ap (λ (d : Course). d.clock) c.reserve.ensures.same)));
}
