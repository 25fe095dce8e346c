use Rattle.std.proofs.Common.{refl, subst}
use Rattle.lane_server.specs.Spending.{HasPaid}
use Rattle.lane_server.proofs.Taking.{arrive_adds}
use Rattle.lane_server.proofs.lane.Lane.arrive.Goals as goal

pub returns-clause-adds : goal.returns-clause-adds
returns-clause-adds c = λ n a b at it. arrive_adds c.args.self.now n c.args.job c.in-Some.server
    c.make_room_unless_full.new.self c.release-self.result a b at it c.in-Some.is c.make_room_unless_full.ensures.serves
    c.in_ok-make_room_unless_full.ensures.room
    c.release-self.ensures.is

pub returns-clause-paid : goal.returns-clause-paid
returns-clause-paid c = λ start now paid. c.make_room_unless_full.ensures.paid start now
    (subst (λ o. HasPaid o start now) c.in-Some.is paid)

pub returns-clause-intake : goal.returns-clause-intake
returns-clause-intake c = refl
