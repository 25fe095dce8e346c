use Rattle.std.proofs.Common.{refl, sym, subst}
use Rattle.lane_server.specs.Lane.{Adds}
use Rattle.lane_server.specs.Spending.{HasPaid}
use Rattle.lane_server.specs.declared.lane.Work.TheVariants.{Give}
use Rattle.event_feed.specs.declared.due_line.DueLine.TheVariants.{Header}
use Rattle.lane_server.proofs.Taking.{declare_adds}
use Rattle.lane_server.proofs.Paying.{none_paid}
use Rattle.lane_server.proofs.lane.Lane.declare.Goals as goal

pub returns-clause-adds : goal.returns-clause-adds
returns-clause-adds c = λ a b at it.
    subst (λ o. Adds (record c.args.self.now { server = o; work = Give (Header c.args.version c.args.k) }) a b)
    (sym c.replace.ensures.after)
    (declare_adds c.args.self.now c.args.k c.args.version c.in_ok-server.server a b at it c.in_ok-server.ensures.serves)

pub returns-clause-paid : goal.returns-clause-paid
returns-clause-paid c = λ a b start now at it paid. subst (λ o. HasPaid o start now) (sym c.replace.ensures.after)
    (c.in_ok-server.ensures.paid start now (none_paid a c.args.self.now.server at.fits it.first start now paid))

pub returns-clause-intake : goal.returns-clause-intake
returns-clause-intake c = refl

pub returns-clause-work : goal.returns-clause-work
returns-clause-work c = refl
