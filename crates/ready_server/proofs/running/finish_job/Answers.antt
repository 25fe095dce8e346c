use Rattle.std.proofs.Common.{◌++◌, ◌∷◌, [], sym, subst}
use Rattle.dover_model.specs.Common.{with_finishes, settled}
use Rattle.dover_model.specs.declared.horizon.Horizon.TheVariants.{Mark}
use Rattle.ready_server.specs.Running.{HasShown, with_finish}
use Rattle.ready_server.proofs.Showing.{room_before}
use Rattle.ready_server.proofs.running.finish_job.Goals as goal

pub finish-requires : goal.finish-requires
finish-requires g c =
    let it = c.requires in record { rests = (it.0, (c.show_to.ensures.shown it.0 it.1 it.2 it.3).0) }

pub see-requires : goal.see-requires
see-requires g c =
    let it = c.requires in
    let shown = c.show_to.ensures.shown it.0 it.1 it.2 it.3 in
    let finish = c.in-Some.ensures.finishes it.0 shown.0 in (
      settled it.0 c.args.at,
      shown.1,
      room_before c.laws.ensures.valid c.laws.ensures.begins c.finish.new.self
          (with_finishes it.0 (finish.0.finish ∷ [])) (Mark c.args.at)
          (settled it.0 c.args.at) c.in-Some.event finish.3,
    )

pub returns-in-Some-clause-shown : goal.returns-in-Some-clause-shown
returns-in-Some-clause-shown g c = λ J from it follows.
    let shown = c.show_to.ensures.shown J from it follows in
    let finish = c.in-Some.ensures.finishes J shown.0 in
    subst (λ o. HasShown g.W.Watcher.seen c.finish.new.self c.see.new.self (with_finish J o) (Mark c.args.at))
    (sym finish.1) (record {
      events = settled J c.args.at ++ c.in-Some.event ∷ [];
      served = finish.3;
      shown = c.see.ensures (settled J c.args.at) shown.1;
    })

pub returns-in_default-clause-shown : goal.returns-in_default-clause-shown
returns-in_default-clause-shown g c = λ J from it follows.
    let shown = c.show_to.ensures.shown J from it follows in
    let none = c.in_default.ensures.finishes J shown.0 in
    subst (λ o. HasShown g.W.Watcher.seen c.finish.new.self c.show_to.new.watcher (with_finish J o) (Mark c.args.at))
    (sym none.0) (record {
      events = settled J c.args.at;
      served = rw none.1 (c.laws.ensures.rested c.show_to.new.server J (Mark c.args.at) shown.0);
      shown = shown.1;
    })

pub returns-in-Some-clause-paid : goal.returns-in-Some-clause-paid
returns-in-Some-clause-paid g c = λ start paid. c.in-Some.ensures.paid start c.show_to.new.comparisons
    (c.show_to.ensures.paid start paid)

pub returns-in_default-clause-paid : goal.returns-in_default-clause-paid
returns-in_default-clause-paid g c = λ start paid. c.in_default.ensures.paid start c.show_to.new.comparisons
    (c.show_to.ensures.paid start paid)
