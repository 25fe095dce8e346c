use Rattle.std.proofs.Common.{◌++◌, ◌∷◌, []}
use Rattle.dover_model.specs.Common.{with_jobs, due_by}
use Rattle.dover_model.specs.declared.horizon.Horizon.TheVariants.{Mark}
use Rattle.ready_server.proofs.Showing.{room_before}
use Rattle.ready_server.proofs.running.serve_job.Goals as goal

pub show_to-requires : goal.show_to-requires
show_to-requires g c = rw c.release.ensures.is
    (c.requires.shown.0, c.requires.shown.1, c.requires.shown.2, c.requires.shown.3)

pub admit-requires-clause-valid : goal.admit-requires-clause-valid
admit-requires-clause-valid g c =
    let it = c.requires.shown in
    (it.0, ((rw c.release.ensures.is at c.show_to.ensures.shown) it.0 it.1 it.2 it.3).0, it.4)

pub see-requires : goal.see-requires
see-requires g c =
    let it = c.requires.shown in
    let to = Mark c.args.job.release in
    let shown = (rw c.release.ensures.is at c.show_to.ensures.shown) it.0 it.1 it.2 it.3 in (
      due_by it.0 to,
      shown.1,
      room_before c.laws.ensures.valid c.laws.ensures.begins c.admit.new.self (with_jobs it.0 (c.args.job ∷ [])) to
          (due_by it.0 to) c.admit.result (c.admit.ensures.serves it.0 shown.0 it.4),
    )

pub returns-clause-shown : goal.returns-clause-shown
returns-clause-shown g c J from it follows valid =
    let to = Mark c.args.job.release in
    let shown = (rw c.release.ensures.is at c.show_to.ensures.shown) J from it follows in
    record {
      events = due_by J to ++ c.admit.result ∷ [];
      served = c.admit.ensures.serves J shown.0 valid;
      shown = c.see.ensures (due_by J to) shown.1;
    }

pub returns-clause-paid : goal.returns-clause-paid
returns-clause-paid g c = λ start paid. c.admit.ensures.paid start c.show_to.new.comparisons
    (c.show_to.ensures.paid start paid)
