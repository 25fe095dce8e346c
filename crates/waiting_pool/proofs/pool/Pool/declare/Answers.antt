use Rattle.std.proofs.Common.{ap, ◌∙◌, true}
use Rattle.dover_model.specs.Common.{by_density}
use Rattle.waiting_pool.specs.Pools.{Pooled, item_by_deadline, item_by_latest}
use Rattle.waiting_pool.proofs.Pooling.{items_none}
use Rattle.waiting_pool.proofs.pool.Pool.declare.Goals as goal

pub invariant_of-self : goal.invariant_of-self
invariant_of-self c =
    let inside = c.self.inside in
    let kept = c.self.invariant.0 in
    let none = ap (λ (q : Pooled). q.tasks) c.self.view_is ∙ c.requires.none in
    let by = ap (λ (q : Pooled). by_density q.version true) c.self.view_is ∙ c.requires.dense in
    let fits = c.self.invariant.1 in (
      record {
        due = (
          kept.due.0,
          kept.due.1
              ∙ items_none (item_by_deadline inside.version)
              (item_by_deadline c.args.version) kept.due.0 0 inside.slots.items none,
        );
        latest = (
          kept.latest.0,
          kept.latest.1
              ∙ items_none (item_by_latest inside.version)
              (item_by_latest c.args.version) kept.latest.0 0 inside.slots.items none,
        );
        dense = λ _. kept.dense by;
        free = kept.free;
        count = kept.count;
        few = kept.few;
      },
      record {
        opened = fits.opened;
        most = fits.most;
        slots_fit = fits.slots_fit;
        free_fit = fits.free_fit;
        due_fit = fits.due_fit;
        latest_fit = fits.latest_fit;
        dense_fit = λ _. fits.dense_fit by;
      },
    )
