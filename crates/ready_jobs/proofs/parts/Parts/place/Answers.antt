use Rattle.std.proofs.Common.{refl, sym, ap, ◌∙◌}
use Rattle.waiting_pool.specs.Pools.{orders_of}
use Rattle.ready_jobs.specs.Deeds.{step_at}
use Rattle.ready_jobs.specs.Parts.{Parted}
use Rattle.ready_jobs.proofs.Costing.{no_cost}
use Rattle.ready_jobs.proofs.Silences.{Stayed, known_sound, waits_settles, waits_count, waits_cost, from_none}
use Rattle.ready_jobs.proofs.Silences.{fresh_prints}
use Rattle.ready_jobs.proofs.parts.Parts.place.Goals as goal

pub open_step-action-requires : goal.open_step-action-requires
open_step-action-requires g c = known_sound _ c.args.self.now c.laws.ensures.roles c.requires

pub returns-in-Wait-clause-settles : goal.returns-in-Wait-clause-settles
returns-in-Wait-clause-settles g c mark =
    let stays : Stayed c.args.self.now c.stay.new.self =
    (c.in-Some.f, sym c.fresh.ensures.is ∙ c.in-Some.is, c.stay.ensures.waits) in
    waits_settles c.args.k.now mark c.args.self.now c.stay.new.self c.in-Wait.number c.laws.ensures.roles
    (sym c.open_step-action.ensures.is ∙ ap (step_at c.args.self.now.clock) c.in-Wait.is) stays
    c.stay.ensures.kept

pub returns-in-Wait-clause-fewer : goal.returns-in-Wait-clause-fewer
returns-in-Wait-clause-fewer g c =
    let stays : Stayed c.args.self.now c.stay.new.self =
    (c.in-Some.f, sym c.fresh.ensures.is ∙ c.in-Some.is, c.stay.ensures.waits) in
    waits_count c.args.self.now c.stay.new.self stays c.stay.ensures.kept

pub returns-in-Wait-clause-count : goal.returns-in-Wait-clause-count
returns-in-Wait-clause-count g c d large =
    let stays : Stayed c.args.self.now c.stay.new.self =
    (c.in-Some.f, sym c.fresh.ensures.is ∙ c.in-Some.is, c.stay.ensures.waits) in
    waits_cost c.args.self.now c.stay.new.self c.stay.new.self (orders_of c.args.self.now.version) d
    c.args.comparisons.now c.stay.new.comparisons
    stays refl (c.stay.ensures.count d large)

pub returns-in_default-action : goal.returns-in_default-action
returns-in_default-action g c =
    let p = c.args.self.now in
    record {
      settles = λ mark. from_none c.args.k.now mark p;
      some = c.open_step-action.ensures.is;
      finds = c.open_step-action.ensures.finds;
      prints = fresh_prints c.args.k.now p c.laws.ensures.roles c.in-Some.f (sym c.fresh.ensures.is ∙ c.in-Some.is)
          c.open_step-action.result c.open_step-action.ensures.is c.in_default-action.not-Wait;
      none = tt;
      kept = refl;
      fewer = refl;
      count = λ d large. no_cost _ _;
    }

pub returns-in_default-clause-settles : goal.returns-in_default-clause-settles
returns-in_default-clause-settles g c mark = from_none c.args.k.now mark c.args.self.now

pub returns-in_default-clause-count : goal.returns-in_default-clause-count
returns-in_default-clause-count g c d large = no_cost _ _

pub returns-in_default-clause-none : goal.returns-in_default-clause-none
returns-in_default-clause-none g c = sym c.fresh.ensures.is ∙ c.in_default.is

pub returns-in-Wait-clause-none : goal.returns-in-Wait-clause-none
returns-in-Wait-clause-none g c = ap (λ (q : Parted). q.fresh) c.stay.ensures.kept
