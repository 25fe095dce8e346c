use Rattle.std.proofs.Common.{◌+◌, ◌-◌, ◌∷◌, ◌∙◌, refl, ap, sym, subst, arith}
use Rattle.std.proofs.Common.{heap_items, IsPermutation}
use Rattle.std.proofs.lemmas.Result.{on_ok_weaker}
use Rattle.dover_model.specs.Common.{idle, JobFacts}
use Rattle.dover_model.proofs.valid.ValidParts.{order_parts}
use Rattle.clairvoyant.proofs.feasible.Running.{next_found}
use Rattle.policy_lab.specs.Ranks.{turn_by}
use Rattle.policy_lab.specs.Bench.{schedule_before, entry_with, kept_of}
use Rattle.policy_lab.specs.Stops.{stop_by}
use Rattle.policy_lab.proofs.Choosing.{next_ahead, next_bound, next_job}
use Rattle.policy_lab.proofs.OneRuns.{run_most, run_stops, run_done, run_back}
use Rattle.policy_lab.proofs.Runs.{schedule_length}
use Rattle.policy_lab.proofs.bench.Bench.run.Goals as goal

pub until-until-requires-clause-fits : goal.until-until-requires-clause-fits
until-until-requires-clause-fits g c = omega (
  arith,
  next_bound _ _ (g.met.P.Policy.law c.args.policy.now) c.args.jobs.now (order_parts c.requires.in_order)
      c.requires.each c.requires.count _ _ _ _ c.requires.next,
)

pub until-until-requires-clause-later : goal.until-until-requires-clause-later
until-until-requires-clause-later g c = λ j found. omega (
  arith,
  next_ahead _ _ (g.met.P.Policy.law c.args.policy.now) c.args.jobs.now (order_parts c.requires.in_order)
      c.requires.each c.requires.count _ _ _ _ _ _ _ c.requires.run j found,
)

pub complete-requires-clause-stops : goal.complete-requires-clause-stops
complete-requires-clause-stops g c =
    let most = run_stops _ _ (g.met.P.Policy.law c.args.policy.now) c.args.jobs.now (order_parts c.requires.in_order)
    c.requires.each c.requires.count _ _ _ _ _ _ _ _ c.requires.run c.requires.next c.until-until.ensures.later
    c.until-until.ensures.within c.until-until.ensures.none in
    omega (arith, most)

pub complete-requires-clause-completed : goal.complete-requires-clause-completed
complete-requires-clause-completed g c =
    let most = run_most _ _ (g.met.P.Policy.law c.args.policy.now) c.args.jobs.now (order_parts c.requires.in_order)
    c.requires.each c.requires.count _ _ _ _ _ _ _ _ c.requires.run c.requires.next c.until-until.ensures.later
    c.until-until.ensures.within c.until-until.ensures.none c.if-until-from.true in
    omega (arith, most.1)

pub complete-requires-clause-value : goal.complete-requires-clause-value
complete-requires-clause-value g c =
    let job = next_job _ _ (g.met.P.Policy.law c.args.policy.now) c.args.jobs.now (order_parts c.requires.in_order)
    c.requires.each c.requires.count c.args.self.now.clock c.args.self.now.released c.args.number c.args.left
    c.requires.next
    c.index-jobs-number.result
    (next_found c.args.jobs.now c.args.number c.args.number c.index-jobs-number.result refl
    (omega (arith, c.requires.next.low, c.requires.run.few)) c.index-jobs-number.is) in
    let most = run_most _ _ (g.met.P.Policy.law c.args.policy.now) c.args.jobs.now (order_parts c.requires.in_order)
    c.requires.each c.requires.count _ _ _ _ _ _ _ _ c.requires.run c.requires.next c.until-until.ensures.later
    c.until-until.ensures.within c.until-until.ensures.none c.if-until-from.true in
    omega (arith, most.0, c.requires.total, c.value.ensures.is, ap (λ (j : JobFacts). j.value) job)

pub run-requires : goal.run-requires
run-requires g c =
    let most = run_stops _ _ (g.met.P.Policy.law c.args.policy.now) c.args.jobs.now (order_parts c.requires.in_order)
    c.requires.each c.requires.count _ _ _ _ _ _ _ _ c.requires.run c.requires.next c.until-until.ensures.later
    c.until-until.ensures.within c.until-until.ensures.none in
    omega (arith, most)

pub returns-then-until-from-clause-run : goal.returns-then-until-from-clause-run
returns-then-until-from-clause-run g c =
    let job = next_job _ _ (g.met.P.Policy.law c.args.policy.now) c.args.jobs.now (order_parts c.requires.in_order)
    c.requires.each c.requires.count c.args.self.now.clock c.args.self.now.released c.args.number c.args.left
    c.requires.next
    c.index-jobs-number.result
    (next_found c.args.jobs.now c.args.number c.args.number c.index-jobs-number.result refl
    (omega (arith, c.requires.next.low, c.requires.run.few)) c.index-jobs-number.is) in
    let old = c.args.self.now.tally in
    run_done _ _ (g.met.P.Policy.law c.args.policy.now) c.args.jobs.now (order_parts c.requires.in_order)
    c.requires.each c.requires.count _ _ _ _ _ _ _ _ c.requires.run c.requires.next c.until-until.ensures.later
    c.until-until.ensures.within c.until-until.ensures.none _ _ c.if-until-from.true
    (c.complete.ensures ∙ ap (λ v. record {
      value = old.value + v;
      completed = old.completed + 1;
      stops = old.stops + stop_by old.last c.args.number;
      last = idle;
    }) (c.value.ensures.is ∙ sym (ap (λ (j : JobFacts). j.value) job)))
    (c.in-Ok.ensures.stretches
    (schedule_before (g.P.Policy.picks c.args.policy.now) c.args.jobs.now c.args.self.now.clock)
    (schedule_length (g.P.Policy.picks c.args.policy.now) c.args.jobs.now c.args.self.now.clock)
    c.requires.run.stretched)

pub put-requires-clause-fits : goal.put-requires-clause-fits
put-requires-clause-fits g c =
    let job = next_job _ _ (g.met.P.Policy.law c.args.policy.now) c.args.jobs.now (order_parts c.requires.in_order)
    c.requires.each c.requires.count c.args.self.now.clock c.args.self.now.released c.args.number c.args.left
    c.requires.next
    c.index-jobs-number.result
    (next_found c.args.jobs.now c.args.number c.args.number c.index-jobs-number.result refl
    (omega (arith, c.requires.next.low, c.requires.run.few)) c.index-jobs-number.is) in
    omega (arith, c.requires.next.amount_is, ap (λ (j : JobFacts). j.work) job)

pub returns-clause-run : goal.returns-clause-run
returns-clause-run g c =
    let ranks = g.P.Policy.ranks c.args.policy.now in
    let rest = c.args.left - (c.until-until.result - c.args.self.now.clock) in
    let job = next_job _ _ (g.met.P.Policy.law c.args.policy.now) c.args.jobs.now (order_parts c.requires.in_order)
    c.requires.each c.requires.count c.args.self.now.clock c.args.self.now.released c.args.number c.args.left
    c.requires.next
    c.index-jobs-number.result
    (next_found c.args.jobs.now c.args.number c.args.number c.index-jobs-number.result refl
    (omega (arith, c.requires.next.low, c.requires.run.few)) c.index-jobs-number.is) in
    on_ok_weaker c.put.result (λ put.
    run_back _ _ (g.met.P.Policy.law c.args.policy.now) c.args.jobs.now (order_parts c.requires.in_order)
    c.requires.each c.requires.count _ _ _ _ _ _ _ _ c.requires.run c.requires.next c.until-until.ensures.later
    c.until-until.ensures.within c.until-until.ensures.none _ _ _
    (omega (arith, c.until-until.ensures.within, c.until-until.ensures.later, c.if-until-from.false))
    c.run.ensures
    (subst (λ (j : JobFacts). IsPermutation ((turn_by ranks (entry_with c.args.number rest j), rest)
    ∷ kept_of (heap_items c.args.self.now.waiting)) (kept_of (heap_items c.put.new.waiting))) (sym job) put.0)
    put.1
    (c.in-Ok.ensures.stretches
    (schedule_before (g.P.Policy.picks c.args.policy.now) c.args.jobs.now c.args.self.now.clock)
    (schedule_length (g.P.Policy.picks c.args.policy.now) c.args.jobs.now c.args.self.now.clock)
    c.requires.run.stretched))
    c.put.ensures
