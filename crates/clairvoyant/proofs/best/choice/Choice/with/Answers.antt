use Rattle.std.proofs.Common.{◌≡◌, ◌≤◌, ◌+◌, ◌++◌, ◌∷◌, [], length, ap, sym, subst, arith, ◌∙◌}
use Rattle.dover_model.specs.declared.events.Version.TheVariants.{Two}
use Rattle.dover_model.specs.Common.{IsInOrder, edf, last_deadline, last_tick_in, stretches}
use Rattle.clairvoyant.specs.feasible.Feasibility.{IsAnswer, ServesAll}
use Rattle.clairvoyant.specs.best.BestSet.{RiseWithin, value_of, jobs_at}
use Rattle.clairvoyant.proofs.feasible.Dues.{chosen_due}
use Rattle.clairvoyant.proofs.best.Rising.{rise_length, rise_wider}
use Rattle.clairvoyant.proofs.best.Values.{get_is, value_few}
use Rattle.clairvoyant.proofs.best.Lifting.{jobs_few, order_at}
use Rattle.clairvoyant.proofs.best.Searching.{jobs_grow, rise_all, rise_with, value_with, not_good}
use Rattle.dover_model.proofs.valid.ValidParts.{order_parts, order_from}
use Rattle.dover_model.proofs.valid.JobLimits.{job_limits}
use Rattle.clairvoyant.proofs.best.choice.Choice.with.Goals as goal

pub judge_feasible-requires-clause-in_order : goal.judge_feasible-requires-clause-in_order
judge_feasible-requires-clause-in_order c =
    let numbers = c.args.self.now.numbers.items ++ c.args.number ∷ [] in
    subst IsInOrder (sym (jobs_grow c.args.all.now c.args.self.now.numbers.items c.args.number c.index-all-number.result
    c.args.self.now.jobs.items
    c.deref-2.result.now c.requires.number c.index-all-number.is c.requires.choice.jobs
    (c.deref-2.ensures.value ∙ c.in_ok-push.ensures.items
    ∙ ap (λ jobs. jobs ++ c.index-all-number.result ∷ []) (c.in_ok-jobs.ensures.items ∙ c.deref.ensures.value))))
    (order_from (order_at c.args.all.now (order_parts c.requires.in_order) 0 numbers
    (rise_all c.args.all.now c.args.self.now.numbers.items c.args.number c.requires.number c.requires.choice.numbers)))

pub judge_feasible-requires-clause-count : goal.judge_feasible-requires-clause-count
judge_feasible-requires-clause-count c =
    let numbers = c.args.self.now.numbers.items ++ c.args.number ∷ [] in
    let grown = jobs_grow c.args.all.now c.args.self.now.numbers.items c.args.number c.index-all-number.result
    c.args.self.now.jobs.items
    c.deref-2.result.now c.requires.number c.index-all-number.is c.requires.choice.jobs
    (c.deref-2.ensures.value ∙ c.in_ok-push.ensures.items
    ∙ ap (λ jobs. jobs ++ c.index-all-number.result ∷ []) (c.in_ok-jobs.ensures.items ∙ c.deref.ensures.value)) in
    omega (
      arith,
      ap length grown,
      jobs_few c.args.all.now numbers,
      c.requires.count,
      rise_length 0 (length c.args.all.now) numbers (omega arith)
          (rise_all _ _ _ c.requires.number c.requires.choice.numbers),
    )

pub returns-in_default-clause-none : goal.returns-in_default-clause-none
returns-in_default-clause-none c =
    not_good c.args.all.now (c.args.self.now.numbers.items ++ c.args.number ∷ []) c.deref-2.result.now
    (jobs_grow c.args.all.now c.args.self.now.numbers.items c.args.number c.index-all-number.result
    c.args.self.now.jobs.items
    c.deref-2.result.now c.requires.number c.index-all-number.is c.requires.choice.jobs
    (c.deref-2.ensures.value ∙ c.in_ok-push.ensures.items
    ∙ ap (λ jobs. jobs ++ c.index-all-number.result ∷ []) (c.in_ok-jobs.ensures.items ∙ c.deref.ensures.value)))
    (subst (IsAnswer c.deref-2.result.now) c.in_default.is c.in_ok-pieces.ensures).unmet

pub overflow_add-result : goal.overflow_add-result
overflow_add-result c =
    let value = value_few c.args.all.now c.args.self.now.numbers.items c.requires.each c.requires.count
    (rise_wider _ _ _ _ _ (omega arith) (omega (arith, c.requires.number)) c.requires.choice.numbers) in
    omega (arith, value, c.requires.choice.value, c.value.ensures.is, (job_limits c.value.ensures.job).modest)

pub returns-clause-choice : goal.returns-clause-choice
returns-clause-choice c =
    let numbers = c.args.self.now.numbers.items ++ c.args.number ∷ [] in
    let numbers_are : c.push-2.new.self.items ≡ numbers =
    c.in_ok-push-2.ensures.items
    ∙ ap (λ ns. ns ++ c.args.number ∷ []) (c.in_ok-numbers.ensures.items ∙ c.deref-3.ensures.value) in
    let grown = jobs_grow c.args.all.now c.args.self.now.numbers.items c.args.number c.index-all-number.result
    c.args.self.now.jobs.items
    c.deref-2.result.now c.requires.number c.index-all-number.is c.requires.choice.jobs
    (c.deref-2.ensures.value ∙ c.in_ok-push.ensures.items
    ∙ ap (λ jobs. jobs ++ c.index-all-number.result ∷ []) (c.in_ok-jobs.ensures.items ∙ c.deref.ensures.value)) in
    let shows = subst (IsAnswer c.deref-2.result.now) c.in-All.is c.in_ok-pieces.ensures in
    record {
      numbers = subst (RiseWithin 0 (c.args.number + 1)) (sym numbers_are)
          (rise_with c.args.number c.args.self.now.numbers.items
          c.requires.choice.numbers);
      jobs = sym c.deref-2.ensures.value ∙ grown ∙ ap (jobs_at c.args.all.now) (sym numbers_are);
      value =
          let sum = value_with c.args.all.now c.args.self.now.numbers.items c.args.number c.index-all-number.result
          (get_is c.args.all.now c.args.number c.index-all-number.result c.requires.number c.index-all-number.is) in
          omega (arith, sum, c.requires.choice.value, c.value.ensures.is, ap (value_of c.args.all.now) numbers_are);
      pieces = shows.edf ∙ ap (λ jobs. stretches (edf jobs)) c.deref-2.ensures.value;
      serves = subst (λ jobs. ServesAll jobs c.in-All.pieces.items) c.deref-2.ensures.value shows.serves;
    }

pub judge_feasible-requires-clause-due : goal.judge_feasible-requires-clause-due
judge_feasible-requires-clause-due c =
    let numbers = c.args.self.now.numbers.items ++ c.args.number ∷ [] in
    subst (λ js. last_deadline js ≤ last_tick_in Two) (sym (jobs_grow c.args.all.now c.args.self.now.numbers.items
    c.args.number c.index-all-number.result c.args.self.now.jobs.items
    c.deref-2.result.now c.requires.number c.index-all-number.is c.requires.choice.jobs
    (c.deref-2.ensures.value ∙ c.in_ok-push.ensures.items
    ∙ ap (λ jobs. jobs ++ c.index-all-number.result ∷ []) (c.in_ok-jobs.ensures.items ∙ c.deref.ensures.value))))
    (omega (arith, chosen_due c.args.all.now numbers, c.requires.due))
