use Rattle.std.proofs.Common.{◌≡◌, ◌≤◌, ◌+◌, ◌∙◌, sym, ap, subst, refl, vec_capacity, arith, ℕ, length, min, true}
use Rattle.std.proofs.Common.{false}
use Rattle.dover_model.specs.Limits.{most_ready}
use Rattle.ready_jobs.specs.Course.{Course}
use Rattle.ready_jobs.specs.Spending.{HasPaidSince}
use Rattle.trace_judge.specs.Reads.{Reading, IsReader, IsPaid}
use Rattle.trace_judge.specs.declared.reader.TraceReader.TheInside.{Inside}
use Rattle.trace_judge.proofs.Judging.{err_of, none_of}
use Rattle.trace_judge.proofs.Paying.{paid_room}
use Rattle.trace_judge.proofs.Readings.{reserve_reader}
use Rattle.trace_judge.proofs.reader.TraceReader.reserve.Goals as goal
use Rattle.trace_judge.proofs.reader.TraceReader.reserve.Goals.{then-self+in_ok-reserve-2, else-self}

pub invariant_of-self : goal.invariant_of-self
invariant_of-self c = reserve_reader _ c.self.invariant c.reserve.new.self _ _ _ c.reserve.ensures.same refl
    (omega (arith, c.self.invariant.spare.ready, c.reserve.ensures.grows)) c.self.invariant.spare.steps

pub invariant_of-self-in_err-reserve-2 : goal.invariant_of-self-in_err-reserve-2
invariant_of-self-in_err-reserve-2 c = reserve_reader _ c.self.invariant c.reserve.new.self _ _ _ c.reserve.ensures.same
    c.reserve-then-self.ensures.items (omega (arith, c.self.invariant.spare.ready, c.reserve.ensures.grows))
    (λ keep. omega (arith, c.self.invariant.spare.steps keep, c.reserve-then-self.ensures.capacity))

-- what is kept in these fields, with so much room
abbrev KeptIn : ℕ → Inside → Type 0
KeptIn spare i = IsReader (record {
  stage = i.stage;
  course = i.course;
  kept = i.admission;
  items = i.items;
  floor = i.floor;
  keep = i.keep;
  steps = i.steps.items;
  spare = spare;
  room = vec_capacity i.steps;
  refused = i.refused;
  last = i.last;
})

pub invariant_of-self-2 : goal.invariant_of-self-2
invariant_of-self-2 c =
    let ready : min (length c.self.inside.course.ready + c.args.more) most_ready ≤ c.reserve.new.self.room =
    c.in_ok-reserve.ensures.room in
    elim c.if-self.branch [
      | then-self+in_ok-reserve-2 w ↦ subst (KeptIn c.args.more) (sym w.self-inside-is)
          (reserve_reader _ c.self.invariant c.reserve.new.self _ c.args.more _ c.reserve.ensures.same
          w.reserve-then-self.ensures.items ready
          (λ keep. omega (
            arith,
            w.in_ok-reserve-2.ensures.ok,
            w.jobs.ensures.is,
            ap (λ (d : Course). d.jobs) c.reserve.ensures.same,
          )))
      | else-self w ↦ subst (KeptIn c.args.more) (sym w.self-inside-is)
          (reserve_reader _ c.self.invariant c.reserve.new.self _ c.args.more _ c.reserve.ensures.same refl ready
          (λ keep. absurd (let clash : false ≡ true = sym w.if-self.false ∙ keep in cc)))
    ]

pub returns-in_err-reserve-clause-err : goal.returns-in_err-reserve-clause-err
returns-in_err-reserve-clause-err c =
    err_of c.from_residual.result c.from_residual.ensures.0 (ap (λ (r : Reading). r.spare) c.self.view_is)

pub returns-in_err-reserve-2-clause-ok : goal.returns-in_err-reserve-2-clause-ok
returns-in_err-reserve-2-clause-ok c =
    none_of _ c.from_residual-in_err-reserve-2.result c.from_residual-in_err-reserve-2.ensures.0

pub returns-in_err-reserve-2-clause-grows : goal.returns-in_err-reserve-2-clause-grows
returns-in_err-reserve-2-clause-grows c = omega (arith, ap (λ (r : Reading). r.spare) c.self.view_is)

pub returns-clause-paid : goal.returns-clause-paid
returns-clause-paid c start now paid =
    let held : HasPaidSince c.reserve.new.self c.self.inside.last start now =
    paid_room c.self.inside.course c.reserve.new.self c.self.inside.last start now c.reserve.ensures.same
    (subst (λ (r : Reading). IsPaid r start now) (sym c.self.view_is) paid) in
    elim c.if-self.branch [
      | then-self+in_ok-reserve-2 w ↦
          subst (λ (i : Inside). HasPaidSince i.course i.last start now) (sym w.self-inside-is) held
      | else-self w ↦ subst (λ (i : Inside). HasPaidSince i.course i.last start now) (sym w.self-inside-is) held
    ]

pub returns-clause-grows : goal.returns-clause-grows
returns-clause-grows c = omega (arith, c.if-more-self.false, ap (λ (r : Reading). r.spare) c.self.view_is)
