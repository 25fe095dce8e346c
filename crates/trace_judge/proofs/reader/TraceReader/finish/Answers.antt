use Rattle.std.proofs.Common.{◌≡◌, sym, ap, subst, arith, true, false}
use Rattle.ready_jobs.specs.Course.{Course, Finishes, RunsNowhere}
use Rattle.trace_judge.specs.Reads.{IsPaid, Reading, CanComplete}
use Rattle.trace_judge.proofs.Paying.{paid_late}
use Rattle.trace_judge.proofs.Completing.{done_room, done_low, done_clock, named_reads, named_reader}
use Rattle.trace_judge.proofs.reader.TraceReader.finish.Goals as goal

pub keep_step-requires : goal.keep_step-requires
keep_step-requires c keep = omega (
  arith,
  done_room _ c.args.at c.args.number c.requires.can.0
      (subst (λ r. CanComplete r c.args.at c.args.number c.requires.can.0) (sym c.self.view_is) c.requires.can.1)
      c.self.invariant.spare keep,
  c.self.inside.steps.ok.0,
)

pub invariant_of-self : goal.invariant_of-self
invariant_of-self c = named_reader _ _ c.self.view_is c.requires.going c.args.at c.args.number c.finish.new.self
    c.finish.result
    (subst (λ n. c.finish.result ≡ true → Finishes c.self.inside.course n c.finish.new.self) c.from.ensures
    c.finish.ensures.yes)
    (subst (λ n. c.finish.result ≡ false → RunsNowhere c.self.inside.course n
    × (c.finish.new.self ≡ c.self.inside.course)) c.from.ensures c.finish.ensures.no)
    c.keep_step.new.steps.items _ c.keep_step.ensures.items
    c.requires.can.0 c.requires.can.1 c.self.invariant c.finish.ensures.kept c.finish.ensures.fewer
    c.keep_step.ensures.room

pub returns-clause-reads : goal.returns-clause-reads
returns-clause-reads c = named_reads _ _ c.self.view_is c.requires.going c.args.at c.args.number c.finish.new.self
    c.finish.result
    (subst (λ n. c.finish.result ≡ true → Finishes c.self.inside.course n c.finish.new.self) c.from.ensures
    c.finish.ensures.yes)
    (subst (λ n. c.finish.result ≡ false → RunsNowhere c.self.inside.course n
    × (c.finish.new.self ≡ c.self.inside.course)) c.from.ensures c.finish.ensures.no)
    c.keep_step.new.steps.items _ c.keep_step.ensures.items

pub returns-clause-paid : goal.returns-clause-paid
returns-clause-paid c start now paid =
    let was = subst (λ (r : Reading). IsPaid r start now) (sym c.self.view_is) paid in
    let can = subst (λ r. CanComplete r c.args.at c.args.number c.requires.can.0) (sym c.self.view_is)
    c.requires.can.1 in
    paid_late c.finish.new.self c.args.at start now
    (c.finish.ensures.paid start now was.paid
    (λ _. was.freely (done_low _ c.args.at c.args.number c.requires.can.0 can)))
    (omega (
      arith,
      ap (λ (d : Course). d.clock) c.finish.ensures.kept,
      done_clock _ c.args.at c.args.number c.requires.can.0 can,
    ))
