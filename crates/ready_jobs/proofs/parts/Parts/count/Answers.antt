use Rattle.std.proofs.Common.{ap, length, arith}
use Rattle.std.proofs.lemmas.List.{length-reverse}
use Rattle.ready_jobs.specs.Parts.{Parted, ready_of}
use Rattle.ready_jobs.specs.Kept.{parted_of}
use Rattle.ready_jobs.proofs.Silences.{ready_count}
use Rattle.ready_jobs.proofs.parts.Parts.count.Goals as goal

pub overflow_cast-waiting : goal.overflow_cast-waiting
overflow_cast-waiting c = omega (
  arith,
  c.self.invariant.few,
  c.self.invariant.most,
  ready_count (parted_of c.self.inside),
  length-reverse c.self.inside.held.items,
  c.self.inside.held.ok.0,
  c.len.ensures,
  c.count.ensures,
)

pub overflow_add-waiting : goal.overflow_add-waiting
overflow_add-waiting c = omega (
  arith,
  c.self.invariant.few,
  c.self.invariant.most,
  ready_count (parted_of c.self.inside),
  length-reverse c.self.inside.held.items,
  c.self.inside.held.ok.0,
  c.len.ensures,
  c.count.ensures,
)

pub overflow_add-result-2 : goal.overflow_add-result-2
overflow_add-result-2 c = omega (
  arith,
  c.self.invariant.few,
  c.self.invariant.most,
  ready_count (parted_of c.self.inside),
  length-reverse c.self.inside.held.items,
  c.self.inside.held.ok.0,
  c.len.ensures,
  c.count.ensures,
  c.count_of.ensures.is,
  c.count_of-2.ensures.is,
)

pub returns : goal.returns
returns c = omega (
  arith,
  c.self.invariant.few,
  c.self.invariant.most,
  ready_count (parted_of c.self.inside),
  length-reverse c.self.inside.held.items,
  c.self.inside.held.ok.0,
  c.len.ensures,
  c.count.ensures,
  c.count_of.ensures.is,
  c.count_of-2.ensures.is,
  ap (λ (q : Parted). length (ready_of q)) c.self.view_is,
)
