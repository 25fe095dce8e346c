use Rattle.std.proofs.Common.{◌<◌, length, refl, sym, subst, arith, heap_items}
use Rattle.std.proofs.lemmas.List.{get_or_read}
use Rattle.clairvoyant.specs.feasible.Queue.{QueueFacts, IsFirst, key_of, kept_of}
use Rattle.clairvoyant.proofs.feasible.Keeping.{top_low, first_due}
use Rattle.clairvoyant.proofs.feasible.queue.DueQueue.first.Goals as goal

pub index-requires : goal.index-requires
index-requires c =
    let some : 0 < length (heap_items c.self.inside.turns) =
    omega (arith, c.in-Some.ensures.variant.0 refl, c.self.inside.turns.data.ok.0) in
    omega (
      arith,
      top_low _ _ c.in-Some.field-0.now c.self.invariant some c.in-Some.ensures.lookup,
      c.self.inside.left.ok.0,
    )

pub returns-in-Some-clause-some : goal.returns-in-Some-clause-some
returns-in-Some-clause-some c =
    let some : 0 < length (heap_items c.self.inside.turns) =
    omega (arith, c.in-Some.ensures.variant.0 refl, c.self.inside.turns.data.ok.0) in
    subst (λ (q : QueueFacts). IsFirst (key_of c.in-Some.field-0.now, c.index.result.now) q.kept) c.self.view_is
    (subst
    (λ l. IsFirst (key_of c.in-Some.field-0.now, l) (kept_of c.self.inside.left.items (heap_items c.self.inside.turns)))
    (sym (get_or_read c.self.inside.left.items (key_of c.in-Some.field-0.now).1 c.index.result.now
    (top_low _ _ c.in-Some.field-0.now c.self.invariant some c.in-Some.ensures.lookup) c.index.ensures 0))
    (first_due _ _ c.in-Some.field-0.now c.self.invariant some c.in-Some.ensures.lookup
    (c.in-Some.ensures.greatest c.self.invariant.ordered)))
