use Rattle.std.proofs.Common.{◌^◌, ◌<◌, ◌∙◌, ◌≡◌, ◌++◌, ◌∷◌, [], length, ap, sym, subst, heap_items, refl, arith}
use Rattle.std.proofs.Common.{IsPermutation}
use Rattle.clairvoyant.specs.feasible.Queue.{QueueFacts, kept_of, IsInTurn}
use Rattle.clairvoyant.proofs.feasible.Keeping.{key_is, low_more, released_in_turn, released_kept}
use Rattle.clairvoyant.proofs.feasible.queue.DueQueue.release.Goals as goal

pub invariant_of-self-in_err-push-2 : goal.invariant_of-self-in_err-push-2
invariant_of-self-in_err-push-2 c =
    subst (λ left. IsInTurn left (heap_items c.push-2.new.self)) (sym c.in_ok-push.ensures.items)
    (subst (λ turns. IsInTurn (c.self.inside.left.items ++ c.args.work ∷ []) turns)
    (sym c.in_err-push-2.ensures.unchanged.0) (low_more _ _ _ c.self.invariant))

pub invariant_of-self-2 : goal.invariant_of-self-2
invariant_of-self-2 c =
    subst (λ left. IsInTurn left (heap_items c.push-2.new.self)) (sym c.in_ok-push.ensures.items)
    (released_in_turn _ c.args.deadline c.len-number.result c.args.work _ _ c.self.invariant
    (let n : c.len-number.result ≡ length c.self.inside.left.items =
    omega (arith, c.len-number.ensures, c.self.inside.left.ok.0) in n) _
    (key_is _ c.args.deadline c.len-number.result c.turn_of.ensures (omega (
      arith,
      c.requires.few,
      c.len-number.ensures,
      c.self.inside.left.ok.0,
      ap (λ (q : QueueFacts). q.released) c.self.view_is,
    )))
    c.in_ok-push-2.ensures.permutation c.in_ok-push-2.ensures.heap_order)

pub returns-clause-kept : goal.returns-clause-kept
returns-clause-kept c =
    let n : c.len-number.result ≡ length c.self.inside.left.items =
    omega (arith, c.len-number.ensures, c.self.inside.left.ok.0) in
    let few : c.len-number.result < 2 ^ 20 =
    omega (arith, c.requires.few, n, ap (λ (q : QueueFacts). q.released) c.self.view_is) in
    subst (λ (q : QueueFacts). IsPermutation (((c.args.deadline, q.released), c.args.work) ∷ q.kept)
    (kept_of c.push.new.self.items (heap_items c.push-2.new.self))) c.self.view_is
    (subst (λ left. IsPermutation (((c.args.deadline, length c.self.inside.left.items), c.args.work)
    ∷ kept_of c.self.inside.left.items (heap_items c.self.inside.turns))
    (kept_of left (heap_items c.push-2.new.self))) (sym c.in_ok-push.ensures.items)
    (released_kept _ c.args.deadline (length c.self.inside.left.items) c.args.work _ _ c.self.invariant refl _
    (key_is _ c.args.deadline c.len-number.result c.turn_of.ensures few ∙ ap (λ m. (c.args.deadline, m)) n)
    c.in_ok-push-2.ensures.permutation))
