use Rattle.std.proofs.Common.{◌≡◌, ℕ, ◌∷◌, List, length, ap, sym, ◌∙◌, subst, arith, heap_items, slice_set}
use Rattle.clairvoyant.specs.feasible.Queue.{Kept, QueueFacts, kept_of, IsInTurn, IsTakenOut}
use Rattle.clairvoyant.proofs.feasible.Keeping.{IsPopped, popped, first_turn, first_low, changed_in_turn}
use Rattle.clairvoyant.proofs.feasible.Keeping.{popped_in_turn, left_some, left_none}
use Rattle.clairvoyant.proofs.feasible.queue.DueQueue.leave.Goals as goal

pub index_mut-requires : goal.index_mut-requires
index_mut-requires c =
    let first : Kept = c.requires.0 in
    let number : first.0.1 ≡ c.args.number = c.requires.3 in
    omega (
      arith,
      number,
      c.self.inside.left.ok.0,
      first_low _ _ c.self.invariant _ _ (ap (λ (q : QueueFacts). q.kept) c.self.view_is ∙ c.requires.2) 0,
    )

-- what the heap leaves
taken : (c : goal.After-pop) → IsPopped (heap_items c.self.inside.turns) (heap_items c.pop.new.self)
taken c = popped _ _ c.pop.result c.self.invariant.ordered
    (c.pop.ensures.variant.1 (omega (
      arith,
      c.self.inside.turns.data.ok.0,
      ap length (first_turn _ _ c.self.invariant c.requires.0 c.requires.1
          (ap (λ (q : QueueFacts). q.kept) c.self.view_is ∙ c.requires.2) 0).2,
    )))
    c.pop.ensures.top c.pop.ensures.permutation c.pop.ensures.heap_order c.pop.ensures.below_top

pub invariant_of-self : goal.invariant_of-self
invariant_of-self c =
    subst (λ n. IsInTurn (slice_set c.self.inside.left.items n c.args.ticks) (heap_items c.pop.new.self)) c.requires.3
    (popped_in_turn _ _ c.self.invariant c.requires.0 c.requires.1
    (ap (λ (q : QueueFacts). q.kept) c.self.view_is ∙ c.requires.2) c.args.ticks _ (taken c))

pub invariant_of-self-else-ticks-eq0 : goal.invariant_of-self-else-ticks-eq0
invariant_of-self-else-ticks-eq0 c =
    subst (λ n. IsInTurn (slice_set c.self.inside.left.items n c.args.ticks) (heap_items c.self.inside.turns))
    c.requires.3
    (changed_in_turn _ _ c.self.invariant _ _ (ap (λ (q : QueueFacts). q.kept) c.self.view_is ∙ c.requires.2) _)

-- the first one has the number
number_is : (number : ℕ) (kept : List Kept) → ((it : Kept) × (rest : List Kept) × (kept ≡ it ∷ rest)
    × (it.0.1 ≡ number))
    → (it : Kept) (rest : List Kept) → kept ≡ it ∷ rest → it.0.1 ≡ number
number_is number kept named it rest is =
    let e : it ∷ rest ≡ named.0 ∷ named.1 = sym is ∙ named.2 in
    let same : it ≡ named.0 = cc in
    ap (λ (k : Kept). k.0.1) same ∙ named.3

pub returns-then-ticks-eq0-clause-goes : goal.returns-then-ticks-eq0-clause-goes
returns-then-ticks-eq0-clause-goes c = λ it rest is none.
    subst (λ n. IsTakenOut it c.args.self.now.kept
    (kept_of (slice_set c.self.inside.left.items n c.args.ticks) (heap_items c.pop.new.self)))
    (number_is _ _ c.requires it rest is)
    (subst (λ (q : QueueFacts). IsTakenOut it q.kept
    (kept_of (slice_set c.self.inside.left.items it.0.1 c.args.ticks) (heap_items c.pop.new.self))) c.self.view_is
    (left_none _ _ c.self.invariant _ _ (ap (λ (q : QueueFacts). q.kept) c.self.view_is ∙ is) _ _ (taken c)))

pub returns-else-ticks-eq0-clause-stays : goal.returns-else-ticks-eq0-clause-stays
returns-else-ticks-eq0-clause-stays c = λ it rest is some.
    subst (λ n. kept_of (slice_set c.self.inside.left.items n c.args.ticks) (heap_items c.self.inside.turns)
    ≡ (it.0, c.args.ticks) ∷ rest) (number_is _ _ c.requires it rest is)
    (left_some _ _ c.self.invariant it rest (ap (λ (q : QueueFacts). q.kept) c.self.view_is ∙ is) c.args.ticks)

pub returns-else-ticks-eq0-clause-goes : goal.returns-else-ticks-eq0-clause-goes
returns-else-ticks-eq0-clause-goes c it rest is none = absurd (c.if-ticks-eq0.false none)
