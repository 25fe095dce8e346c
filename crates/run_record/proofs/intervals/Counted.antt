-- What steps tell of the jobs of a run, with one step more.
use Rattle.std.proofs.Common.{◌≡◌, ℕ, ◌+◌, ◌*◌, ◌^◌, ◌≤◌, ◌<◌, List, ◌∷◌, length, take, drop, get_or, sym, ap, ◌∙◌}
use Rattle.std.proofs.Common.{cond, arith}
use Rattle.std.proofs.Common.{length-take, sum_by, fold}
use Rattle.std.proofs.lemmas.List.{drop_more}
use Rattle.std.proofs.lemmas.List.Sums.{sum_by_more, count_by-le-length, fold_more}
use Rattle.dover_model.specs.declared.events.Event.{Event}
use Rattle.dover_model.specs.Common.{is_take, is_preemption, changes_hands, Prints}
use Rattle.run_record.specs.intervals.Totals.{is_release, is_completion, is_abandonment, value_released, totals_of}
use Rattle.run_record.specs.intervals.Totals.{with_step, later_deadline, HasSpace}
use Rattle.run_record.specs.declared.intervals.totals.JobTotals.{JobTotals}

-- the item at an index, and those behind it
pub item_next : {X : Type 0} (xs : List X) (i : ℕ) (x : X) → x ≡ get_or xs i x → i < length xs
    → drop i xs ≡ x ∷ drop (i + 1) xs
item_next xs i x is there = drop_more xs i x there ∙ ap (λ y. y ∷ drop (i + 1) xs) (sym is)

-- a sum with one step more
pub sum_more : (f : Event → ℕ) (run : List Event) (i : ℕ) (e : Event) → e ≡ get_or run i e → i < length run
    → sum_by f (take i run) + f e ≡ sum_by f (take (i + 1) run)
sum_more f run i e is there = sym (sum_by_more f run i e there ∙ ap (λ x. sum_by f (take i run) + f x) (sym is))

-- the last deadline with one step more
due_more : (run : List Event) (i : ℕ) (e : Event) → e ≡ get_or run i e → i < length run
    → later_deadline (fold later_deadline 0 (take i run)) e ≡ fold later_deadline 0 (take (i + 1) run)
due_more run i e is there = sym (fold_more later_deadline 0 run i e there
    ∙ ap (later_deadline (fold later_deadline 0 (take i run))) (sym is))

-- what the steps tell with one more
totals_more : (run : List Event) (i : ℕ) (e : Event) → e ≡ get_or run i e → i < length run
    → with_step (totals_of (take i run)) e ≡ totals_of (take (i + 1) run)
totals_more run i e is there = same_totals (more (λ x. cond (is_release x) 1 0)) (more value_released)
    (due_more run i e is there) (more (λ x. cond (is_completion x) 1 0)) (more (λ x. cond (is_abandonment x) 1 0))
    (more (λ x. cond (is_take x) 1 0)) (more (λ x. cond (changes_hands (Prints x)) 1 0))
    (more (λ x. cond (is_preemption x) 1 0)) where
      whole : (a b k c d f g h : ℕ) → JobTotals
      whole a b k c d f g h = record {
        jobs = a;
        worth = b;
        due = k;
        completed = c;
        abandoned = d;
        taken = f;
        changes = g;
        preempted = h;
      }

      same_totals : {a b k c d f g h a2 b2 k2 c2 d2 f2 g2 h2 : ℕ} → a ≡ a2 → b ≡ b2 → k ≡ k2 → c ≡ c2 → d ≡ d2
          → f ≡ f2 → g ≡ g2 → h ≡ h2 → whole a b k c d f g h ≡ whole a2 b2 k2 c2 d2 f2 g2 h2
      same_totals e1 e2 e3 e4 e5 e6 e7 e8 = cc

      more : (f : Event → ℕ) → sum_by f (take i run) + f e ≡ sum_by f (take (i + 1) run)
      more f = sum_more f run i e is there

-- these are the totals of the first steps
pub record AreTotals (t : JobTotals) (run : List Event) (i : ℕ) : Type 0 where
  pub is : t ≡ totals_of (take i run)
  pub small : t.worth ≤ 1_000_000_000 * i

-- there is room for one step more
pub totals_fit : (run : List Event) (i : ℕ) (t : JobTotals) → AreTotals t run i → i < length run
    → length run < 2 ^ 64 → HasSpace t
totals_fit run i t are there few = record {
  jobs = omega (arith, ap (λ (g : JobTotals). g.jobs) are.is, front, count_by-le-length is_release (take i run));
  worth = omega (arith, are.small, there, few);
  completed = omega (
    arith,
    ap (λ (g : JobTotals). g.completed) are.is,
    front,
    count_by-le-length is_completion (take i run),
  );
  abandoned = omega (
    arith,
    ap (λ (g : JobTotals). g.abandoned) are.is,
    front,
    count_by-le-length is_abandonment (take i run),
  );
  taken = omega (arith, ap (λ (g : JobTotals). g.taken) are.is, front, count_by-le-length is_take (take i run));
  changes = omega (
    arith,
    ap (λ (g : JobTotals). g.changes) are.is,
    front,
    count_by-le-length (λ e. changes_hands (Prints e)) (take i run),
  );
  preempted = omega (
    arith,
    ap (λ (g : JobTotals). g.preempted) are.is,
    front,
    count_by-le-length is_preemption (take i run),
  );
} where
  front : length (take i run) + 1 < 2 ^ 64
  front = omega (arith, length-take i run, there, few)

-- and they are those of one step more
pub totals_on : (run : List Event) (i : ℕ) (e : Event) (t next : JobTotals) → e ≡ get_or run i e → i < length run
    → AreTotals t run i → next ≡ with_step t e → next.worth ≤ t.worth + 1_000_000_000 → AreTotals next run (i + 1)
totals_on run i e t next is there are same modest = record {
  is = same ∙ ap (λ g. with_step g e) are.is ∙ totals_more run i e is there;
  small = omega (arith, modest, are.small);
}
