-- The book of intervals follows each printed step.
use Rattle.std.proofs.Common.{◌≡◌, ℕ, ◌+◌, List, [], ◌∷◌, ◌++◌, length, map, refl, ap, sym, ◌∙◌, Bool, true, false}
use Rattle.std.proofs.Common.{cond}
use Rattle.std.proofs.Common.{append_assoc, Option, Some, None, ◌==◌}
use Rattle.dover_model.specs.Common.{State, held, privileged, value_sum, Prints, Step, value_of_end}
use Rattle.dover_model.specs.Intervals as model
use Rattle.dover_model.specs.declared.events.Event.{Event}
use Rattle.dover_model.specs.declared.events.Event.TheVariants.{Run, Take, Complete, Abandon}
use Rattle.dover_model.proofs.lists.Members.{by_bool}
use Rattle.run_record.specs.declared.intervals.interval.Interval.{Interval}
use Rattle.run_record.specs.declared.intervals.interval.UnderWay.{UnderWay}
use Rattle.run_record.specs.intervals.Pages.{Book, begun_or, with_take, with_completion, with_abandonment, in_one}
use Rattle.run_record.specs.intervals.Pages.{with_row, closed, turned, noted}
use Rattle.run_record.specs.ledger.Pages.{Page, capped, holds_none, value_on}
use Rattle.run_record.proofs.intervals.Sums.{capped_more}
use Rattle.run_record.proofs.ledger.Walking.{IsOf}

-- the numbers of an interval, as far as words take them
abbrev pub capped_of : model.Interval → Interval
capped_of i = record {
  from = i.from;
  until = i.until;
  regular = capped i.regular;
  taken = capped i.taken;
  displaced = capped i.displaced;
  abandoned = capped i.abandoned;
}

-- the interval under way, as the book has it
abbrev under_of : model.Interval → UnderWay
under_of i = record { interval = capped_of i; took = i.took }

-- if there is one
abbrev pub book_of : Option model.Interval → Option UnderWay
book_of None = None
book_of (Some i) = Some (under_of i)

-- the book follows a printed step
pub record Next (s : State) (p : Page) (b : Book) (current : Option model.Interval) (e : Event) : Type 0 where
  pub later : Option model.Interval
  pub under : (noted p b e).under_way ≡ book_of later
  pub same : (xs : List Step) → (noted p b e).rows ++ map capped_of (model.intervals_of later xs)
      ≡ b.rows ++ map capped_of (model.intervals_of current (record { before = s; move = Prints e } ∷ xs))

-- the interval after a completion
abbrev after_completion : model.Interval → ℕ → ℕ → model.Interval
after_completion i at value = cond i.took (model.with_taken i at value) (model.with_regular i at value)

-- so in the book
completed_under : (i : model.Interval) (at value : ℕ)
    → with_completion at value (under_of i) ≡ under_of (after_completion i at value)
completed_under i at value = by_took i.took where
  by_took : (b : Bool) → record {
    interval = cond b (record (capped_of i) { until = at; taken = capped (capped i.taken + value) })
        (record (capped_of i) { until = at; regular = capped (capped i.regular + value) });
    took = i.took;
  } ≡ under_of (cond b (model.with_taken i at value) (model.with_regular i at value))
  by_took true = ap (λ n. record { interval = record (capped_of i) { until = at; taken = n }; took = i.took })
      (capped_more i.taken value)
  by_took false = ap (λ n. record { interval = record (capped_of i) { until = at; regular = n }; took = i.took })
      (capped_more i.regular value)

module _ (s : State) (p : Page) (b : Book) where
  -- where none is under way
  none_next : (e : Event) → b.under_way ≡ None → Next s p b None e
  none_next (Run at n) under = record {
    later = Some (model.begun at);
    under = ap (λ u. Some (begun_or at u)) under;
    same = λ xs. refl;
  }
  none_next (Take at stops starts) under =
      record { later = None; under = ap (in_one _) under; same = λ xs. refl }
  none_next (Abandon at n) under = record { later = None; under = ap (in_one _) under; same = λ xs. refl }
  none_next (Complete at n) under = record {
    later = None;
    under = none_under (holds_none p);
    same = λ xs. ap (λ rows. rows ++ map capped_of (model.intervals_of None xs)) (no_row (holds_none p));
  } where
    f : UnderWay → UnderWay
    f = with_completion at (value_on p (Complete at n))

    none_under : (c : Bool) → (closed c (turned f b)).under_way ≡ None
    none_under true = refl
    none_under false = ap (in_one f) under

    no_row : (c : Bool) → (closed c (turned f b)).rows ≡ b.rows
    no_row true = ap (λ u. with_row b.rows (in_one f u)) under
    no_row false = refl
  none_next e under = record { later = None; under = under; same = λ xs. refl }

  -- where this one is
  some_next : (i : model.Interval) (e : Event) → IsOf s p e → b.under_way ≡ Some (under_of i) → Next s p b (Some i) e
  some_next i (Run at n) of under = record {
    later = Some i;
    under = ap (λ u. Some (begun_or at u)) under;
    same = λ xs. refl;
  }
  some_next i (Take at stops starts) of under = record {
    later = Some (model.with_take i at (value_sum (privileged s)));
    under = ap (in_one _) under ∙ ap (λ w. Some (with_take at w (under_of i))) of.weight
        ∙ ap (λ n. Some (record { interval = record (capped_of i) { until = at; displaced = n }; took = true }))
        (capped_more i.displaced (value_sum (privileged s)));
    same = λ xs. refl;
  }
  some_next i (Abandon at n) of under = record {
    later = Some (model.with_abandoned i at (model.value_of s n));
    under = ap (in_one _) under ∙ ap (λ v. Some (with_abandonment at v (under_of i))) of.value
        ∙ ap (λ n. Some (record { interval = record (capped_of i) { until = at; abandoned = n }; took = i.took }))
        (capped_more i.abandoned (model.value_of s n));
    same = λ xs. refl;
  }
  some_next i (Complete at n) of under = by_bool _ (length (held s) == 0) last more where
    f : UnderWay → UnderWay
    f = with_completion at (value_on p (Complete at n))

    then : model.Interval
    then = after_completion i at (model.value_of s n)

    under_then : in_one f b.under_way ≡ Some (under_of then)
    under_then = ap (in_one f) under ∙ ap (λ v. Some (with_completion at v (under_of i))) of.value
        ∙ ap (λ u. Some u) (completed_under i at (model.value_of s n))

    split : (xs : List Step) → Bool → List model.Interval
    split xs c = elim c [
      | true ↦ then ∷ model.intervals_of None xs
      | false ↦ model.intervals_of (Some then) xs
    ]

    last : (length (held s) == 0) ≡ true → Next s p b (Some i) (Complete at n)
    last e = record {
      later = None;
      under = ap (λ c. (closed c (turned f b)).under_way) (of.none ∙ e);
      same = λ xs. ap (λ c. (closed c (turned f b)).rows ++ map capped_of (model.intervals_of None xs)) (of.none ∙ e)
          ∙ ap (λ u. with_row b.rows u ++ map capped_of (model.intervals_of None xs)) under_then
          ∙ append_assoc b.rows (capped_of then ∷ []) (map capped_of (model.intervals_of None xs))
          ∙ ap (λ c. b.rows ++ map capped_of (split xs c)) (sym e);
    }

    more : (length (held s) == 0) ≡ false → Next s p b (Some i) (Complete at n)
    more e = record {
      later = Some then;
      under = ap (λ c. (closed c (turned f b)).under_way) (of.none ∙ e) ∙ under_then;
      same = λ xs. ap (λ c. (closed c (turned f b)).rows ++ map capped_of (model.intervals_of (Some then) xs))
          (of.none ∙ e)
          ∙ ap (λ c. b.rows ++ map capped_of (split xs c)) (sym e);
    }
  some_next i e of under = record { later = Some i; under = under; same = λ xs. refl }

  -- the book follows each
  pub noted_next : (current : Option model.Interval) (e : Event) → IsOf s p e → b.under_way ≡ book_of current
      → Next s p b current e
  noted_next None e of under = none_next e under
  noted_next (Some i) e of under = some_next i e of under

-- the end alone names the value
pub noted_value : (p : Page) (b : Book) (e : Event) → (noted p b e).value ≡ value_of_end e b.value
noted_value p b (Complete at n) = by_end (holds_none p) where
  by_end : (c : Bool) → (closed c (turned (with_completion at (value_on p (Complete at n))) b)).value ≡ b.value
  by_end true = refl
  by_end false = refl
noted_value p b e = refl
