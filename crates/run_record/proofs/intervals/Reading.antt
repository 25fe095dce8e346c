-- The steps of a run are read, and its intervals are kept.
use Rattle.std.proofs.Common.{◌≡◌, ℕ, ◌+◌, ◌*◌, ◌≤◌, ◌<◌, List, [], ◌∷◌, ◌++◌, length, map, drop, get_or, refl, sym}
use Rattle.std.proofs.Common.{ap, ◌∙◌, subst, arith, append-nil, Option, None, sum_by}
use Rattle.std.proofs.lemmas.List.{drop_all}
use Rattle.dover_model.specs.Common.{Fraction, Instance, IsListable, IsValid, completed_value, entry_of, to_come}
use Rattle.dover_model.specs.Intervals as model
use Rattle.dover_model.specs.declared.events.Event.{Event}
use Rattle.dover_model.proofs.lists.Members.{map_same, term_le_sum}
use Rattle.dover_model.proofs.runs.Runs.{last_value}
use Rattle.dover_model.proofs.valid.ValidParts.{valid_parts}
use Rattle.dover_model.proofs.bound.BoundLaws.{interval_displaced, intervals_complete, intervals_abandon}
use Rattle.dover_model.proofs.bound.GreatestLaws.{paid_small}
use Rattle.run_record.specs.declared.intervals.interval.Interval.{Interval}
use Rattle.run_record.specs.intervals.Pages.{Book, blank, noted}
use Rattle.run_record.specs.intervals.Rows.{IsRunOf, numbers_of, rows_of}
use Rattle.run_record.specs.ledger.Pages.{Page, entries_of, page_of, with_event}
use Rattle.run_record.proofs.intervals.Counted.{item_next}
use Rattle.run_record.proofs.intervals.Noting.{capped_of, book_of, noted_next, noted_value}
use Rattle.run_record.proofs.intervals.Sums.{capped_small}
use Rattle.run_record.proofs.ledger.Walking.{Reads, all_read, at_start, none_read, reads_next}

-- the jobs and the book where these printed steps are still to be read
pub record Charges (J : Instance) (p : Page) (b : Book) (rest : List Event) : Type 0 where
  pub reads : Reads J p rest
  pub current : Option model.Interval
  pub under : b.under_way ≡ book_of current
  pub rows : b.rows ++ map capped_of (model.intervals_of current reads.steps) ≡ map capped_of (model.intervals J)
  pub value : last_value b.value rest ≡ completed_value J

module _ (J : Instance) (valid : IsValid J) (listable : IsListable J) where
  -- words take the numbers of the intervals
  all_capped : map capped_of (model.intervals J) ≡ rows_of J
  all_capped = map_same capped_of numbers_of (model.intervals J) (λ i m.
      let done : i.regular + i.taken ≤ completed_value J = omega
      (arith, term_le_sum (λ i. i.regular + i.taken) (model.intervals J) i m, intervals_complete J valid) in
      let gone : i.abandoned ≤ sum_by (λ i. i.abandoned) (model.intervals J) =
      term_le_sum (λ i. i.abandoned) (model.intervals J) i m in
      let lost : i.displaced ≤ 1_000 * i.taken =
      paid_small J.rules.ratio i.displaced i.taken (valid_parts valid).ratio (interval_displaced J valid i m) in
      let all = intervals_abandon J valid in
      same_row i (capped_small i.regular (omega (arith, done, all, listable.total)))
      (capped_small i.taken (omega (arith, done, all, listable.total)))
      (capped_small i.displaced (omega (arith, lost, done, all, listable.total)))
      (capped_small i.abandoned (omega (arith, gone, all, listable.total)))) where
        row : model.Interval → (a b c d : ℕ) → Interval
        row i a b c d = record {
          from = i.from;
          until = i.until;
          regular = a;
          taken = b;
          displaced = c;
          abandoned = d;
        }

        same_row : (i : model.Interval) {a b c d a2 b2 c2 d2 : ℕ} → a ≡ a2 → b ≡ b2 → c ≡ c2 → d ≡ d2
            → row i a b c d ≡ row i a2 b2 c2 d2
        same_row i e1 e2 e3 e4 = cc

module _ (k : Fraction) (steps : List Event) (J : Instance) (of : IsRunOf k steps J) where
  -- before the first step
  pub none_charged : (p : Page) (b : Book) → p ≡ page_of (entries_of steps) → b ≡ blank → Charges J p b steps
  unfolding none_read
  none_charged p b is none = subst (λ c. Charges J p c steps) (sym none)
      (subst (λ q. Charges J q blank steps) (sym (is ∙ at_start k steps J of))
      (subst (Charges J (page_of (map entry_of (to_come 0 J.jobs))) blank) of.prints (record {
        reads = none_read J of.valid of.listable;
        current = None;
        under = refl;
        rows = refl;
        value = refl;
      })))

  -- one step more
  pub one_charged : (p : Page) (b : Book) (i : ℕ) (e : Event) → e ≡ get_or steps i e → i < length steps
      → Charges J p b (drop i steps) → (q : Page) (c : Book) → q ≡ with_event p e → c ≡ noted p b e
      → Charges J q c (drop (i + 1) steps)
  one_charged p b i e is there charges q c after kept =
      subst (λ d. Charges J q d (drop (i + 1) steps)) (sym kept)
      (subst (λ x. Charges J x (noted p b e) (drop (i + 1) steps)) (sym after)
      (go_on (subst (Charges J p b) (item_next steps i e is there) charges))) where
        go_on : Charges J p b (e ∷ drop (i + 1) steps) → Charges J (with_event p e) (noted p b e) (drop (i + 1) steps)
        go_on it =
            let one = reads_next J of.valid of.listable p e (drop (i + 1) steps) it.reads in
            let next = noted_next one.state p b it.current e one.of it.under in
            record {
              reads = one.reads;
              current = next.later;
              under = next.under;
              rows = next.same one.reads.steps
                  ∙ ap (λ is. b.rows ++ map capped_of is) (sym (one.intervals it.current)) ∙ it.rows;
              value = ap (λ v. last_value v (drop (i + 1) steps)) (noted_value p b e) ∙ it.value;
            }

  -- where all steps are read, the book has the rows and the value
  pub all_charged : (p : Page) (b : Book) (i : ℕ) → length steps ≤ i → Charges J p b (drop i steps)
      → (b.rows ≡ rows_of J) × (b.value ≡ completed_value J)
  all_charged p b i past charges = by_end (subst (Charges J p b) (drop_all i steps past) charges) where
    by_end : Charges J p b [] → (b.rows ≡ rows_of J) × (b.value ≡ completed_value J)
    by_end it = (
      sym (append-nil b.rows)
          ∙ ap (λ xs. b.rows ++ map capped_of (model.intervals_of it.current xs))
          (sym (all_read J of.valid of.listable p it.reads))
          ∙ it.rows ∙ all_capped J of.valid of.listable,
      it.value,
    )
