-- What the whole schedule by earliest deadline shows of the jobs.
use Rattle.std.proofs.Common.{◌≡◌, ℕ, ◌+◌, ◌-◌, ◌≤◌, ◌<◌, ◌⊎◌, inl, inr, List, [], ◌∷◌, ◌++◌, length, take, drop}
use Rattle.std.proofs.Common.{replicate, refl, sym, ap, subst, Bool, true, false, cond, eqb, arith, IsTrue, nat_le}
use Rattle.std.proofs.Common.{Some, None, sum_by, count_by, le-leb, leb-true, ne_eqb, length-drop, length-take}
use Rattle.std.specs.List.{enumerate_from}
use Rattle.std.proofs.lemmas.Bool.{and_parts, cases_lt}
use Rattle.dover_model.specs.declared.events.Version.TheVariants.{Two}
use Rattle.dover_model.specs.Common.{idle, most_jobs, JobFacts, is_served, ticks_given, IsMember, Each, IsOverfull}
use Rattle.dover_model.specs.Common.{is_inside, work_inside, spread, stretches, edf}
use Rattle.dover_model.specs.Pieces.{AreInOrder}
use Rattle.dover_model.specs.declared.pieces.Piece.{Piece}
use Rattle.dover_model.proofs.lists.Members.{sum_le, each_all}
use Rattle.dover_model.proofs.runs.Serving.{given_less, one_name_per_tick, sum_numbered}
use Rattle.clairvoyant.specs.feasible.Feasibility.{IsRelease, ServesAll, ShowsAll, ShowsWindow}
use Rattle.clairvoyant.specs.feasible.Progress.{IsLateBy, IsWhole}
use Rattle.clairvoyant.proofs.feasible.Overfull.{work_is, overfull_excludes}
use Rattle.clairvoyant.proofs.feasible.Stretches.{stretches_in_order, spread_again}
use Rattle.clairvoyant.proofs.feasible.Shares.{given_without}
use Rattle.clairvoyant.proofs.feasible.LastStart.{asked}

-- ---- all can be served

-- numbers are below the count
numbers_below : (k : ℕ) (jobs : List JobFacts) → Each (λ n_j. n_j.0 < k + length jobs) (enumerate_from k jobs)
numbers_below k [] n_j member = absurd member
numbers_below k (j ∷ jobs) n_j (inl e) = let here : n_j.0 ≡ k = ap (λ (x : ℕ × JobFacts). x.0) e in omega arith
numbers_below k (j ∷ jobs) n_j (inr member) = let low : n_j.0 < k + 1 + length jobs =
    numbers_below (k + 1) jobs n_j member in omega (arith, low)

-- where no job is late, the pieces show it
pub shows_all : (jobs : List JobFacts) (pieces : List Piece) → length jobs ≤ most_jobs Two → IsWhole jobs pieces None
    → ShowsAll jobs pieces
shows_all jobs pieces count it = record {
  meets = λ rules. (spread pieces, serves);
  in_order = subst AreInOrder (sym it.stretch) (stretches_in_order 0 (edf jobs));
  edf = it.stretch;
  count = it.count;
  serves = serves;
} where
  again : (k : ℕ) × (edf jobs ≡ spread (stretches (edf jobs)) ++ replicate k idle)
  again = spread_again 0 (edf jobs)

  in_pieces : (n_j : ℕ × JobFacts) → IsMember n_j (enumerate_from 0 jobs) → IsTrue (is_served (edf jobs) n_j)
      ⊎ IsLateBy None n_j.1.deadline
      → IsTrue (is_served (spread pieces) n_j)
  in_pieces n_j member (inr late) = absurd late
  in_pieces n_j member (inl served) =
      let low : n_j.1.work ≤ ticks_given (edf jobs) n_j.0 n_j.1 = leb-true _ _ served in
      let number : n_j.0 < 0 + length jobs = numbers_below 0 jobs n_j member in
      let whole : ticks_given (edf jobs) n_j.0 n_j.1 ≡ ticks_given
      (spread (stretches (edf jobs)) ++ replicate again.0 idle) n_j.0 n_j.1 =
      ap (λ s. ticks_given s n_j.0 n_j.1) again.1 in
      let other : eqb idle n_j.0 ≡ false = ne_eqb idle n_j.0 (λ e. absurd (omega (arith, e, count, number))) in
      let kept : ticks_given (spread (stretches (edf jobs)) ++ replicate again.0 idle) n_j.0 n_j.1
      ≤ ticks_given (spread (stretches (edf jobs))) n_j.0 n_j.1 =
      given_without (λ m. eqb m n_j.0) idle n_j.1.release n_j.1.deadline again.0
      (spread (stretches (edf jobs))) other in
      subst (λ (ps : List Piece). IsTrue (is_served (spread ps) n_j)) (sym it.stretch)
      (le-leb n_j.1.work (ticks_given (spread (stretches (edf jobs))) n_j.0 n_j.1) (omega (arith, low, whole, kept)))

  serves : ServesAll jobs pieces
  serves = each_all (λ n_j. IsTrue (is_served (spread pieces) n_j)) (enumerate_from 0 jobs)
      (λ n_j member. in_pieces n_j member (it.served n_j member))

-- ---- not all can be served

-- where each job that is due by b is served, no window to b is overfull
served_fit : (jobs : List JobFacts) (s : List ℕ) (a b : ℕ)
    → Each (λ n_j. n_j.1.deadline ≤ b → IsTrue (is_served s n_j)) (enumerate_from 0 jobs)
    → sum_by (asked a b) jobs ≤ b - a
served_fit jobs s a b served =
    let less : sum_by (λ n_j. asked a b n_j.1) (enumerate_from 0 jobs)
    ≤ sum_by (λ n_j. count_by (λ m. eqb m n_j.0) (drop a (take b s))) (enumerate_from 0 jobs) =
    sum_le (λ n_j. asked a b n_j.1) (λ n_j. count_by (λ m. eqb m n_j.0) (drop a (take b s))) (enumerate_from 0 jobs)
    (λ n_j member. by_test n_j (served n_j member) (is_inside a b n_j.1) refl) in
    omega (
      arith,
      one_name_per_tick (drop a (take b s)) 0 jobs,
      sum_numbered (asked a b) 0 jobs,
      length-drop a (take b s),
      length-take b s,
    ) where
      by_test : (n_j : ℕ × JobFacts) → (n_j.1.deadline ≤ b → IsTrue (is_served s n_j)) → (t : Bool)
          → is_inside a b n_j.1 ≡ t
          → cond t n_j.1.work 0 ≤ count_by (λ m. eqb m n_j.0) (drop a (take b s))
      by_test n_j met true is_in =
          let both : (nat_le a n_j.1.release ≡ true) × (nat_le n_j.1.deadline b ≡ true) =
          and_parts (nat_le a n_j.1.release) (nat_le n_j.1.deadline b) is_in in
          let low : n_j.1.work ≤ ticks_given s n_j.0 n_j.1 = leb-true _ _ (met (leb-true _ _ both.1)) in
          omega (
            arith,
            low,
            given_less (λ m. eqb m n_j.0) s n_j.1.release n_j.1.deadline a b (leb-true _ _ both.0)
                (leb-true _ _ both.1),
          )
      by_test n_j met false out = omega arith

-- where some job is late, a window to the least late deadline shows it
pub shows_window : (jobs : List JobFacts) (pieces : List Piece) (a b work : ℕ) → IsWhole jobs pieces (Some b)
    → IsRelease jobs a
    → IsOverfull jobs a b (work_inside jobs a b) → ((c w : ℕ) → IsOverfull jobs c b w → c ≤ a)
    → work ≡ work_inside jobs a b
    → ShowsWindow jobs a b work
shows_window jobs pieces a b work it release over last same = record {
  unmet = λ rules. overfull_excludes (record { rules = rules; jobs = jobs }) a b (work_inside jobs a b) over;
  overfull = subst (λ w. IsOverfull jobs a b w) (sym same) over;
  end = it.shown.0;
  first_end = λ c d w other. by_end c d w other (cases_lt d b);
  start = release;
  last_start = last;
} where
  met : (d : ℕ) → d < b → (n_j : ℕ × JobFacts) → IsTrue (is_served (edf jobs) n_j) ⊎ IsLateBy (Some b) n_j.1.deadline
      → n_j.1.deadline ≤ d
      → IsTrue (is_served (edf jobs) n_j)
  met d less n_j (inl served) due = served
  met d less n_j (inr late) due = absurd (omega (arith, late))

  by_end : (c d w : ℕ) → IsOverfull jobs c d w → (d < b) ⊎ (b ≤ d) → b ≤ d
  by_end c d w other (inr low) = low
  by_end c d w other (inl less) = absurd (omega (
    arith,
    other.work,
    other.too_much,
    work_is jobs c d,
    served_fit jobs (edf jobs) c d (λ n_j member. met d less n_j (it.served n_j member)),
  ))
