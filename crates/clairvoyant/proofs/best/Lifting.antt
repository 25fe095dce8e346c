-- Schedules of the jobs of a set, under their places there and under their numbers among all jobs.
use Rattle.std.proofs.Common.{◌≡◌, ℕ, suc, zero, ◌+◌, ◌-◌, ◌≤◌, ◌<◌, inl, inr, List, [], ◌∷◌, ◌++◌, length, get_or, map}
use Rattle.std.proofs.Common.{refl, sym, ap, ◌∙◌, subst, arith, cond, eqb, Bool, true, false, IsTrue, replicate, Some}
use Rattle.std.proofs.Common.{None, Option, slice_get, IfSome, ◌&&◌, ◌==◌}
use Rattle.std.specs.List.{enumerate_from, cons_option, AllByRecursion}
use Rattle.std.proofs.lemmas.List.{map-append}
use Rattle.dover_model.specs.Common.{JobFacts, is_served, IsMember, Each, spread, stretches}
use Rattle.dover_model.proofs.rest.Parting.{served_map}
use Rattle.dover_model.specs.declared.pieces.Piece.{Piece}
use Rattle.dover_model.specs.Pieces.{spread_from, stretches_from, with_tick}
use Rattle.clairvoyant.specs.best.BestSet.{RiseWithin, Serves, jobs_at, renumbered}
use Rattle.clairvoyant.proofs.best.Values.{Has, has}
use Rattle.dover_model.proofs.valid.ValidParts.{ReleasesInOrder}

-- the jobs of a set, one by one
pub jobs_cons : (jobs : List JobFacts) (n : ℕ) (j : JobFacts) (chosen : List ℕ) → slice_get jobs n ≡ Some j
    → jobs_at jobs (n ∷ chosen) ≡ j ∷ jobs_at jobs chosen
jobs_cons jobs n j chosen at = ap (λ o. cons_option o (jobs_at jobs chosen)) at

pub jobs_append : (jobs : List JobFacts) (chosen more : List ℕ)
    → jobs_at jobs (chosen ++ more) ≡ jobs_at jobs chosen ++ jobs_at jobs more
jobs_append jobs [] more = refl
jobs_append jobs (n ∷ chosen) more = by_option (slice_get jobs n) (jobs_append jobs chosen more) where
  by_option : (o : Option JobFacts) → jobs_at jobs (chosen ++ more) ≡ jobs_at jobs chosen ++ jobs_at jobs more
      → cons_option o (jobs_at jobs (chosen ++ more)) ≡ cons_option o (jobs_at jobs chosen) ++ jobs_at jobs more
  by_option None same = same
  by_option (Some j) same = ap (λ js. j ∷ js) same

-- there are as many as numbers, at most
pub jobs_few : (jobs : List JobFacts) (chosen : List ℕ) → length (jobs_at jobs chosen) ≤ length chosen
jobs_few jobs [] = omega arith
jobs_few jobs (n ∷ chosen) = by_option (slice_get jobs n) (jobs_few jobs chosen) where
  by_option : (o : Option JobFacts) → length (jobs_at jobs chosen) ≤ length chosen
      → length (cons_option o (jobs_at jobs chosen)) ≤ suc (length chosen)
  by_option None less = omega arith
  by_option (Some j) less = omega arith

-- ---- from places to numbers

-- where the jobs of a set are served under their places, they are served under their numbers
pub lift : (jobs : List JobFacts) (f : ℕ → ℕ) (s : List ℕ) (k low : ℕ) (chosen : List ℕ)
    → RiseWithin low (length jobs) chosen
    → ((i : ℕ) → i < length chosen → f (k + i) ≡ get_or chosen i 0)
    → AllByRecursion (λ n_j. IsTrue (is_served s n_j)) (enumerate_from k (jobs_at jobs chosen))
    → Each (Serves jobs (map f s)) chosen
lift jobs f s k low [] rise to all n member = absurd member
lift jobs f s k low (c ∷ chosen) rise to all n member =
    with_job (has jobs c rise.1)
    (lift jobs f s (k + 1) (suc c) chosen rise.2 (λ i short. shifted i short)) n member where
      shifted : (i : ℕ) → i < length chosen → f (k + 1 + i) ≡ get_or chosen i 0
      shifted i short = ap f (let e : k + 1 + i ≡ k + suc i = omega arith in e) ∙ to (suc i) (omega arith)

      with_job : Has jobs c
          → (AllByRecursion (λ n_j. IsTrue (is_served s n_j)) (enumerate_from (k + 1) (jobs_at jobs chosen))
          → Each (Serves jobs (map f s)) chosen)
          → Each (Serves jobs (map f s)) (c ∷ chosen)
      with_job it rest = each where
        both : AllByRecursion (λ n_j. IsTrue (is_served s n_j)) (enumerate_from k (it.job ∷ jobs_at jobs chosen))
        both = subst (λ js. AllByRecursion (λ n_j. IsTrue (is_served s n_j)) (enumerate_from k js))
            (jobs_cons jobs c it.job chosen it.at) all

        here : f k ≡ c
        here = ap f (let e : k ≡ k + 0 = omega arith in e) ∙ to 0 (omega arith)

        each : Each (Serves jobs (map f s)) (c ∷ chosen)
        each m (inl e) = subst (Serves jobs (map f s)) (sym e)
            (subst (λ o. IfSome o (λ j. IsTrue (is_served (map f s) (c, j)))) (sym it.at)
            (served_map f s k c it.job here both.0))
        each m (inr later) = rest both.1 m later

-- and the other way round
pub lower : (jobs : List JobFacts) (g : ℕ → ℕ) (s : List ℕ) (k low : ℕ) (chosen : List ℕ)
    → RiseWithin low (length jobs) chosen
    → ((i : ℕ) → i < length chosen → g (get_or chosen i 0) ≡ k + i) → Each (Serves jobs s) chosen
    → AllByRecursion (λ n_j. IsTrue (is_served (map g s) n_j)) (enumerate_from k (jobs_at jobs chosen))
lower jobs g s k low [] rise to all = tt
lower jobs g s k low (c ∷ chosen) rise to all =
    with_job (has jobs c rise.1)
    (lower jobs g s (k + 1) (suc c) chosen rise.2 (λ i short. shifted i short) (λ m later. all m (inr later))) where
      shifted : (i : ℕ) → i < length chosen → g (get_or chosen i 0) ≡ k + 1 + i
      shifted i short = to (suc i) (omega arith) ∙ (let e : k + suc i ≡ k + 1 + i = omega arith in e)

      with_job : Has jobs c → AllByRecursion (λ n_j. IsTrue (is_served (map g s) n_j))
          (enumerate_from (k + 1) (jobs_at jobs chosen))
          → AllByRecursion (λ n_j. IsTrue (is_served (map g s) n_j)) (enumerate_from k (jobs_at jobs (c ∷ chosen)))
      with_job it rest = subst (λ js. AllByRecursion (λ n_j. IsTrue (is_served (map g s) n_j)) (enumerate_from k js))
          (sym (jobs_cons jobs c it.job chosen it.at)) (
            served_map g s c k it.job (to 0 (omega arith) ∙ (let e : k + 0 ≡ k = omega arith in e))
                (subst (λ o. IfSome o (λ j. IsTrue (is_served s (c, j)))) it.at (all c (inl refl))),
            rest,
          )

-- ---- pieces

-- the number at a place, where an idle tick stays idle
abbrev pub number_at : List ℕ → ℕ → ℕ
number_at chosen n = cond (eqb n 4_000_000_000) 4_000_000_000 (get_or chosen n 0)

-- stretches are not idle
pub busy_stretches : (t : ℕ) (s : List ℕ)
    → Each (λ (p : Piece). eqb p.number 4_000_000_000 ≡ false) (stretches_from t s)
busy_stretches t [] p member = absurd member
busy_stretches t (n ∷ s) piece among = by_test (eqb n 4_000_000_000) refl (busy_stretches (t + 1) s) piece among where
  with_front : (pieces : List Piece) → eqb n 4_000_000_000 ≡ false
      → Each (λ (p : Piece). eqb p.number 4_000_000_000 ≡ false) pieces
      → Each (λ (p : Piece). eqb p.number 4_000_000_000 ≡ false) (with_tick t n pieces)
  with_front [] busy all p (inl e) = ap (λ (q : Piece). eqb q.number 4_000_000_000) e ∙ busy
  with_front [] busy all p (inr member) = absurd member
  with_front (first ∷ pieces) busy all p member = by_join ((first.number == n) && (first.from == t + 1)) member where
    by_join : (b : Bool) → IsMember p
        (cond b (record first { from = t } ∷ pieces) (record { from = t; until = t + 1; number = n } ∷ first ∷ pieces))
        → eqb p.number 4_000_000_000 ≡ false
    by_join true (inl e) = ap (λ (q : Piece). eqb q.number 4_000_000_000) e ∙ all first (inl refl)
    by_join true (inr later) = all p (inr later)
    by_join false (inl e) = ap (λ (q : Piece). eqb q.number 4_000_000_000) e ∙ busy
    by_join false (inr later) = all p later

  by_test : (b : Bool) → eqb n 4_000_000_000 ≡ b
      → Each (λ (p : Piece). eqb p.number 4_000_000_000 ≡ false) (stretches_from (t + 1) s)
      → Each (λ (p : Piece). eqb p.number 4_000_000_000 ≡ false)
      (cond b (stretches_from (t + 1) s) (with_tick t n (stretches_from (t + 1) s)))
  by_test true idle all p member = all p member
  by_test false busy all p member = with_front (stretches_from (t + 1) s) busy all p member

map_replicate : (f : ℕ → ℕ) (k n : ℕ) → map f (replicate k n) ≡ replicate k (f n)
map_replicate f zero n = refl
map_replicate f (suc k) n = ap (λ ns. f n ∷ ns) (map_replicate f k n)

-- what renumbered pieces spread is what the pieces spread, under other numbers
spread_renumbered : (chosen : List ℕ) (t : ℕ) (pieces : List Piece)
    → Each (λ (p : Piece). eqb p.number 4_000_000_000 ≡ false) pieces
    → spread_from t (map (renumbered chosen) pieces) ≡ map (number_at chosen) (spread_from t pieces)
spread_renumbered chosen t [] busy = refl
spread_renumbered chosen t (piece ∷ pieces) busy =
    let rest : spread_from piece.until (map (renumbered chosen) pieces) ≡ map (number_at chosen)
    (spread_from piece.until pieces) =
    spread_renumbered chosen piece.until pieces (λ p m. busy p (inr m)) in
    let here : get_or chosen piece.number 0 ≡ number_at chosen piece.number =
    ap (λ b. cond b 4_000_000_000 (get_or chosen piece.number 0)) (sym (busy piece (inl refl))) in
    ap (λ ns. replicate {A = ℕ} (piece.from - t) 4_000_000_000 ++ replicate (piece.until - piece.from)
    (get_or chosen piece.number 0) ++ ns) rest
    ∙ ap (λ m. replicate {A = ℕ} (piece.from - t) 4_000_000_000 ++ replicate (piece.until - piece.from) m ++ map
    (number_at chosen) (spread_from piece.until pieces)) here
    ∙ sym (map-append (number_at chosen)
    (replicate {A = ℕ} (piece.from - t) 4_000_000_000 ++ replicate (piece.until - piece.from) piece.number)
    (spread_from piece.until pieces)
    ∙ ap (λ ns. ns ++ map (number_at chosen) (spread_from piece.until pieces))
    (map-append (number_at chosen) (replicate {A = ℕ} (piece.from - t) 4_000_000_000)
    (replicate (piece.until - piece.from) piece.number)
    ∙ ap (λ ns. ns ++ map (number_at chosen) (replicate (piece.until - piece.from) piece.number))
    (map_replicate (number_at chosen) (piece.from - t) 4_000_000_000)
    ∙ ap (λ ns. replicate {A = ℕ} (piece.from - t) 4_000_000_000 ++ ns)
    (map_replicate (number_at chosen) (piece.until - piece.from) piece.number)))

pub spread_is : (chosen : List ℕ) (s : List ℕ)
    → spread (map (renumbered chosen) (stretches s)) ≡ map (number_at chosen) (spread (stretches s))
spread_is chosen s = spread_renumbered chosen 0 (stretches s) (busy_stretches 0 s)

-- ---- in order

-- of two numbers the smaller one is released first
order_pair : (jobs : List JobFacts) → ReleasesInOrder jobs → (n m : ℕ) (j i : JobFacts) → n < m
    → slice_get jobs n ≡ Some j
    → slice_get jobs m ≡ Some i
    → j.release ≤ i.release
order_pair [] order n m j i less at there = absurd (let e : None ≡ Some j = at in cc)
order_pair (k ∷ jobs) order zero zero j i less at there = absurd (omega arith)
order_pair (k ∷ jobs) order zero (suc m) j i less at there =
    let same : k ≡ j = cc in subst (λ (x : JobFacts). x.release ≤ i.release) same (later jobs m order.0 there) where
      later : (js : List JobFacts) (m : ℕ) → AllByRecursion (λ x. k.release ≤ x.release) js → slice_get js m ≡ Some i
          → k.release ≤ i.release
      later [] m all there = absurd (let e : None ≡ Some i = there in cc)
      later (x ∷ js) zero all there = let same : x ≡ i = cc in
          subst (λ (y : JobFacts). k.release ≤ y.release) same all.0
      later (x ∷ js) (suc m) all there = later js m all.1 there
order_pair (k ∷ jobs) order (suc n) zero j i less at there = absurd (omega arith)
order_pair (k ∷ jobs) order (suc n) (suc m) j i less at there = order_pair jobs order.1 n m j i (omega arith) at there

-- the jobs of a set are in order
pub order_at : (jobs : List JobFacts) → ReleasesInOrder jobs → (low : ℕ) (chosen : List ℕ)
    → RiseWithin low (length jobs) chosen
    → ReleasesInOrder (jobs_at jobs chosen)
order_at jobs order low [] rise = tt
order_at jobs order low (c ∷ chosen) rise =
    with_job (has jobs c rise.1) (order_at jobs order (suc c) chosen rise.2) where
      after : (j : JobFacts) → slice_get jobs c ≡ Some j → (next : ℕ) (more : List ℕ) → c < next
          → RiseWithin next (length jobs) more
          → AllByRecursion (λ x. j.release ≤ x.release) (jobs_at jobs more)
      after j at next [] less rising = tt
      after j at next (m ∷ more) less rising =
          of_next (has jobs m rising.1)
          (after j at (suc m) more (let from : next ≤ m = rising.0 in omega arith) rising.2) where
            of_next : Has jobs m → AllByRecursion (λ x. j.release ≤ x.release) (jobs_at jobs more)
                → AllByRecursion (λ x. j.release ≤ x.release) (jobs_at jobs (m ∷ more))
            of_next it rest = subst (AllByRecursion (λ x. j.release ≤ x.release))
                (sym (jobs_cons jobs m it.job more it.at))
                (order_pair jobs order c m j it.job (let from : next ≤ m = rising.0 in omega arith) at it.at, rest)

      with_job : Has jobs c → ReleasesInOrder (jobs_at jobs chosen) → ReleasesInOrder (jobs_at jobs (c ∷ chosen))
      with_job it rest = subst ReleasesInOrder (sym (jobs_cons jobs c it.job chosen it.at))
          (after it.job it.at (suc c) chosen (omega arith) rise.2, rest)
