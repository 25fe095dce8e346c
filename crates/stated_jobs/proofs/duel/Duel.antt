-- Every on-line scheduler loses on a front of these jobs.
use Rattle.std.proofs.Common.{◌≡◌, ℕ, zero, suc, ◌+◌, ◌-◌, ◌*◌, ◌≤◌, ◌<◌, List, [], ◌∷◌, refl, sym, ap, ◌∙◌, subst}
use Rattle.std.proofs.Common.{length, arith, Some, None, replicate, slice_get, Option, sum}
use Rattle.std.specs.List.{AllByRecursion}
use Rattle.std.proofs.lemmas.Nat.{mul-le}
use Rattle.dover_model.specs.Common.{JobFacts, Fraction, known_at}
use Rattle.dover_model.specs.declared.events.Version.{Version}
use Rattle.dover_model.proofs.bound.Calculus.{cancel}
use Rattle.dover_model.proofs.valid.Valid.{Split, split_known, valid_front}
use Rattle.stated_jobs.specs.duel.Links.{IsTooMuch, staying, leaving}
use Rattle.stated_jobs.specs.duel.Game.{ArePlain, AreValid, Scheduler, IsOnline, Loses, LosesOnFront}
use Rattle.stated_jobs.proofs.duel.Phases.{jobs_from, path, plan, reward, first_of, end_of, AreTraps}
use Rattle.stated_jobs.proofs.duel.Served.{Numbered, OnlyThis, only_one, parts}
use Rattle.stated_jobs.proofs.duel.Fronts.{Leaves, leaves_from, known_numbered, path_known, sum_cons}
use Rattle.stated_jobs.proofs.duel.Judging.{judge_all, reward_least}
use Rattle.stated_jobs.proofs.duel.Planning.{plan_worth}
use Rattle.stated_jobs.proofs.duel.Plain.{order, plain_whole, plain_front, known_before}
use Rattle.stated_jobs.proofs.duel.Ends.{IsLast, link, first_work, ends, stays, works, cheap}
use Rattle.dover_model.proofs.valid.ValidParts.{valid_parts}
use Rattle.dover_model.proofs.valid.JobLimits.{ratio_limits}

-- the number that a place names, if it names one
named_by : (x : Option ℕ) → (n : ℕ) × ((m : ℕ) → x ≡ Some m → m ≡ n)
named_by None = (0, λ m e. absurd (none m e)) where
  none : (m : ℕ) → None ≡ Some m → ⊥
  none m e = absurd (cc)
named_by (Some n) = (n, λ m e. same m e) where
  same : (m : ℕ) → Some n ≡ Some m → m ≡ n
  same m e = cc

first_some : (p q a b t : ℕ) (phases : List (List ℕ)) (last : ℕ) → AreTraps p q a b t phases last
    → 1 ≤ first_of phases last
first_some p q a b t [] last traps = traps.0
first_some p q a b t (gs ∷ rest) last traps = omega arith

module _ (kind : List JobFacts → Type 0) (k : Fraction) (a b : ℕ) (some_q : 1 ≤ k.q) (ratio : k.q ≤ k.p)
    (some_b : 1 ≤ b)
    (scheduler : Scheduler) (online : IsOnline kind scheduler) where
  module _ (phases : List (List ℕ)) (last : ℕ) (traps : AreTraps k.p k.q a b 0 phases last)
      (fine : kind (jobs_from k.p k.q 0 phases last))
      (fine_front : (tick : ℕ) → kind (known_at tick (jobs_from k.p k.q 0 phases last))) where
    abbrev whole : List JobFacts
    whole = jobs_from k.p k.q 0 phases last

    -- on a front the schedule leaves the path at the same tick
    on_front : (tick : ℕ) → Leaves (scheduler whole) (path 0 0 phases) (end_of 0 phases) tick
        → Leaves (scheduler (known_at tick whole)) (path 0 0 phases) (end_of 0 phases) tick
    on_front tick leaves = record {
      early = leaves.early;
      before = λ u less. (same u (omega (arith, less))).0 (leaves.before u less);
      off = λ less named. leaves.off less ((same tick (omega arith)).1 named);
    } where
      known : (m n : ℕ) → m < 0 + n → m < n
      known m n less = omega (arith, less)

      same : (u : ℕ) → u ≤ tick
          → ((slice_get (scheduler whole) u ≡ Some (path 0 0 phases u))
          → (slice_get (scheduler (known_at tick whole)) u ≡ Some (path 0 0 phases u)))
          × ((slice_get (scheduler (known_at tick whole)) u ≡ Some (path 0 0 phases u))
          → (slice_get (scheduler whole) u ≡ Some (path 0 0 phases u)))
      same u early = online u whole (known_at tick whole) fine (fine_front tick) (sym (known_before u tick whole early))
          (path 0 0 phases u) (known (path 0 0 phases u) (length (known_at u whole))
          (path_known k.p k.q 0 0 phases last u u (omega arith) (omega arith)))

    front_loses : (tick : ℕ) → Leaves (scheduler whole) (path 0 0 phases) (end_of 0 phases) tick
        → LosesOnFront k a b scheduler whole
    front_loses tick leaves = record {
      tick = tick;
      beaten = record { schedule = plan 0 0 phases last tick; less = less };
    } where
      x : (n : ℕ) × ((m : ℕ) → slice_get (scheduler (known_at tick whole)) tick ≡ Some m → m ≡ n)
      x = named_by (slice_get (scheduler (known_at tick whole)) tick)

      some : 1 ≤ b * reward k.p k.q 0 phases last tick
      some =
          let least : k.p * 0 + k.q * first_of phases last ≤ reward k.p k.q 0 phases last tick =
          reward_least k.p k.q a b 0 phases last tick traps in
          let one : 1 * 1 ≤ k.q * first_of phases last =
          mul-le 1 1 k.q (first_of phases last) some_q (first_some k.p k.q a b 0 phases last traps) in
          mul-le 1 1 b (reward k.p k.q 0 phases last tick) some_b (omega (arith, least, one))

      judged : Numbered (OnlyThis (scheduler (known_at tick whole)) x.0 a (b * reward k.p k.q 0 phases last tick)) 0
          (known_at tick whole)
      judged = known_numbered
          (OnlyThis (scheduler (known_at tick whole)) x.0 a (b * reward k.p k.q 0 phases last tick)) tick 0 whole
          (order k ratio a b 0 phases last)
          (judge_all _ _ _ _ _ _ _ (on_front tick leaves) x.1 _ _ _ _ _ _ _ _ traps refl refl (λ u late. refl)
          (λ early. refl))

      less : a * parts (scheduler (known_at tick whole)) 0 (known_at tick whole)
          < b * parts (plan 0 0 phases last tick) 0 (known_at tick whole)
      less =
          let got : a * parts (scheduler (known_at tick whole)) 0 (known_at tick whole)
          < b * reward k.p k.q 0 phases last tick =
          only_one _ _ _ _ _ _ some judged in
          let worth : reward k.p k.q 0 phases last tick
          ≤ k.p * 0 + parts (plan 0 0 phases last tick) 0 (known_at tick whole) =
          plan_worth k.p k.q 0 0 phases last tick (plan 0 0 phases last tick) (omega arith) refl in
          let times : b * reward k.p k.q 0 phases last tick
          ≤ b * (k.p * 0 + parts (plan 0 0 phases last tick) 0 (known_at tick whole)) =
          mul-le b (reward k.p k.q 0 phases last tick) b
          (k.p * 0 + parts (plan 0 0 phases last tick) 0 (known_at tick whole)) (omega arith) worth in
          omega (arith, got, times)

    pub loses : LosesOnFront k a b scheduler whole
    loses = let found = leaves_from (scheduler whole) (path 0 0 phases) (end_of 0 phases) (end_of 0 phases) 0
        (omega arith) (λ u less. absurd (omega (arith, less))) in front_loses found.0 found.1

-- ---- the links as lists of small jobs

-- so many links from a number on, the last left out, each with small jobs of one tick
abbrev phases_from : (Fraction) → (a b n count : ℕ) → List (List ℕ)
phases_from k a b n zero = []
phases_from k a b n (suc count) =
    replicate ((link k a b (first_work k b) n).1 - 1) 1 ∷ phases_from k a b (suc n) count

sum_ones : (m : ℕ) → sum (replicate m 1) ≡ m
sum_ones zero = refl
sum_ones (suc m) = sum_cons 1 (replicate m 1) ∙ ap (λ n. 1 + n) (sum_ones m) ∙ level where
  level : 1 + m ≡ suc m
  level = omega arith

module _ (k : Fraction) (a b : ℕ) (some_q : 1 ≤ k.q) (ratio : k.q ≤ k.p) (some_b : 1 ≤ b) (short : IsTooMuch k a b)
    (n : ℕ) (is_last : IsLast k a b (link k a b (first_work k b) n))
    (on : (m : ℕ) → m < n → leaving k b (link k a b (first_work k b) m) ≤ staying k a (link k a b (first_work k b) m))
  where
    abbrev at : ℕ → ℕ × ℕ
    at m = link k a b (first_work k b) m

    ones : (m most : ℕ) → a * (k.p * 1) < most
        → AllByRecursion (λ g. (1 ≤ g) × (a * (k.p * g) < most)) (replicate m 1)
    ones zero most less = tt
    ones (suc m) most less = ((omega arith, less), ones m most less)

    first_is : (m count : ℕ) → m + count ≡ n → first_of (phases_from k a b m count) (at n).1 ≡ (at m).1
    first_is m zero whole = ap (λ i. (at i).1) (same whole) where
      same : m + 0 ≡ n → n ≡ m
      same whole = omega (arith, whole)
    first_is m (suc count) whole = ap (λ i. i + 1) (sum_ones ((at m).1 - 1)) ∙ level (at m).1
        (works k a b (first_work k b) m (omega arith)) where
          level : (w : ℕ) → 1 ≤ w → w - 1 + 1 ≡ w
          level w some = omega (arith, some)

    traps_from : (m count : ℕ) → m + count ≡ n → AreTraps k.p k.q a b (at m).0 (phases_from k a b m count) (at n).1
    traps_from m zero whole = (
      works k a b (first_work k b) n (omega arith),
      subst (λ i. a * (k.q * (at n).1) < b * (k.p * (at i).0 + k.q * (at n).1)) (same whole) is_last,
    ) where
      same : m + 0 ≡ n → n ≡ m
      same whole = omega (arith, whole)
    traps_from m (suc count) whole = (
      subst (λ i. AllByRecursion (λ g. (1 ≤ g) × (a * (k.p * g) < b * (k.p * (at m).0 + k.q * i)))
          (replicate ((at m).1 - 1) 1)) (sym work) (ones ((at m).1 - 1) (leaving k b (at m))
          (cheap k a b some_q ratio some_b short n on m (omega (arith, whole)))),
      subst (λ i. a * (k.q * i) < b * (k.p * ((at m).0 + sum gs) + k.q * first_of rest (at n).1)) (sym work)
          (subst (λ u. a * (k.q * (at m).1) < b * (k.p * u + k.q * first_of rest (at n).1)) (sym tick)
          (subst (λ i. a * (k.q * (at m).1) < b * (k.p * (at (suc m)).0 + k.q * i)) (sym first) stay)),
      subst (λ i. k.p * (at m).0 + k.q * i ≤ k.p * ((at m).0 + sum gs) + k.q * first_of rest (at n).1) (sym work)
          (subst (λ u. k.p * (at m).0 + k.q * (at m).1 ≤ k.p * u + k.q * first_of rest (at n).1) (sym tick)
          (subst (λ i. k.p * (at m).0 + k.q * (at m).1 ≤ k.p * (at (suc m)).0 + k.q * i) (sym first) rising)),
      subst (λ u. AreTraps k.p k.q a b u rest (at n).1) (sym tick)
          (traps_from (suc m) count (omega (arith, whole))),
    ) where
      gs : List ℕ
      gs = replicate ((at m).1 - 1) 1

      rest : List (List ℕ)
      rest = phases_from k a b (suc m) count

      some : 1 ≤ (at m).1
      some = works k a b (first_work k b) m (omega arith)

      work : sum gs + 1 ≡ (at m).1
      work = ap (λ i. i + 1) (sum_ones ((at m).1 - 1)) ∙ level (at m).1 some where
        level : (w : ℕ) → 1 ≤ w → w - 1 + 1 ≡ w
        level w some = omega (arith, some)

      tick : (at m).0 + sum gs ≡ (at (suc m)).0
      tick = ap (λ i. (at m).0 + i) (sum_ones ((at m).1 - 1)) ∙ level (at m).0 (at m).1 some where
        level : (t w : ℕ) → 1 ≤ w → t + (w - 1) ≡ t + w - 1
        level t w some = omega (arith, some)

      first : first_of rest (at n).1 ≡ (at (suc m)).1
      first = first_is (suc m) count (omega (arith, whole))

      stay : a * (k.q * (at m).1) < b * (k.p * (at (suc m)).0 + k.q * (at (suc m)).1)
      stay = stays k a b (first_work k b) m some_q some_b

      rising : k.p * (at m).0 + k.q * (at m).1 ≤ k.p * (at (suc m)).0 + k.q * (at (suc m)).1
      rising = cancel b (k.p * (at m).0 + k.q * (at m).1) (k.p * (at (suc m)).0 + k.q * (at (suc m)).1) some_b
          (let more : leaving k b (at m) ≤ staying k a (at m) = on m (omega (arith, whole)) in
          omega (arith, more, stay))

-- whatever share a scheduler promises beyond the bound's, it doesn't keep it
pub every_one_loses : (k : Fraction) (a b : ℕ) (scheduler : Scheduler) → 1 ≤ k.q → k.q ≤ k.p → 1 ≤ b → IsTooMuch k a b
    → IsOnline (ArePlain k) scheduler → Loses (ArePlain k) k a b scheduler
every_one_loses k a b scheduler some_q ratio some_b short online =
    let found = ends k a b some_q ratio some_b short in
    let traps = traps_from k a b some_q ratio some_b short found.0 found.1 found.2 0 found.0 (omega arith) in
    let phases = phases_from k a b 0 found.0 in
    let last = (link k a b (first_work k b) found.0).1 in
    let lost = loses (ArePlain k) k a b some_q ratio some_b scheduler online phases last traps
    (plain_whole k ratio a b phases last traps) (λ tick. plain_front k ratio a b phases last tick traps) in
    record {
      jobs = known_at lost.tick (jobs_from k.p k.q 0 phases last);
      fine = plain_front k ratio a b phases last lost.tick traps;
      beaten = lost.beaten;
    }

-- a front of valid jobs is valid
pub valid_known : (version : Version) (k : Fraction) (jobs : List JobFacts) (tick : ℕ) → AreValid version k jobs
    → AreValid version k (known_at tick jobs)
valid_known version k jobs tick valid = by_split (split_known tick jobs (valid_parts valid).in_order) where
  by_split : Split tick jobs → AreValid version k (known_at tick jobs)
  by_split split = valid_front _ _ (subst (λ js. AreValid version k js) split.whole valid)

-- and where the jobs are within the limits, a scheduler of valid jobs loses on a front of them
pub valid_ones_do : (version : Version) (k : Fraction) (a b : ℕ) (scheduler : Scheduler) (phases : List (List ℕ))
    (last : ℕ) → 1 ≤ b → AreTraps k.p k.q a b 0 phases last
    → AreValid version k (jobs_from k.p k.q 0 phases last) → IsOnline (AreValid version k) scheduler
    → LosesOnFront k a b scheduler (jobs_from k.p k.q 0 phases last)
valid_ones_do version k a b scheduler phases last some_b traps valid online =
    loses (AreValid version k) k a b (ratio_limits (valid_parts valid).ratio).least
    (ratio_limits (valid_parts valid).ratio).above_one some_b scheduler online phases last traps
    valid (λ tick. valid_known version k (jobs_from k.p k.q 0 phases last) tick valid)
