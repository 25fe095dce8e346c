-- What a schedule that left the path at a tick can still serve of the jobs released by then.
use Rattle.std.proofs.Common.{◌≡◌, ℕ, suc, ◌+◌, ◌-◌, ◌*◌, ◌≤◌, ◌<◌, ◌⊎◌, inl, inr, List, [], ◌∷◌, cond, sym, ap, ◌∙◌}
use Rattle.std.proofs.Common.{subst, length, arith, Some, slice_get, sum, le-leb}
use Rattle.std.specs.List.{AllByRecursion}
use Rattle.std.proofs.lemmas.Bool.{cases_lt, lt-leb}
use Rattle.std.proofs.lemmas.Nat.{mul-le}
use Rattle.dover_model.specs.Bait.{tight_job}
use Rattle.stated_jobs.specs.duel.Jobs.{smalls}
use Rattle.stated_jobs.proofs.duel.Phases.{jobs_from, path, reward, first_of, end_of, AreTraps}
use Rattle.stated_jobs.proofs.duel.Served.{Numbered, OnlyThis, misses}
use Rattle.stated_jobs.proofs.duel.Fronts.{Leaves, names_or_not, numbered_append, sum_cons, length_smalls, path_here}
use Rattle.stated_jobs.proofs.duel.Fronts.{path_later, path_least, end_least}

-- ---- what the plan is worth

pub reward_here : (p q t : ℕ) (gs : List ℕ) (rest : List (List ℕ)) (last u : ℕ) → u < t + sum gs
    → reward p q t (gs ∷ rest) last u ≡ p * t + q * (sum gs + 1)
reward_here p q t gs rest last u less =
    ap (λ c. cond c (p * t + q * (sum gs + 1)) (reward p q (t + sum gs) rest last u)) (le-leb (suc u) (t + sum gs) less)

pub reward_later : (p q t : ℕ) (gs : List ℕ) (rest : List (List ℕ)) (last u : ℕ) → t + sum gs ≤ u
    → reward p q t (gs ∷ rest) last u ≡ reward p q (t + sum gs) rest last u
reward_later p q t gs rest last u more =
    ap (λ c. cond c (p * t + q * (sum gs + 1)) (reward p q (t + sum gs) rest last u))
    (lt-leb (suc u) (t + sum gs) (omega (arith, more)))

-- it is worth at least what the first link and the small jobs before it are
pub reward_least : (p q a b t : ℕ) (phases : List (List ℕ)) (last u : ℕ) → AreTraps p q a b t phases last
    → p * t + q * first_of phases last ≤ reward p q t phases last u
reward_least p q a b t [] last u traps = omega arith
reward_least p q a b t (gs ∷ rest) last u traps = by_order (cases_lt u (t + sum gs))
    (reward_least p q a b (t + sum gs) rest last u traps.3) where
      by_order : (u < t + sum gs) ⊎ (t + sum gs ≤ u)
          → p * (t + sum gs) + q * first_of rest last ≤ reward p q (t + sum gs) rest last u
          → p * t + q * first_of (gs ∷ rest) last ≤ reward p q t (gs ∷ rest) last u
      by_order (inl less) later =
          subst (λ m. p * t + q * (sum gs + 1) ≤ m) (sym (reward_here p q t gs rest last u less)) (omega arith)
      by_order (inr more) later =
          subst (λ m. p * t + q * (sum gs + 1) ≤ m) (sym (reward_later p q t gs rest last u more))
          (omega (arith, later, traps.2))

-- ---- one job

module _ (s : List ℕ) (way : ℕ → ℕ) (until tick x a most : ℕ) (leaves : Leaves s way until tick)
    (named : (m : ℕ) → slice_get s tick ≡ Some m → m ≡ x) where
  -- a job whose last tick isn't its own on the path, and which is worth too little or runs on the path
  pub judge : (n t w d : ℕ) → 1 ≤ w → t ≤ tick → (until ≤ t + w - 1) ⊎ (way (t + w - 1) ≡ n → ⊥)
      → ((n ≡ way tick) × (tick < until)) ⊎ (a * (d * w) < most)
      → OnlyThis s x a most n (tight_job t w d)
  judge n t w d some early last worth = by_order (cases_lt (t + w - 1) tick) last worth where
    some_other : (m : ℕ) → slice_get s (t + w - 1) ≡ Some m → (m ≡ n → ⊥) → slice_get s (t + w - 1) ≡ Some n → ⊥
    some_other m is other named = other (same m n (sym is ∙ named)) where
      same : (m n : ℕ) → Some m ≡ Some n → m ≡ n
      same m n e = cc

    by_worth : slice_get s tick ≡ Some n → ((n ≡ way tick) × (tick < until)) ⊎ (a * (d * w) < most)
        → (n ≡ x) × (a * (d * w) < most)
    by_worth here (inl (on, less)) = absurd (leaves.off less (here ∙ ap (λ m. Some m) on))
    by_worth here (inr less) = (named n here, less)

    by_order : (t + w - 1 < tick) ⊎ (tick ≤ t + w - 1) → (until ≤ t + w - 1) ⊎ (way (t + w - 1) ≡ n → ⊥)
        → ((n ≡ way tick) × (tick < until)) ⊎ (a * (d * w) < most) → OnlyThis s x a most n (tight_job t w d)
    by_order (inl less) (inl past) worth = absurd (omega (arith, less, past, leaves.early))
    by_order (inl less) (inr other) worth = inl (misses s n t w d (t + w - 1) (omega (arith, some))
        (omega (arith, some)) (some_other (way (t + w - 1)) (leaves.before (t + w - 1) less) other))
    by_order (inr more) last worth = elim (names_or_not (slice_get s tick) n) [
      | inl here ↦ inr (by_worth here worth)
      | inr other ↦ inl (misses s n t w d tick early (omega (arith, more, some)) other)
    ]

  -- ---- all jobs

  -- the small jobs of a link of number o
  judge_smalls : (p o t r n : ℕ) (gs : List ℕ) → o < n → t ≤ r
      → AllByRecursion (λ g. (1 ≤ g) × (a * (p * g) < most)) gs
      → ((u : ℕ) → t ≤ u → u < r + sum gs → way u ≡ o)
      → Numbered (λ m j. j.release ≤ tick → OnlyThis s x a most m j) n (smalls p r gs)
  judge_smalls p o t r n [] more late all on = tt
  judge_smalls p o t r n (g ∷ gs) more late all on = (
    λ early. judge n r g p all.0.0 early (inr (λ is. other (sum (g ∷ gs)) (sum gs) (sum_cons g gs) is))
        (inr all.0.1),
    judge_smalls p o t (r + g) (suc n) gs (omega (arith, more)) (omega (arith, late)) all.1
        (λ u low high. on u low (within u (sum (g ∷ gs)) (sum gs) (sum_cons g gs) high)),
  ) where
    within : (u sums rest : ℕ) → sums ≡ g + rest → u < r + g + rest → u < r + sums
    within u sums rest is less = omega (arith, is, less)

    other : (sums rest : ℕ) → sums ≡ g + rest → way (r + g - 1) ≡ n → ⊥
    other sums rest is same =
        let here : way (r + g - 1) ≡ o = on (r + g - 1) (omega (arith, late, all.0.0))
        (inside (sum (g ∷ gs)) (sum gs) (sum_cons g gs)) in omega (arith, here, same, more) where
          inside : (sums rest : ℕ) → sums ≡ g + rest → r + g - 1 < r + sums
          inside sums rest is = omega (arith, is, all.0.0)

  pub judge_all : (p q b reached o t : ℕ) (phases : List (List ℕ)) (last : ℕ) → AreTraps p q a b t phases last
      → most ≡ b * reached → until ≡ end_of t phases
      → ((u : ℕ) → t ≤ u → way u ≡ path o t phases u)
      → (t ≤ tick → reached ≡ reward p q t phases last tick)
      → Numbered (λ m j. j.release ≤ tick → OnlyThis s x a most m j) o (jobs_from p q t phases last)
  judge_all p q b reached o t [] last traps is ends on worth = (
    λ early. judge o t last q traps.0 early (inl (omega (arith, ends, traps.0)))
        (inr (subst (λ m. a * (q * last) < m) (sym (is ∙ ap (λ r. b * r) (worth early))) traps.1)),
    tt,
  )
  judge_all p q b reached o t (gs ∷ rest) last traps is ends on worth = (
    λ early. judge _ _ _ _ (omega arith) early (inr (λ same. other same)) (value early (cases_lt tick (t + sum gs))),
    numbered_append (λ m j. j.release ≤ tick → OnlyThis s x a most m j) (suc o) (smalls p t gs)
        (jobs_from p q (t + sum gs) rest last) (front (cases_lt tick t))
        (subst (λ m. Numbered (λ m j. j.release ≤ tick → OnlyThis s x a most m j) m
        (jobs_from p q (t + sum gs) rest last)) number
        (judge_all p q b reached (o + 1 + length gs) (t + sum gs) rest last traps.3 is ends
        (λ u late. on u (omega (arith, late)) ∙ path_later o t gs rest u late)
        (λ late. worth (omega (arith, late)) ∙ reward_later p q t gs rest last tick late))),
  ) where
    number : o + 1 + length gs ≡ suc o + length (smalls p t gs)
    number = level (length gs) (length (smalls p t gs)) (length_smalls p t gs) where
      level : (m n : ℕ) → n ≡ m → o + 1 + m ≡ suc o + n
      level m n is = omega (arith, is)

    last_tick : t + (sum gs + 1) - 1 ≡ t + sum gs
    last_tick = level (sum gs) where
      level : (m : ℕ) → t + (m + 1) - 1 ≡ t + m
      level m = omega arith

    other : way (t + (sum gs + 1) - 1) ≡ o → ⊥
    other same = level (path (o + 1 + length gs) (t + sum gs) rest (t + sum gs)) (length gs)
        (path_least (o + 1 + length gs) (t + sum gs) rest (t + sum gs))
        (sym (path_later o t gs rest (t + sum gs) (omega arith)) ∙ sym (on (t + sum gs) (omega arith))
        ∙ ap (λ u. way u) (sym last_tick) ∙ same) where
          level : (m n : ℕ) → o + 1 + n ≤ m → m ≡ o → ⊥
          level m n more is = omega (arith, more, is)

    value : t ≤ tick → (tick < t + sum gs) ⊎ (t + sum gs ≤ tick)
        → ((o ≡ way tick) × (tick < until)) ⊎ (a * (q * (sum gs + 1)) < most)
    value early (inl less) = inl (
      sym (on tick early ∙ path_here o t gs rest tick less),
      before (end_of (t + sum gs) rest) ends (end_least (t + sum gs) rest) less,
    ) where
      before : (e : ℕ) → until ≡ e → t + sum gs ≤ e → tick < t + sum gs → tick < until
      before e is least less = omega (arith, is, least, less)
    value early (inr more) = inr
        (let least : p * (t + sum gs) + q * first_of rest last ≤ reward p q (t + sum gs) rest last tick =
        reward_least p q a b (t + sum gs) rest last tick traps.3 in
        let times : b * (p * (t + sum gs) + q * first_of rest last)
        ≤ b * reward p q (t + sum gs) rest last tick =
        mul-le b (p * (t + sum gs) + q * first_of rest last) b (reward p q (t + sum gs) rest last tick)
        (omega arith) least in
        subst (λ m. a * (q * (sum gs + 1)) < m) (sym (is ∙ ap (λ r. b * r) (worth early
        ∙ reward_later p q t gs rest last tick more))) (omega (arith, times, traps.1)))

    cheap : t ≤ tick → (g : ℕ) → a * (p * g) < b * (p * t + q * (sum gs + 1)) → a * (p * g) < most
    cheap early g less =
        let least : p * t + q * (sum gs + 1) ≤ reward p q t (gs ∷ rest) last tick =
        reward_least p q a b t (gs ∷ rest) last tick traps in
        let times : b * (p * t + q * (sum gs + 1)) ≤ b * reward p q t (gs ∷ rest) last tick =
        mul-le b (p * t + q * (sum gs + 1)) b (reward p q t (gs ∷ rest) last tick) (omega arith) least in
        subst (λ m. a * (p * g) < m) (sym (is ∙ ap (λ r. b * r) (worth early))) (omega (arith, times, less))

    all_cheap : t ≤ tick → (hs : List ℕ)
        → AllByRecursion (λ g. (1 ≤ g) × (a * (p * g) < b * (p * t + q * (sum gs + 1)))) hs
        → AllByRecursion (λ g. (1 ≤ g) × (a * (p * g) < most)) hs
    all_cheap early [] all = tt
    all_cheap early (h ∷ hs) all = ((all.0.0, cheap early h all.0.1), all_cheap early hs all.1)

    front : (tick < t) ⊎ (t ≤ tick)
        → Numbered (λ m j. j.release ≤ tick → OnlyThis s x a most m j) (suc o) (smalls p t gs)
    front (inl less) = not_yet t (suc o) gs less where
      not_yet : (r n : ℕ) (hs : List ℕ) → tick < r
          → Numbered (λ m j. j.release ≤ tick → OnlyThis s x a most m j) n (smalls p r hs)
      not_yet r n [] late = tt
      not_yet r n (h ∷ hs) late = (
        λ early. absurd (omega (arith, early, late)),
        not_yet (r + h) (suc n) hs
            (omega (arith, late)),
      )
    front (inr more) = judge_smalls p o t t (suc o) gs (omega arith) (omega arith) (all_cheap more gs traps.0)
        (λ u low high. on u low ∙ path_here o t gs rest u high)
