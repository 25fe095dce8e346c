-- The jobs of a baiting feed: the links, the unit jobs and the bait.
use Rattle.std.proofs.Common.{◌≡◌, ℕ, zero, suc, ◌+◌, ◌≤◌, ◌<◌, ◌⊎◌, inl, inr, List, [], ◌∷◌, ◌++◌, refl, sym, ap, ◌∙◌}
use Rattle.std.proofs.Common.{Bool, true, false, cond, arith, eqb, ◌==◌, filter, flat_map, sum_by, eqb-true, eq-eqb}
use Rattle.std.proofs.Common.{ne_eqb}
use Rattle.std.specs.List.{range_with_len}
use Rattle.std.proofs.lemmas.Bool.{cases_lt}
use Rattle.std.proofs.lemmas.List.Sums.{sum_by-cons, sum_by-append}
use Rattle.dover_model.specs.Common.{Fraction, JobFacts, unit_value, bait_value, bait_tick, tight_job, chain_jobs}
use Rattle.dover_model.specs.Common.{bait_jobs, IsMember, Each}
use Rattle.dover_model.specs.Bait.{links_at, released_at}
use Rattle.dover_model.proofs.lists.Members.{filter_member, member_filter, sum_filter, sum_plus, sum_same, member_front}
use Rattle.dover_model.proofs.lists.Members.{member_behind, member_either}

-- whether r is among n numbers from a on
abbrev pub is_among : ℕ → (n : ℕ) → ℕ → Bool
is_among a zero r = false
is_among a (suc n) r = cond (r == a) true (is_among (a + 1) n r)

-- what is below isn't
below_among : (a n r : ℕ) → r < a → is_among a n r ≡ false
below_among a zero r less = refl
below_among a (suc n) r less = ap (λ b. cond b true (is_among (a + 1) n r)) (ne_eqb r a (λ same. absurd (omega arith)))
    ∙ below_among (a + 1) n r (omega arith)

-- what is above isn't
above_among : (a n r : ℕ) → a + n ≤ r → is_among a n r ≡ false
above_among a zero r more = refl
above_among a (suc n) r more = ap (λ b. cond b true (is_among (a + 1) n r)) (ne_eqb r a (λ same. absurd (omega arith)))
    ∙ above_among (a + 1) n r (omega arith)

-- what is within is
within_among : (a n r : ℕ) → a ≤ r → r < a + n → is_among a n r ≡ true
within_among a zero r low high = absurd (omega arith)
within_among a (suc n) r low high =
    by_low (cases_lt a r) (λ above. within_among (a + 1) n r (omega (arith, above)) (omega arith)) where
      by_low : (a < r) ⊎ (r ≤ a) → (a < r → is_among (a + 1) n r ≡ true)
          → cond (r == a) true (is_among (a + 1) n r) ≡ true
      by_low (inl above) more = ap (λ b. cond b true (is_among (a + 1) n r)) (ne_eqb r a (λ same. absurd (omega arith)))
          ∙ more above
      by_low (inr here) more = ap (λ b. cond b true (is_among (a + 1) n r)) (eq-eqb r a (omega arith))

module _ (k : Fraction) (rounds : ℕ) where
  -- the jobs of n ticks from a on
  abbrev pub released : ℕ → ℕ → List JobFacts
  released a n = flat_map (released_at k rounds) (range_with_len a n)

  -- the unit job of a tick
  abbrev pub unit_at : ℕ → JobFacts
  unit_at t = tight_job t 1 (unit_value k)

  -- a link of one of these ticks is there
  link_there : (a n : ℕ) (j : JobFacts) → IsMember j (chain_jobs k rounds) → a ≤ j.release → j.release < a + n
      → IsMember j (released a n)
  link_there a zero j member low high = absurd (omega arith)
  link_there a (suc n) j member low high =
      by_low (cases_lt a j.release) (λ above. link_there (a + 1) n j member (omega (arith, above)) (omega arith)) where
        by_low : (a < j.release) ⊎ (j.release ≤ a) → (a < j.release → IsMember j (released (a + 1) n))
            → IsMember j (released_at k rounds a ++ released (a + 1) n)
        by_low (inl above) more = member_behind (released_at k rounds a) (released (a + 1) n) j (more above)
        by_low (inr here) more = member_front (released_at k rounds a) (released (a + 1) n) j
            (member_front (links_at k rounds a) (unit_at a ∷ []) j
            (filter_member (λ i. i.release == a) (chain_jobs k rounds) j member (eq-eqb j.release a (omega arith))))

  -- the unit job of one of these ticks
  abbrev pub IsUnit : ℕ → JobFacts → Type 0
  IsUnit b j = (t : ℕ) × (t < b) × (j ≡ unit_at t)

  -- what is released at a tick is a link or its unit job
  at_tick : (a : ℕ) (j : JobFacts) → IsMember j (released_at k rounds a) → IsMember j (chain_jobs k rounds)
      ⊎ (j ≡ unit_at a)
  at_tick a j member = elim (member_either (links_at k rounds a) (unit_at a ∷ []) j member) [
    | inl m ↦ inl (member_filter (λ i. i.release == a) (chain_jobs k rounds) j m).0
    | inr m ↦ inr (by_unit m)
  ] where
    by_unit : IsMember j (unit_at a ∷ []) → j ≡ unit_at a
    by_unit (inl e) = e
    by_unit (inr none) = absurd none

  -- what is there is a link or the unit job of one of these ticks
  there_is : (a n : ℕ) (j : JobFacts) → IsMember j (released a n) → IsMember j (chain_jobs k rounds) ⊎ IsUnit (a + n) j
  there_is a zero j member = absurd member
  there_is a (suc n) j member =
      by_part (member_either (released_at k rounds a) (released (a + 1) n) j member) (there_is (a + 1) n j) where
        by_part : IsMember j (released_at k rounds a) ⊎ IsMember j (released (a + 1) n)
            → (IsMember j (released (a + 1) n) → IsMember j (chain_jobs k rounds) ⊎ IsUnit (a + 1 + n) j)
            → IsMember j (chain_jobs k rounds) ⊎ IsUnit (a + suc n) j
        by_part (inl m) more = elim (at_tick a j m) [ inl m ↦ inl m | inr e ↦ inr (a, omega arith, e) ]
        by_part (inr m) more = elim (more m) [
          | inl m ↦ inl m
          | inr it ↦ inr (it.0, let low : it.0 < a + 1 + n = it.1 in omega arith, it.2)
        ]

  -- the bait
  abbrev pub bait : JobFacts
  bait = tight_job (bait_tick k rounds) (bait_value k rounds) 1

  -- the links and the unit jobs before the bait's tick, and then the links at it
  abbrev pub front : List JobFacts
  front = released 0 (bait_tick k rounds) ++ links_at k rounds (bait_tick k rounds)

  -- what is in the feed is a link, a unit job or the bait
  pub feed_is : (j : JobFacts) → IsMember j (bait_jobs k rounds)
      → IsMember j (chain_jobs k rounds) ⊎ (IsUnit (bait_tick k rounds) j ⊎ (j ≡ bait))
  feed_is j member = elim (member_either front (bait ∷ []) j member) [
    | inl m ↦ elim (member_either (released 0 (bait_tick k rounds)) (links_at k rounds (bait_tick k rounds)) j
        m) [
          | inl m ↦ elim (there_is 0 (bait_tick k rounds) j m) [
            | inl m ↦ inl m
            | inr it ↦ inr (inl (it.0, let low : it.0 < 0 + bait_tick k rounds = it.1 in omega arith, it.2))
          ]
          | inr m ↦ inl (member_filter (λ i. i.release == bait_tick k rounds) (chain_jobs k rounds) j m).0
        ]
    | inr m ↦ inr (inr (by_bait m))
  ] where
    by_bait : IsMember j (bait ∷ []) → j ≡ bait
    by_bait (inl e) = e
    by_bait (inr none) = absurd none

  -- a link that is released by the bait's tick is in the feed
  pub link_in_feed : (j : JobFacts) → IsMember j (chain_jobs k rounds) → j.release ≤ bait_tick k rounds
      → IsMember j (bait_jobs k rounds)
  link_in_feed j member low = member_front front (bait ∷ []) j (by_low (cases_lt j.release (bait_tick k rounds))) where
    by_low : (j.release < bait_tick k rounds) ⊎ (bait_tick k rounds ≤ j.release) → IsMember j front
    by_low (inl before) = member_front _ _ _ (link_there 0 (bait_tick k rounds) j member (omega arith) (omega arith))
    by_low (inr here) = member_behind (released 0 (bait_tick k rounds)) (links_at k rounds (bait_tick k rounds)) j
        (filter_member (λ i. i.release == bait_tick k rounds) (chain_jobs k rounds) j member
        (eq-eqb j.release (bait_tick k rounds) (omega arith)))

  -- the jobs before the tick b, then the links at it, and one more
  abbrev feed_at : ℕ → JobFacts → List JobFacts
  feed_at b last = released 0 b ++ links_at k rounds b ++ last ∷ []

  -- a feed whose first link is released at 0 begins with it
  pub feed_begins : (j : JobFacts) (more : List JobFacts) → chain_jobs k rounds ≡ j ∷ more → j.release ≡ 0
      → (rest : List JobFacts) × (bait_jobs k rounds ≡ j ∷ rest)
  feed_begins j more are zero_at = elim (bait_tick k rounds) as
      (λ b. (rest : List JobFacts) × (feed_at b bait ≡ j ∷ rest)) [
        | zero ↦ (filter (λ (i : JobFacts). i.release == 0) more ++ bait ∷ [], ap (λ xs. xs ++ bait ∷ []) links_at_zero)
        | suc b ↦ (
          ((filter (λ (i : JobFacts). i.release == 0) more ++ unit_at 0 ∷ []) ++ released (0 + 1) b)
              ++ links_at k rounds (suc b) ++ bait ∷ [],
          ap (λ xs. ((xs ++ unit_at 0 ∷ []) ++ released (0 + 1) b) ++ links_at k rounds (suc b) ++ bait ∷ [])
              links_at_zero,
        )
      ] where
        links_at_zero : links_at k rounds 0 ≡ j ∷ filter (λ i. i.release == 0) more
        links_at_zero = ap (filter (λ (i : JobFacts). i.release == 0)) are
            ∙ ap (λ b. cond b (j ∷ filter (λ (i : JobFacts). i.release == 0) more)
            (filter (λ (i : JobFacts). i.release == 0) more))
            (eq-eqb j.release 0 zero_at)

  module _ (f : JobFacts → ℕ) where
    -- of those that are released at a
    at_sum : (a : ℕ) → sum_by f (links_at k rounds a) ≡ sum_by (λ j. cond (j.release == a) (f j) 0)
        (chain_jobs k rounds)
    at_sum a = sum_filter (λ j. j.release == a) f (chain_jobs k rounds)

    -- a sum that is nothing at the unit jobs is one over the links
    released_sum : (a n : ℕ) → ((t : ℕ) → t < a + n → f (unit_at t) ≡ 0)
        → sum_by f (released a n) ≡ sum_by (λ j. cond (is_among a n j.release) (f j) 0) (chain_jobs k rounds)
    released_sum a zero none = sym (sum_zeros (chain_jobs k rounds)) where
      sum_zeros : (xs : List JobFacts) → sum_by (λ (j : JobFacts). 0) xs ≡ 0
      sum_zeros [] = refl
      sum_zeros (x ∷ xs) = omega (arith, sum_by-cons (λ (j : JobFacts). 0) x xs, sum_zeros xs)
    released_sum a (suc n) none =
        let rest : sum_by f (released (a + 1) n) ≡ sum_by (λ j. cond (is_among (a + 1) n j.release) (f j) 0)
        (chain_jobs k rounds) =
        released_sum (a + 1) n (λ t low. none t (omega arith)) in
        let front : sum_by f (released_at k rounds a ++ released (a + 1) n) ≡ sum_by f (released_at k rounds a)
        + sum_by f (released (a + 1) n) =
        sum_by-append f (released_at k rounds a) (released (a + 1) n) in
        let here : sum_by f (released_at k rounds a) ≡ sum_by f (links_at k rounds a) + sum_by f (unit_at a ∷ []) =
        sum_by-append f (links_at k rounds a) (unit_at a ∷ []) in
        let unit : f (unit_at a) ≡ 0 = none a (omega arith) in
        let whole : sum_by f (released_at k rounds a ++ released (a + 1) n)
        ≡ sum_by (λ j. cond (j.release == a) (f j) 0) (chain_jobs k rounds)
        + sum_by (λ j. cond (is_among (a + 1) n j.release) (f j) 0) (chain_jobs k rounds) =
        omega (arith, at_sum a, sum_by-cons f (unit_at a) []) in
        whole ∙ sym (sum_plus (λ j. cond (j.release == a) (f j) 0) (λ j. cond (is_among (a + 1) n j.release) (f j) 0)
        (chain_jobs k rounds))
        ∙ sum_same (λ j. cond (j.release == a) (f j) 0 + cond (is_among (a + 1) n j.release) (f j) 0)
        (λ j. cond (is_among a (suc n) j.release) (f j) 0) (chain_jobs k rounds)
        (λ j m. by_release j (eqb j.release a) refl) where
          by_release : (j : JobFacts) (b : Bool) → eqb j.release a ≡ b
              → cond b (f j) 0 + cond (is_among (a + 1) n j.release) (f j) 0 ≡ cond
              (cond b true (is_among (a + 1) n j.release)) (f j) 0
          by_release j true same = let out : cond (is_among (a + 1) n j.release) (f j) 0 ≡ 0 =
              ap (λ b. cond b (f j) 0)
              (below_among (a + 1) n j.release (let e : j.release ≡ a = eqb-true _ _ same in omega arith)) in
              omega arith
          by_release j false differs = omega arith

    -- so is one over the feed
    pub feed_sum : ((t : ℕ) → t < bait_tick k rounds → f (unit_at t) ≡ 0) → f bait ≡ 0
        → Each (λ j. j.release ≤ bait_tick k rounds) (chain_jobs k rounds)
        → sum_by f (bait_jobs k rounds) ≡ sum_by f (chain_jobs k rounds)
    feed_sum none no_bait within =
        let all : sum_by f (front ++ bait ∷ []) ≡ sum_by f front + sum_by f (bait ∷ []) =
        sum_by-append f front (bait ∷ []) in
        let parts : sum_by f front ≡ sum_by f (released 0 (bait_tick k rounds)) + sum_by f
        (links_at k rounds (bait_tick k rounds)) =
        sum_by-append f (released 0 (bait_tick k rounds)) (links_at k rounds (bait_tick k rounds)) in
        let early : sum_by f (released 0 (bait_tick k rounds))
        ≡ sum_by (λ j. cond (is_among 0 (bait_tick k rounds) j.release) (f j) 0) (chain_jobs k rounds) =
        released_sum 0 (bait_tick k rounds) (λ t low. none t (omega arith)) in
        let whole : sum_by f (front ++ bait ∷ [])
        ≡ sum_by (λ j. cond (is_among 0 (bait_tick k rounds) j.release) (f j) 0) (chain_jobs k rounds)
        + sum_by (λ j. cond (j.release == bait_tick k rounds) (f j) 0) (chain_jobs k rounds) =
        omega (arith, at_sum (bait_tick k rounds), sum_by-cons f bait []) in
        whole ∙ sym (sum_plus (λ j. cond (is_among 0 (bait_tick k rounds) j.release) (f j) 0)
        (λ j. cond (j.release == bait_tick k rounds) (f j) 0) (chain_jobs k rounds))
        ∙ sum_same (λ j. cond (is_among 0 (bait_tick k rounds) j.release) (f j) 0 + cond
        (j.release == bait_tick k rounds) (f j) 0) f
        (chain_jobs k rounds) (λ j m. by_release j (within j m) (cases_lt j.release (bait_tick k rounds))) where
          by_release : (j : JobFacts) → j.release ≤ bait_tick k rounds → (j.release < bait_tick k rounds)
              ⊎ (bait_tick k rounds ≤ j.release)
              → cond (is_among 0 (bait_tick k rounds) j.release) (f j) 0 + cond (j.release == bait_tick k rounds)
              (f j) 0 ≡ f j
          by_release j low (inl before) =
              let one : cond (is_among 0 (bait_tick k rounds) j.release) (f j) 0 ≡ f j =
              ap (λ b. cond b (f j) 0) (within_among 0 (bait_tick k rounds) j.release (omega arith) (omega arith)) in
              let two : cond (j.release == bait_tick k rounds) (f j) 0 ≡ 0 =
              ap (λ b. cond b (f j) 0) (ne_eqb j.release (bait_tick k rounds) (λ same. absurd (omega arith))) in
              omega arith
          by_release j low (inr here) =
              let one : cond (is_among 0 (bait_tick k rounds) j.release) (f j) 0 ≡ 0 =
              ap (λ b. cond b (f j) 0) (above_among 0 (bait_tick k rounds) j.release (omega arith)) in
              let two : cond (j.release == bait_tick k rounds) (f j) 0 ≡ f j =
              ap (λ b. cond b (f j) 0) (eq-eqb j.release (bait_tick k rounds) (omega arith)) in omega arith
