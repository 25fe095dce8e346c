-- The chain: each link is heavy against those before it, and is released one tick before the one before it is due.
use Rattle.std.proofs.Common.{◌≡◌, ℕ, zero, suc, ◌+◌, ◌-◌, ◌*◌, ◌≤◌, ◌<◌, ◌⊎◌, inl, inr, List, [], refl, sym, ap, ◌∙◌}
use Rattle.std.proofs.Common.{subst, true, cond, arith, eqb, Option, Some, unwrap_or, sum, sum_by, eq-eqb, ne_eqb}
use Rattle.std.specs.List.{last_or}
use Rattle.std.proofs.lemmas.List.Sums.{sum_by-cons}
use Rattle.dover_model.specs.Common.{Fraction, IsRatio, JobFacts, is_heavy, most_light, chain_from, tight_job}
use Rattle.dover_model.specs.Common.{chain_jobs_from, IsMember, Each}
use Rattle.stated_jobs.proofs.bait.RunWeights.{heavy_grows, next_heavy, next_more}

-- the last of n + 1 links from w on
abbrev pub last_from : Fraction → (n : ℕ) → ℕ → ℕ
last_from k zero w = w
last_from k (suc n) w = last_from k n (suc (most_light k w))

-- the release of the link that would come behind n links from w on
abbrev pub end_from : Fraction → (n : ℕ) → ℕ → ℕ → ℕ
end_from k zero r w = r
end_from k (suc n) r w = end_from k n (r + w - 1) (suc (most_light k w))

-- the jobs of n links from w on, the first released at r
abbrev pub links : Fraction → (n : ℕ) → ℕ → ℕ → List JobFacts
links k n r w = chain_jobs_from r (chain_from k n w)

-- the last one is that of the list
pub last_is : (k : Fraction) (n w : ℕ) (o : Option ℕ)
    → unwrap_or (last_or o (chain_from k (suc n) w)) 0 ≡ last_from k n w
last_is k zero w o = refl
last_is k (suc n) w o = last_is k n (suc (most_light k w)) (Some w)

-- the end is what the links sum up to, each less one
pub end_is : (k : Fraction) (n r w : ℕ) → 1 ≤ w → end_from k n r w + n ≡ r + sum (chain_from k n w)
end_is k zero r w some = omega arith
end_is k (suc n) r w some =
    let rest : end_from k n (r + w - 1) (suc (most_light k w)) + n ≡ r + w - 1 + sum
    (chain_from k n (suc (most_light k w))) =
    end_is k n (r + w - 1) (suc (most_light k w)) (omega arith) in
    omega (arith, sum_by-cons (λ (x : ℕ). x) w (chain_from k n (suc (most_light k w))))

-- it isn't before the first release
end_above : (k : Fraction) (n r w : ℕ) → 1 ≤ w → r ≤ end_from k n r w
end_above k zero r w some = omega arith
end_above k (suc n) r w some = let rest : r + w - 1 ≤ end_from k n (r + w - 1) (suc (most_light k w)) =
    end_above k n (r + w - 1) (suc (most_light k w)) (omega arith) in omega arith

-- a job without slack, worth its work
pub record IsTight (j : JobFacts) : Type 0 where
  pub some : 1 ≤ j.work
  pub even : j.value ≡ j.work
  pub tight : j.deadline ≡ j.release + j.work

-- each link is one
pub links_tight : (k : Fraction) (n r w : ℕ) → 1 ≤ w → Each IsTight (links k n r w)
links_tight k zero r w some j member = absurd member
links_tight k (suc n) r w some j (inl e) =
    subst IsTight (sym e) (record { some = some; even = omega arith; tight = refl })
links_tight k (suc n) r w some j (inr member) =
    links_tight k n (r + w - 1) (suc (most_light k w)) (omega arith) j member

-- each is due at the end, or one tick later
pub links_due : (k : Fraction) (n r w : ℕ) → 1 ≤ w → Each (λ j. j.deadline ≤ end_from k n r w + 1) (links k n r w)
links_due k zero r w some j member = absurd member
links_due k (suc n) r w some j (inl e) =
    let due : j.deadline ≡ r + w = ap (λ (i : JobFacts). i.deadline) e in
    let low : r + w - 1 ≤ end_from k n (r + w - 1) (suc (most_light k w)) =
    end_above k n (r + w - 1) (suc (most_light k w)) (omega arith) in
    omega arith
links_due k (suc n) r w some j (inr member) = links_due k n (r + w - 1) (suc (most_light k w)) (omega arith) j member

-- none is worth more than the limit
abbrev pub AreSmall : List JobFacts → Type 0
AreSmall jobs = Each (λ j. j.value ≤ 1_000_000_000) jobs

module _ (k : Fraction) (ratio : IsRatio k) where
  -- the first of some links is small
  first_small : (n r w : ℕ) → AreSmall (links k (suc n) r w) → w ≤ 1_000_000_000
  first_small n r w small = let it : 1 * w ≤ 1_000_000_000 = small (tight_job r w 1) (inl refl) in omega arith

  -- so are the rest
  rest_small : (n r w : ℕ) → AreSmall (links k (suc n) r w) → AreSmall (links k n (r + w - 1) (suc (most_light k w)))
  rest_small n r w small j member = small j (inr member)

  -- each link is at least the first
  pub links_above : (n r w : ℕ) → AreSmall (links k n r w) → Each (λ j. w ≤ j.value) (links k n r w)
  links_above zero r w small j member = absurd member
  links_above (suc n) r w small j (inl e) = let same : j.value ≡ 1 * w = ap (λ (i : JobFacts). i.value) e in omega arith
  links_above (suc n) r w small j (inr member) =
      let more : w < suc (most_light k w) = next_more k ratio w (first_small n r w small) in
      let above : suc (most_light k w) ≤ j.value =
      links_above n (r + w - 1) (suc (most_light k w)) (rest_small n r w small) j member in
      omega arith

  -- so is the last
  pub last_above : (n r w : ℕ) → AreSmall (links k (suc n) r w) → w ≤ last_from k n w
  last_above zero r w small = omega arith
  last_above (suc n) r w small =
      let more : w < suc (most_light k w) = next_more k ratio w (first_small (suc n) r w small) in
      let above : suc (most_light k w) ≤ last_from k n (suc (most_light k w)) =
      last_above n (r + w - 1) (suc (most_light k w)) (rest_small (suc n) r w small) in
      omega arith

  -- it is small
  pub last_small : (n r w : ℕ) → AreSmall (links k (suc n) r w) → last_from k n w ≤ 1_000_000_000
  last_small zero r w small = first_small zero r w small
  last_small (suc n) r w small = last_small n (r + w - 1) (suc (most_light k w)) (rest_small (suc n) r w small)

  -- the last is more than the first, if it's another
  pub last_more : (n r w : ℕ) → AreSmall (links k (suc (suc n)) r w) → w < last_from k (suc n) w
  last_more n r w small =
      let more : w < suc (most_light k w) = next_more k ratio w (first_small (suc n) r w small) in
      let above : suc (most_light k w) ≤ last_from k n (suc (most_light k w)) =
      last_above n (r + w - 1) (suc (most_light k w)) (rest_small (suc n) r w small) in
      omega arith

  -- none is more than the last
  pub links_most : (n r w : ℕ) → AreSmall (links k (suc n) r w)
      → Each (λ j. j.value ≤ last_from k n w) (links k (suc n) r w)
  links_most n r w small j (inl e) = let same : j.value ≡ 1 * w = ap (λ (i : JobFacts). i.value) e in
      omega (arith, last_above n r w small)
  links_most zero r w small j (inr member) = absurd member
  links_most (suc n) r w small j (inr member) =
      links_most n (r + w - 1) (suc (most_light k w)) (rest_small (suc n) r w small) j member

  -- a link of more value is heavy against one of less
  pub links_heavier : (n r w : ℕ) → AreSmall (links k n r w) → (a b : JobFacts) → IsMember a (links k n r w)
      → IsMember b (links k n r w)
      → a.value < b.value → is_heavy k b.value a.value ≡ true
  links_heavier zero r w small a b ma mb less = absurd ma
  links_heavier (suc n) r w small a b (inl e) (inl e2) less =
      absurd (let same : a.value ≡ b.value = ap (λ (i : JobFacts). i.value) e
      ∙ ap (λ (i : JobFacts). i.value) (sym e2) in omega arith)
  links_heavier (suc n) r w small a b (inl e) (inr mb) less = let same : a.value ≡ 1 * w =
      ap (λ (i : JobFacts). i.value) e in
      heavy_grows _ _ _ _ _ (links_above n (r + w - 1) (suc (most_light k w)) (rest_small n r w small) b mb)
      (omega arith) (next_heavy k ratio w (first_small n r w small))
  links_heavier (suc n) r w small a b (inr ma) (inl e) less = absurd (
      let same : b.value ≡ 1 * w = ap (λ (i : JobFacts). i.value) e in
      let more : w < suc (most_light k w) = next_more k ratio w (first_small n r w small) in
      let above : suc (most_light k w) ≤ a.value =
      links_above n (r + w - 1) (suc (most_light k w)) (rest_small n r w small) a ma in
      omega arith)
  links_heavier (suc n) r w small a b (inr ma) (inr mb) less =
      links_heavier n (r + w - 1) (suc (most_light k w)) (rest_small n r w small) a b ma mb less

  -- a link that isn't the last is followed by one of more value, one tick before it is due
  abbrev pub HasNext : List JobFacts → JobFacts → Type 0
  HasNext jobs a = (u : JobFacts) × IsMember u jobs × (a.value < u.value) × (u.release + 1 ≡ a.deadline)

  -- so is each but the last
  pub links_next : (n r w : ℕ) → 1 ≤ w → AreSmall (links k (suc n) r w)
      → Each (λ a. (a.value ≡ last_from k n w) ⊎ HasNext (links k (suc n) r w) a) (links k (suc n) r w)
  links_next zero r w some small a (inl e) =
      inl (let same : a.value ≡ 1 * w = ap (λ (i : JobFacts). i.value) e in omega arith)
  links_next zero r w some small a (inr member) = absurd member
  links_next (suc n) r w some small a (inl e) = inr (
    tight_job (r + w - 1) (suc (most_light k w)) 1,
    inr (inl refl),
    let same : a.value ≡ 1 * w = ap (λ (i : JobFacts). i.value) e in
        let more : w < suc (most_light k w) = next_more k ratio w (first_small (suc n) r w small) in omega arith,
    let due : a.deadline ≡ r + w = ap (λ (i : JobFacts). i.deadline) e in omega arith,
  )
  links_next (suc n) r w some small a (inr member) =
      elim (links_next n (r + w - 1) (suc (most_light k w)) (omega arith) (rest_small (suc n) r w small) a member) [
        | inl same ↦ inl same
        | inr it ↦ inr (it.0, inr it.1, it.2, it.3)
      ]

  -- the last one is due one tick after the end
  pub links_last : (n r w : ℕ) → 1 ≤ w → AreSmall (links k (suc n) r w)
      → Each (λ a. a.value ≡ last_from k n w → a.deadline ≡ end_from k (suc n) r w + 1) (links k (suc n) r w)
  links_last zero r w some small a (inl e) last = let due : a.deadline ≡ r + w = ap (λ (i : JobFacts). i.deadline) e in
      omega arith
  links_last zero r w some small a (inr member) last = absurd member
  links_last (suc n) r w some small a (inl e) last =
      absurd (let same : a.value ≡ 1 * w = ap (λ (i : JobFacts). i.value) e in
      omega (arith, last_more n r w small))
  links_last (suc n) r w some small a (inr member) last =
      links_last n (r + w - 1) (suc (most_light k w)) (omega arith) (rest_small (suc n) r w small) a member last

  -- of the links one has the work of the last
  pub links_one : (most n r w : ℕ) → AreSmall (links k (suc n) r w) → most ≡ last_from k n w
      → sum_by (λ j. cond (eqb j.work most) j.value 0) (links k (suc n) r w) ≡ most
  links_one most zero r w small last =
      let here : cond (eqb w most) (1 * w) 0 ≡ 1 * w = ap (λ b. cond b (1 * w) 0) (eq-eqb w most (omega arith)) in
      omega (arith, sum_by-cons (λ (j : JobFacts). cond (eqb j.work most) j.value 0) (tight_job r w 1) [])
  links_one most (suc n) r w small last =
      let here : cond (eqb w most) (1 * w) 0 ≡ 0 = ap (λ b. cond b (1 * w) 0)
      (ne_eqb w most (λ same. let more : w < last_from k (suc n) w = last_more n r w small in absurd (omega arith))) in
      let rest : sum_by (λ j. cond (eqb j.work most) j.value 0) (links k (suc n) (r + w - 1) (suc (most_light k w)))
      ≡ most =
      links_one most n (r + w - 1) (suc (most_light k w)) (rest_small (suc n) r w small) last in
      omega (
        arith,
        sum_by-cons (λ (j : JobFacts). cond (eqb j.work most) j.value 0) (tight_job r w 1)
            (links k (suc n) (r + w - 1) (suc (most_light k w))),
      )

  -- a link of the last one's value is the last of the list
  pub links_ends : (n r w : ℕ) (o : Option JobFacts) → AreSmall (links k (suc n) r w)
      → Each (λ a. a.value ≡ last_from k n w → last_or o (links k (suc n) r w) ≡ Some a) (links k (suc n) r w)
  links_ends zero r w o small a (inl e) last = ap Some (sym e)
  links_ends zero r w o small a (inr member) last = absurd member
  links_ends (suc n) r w o small a (inl e) last =
      absurd (let same : a.value ≡ 1 * w = ap (λ (i : JobFacts). i.value) e in
      omega (arith, last_more n r w small))
  links_ends (suc n) r w o small a (inr member) last =
      links_ends n (r + w - 1) (suc (most_light k w)) (Some (tight_job r w 1))
      (rest_small (suc n) r w small) a member last
