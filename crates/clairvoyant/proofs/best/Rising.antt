-- Lists of rising numbers.
use Rattle.std.proofs.Common.{◌≡◌, ℕ, suc, zero, ◌+◌, ◌≤◌, ◌<◌, ◌⊎◌, inl, inr, List, [], ◌∷◌, ◌++◌, length, get_or}
use Rattle.std.proofs.Common.{refl, sym, ap, ◌∙◌, eqb, subst, arith, cond, true, false}
use Rattle.dover_model.specs.Sound.{IsMember, Each}
use Rattle.dover_model.proofs.lists.Members.{by_bool}
use Rattle.clairvoyant.specs.best.BestSet.{RiseWithin}

-- from a lower number on, and below a higher one
pub rise_wider : (low next end top : ℕ) (numbers : List ℕ) → low ≤ next → end ≤ top → RiseWithin next end numbers
    → RiseWithin low top numbers
rise_wider low next end top [] below above rise = tt
rise_wider low next end top (n ∷ numbers) below above rise =
    let from : next ≤ n = rise.0 in let until : n < end = rise.1 in
    (omega arith, omega arith, rise_wider (suc n) (suc n) end top numbers (omega arith) above rise.2)

-- each of them
pub rise_each : (low end : ℕ) (numbers : List ℕ) → RiseWithin low end numbers
    → Each (λ n. (low ≤ n) × (n < end)) numbers
rise_each low end [] rise n member = absurd member
rise_each low end (m ∷ numbers) rise n (inl e) = subst (λ k. (low ≤ k) × (k < end)) (sym e) (rise.0, rise.1)
rise_each low end (m ∷ numbers) rise n (inr member) =
    let later : (suc m ≤ n) × (n < end) = rise_each (suc m) end numbers rise.2 n member in
    let above : suc m ≤ n = later.0 in let from : low ≤ m = rise.0 in (omega arith, later.1)

-- one behind another
pub rise_append : (low next end : ℕ) (taken more : List ℕ) → low ≤ next → next ≤ end → RiseWithin low next taken
    → RiseWithin next end more
    → RiseWithin low end (taken ++ more)
rise_append low next end [] more from until rise behind = rise_wider low next end end more from (omega arith) behind
rise_append low next end (n ∷ taken) more from until rise behind =
    let below : n < next = rise.1 in
    (rise.0, omega arith, rise_append (suc n) next end taken more (omega arith) until rise.2 behind)

-- there are no more of them than numbers to choose from
pub rise_length : (low end : ℕ) (numbers : List ℕ) → low ≤ end → RiseWithin low end numbers → low + length numbers ≤ end
rise_length low end [] from rise = omega arith
rise_length low end (n ∷ numbers) from rise =
    let above : low ≤ n = rise.0 in let below : n < end = rise.1 in
    let rest : suc n + length numbers ≤ end = rise_length (suc n) end numbers (omega arith) rise.2 in omega arith

-- the next number is the first, or is not among them
pub rise_split : (next end : ℕ) (more : List ℕ) → RiseWithin next end more
    → ((rest : List ℕ) × (more ≡ next ∷ rest) × RiseWithin (suc next) end rest) ⊎ RiseWithin (suc next) end more
rise_split next end [] rise = inr tt
rise_split next end (n ∷ more) rise = by_bool _ (eqb next n)
    (λ same. let is : n ≡ next = grind arith in
    inl (more, ap (λ k. k ∷ more) is, subst (λ k. RiseWithin (suc k) end more) is rise.2))
    (λ other. let from : next ≤ n = rise.0 in let apart : suc next ≤ n = grind arith in inr (apart, rise.1, rise.2))

-- the place of a number
abbrev pub place : List ℕ → ℕ → ℕ
place [] n = 0
place (c ∷ chosen) n = cond (eqb n c) 0 (suc (place chosen n))

-- an element at a place is a member
member_at : (xs : List ℕ) (i : ℕ) → i < length xs → IsMember (get_or xs i 0) xs
member_at [] i short = absurd (omega arith)
member_at (x ∷ xs) zero short = inl refl
member_at (x ∷ xs) (suc i) short = inr (member_at xs i (omega arith))

-- it is found again
pub place_at : (low end : ℕ) (chosen : List ℕ) → RiseWithin low end chosen → (i : ℕ) → i < length chosen
    → place chosen (get_or chosen i 0) ≡ i
place_at low end [] rise i short = absurd (omega arith)
place_at low end (c ∷ chosen) rise zero short =
    ap (λ b. cond b 0 (suc (place chosen c))) (let same : eqb c c ≡ true = grind arith in same)
place_at low end (c ∷ chosen) rise (suc i) short =
    let later : (suc c ≤ get_or chosen i 0) × (get_or chosen i 0 < end) =
    rise_each (suc c) end chosen rise.2 (get_or chosen i 0) (member_at chosen i (omega arith)) in
    let above : suc c ≤ get_or chosen i 0 = later.0 in
    ap (λ b. cond b 0 (suc (place chosen (get_or chosen i 0)))) (apart (get_or chosen i 0) c above)
    ∙ ap suc (place_at (suc c) end chosen rise.2 i (omega arith)) where
      apart : (m n : ℕ) → suc n ≤ m → eqb m n ≡ false
      apart m n above = grind arith
