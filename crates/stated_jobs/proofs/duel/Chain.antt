-- The jobs of a duel as phases: traps, where they aren't too many.
use Rattle.std.proofs.Common.{◌≡◌, ℕ, zero, suc, ◌+◌, ◌-◌, ◌*◌, ◌/◌, ◌≤◌, ◌<◌, ◌⊎◌, inl, inr, List, [], ◌∷◌, ◌++◌, cond}
use Rattle.std.proofs.Common.{refl, sym, ap, ◌∙◌, subst, length, length-append, arith, Bool, true, false}
use Rattle.std.specs.Prelude.{min}
use Rattle.std.specs.List.{sum, AllByRecursion}
use Rattle.std.proofs.lemmas.Bool.{cases_lt, leb-true, leb-false}
use Rattle.std.proofs.lemmas.Nat.{mul-le}
use Rattle.std.proofs.Math.Nat.{mul-div-le, lt-mul-div-succ, min-eq_left, min-eq_right, max-eq_left, max-eq_right}
use Rattle.dover_model.specs.Common.{Fraction, JobFacts, tight_job}
use Rattle.dover_model.proofs.bound.Calculus.{cancel}
use Rattle.stated_jobs.specs.duel.Links.{next_link, staying, leaving}
use Rattle.stated_jobs.specs.duel.Jobs.{smalls, pieces_for, pieces, small_work, is_last, jobs_of_links, first_link}
use Rattle.stated_jobs.proofs.duel.Phases.{jobs_from, first_of, AreTraps}
use Rattle.stated_jobs.proofs.duel.Fronts.{sum_cons}
use Rattle.stated_jobs.proofs.duel.Ends.{loses}

-- ---- pieces

-- the lesser of two, at least one where both are
pub record IsPiece (size ticks g : ℕ) : Type 0 where
  pub some : 1 ≤ g
  pub small : g ≤ size
  pub within : g ≤ ticks

pub piece : (size ticks : ℕ) → 1 ≤ size → 1 ≤ ticks → IsPiece size ticks (min size ticks)
piece size ticks some more = by_order (cases_lt size ticks) where
  by_order : (size < ticks) ⊎ (ticks ≤ size) → IsPiece size ticks (min size ticks)
  by_order (inl less) = subst (IsPiece size ticks) (sym (min-eq_left {n = size} {m = ticks} (omega (arith, less))))
      (record { some = some; small = omega arith; within = omega (arith, less) })
  by_order (inr less) = subst (IsPiece size ticks) (sym (min-eq_right {n = ticks} {m = size} less))
      (record { some = more; small = less; within = omega arith })

-- no pieces of no ticks
no_pieces : (fuel size : ℕ) → pieces_for fuel size 0 ≡ []
no_pieces zero size = refl
no_pieces (suc fuel) size = refl

-- it doesn't matter how many there might be
pub enough : (f g size ticks : ℕ) → 1 ≤ size → ticks ≤ f → ticks ≤ g → pieces_for f size ticks ≡ pieces_for g size ticks
enough f g size zero some low high = no_pieces f size ∙ sym (no_pieces g size)
enough zero g size (suc ticks) some low high = absurd (omega (arith, low))
enough f zero size (suc ticks) some low high = absurd (omega (arith, high))
enough (suc f) (suc g) size (suc ticks) some low high = ap (λ r. min size (suc ticks) ∷ r)
    (enough f g size (suc ticks - min size (suc ticks)) some
    (less (min size (suc ticks)) f (piece size (suc ticks) some (omega arith)).some low)
    (less (min size (suc ticks)) g (piece size (suc ticks) some (omega arith)).some high)) where
      less : (m f : ℕ) → 1 ≤ m → suc ticks ≤ suc f → suc ticks - m ≤ f
      less m f one low = omega (arith, one, low)

-- the next piece of what is left
pub piece_by_piece : (size ticks : ℕ) → 1 ≤ size → 1 ≤ ticks
    → pieces size ticks ≡ min size ticks ∷ pieces size (ticks - min size ticks)
piece_by_piece size zero some more = absurd (omega (arith, more))
piece_by_piece size (suc ticks) some more = ap (λ r. min size (suc ticks) ∷ r)
    (enough ticks (suc ticks - min size (suc ticks)) size (suc ticks - min size (suc ticks)) some
    (less (min size (suc ticks)) (piece size (suc ticks) some more).some) (omega arith)) where
      less : (m : ℕ) → 1 ≤ m → suc ticks - m ≤ ticks
      less m one = omega (arith, one)

pub sum_pieces : (fuel size ticks : ℕ) → 1 ≤ size → ticks ≤ fuel → sum (pieces_for fuel size ticks) ≡ ticks
sum_pieces fuel size zero some low = ap (λ gs. sum gs) (no_pieces fuel size)
sum_pieces zero size (suc ticks) some low = absurd (omega (arith, low))
sum_pieces (suc fuel) size (suc ticks) some low =
    level (min size (suc ticks)) (sum (pieces_for fuel size (suc ticks - min size (suc ticks))))
    (sum (min size (suc ticks) ∷ pieces_for fuel size (suc ticks - min size (suc ticks))))
    (piece size (suc ticks) some (omega arith)).within
    (sum_cons (min size (suc ticks)) (pieces_for fuel size (suc ticks - min size (suc ticks))))
    (sum_pieces fuel size (suc ticks - min size (suc ticks)) some
    (less (min size (suc ticks)) (piece size (suc ticks) some (omega arith)).some)) where
      less : (m : ℕ) → 1 ≤ m → suc ticks - m ≤ fuel
      less m one = omega (arith, one, low)

      level : (m rest all : ℕ) → m ≤ suc ticks → all ≡ m + rest → rest ≡ suc ticks - m → all ≡ suc ticks
      level m rest all within is rest_is = omega (arith, within, is, rest_is)

pub all_pieces : (P : ℕ → Type 0) (fuel size ticks : ℕ) → 1 ≤ size → ((g : ℕ) → 1 ≤ g → g ≤ size → P g)
    → AllByRecursion P (pieces_for fuel size ticks)
all_pieces P zero size ticks some each = tt
all_pieces P (suc fuel) size zero some each = tt
all_pieces P (suc fuel) size (suc ticks) some each = (
  each (min size (suc ticks)) (piece size (suc ticks) some (omega arith)).some
      (piece size (suc ticks) some (omega arith)).small,
  all_pieces P fuel size (suc ticks - min size (suc ticks)) some each,
)

-- ---- the work of a small job

module _ (k : Fraction) (a b : ℕ) where
  pub some_small : (l : ℕ × ℕ) → 1 ≤ small_work k a b l
  some_small l = elim (cases_lt 1 ((leaving k b l - 1) / (a * k.p))) [
    | inl more ↦ subst (λ n. 1 ≤ n)
        (sym (max-eq_right {n = 1} {m = (leaving k b l - 1) / (a * k.p)} (omega (arith, more)))) (omega (arith, more))
    | inr less ↦ subst (λ n. 1 ≤ n) (sym (max-eq_left {n = 1} {m = (leaving k b l - 1) / (a * k.p)} less)) (omega arith)
  ]

  -- it doesn't pay
  small_cheap : (l : ℕ × ℕ) (g : ℕ) → a * k.p < leaving k b l → g ≤ small_work k a b l → a * (k.p * g) < leaving k b l
  small_cheap l g one less = by_order (cases_lt 1 ((leaving k b l - 1) / (a * k.p))) where
    by_order : (1 < (leaving k b l - 1) / (a * k.p)) ⊎ ((leaving k b l - 1) / (a * k.p) ≤ 1)
        → a * (k.p * g) < leaving k b l
    by_order (inl more) =
        let small : g ≤ (leaving k b l - 1) / (a * k.p) = subst (λ n. g ≤ n)
        (max-eq_right {n = 1} {m = (leaving k b l - 1) / (a * k.p)} (omega (arith, more))) less in
        let times : (a * k.p) * g ≤ (a * k.p) * ((leaving k b l - 1) / (a * k.p)) =
        mul-le (a * k.p) g (a * k.p) ((leaving k b l - 1) / (a * k.p)) (omega arith) small in
        level (leaving k b l) ((a * k.p) * ((leaving k b l - 1) / (a * k.p))) one times
        (mul-div-le (leaving k b l - 1) (a * k.p)) where
          level : (m d : ℕ) → a * k.p < m → (a * k.p) * g ≤ d → d ≤ m - 1 → a * (k.p * g) < m
          level m d one times low = omega (arith, one, times, low)
    by_order (inr few) =
        let small : g ≤ 1 = subst (λ n. g ≤ n)
        (max-eq_left {n = 1} {m = (leaving k b l - 1) / (a * k.p)} few) less in
        let times : (a * k.p) * g ≤ (a * k.p) * 1 = mul-le (a * k.p) g (a * k.p) 1 (omega arith) small in
        omega (arith, one, times)

  -- ---- the phases

  abbrev pub phases_of : (more : ℕ) → ℕ × ℕ → List (List ℕ)
  phases_of zero l = []
  phases_of (suc more) l = cond (is_last k a b l) []
      (pieces (small_work k a b l) (l.1 - 1) ∷ phases_of more (next_link k a b l))

  abbrev pub last_of : (more : ℕ) → ℕ × ℕ → ℕ
  last_of zero l = l.1
  last_of (suc more) l = cond (is_last k a b l) l.1 (last_of more (next_link k a b l))

  -- the small jobs of a link fill all its ticks but one
  all_but_one : (l : ℕ × ℕ) → sum (pieces (small_work k a b l) (l.1 - 1)) ≡ l.1 - 1
  all_but_one l = sum_pieces (l.1 - 1) (small_work k a b l) (l.1 - 1) (some_small l) (omega arith)

  pub as_phases : (more : ℕ) (l : ℕ × ℕ) → 1 ≤ l.1
      → jobs_of_links k a b more l ≡ jobs_from k.p k.q l.0 (phases_of more l) (last_of more l)
  unfolding jobs_of_links
  as_phases zero l some = refl
  as_phases (suc more) l some = (elim (is_last k a b l) as (λ c. rest ≡ jobs_from k.p k.q (l.0 + l.1 - 1)
      (phases_of more (next_link k a b l)) (last_of more (next_link k a b l)) → tight_job l.0 l.1 k.q ∷ elim c
      [ true ↦ [] | false ↦ smalls k.p l.0 gs ++ rest ] ≡ jobs_from k.p k.q l.0
      (cond c [] (gs ∷ phases_of more (next_link k a b l))) (cond c l.1 (last_of more (next_link k a b l)))) [
        | true ↦ λ further. refl
        | false ↦ λ further. ap (λ w. tight_job l.0 w k.q ∷ (smalls k.p l.0 gs ++ rest)) work
            ∙ ap (λ js. tight_job l.0 (sum gs + 1) k.q ∷ (smalls k.p l.0 gs ++ js)) (further
            ∙ ap (λ t. jobs_from k.p k.q t (phases_of more (next_link k a b l)) (last_of more
            (next_link k a b l))) tick)
      ]) (as_phases more (next_link k a b l) (omega arith)) where
        gs : List ℕ
        gs = pieces (small_work k a b l) (l.1 - 1)

        rest : List JobFacts
        rest = jobs_of_links k a b more (next_link k a b l)

        work : l.1 ≡ sum gs + 1
        work = level l.1 (sum gs) some (all_but_one l) where
          level : (w s : ℕ) → 1 ≤ w → s ≡ w - 1 → w ≡ s + 1
          level w s some is = omega (arith, some, is)

        tick : l.0 + l.1 - 1 ≡ l.0 + sum gs
        tick = level l.1 (sum gs) some (all_but_one l) where
          level : (w s : ℕ) → 1 ≤ w → s ≡ w - 1 → l.0 + w - 1 ≡ l.0 + s
          level w s some is = omega (arith, some, is)

  pub first_is : (more : ℕ) (l : ℕ × ℕ) → 1 ≤ l.1 → first_of (phases_of more l) (last_of more l) ≡ l.1
  first_is zero l some = refl
  first_is (suc more) l some = by_test (is_last k a b l) where
    by_test : (c : Bool) → first_of (cond c [] (pieces (small_work k a b l) (l.1 - 1)
        ∷ phases_of more (next_link k a b l)))
        (cond c l.1 (last_of more (next_link k a b l))) ≡ l.1
    by_test true = refl
    by_test false = level l.1 (sum (pieces (small_work k a b l) (l.1 - 1))) some (all_but_one l) where
      level : (w s : ℕ) → 1 ≤ w → s ≡ w - 1 → s + 1 ≡ w
      level w s some is = omega (arith, some, is)

  module _ (some_q : 1 ≤ k.q) (some_b : 1 ≤ b) where
    -- where they aren't too many, the last of them is one with which staying is a loss
    pub traps_of : (more : ℕ) (l : ℕ × ℕ) → 1 ≤ l.1 → a * k.p < leaving k b l
        → length (jobs_of_links k a b more l) ≤ more
        → AreTraps k.p k.q a b l.0 (phases_of more l) (last_of more l)
    unfolding jobs_of_links
    traps_of zero l some one few = absurd (omega (arith, few))
    traps_of (suc more) l some one few = by_test (is_last k a b l) refl few
        (λ cheap less. traps_of more (next_link k a b l) (omega arith) cheap less) where
          next : ℕ × ℕ
          next = next_link k a b l

          gs : List ℕ
          gs = pieces (small_work k a b l) (l.1 - 1)

          rest : List JobFacts
          rest = jobs_of_links k a b more next

          work : l.1 ≡ sum gs + 1
          work = level l.1 (sum gs) some (all_but_one l) where
            level : (w s : ℕ) → 1 ≤ w → s ≡ w - 1 → w ≡ s + 1
            level w s some is = omega (arith, some, is)

          tick : next.0 ≡ l.0 + sum gs
          tick = level l.1 (sum gs) some (all_but_one l) where
            level : (w s : ℕ) → 1 ≤ w → s ≡ w - 1 → l.0 + w - 1 ≡ l.0 + s
            level w s some is = omega (arith, some, is)

          stay : staying k a l < leaving k b next
          stay = loses k a b l.0 l.1 some_q some_b

          by_test : (c : Bool) → is_last k a b l ≡ c
              → length (tight_job l.0 l.1 k.q ∷ elim c [ true ↦ [] | false ↦ smalls k.p l.0 gs ++ rest ]) ≤ suc more
              → (a * k.p < leaving k b next → length rest ≤ more
              → AreTraps k.p k.q a b next.0 (phases_of more next) (last_of more next))
              → AreTraps k.p k.q a b l.0 (cond c [] (gs ∷ phases_of more next)) (cond c l.1 (last_of more next))
          by_test true last few further = (some, leb-true _ _ last)
          by_test false on few further = (
            all_pieces (λ g. (1 ≤ g) × (a * (k.p * g) < b * (k.p * l.0 + k.q * (sum gs + 1)))) (l.1 - 1)
                (small_work k a b l) (l.1 - 1) (some_small l) cheap,
            subst (λ w. a * (k.q * w) < b * (k.p * (l.0 + sum gs) + k.q * first_of (phases_of more next)
                (last_of more next))) work
                (subst (λ t. a * (k.q * l.1) < b * (k.p * t + k.q * first_of (phases_of more next)
                (last_of more next))) tick
                (subst (λ w. a * (k.q * l.1) < b * (k.p * next.0 + k.q * w)) (sym first) stay)),
            subst (λ w. k.p * l.0 + k.q * w ≤ k.p * (l.0 + sum gs) + k.q * first_of (phases_of more next)
                (last_of more next)) work
                (subst (λ t. k.p * l.0 + k.q * l.1 ≤ k.p * t + k.q * first_of (phases_of more next)
                (last_of more next)) tick
                (subst (λ w. k.p * l.0 + k.q * l.1 ≤ k.p * next.0 + k.q * w) (sym first) rising)),
            subst (λ t. AreTraps k.p k.q a b t (phases_of more next) (last_of more next)) tick
                (further (omega (arith, one, goes_on, stay)) fewer),
          ) where
            goes_on : leaving k b l ≤ staying k a l
            goes_on = omega (arith, leb-false _ _ on)

            first : first_of (phases_of more next) (last_of more next) ≡ next.1
            first = first_is more next (omega arith)

            cheap : (g : ℕ) → 1 ≤ g → g ≤ small_work k a b l
                → (1 ≤ g) × (a * (k.p * g) < b * (k.p * l.0 + k.q * (sum gs + 1)))
            cheap g some_g less = (
              some_g,
              subst (λ w. a * (k.p * g) < b * (k.p * l.0 + k.q * w)) work (small_cheap l g one less),
            )

            rising : k.p * l.0 + k.q * l.1 ≤ k.p * next.0 + k.q * next.1
            rising = cancel _ _ _ some_b (omega (arith, goes_on, stay))

            fewer : length rest ≤ more
            fewer = level (length (smalls k.p l.0 gs)) (length rest) (length (smalls k.p l.0 gs ++ rest)) few
                (length-append (smalls k.p l.0 gs) rest) where
                  level : (m n all : ℕ) → suc all ≤ suc more → all ≡ m + n → n ≤ more
                  level m n all few is = omega (arith, few, is)

    -- beside the first link one tick of a small job doesn't pay
    pub first_cheap : a * k.p < leaving k b (first_link k a b)
    first_cheap = level (a * k.p / (b * k.q)) (lt-mul-div-succ (a * k.p) (mul-le 1 1 b k.q some_b some_q)) where
      level : (d : ℕ) → a * k.p < b * k.q * (d + 1) → a * k.p < b * (k.p * 0 + k.q * (d + 1))
      level d less = omega (arith, less)
