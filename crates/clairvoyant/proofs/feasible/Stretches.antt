-- The stretches of a schedule: in order, spread again, and with a run of one job behind.
use Rattle.std.proofs.Common.{◌≡◌, ℕ, zero, suc, ◌+◌, ◌-◌, ◌≤◌, ◌<◌, List, [], ◌∷◌, ◌++◌, length, replicate, refl, sym}
use Rattle.std.proofs.Common.{ap, ◌∙◌, Bool, true, false, cond, eqb, arith, set, get_or}
use Rattle.std.specs.Prelude.{◌&&◌, slice_get}
use Rattle.std.specs.Option.{option_map_or}
use Rattle.std.proofs.lemmas.Bool.{eqb-true, eq-eqb, ne_eqb, and_parts}
use Rattle.dover_model.specs.Limits.{idle}
use Rattle.dover_model.specs.Pieces.{InOrderFrom, spread_from, with_tick, stretches_from, stretches}
use Rattle.dover_model.specs.declared.pieces.Piece.{Piece}
use Rattle.dover_model.proofs.lists.Members.{by_bool}
use Rattle.dover_model.proofs.lists.Tests.{never}
use Rattle.clairvoyant.specs.feasible.Progress.{goes_on}

-- the piece of these ticks
abbrev pub piece_of : (from until number : ℕ) → Piece
piece_of f u n = record { from = f; until = u; number = n }

-- the two as one
abbrev pub joined : Piece → Piece → Piece
joined q p = piece_of q.from p.until q.number

-- a piece behind the others
abbrev pub with_piece : List Piece → Piece → List Piece
with_piece [] p = p ∷ []
with_piece (q ∷ []) p = cond (goes_on p q) (joined q p ∷ []) (q ∷ p ∷ [])
with_piece (q ∷ r ∷ more) p = q ∷ with_piece (r ∷ more) p

-- whether a tick goes on as the piece
abbrev before : ℕ → ℕ → Piece → Bool
before t m p = eqb p.number m && eqb p.from (t + 1)

-- a tick in front and a piece behind
abbrev in_front : Bool → ℕ → ℕ → Piece → List Piece → List Piece
in_front b t m p ps = cond b (piece_of t p.until p.number ∷ ps) (piece_of t (t + 1) m ∷ p ∷ ps)

-- equality is the same the other way round
turned : (m n : ℕ) → eqb m n ≡ eqb n m
turned m n = by_bool _ (eqb m n) (λ e. e ∙ sym (eq-eqb n m (sym (eqb-true m n e))))
    (λ e. e ∙ sym (ne_eqb n m (λ same. never (sym e ∙ eq-eqb m n (sym same)))))

-- a tick in front and a piece behind can come in either order
pub tick_and_piece : (t m : ℕ) (ps : List Piece) (p : Piece)
    → with_tick t m (with_piece ps p) ≡ with_piece (with_tick t m ps) p
tick_and_piece t m [] p = by_bool _ (before t m p)
    (λ e. let parts : (eqb p.number m ≡ true) × (eqb p.from (t + 1) ≡ true) =
    and_parts (eqb p.number m) (eqb p.from (t + 1)) e in
    let number : p.number ≡ m = eqb-true p.number m parts.0 in
    ap (λ b. in_front b t m p []) e ∙ ap (λ n. piece_of t p.until n ∷ []) number
    ∙ sym (ap (λ b. cond b (piece_of t p.until m ∷ []) (piece_of t (t + 1) m ∷ p ∷ [])) (same ∙ e)))
    (λ e. ap (λ b. in_front b t m p []) e
    ∙ sym (ap (λ b. cond b (piece_of t p.until m ∷ []) (piece_of t (t + 1) m ∷ p ∷ [])) (same ∙ e))) where
      same : goes_on p (piece_of t (t + 1) m) ≡ before t m p
      same = let e : eqb m p.number ≡ eqb p.number m = turned m p.number in
          let f : eqb (t + 1) p.from ≡ eqb p.from (t + 1) = turned (t + 1) p.from in
          ap (λ b. b && eqb (t + 1) p.from) e ∙ ap (λ b. eqb p.number m && b) f
tick_and_piece t m (q ∷ []) p = by_two (before t m q) (goes_on p q) refl refl where
  by_two : (b c : Bool) → before t m q ≡ b → goes_on p q ≡ c
      → with_tick t m (cond (goes_on p q) (joined q p ∷ []) (q ∷ p ∷ [])) ≡ with_piece
      (in_front (before t m q) t m q []) p
  by_two true true e f =
      ap (λ c. with_tick t m (cond c (joined q p ∷ []) (q ∷ p ∷ []))) f
      ∙ ap (λ b. in_front b t m (joined q p) []) e
      ∙ sym (ap (λ c. cond c (piece_of t p.until q.number ∷ []) (piece_of t q.until q.number ∷ p ∷ [])) f)
      ∙ sym (ap (λ b. with_piece (in_front b t m q []) p) e)
  by_two true false e f =
      ap (λ c. with_tick t m (cond c (joined q p ∷ []) (q ∷ p ∷ []))) f
      ∙ ap (λ b. in_front b t m q (p ∷ [])) e
      ∙ sym (ap (λ c. cond c (piece_of t p.until q.number ∷ []) (piece_of t q.until q.number ∷ p ∷ [])) f)
      ∙ sym (ap (λ b. with_piece (in_front b t m q []) p) e)
  by_two false true e f =
      ap (λ c. with_tick t m (cond c (joined q p ∷ []) (q ∷ p ∷ []))) f
      ∙ ap (λ b. in_front b t m (joined q p) []) e
      ∙ sym (ap (λ c. piece_of t (t + 1) m ∷ cond c (joined q p ∷ []) (q ∷ p ∷ [])) f)
      ∙ sym (ap (λ b. with_piece (in_front b t m q []) p) e)
  by_two false false e f =
      ap (λ c. with_tick t m (cond c (joined q p ∷ []) (q ∷ p ∷ []))) f
      ∙ ap (λ b. in_front b t m q (p ∷ [])) e
      ∙ sym (ap (λ c. piece_of t (t + 1) m ∷ cond c (joined q p ∷ []) (q ∷ p ∷ [])) f)
      ∙ sym (ap (λ b. with_piece (in_front b t m q []) p) e)
tick_and_piece t m (q ∷ r ∷ more) p = by_bool _ (before t m q)
    (λ e. ap (λ b. in_front b t m q (with_piece (r ∷ more) p)) e
    ∙ sym (ap (λ b. with_piece (in_front b t m q (r ∷ more)) p) e))
    (λ e. ap (λ b. in_front b t m q (with_piece (r ∷ more) p)) e
    ∙ sym (ap (λ b. with_piece (in_front b t m q (r ∷ more)) p) e))

-- ---- a run of one job behind

-- a run of one job is one stretch
run_alone : (t n : ℕ) (k until : ℕ) → (n ≡ idle → ⊥) → until ≡ t + suc k
    → stretches_from t (replicate (suc k) n) ≡ piece_of t until n ∷ []
run_alone t n zero until job e = by_idle (ne_eqb n idle job) where
  by_idle : eqb n idle ≡ false → stretches_from t (n ∷ []) ≡ piece_of t until n ∷ []
  by_idle f = ap (λ b. cond b (stretches_from (t + 1) []) (with_tick t n (stretches_from (t + 1) []))) f
      ∙ ap (λ u. piece_of t u n ∷ []) (let same : t + 1 ≡ until = omega (arith, e) in same)
run_alone t n (suc k) until job e =
    by_idle (ne_eqb n idle job) (run_alone (t + 1) n k until job (omega (arith, e))) where
      goes : before t n (piece_of (t + 1) until n) ≡ true
      goes = ap (λ b. b && eqb (t + 1) (t + 1)) (eq-eqb n n refl) ∙ eq-eqb (t + 1) (t + 1) refl

      by_idle : eqb n idle ≡ false → stretches_from (t + 1) (replicate (suc k) n) ≡ piece_of (t + 1) until n ∷ []
          → stretches_from t (n ∷ replicate (suc k) n) ≡ piece_of t until n ∷ []
      by_idle f rest = ap (λ b. cond b (stretches_from (t + 1) (replicate (suc k) n))
          (with_tick t n (stretches_from (t + 1) (replicate (suc k) n)))) f
          ∙ ap (λ ps. with_tick t n ps) rest ∙ ap (λ b. in_front b t n (piece_of (t + 1) until n) []) goes

-- behind a schedule
stretches_run_from : (t : ℕ) (s : List ℕ) (n k at until : ℕ) → (n ≡ idle → ⊥) → at ≡ t + length s → until ≡ at + suc k
    → stretches_from t (s ++ replicate (suc k) n) ≡ with_piece (stretches_from t s) (piece_of at until n)
stretches_run_from t [] n k at until job e f =
    run_alone t n k until job (omega (arith, e, f))
    ∙ ap (λ a. piece_of a until n ∷ []) (let same : t ≡ at = omega (arith, e) in same)
stretches_run_from t (x ∷ s) n k at until job e f =
    by_idle (eqb x idle) (stretches_run_from (t + 1) s n k at until job (omega (arith, e)) f) where
      by_idle : (b : Bool) → stretches_from (t + 1) (s ++ replicate (suc k) n) ≡ with_piece (stretches_from (t + 1) s)
          (piece_of at until n)
          → cond b (stretches_from (t + 1) (s ++ replicate (suc k) n))
          (with_tick t x (stretches_from (t + 1) (s ++ replicate (suc k) n)))
          ≡ with_piece (cond b (stretches_from (t + 1) s) (with_tick t x (stretches_from (t + 1) s)))
          (piece_of at until n)
      by_idle true rest = rest
      by_idle false rest = ap (λ ps. with_tick t x ps) rest
          ∙ tick_and_piece t x (stretches_from (t + 1) s) (piece_of at until n)

-- idle ticks behind a schedule add nothing
pub stretches_idle : (t : ℕ) (s : List ℕ) (k : ℕ) → stretches_from t (s ++ replicate k idle) ≡ stretches_from t s
stretches_idle t [] zero = refl
stretches_idle t [] (suc k) = stretches_idle (t + 1) [] k
stretches_idle t (x ∷ s) k = ap (λ ps. cond (eqb x idle) ps (with_tick t x ps)) (stretches_idle (t + 1) s k)

-- ---- in order

-- pieces that begin later begin late enough
later_in_order : (t u : ℕ) (ps : List Piece) → t ≤ u → InOrderFrom u ps → InOrderFrom t ps
later_in_order t u [] less all = tt
later_in_order t u (p ∷ ps) less all = (omega (arith, all.0), all.1, all.2)

-- a tick in front keeps the order
tick_in_order : (t m : ℕ) (ps : List Piece) → InOrderFrom (t + 1) ps → InOrderFrom t (with_tick t m ps)
tick_in_order t m [] all = (omega arith, omega arith, tt)
tick_in_order t m (p ∷ ps) all = by_test (before t m p) where
  by_test : (b : Bool) → InOrderFrom t (in_front b t m p ps)
  by_test true = (omega arith, omega (arith, all.0, all.1), all.2)
  by_test false = (omega arith, omega arith, all)

-- stretches are in order
pub stretches_in_order : (t : ℕ) (s : List ℕ) → InOrderFrom t (stretches_from t s)
stretches_in_order t [] = tt
stretches_in_order t (x ∷ s) = by_idle (eqb x idle) (stretches_in_order (t + 1) s) where
  by_idle : (b : Bool) → InOrderFrom (t + 1) (stretches_from (t + 1) s)
      → InOrderFrom t (cond b (stretches_from (t + 1) s) (with_tick t x (stretches_from (t + 1) s)))
  by_idle true all = later_in_order t (t + 1) (stretches_from (t + 1) s) (omega arith) all
  by_idle false all = tick_in_order t x (stretches_from (t + 1) s) all

-- ---- spread again

-- no ticks
no_ticks : (t : ℕ) (n : ℕ) → replicate (t - t) n ≡ []
no_ticks t n = ap (λ k. replicate k n) (let none : t - t ≡ 0 = omega arith in none)

-- a tick in front comes first
spread_tick : (t m : ℕ) (ps : List Piece) → InOrderFrom (t + 1) ps
    → spread_from t (with_tick t m ps) ≡ m ∷ spread_from (t + 1) ps
spread_tick t m [] all = ap (λ xs. xs ++ replicate (t + 1 - t) m ++ []) (no_ticks t idle)
    ∙ ap (λ k. replicate k m ++ []) (let one : t + 1 - t ≡ 1 = omega arith in one)
spread_tick t m (p ∷ ps) all = by_bool _ (before t m p)
    (λ e. let parts : (eqb p.number m ≡ true) × (eqb p.from (t + 1) ≡ true) =
    and_parts (eqb p.number m) (eqb p.from (t + 1)) e in
    let number : p.number ≡ m = eqb-true p.number m parts.0 in
    let from : p.from ≡ t + 1 = eqb-true p.from (t + 1) parts.1 in
    ap (λ b. spread_from t (in_front b t m p ps)) e
    ∙ ap (λ xs. xs ++ replicate (p.until - t) p.number ++ spread_from p.until ps) (no_ticks t idle)
    ∙ ap (λ k. replicate k p.number ++ spread_from p.until ps)
    (let longer : p.until - t ≡ suc (p.until - p.from) = omega (arith, all.1, from) in longer)
    ∙ ap (λ n. n ∷ (replicate (p.until - p.from) p.number ++ spread_from p.until ps)) number
    ∙ ap (λ k. m ∷ (replicate k idle ++ replicate (p.until - p.from) p.number ++ spread_from p.until ps))
    (let none : 0 ≡ p.from - (t + 1) = omega (arith, from) in none))
    (λ e. ap (λ b. spread_from t (in_front b t m p ps)) e
    ∙ ap (λ xs. xs ++ replicate (t + 1 - t) m ++ spread_from (t + 1) (p ∷ ps)) (no_ticks t idle)
    ∙ ap (λ k. replicate k m ++ spread_from (t + 1) (p ∷ ps)) (let one : t + 1 - t ≡ 1 = omega arith in one))

-- where the pieces begin later, the first tick is idle
spread_later : (t : ℕ) (p : Piece) (ps : List Piece) → t + 1 ≤ p.from
    → spread_from t (p ∷ ps) ≡ idle ∷ spread_from (t + 1) (p ∷ ps)
spread_later t p ps later =
    ap (λ k. replicate k idle ++ replicate (p.until - p.from) p.number ++ spread_from p.until ps)
    (let more : p.from - t ≡ suc (p.from - (t + 1)) = omega (arith, later) in more)

-- the stretches of a schedule are the schedule again, but for idle ticks behind
pub spread_again : (t : ℕ) (s : List ℕ) → (k : ℕ) × (s ≡ spread_from t (stretches_from t s) ++ replicate k idle)
spread_again t [] = (0, refl)
spread_again t (x ∷ s) = (elim (eqb x idle) as (λ b. eqb x idle ≡ b →
    ((k : ℕ) × (s ≡ spread_from (t + 1) (stretches_from (t + 1) s) ++ replicate k idle)) → InOrderFrom (t + 1)
    (stretches_from (t + 1) s) → (k : ℕ) × (x ∷ s ≡ spread_from t
    (cond (eqb x idle) (stretches_from (t + 1) s) (with_tick t x (stretches_from (t + 1) s))) ++ replicate k idle)) [
      | true ↦ λ e rest all.
          let found : (l : ℕ) × (idle ∷ s ≡ spread_from t (stretches_from (t + 1) s) ++ replicate l idle) =
          by_first (stretches_from (t + 1) s) rest.0 rest.1 all in (
            found.0,
            ap (λ y. y ∷ s) (eqb-true x idle e) ∙ found.1
                ∙ sym (ap (λ b. spread_from t (cond b (stretches_from (t + 1) s) (with_tick t x (stretches_from
                (t + 1) s))) ++ replicate found.0 idle) e),
          )
      | false ↦ λ e rest all. (
        rest.0,
        ap (λ xs. x ∷ xs) rest.1
            ∙ sym (ap (λ xs. xs ++ replicate rest.0 idle) (spread_tick t x (stretches_from (t + 1) s) all))
            ∙ sym (ap (λ b. spread_from t (cond b (stretches_from (t + 1) s) (with_tick t x (stretches_from (t + 1) s)))
            ++ replicate rest.0 idle) e),
      )
    ]) refl (spread_again (t + 1) s) (stretches_in_order (t + 1) s) where
      by_first : (ps : List Piece) (k : ℕ) → s ≡ spread_from (t + 1) ps ++ replicate k idle → InOrderFrom (t + 1) ps
          → (l : ℕ) × (idle ∷ s ≡ spread_from t ps ++ replicate l idle)
      by_first [] k e all = (suc k, ap (λ xs. idle ∷ xs) e)
      by_first (p ∷ ps) k e all =
          (k, ap (λ xs. idle ∷ xs) e ∙ sym (ap (λ xs. xs ++ replicate k idle) (spread_later t p ps all.0)))

-- ---- one more piece

-- whether the stretch at a place goes on
abbrev goes_on_at : Piece → ℕ → List Piece → Bool
goes_on_at p i ps = option_map_or (goes_on p) (slice_get ps i) false

-- where the last one goes on, it is there
some_last : (p : Piece) (i : ℕ) (ps : List Piece) → goes_on_at p i ps ≡ true → i < length ps
some_last p i [] on = let e : false ≡ true = on in cc
some_last p zero (q ∷ ps) on = omega arith
some_last p (suc i) (q ∷ ps) on = let rest : i < length ps = some_last p i ps on in omega arith

-- it goes on
goes_on_in_place : (p : Piece) (i : ℕ) (ps : List Piece) (last : Piece) → i + 1 ≡ length ps → last ≡ get_or ps i last
    → goes_on_at p i ps ≡ true → set ps i (record last { until = p.until }) ≡ with_piece ps p
goes_on_in_place p i [] last at is on = absurd (omega arith)
goes_on_in_place p zero (q ∷ []) last at is on = ap {A = Piece} (λ r. record r { until = p.until } ∷ []) is
    ∙ ap (λ b. cond b (joined q p ∷ []) (q ∷ p ∷ [])) (sym on)
goes_on_in_place p (suc i) (q ∷ []) last at is on = absurd (omega arith)
goes_on_in_place p zero (q ∷ r ∷ ps) last at is on = absurd (omega arith)
goes_on_in_place p (suc i) (q ∷ r ∷ ps) last at is on =
    ap (λ rest. q ∷ rest) (goes_on_in_place p i (r ∷ ps) last (omega arith) is on)

-- it is another one, or there is none
stays_behind : (p : Piece) (i : ℕ) (ps : List Piece) → i ≡ length ps - 1 → goes_on_at p i ps ≡ false
    → ps ++ p ∷ [] ≡ with_piece ps p
stays_behind p i [] at other = refl
stays_behind p zero (q ∷ []) at other = ap (λ b. cond b (joined q p ∷ []) (q ∷ p ∷ [])) (sym other)
stays_behind p (suc i) (q ∷ []) at other = absurd (omega arith)
stays_behind p zero (q ∷ r ∷ ps) at other = absurd (omega arith)
stays_behind p (suc i) (q ∷ r ∷ ps) at other =
    ap (λ rest. q ∷ rest) (stays_behind p i (r ∷ ps) (omega arith) other)

module _ (s : List ℕ) (p : Piece) (some : p.from < p.until) (job : p.number ≡ idle → ⊥) (here : length s ≡ p.from)
    (shown old : List Piece) (same : shown ≡ old) (is : old ≡ stretches s) where
  -- the stretches of the schedule with the ticks of the piece
  stretches_more : with_piece old p ≡ stretches (s ++ replicate (p.until - p.from) p.number)
  stretches_more =
      let longer : p.until - p.from ≡ suc (p.until - p.from - 1) = omega (arith, some) in
      ap (λ ps. with_piece ps p) is
      ∙ sym (ap (λ k. stretches (s ++ replicate k p.number)) longer
      ∙ stretches_run_from 0 s p.number (p.until - p.from - 1) p.from p.until job (omega (arith, here))
      (omega (arith, some)))

  -- the last one goes on, as the code finds it
  pub grown : (n : ℕ) (last : Piece) → n ≡ length old
      → true ≡ option_map_or (goes_on p) (slice_get shown (length shown - 1)) false
      → last ≡ get_or old (n - 1) last
      → set old (n - 1) (record last { until = p.until }) ≡ stretches (s ++ replicate (p.until - p.from) p.number)
  grown n last long on at =
      let goes : goes_on_at p (n - 1) old ≡ true = ap (λ m. goes_on_at p (m - 1) old) long
      ∙ sym (on ∙ ap (λ ps. goes_on_at p (length ps - 1) ps) same) in
      let there : n - 1 < length old = some_last p (n - 1) old goes in
      goes_on_in_place p (n - 1) old last (omega arith) at goes ∙ stretches_more

  -- or one more begins
  pub begun : false ≡ option_map_or (goes_on p) (slice_get shown (length shown - 1)) false
      → old ++ p ∷ [] ≡ stretches (s ++ replicate (p.until - p.from) p.number)
  begun other =
      stays_behind p (length old - 1) old refl (sym (other ∙ ap (λ ps. goes_on_at p (length ps - 1) ps) same))
      ∙ stretches_more
