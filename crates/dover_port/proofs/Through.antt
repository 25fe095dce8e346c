-- Texts that pass through a buffer, one behind another.
use Rattle.std.proofs.Common.{◌≡◌, ℕ, List, [], ◌++◌, Option, length-append, arith, sym, ap, ◌∙◌, append_assoc}
use Rattle.std.proofs.Common.{append-nil}
use Rattle.dover_port.specs.Moves.{IsProperPrefix, Passes, CutsShort, Move, ArePuts, outs}
use Rattle.dover_port.proofs.Made.{since_none, since_then, since_weaker, ArePuts-append, outs-append}

module _ (a b c : Option (List Move)) (p q r t u : List ℕ) where
  -- a text, and then another
  join_all : (xs ys : List Move) → ArePuts xs × (outs xs ++ q ≡ p ++ t) → ArePuts ys × (outs ys ++ r ≡ q ++ u)
      → ArePuts (xs ++ ys) × (outs (xs ++ ys) ++ r ≡ p ++ (t ++ u))
  join_all xs ys f s = (
    ArePuts-append xs ys f.0 s.0,
    ap (λ l. l ++ r) (outs-append xs ys) ∙ append_assoc (outs xs) (outs ys) r ∙ ap (λ l. outs xs ++ l) s.1
        ∙ sym (append_assoc (outs xs) q u)
        ∙ ap (λ l. l ++ u) f.1 ∙ append_assoc p t u,
  )

  -- a text, and a front of another
  join_part : (xs ys : List Move) → ArePuts xs × (outs xs ++ q ≡ p ++ t) → ArePuts ys
      × IsProperPrefix (outs ys) (q ++ u)
      → ArePuts (xs ++ ys) × IsProperPrefix (outs (xs ++ ys)) (p ++ (t ++ u))
  join_part xs ys f s = (
    ArePuts-append xs ys f.0 s.0,
    (
      s.1.0,
      s.1.1,
      sym (append_assoc p t u) ∙ ap (λ l. l ++ u) (sym f.1) ∙ append_assoc (outs xs) q u ∙ ap (λ l. outs xs ++ l) s.1.2
          ∙ sym (append_assoc (outs xs) (outs ys) s.1.0) ∙ ap (λ l. l ++ s.1.0) (sym (outs-append xs ys)),
    ),
  )

  -- One text passes, and then another.
  pub passes_then : Passes a b p q t → Passes b c q r u → Passes a c p r (t ++ u)
  passes_then first second = since_then a b c _ _ _ first second join_all

  -- One text passes, and then another is cut short.
  pub passes_then_cut : Passes a b p q t → CutsShort b c q u → CutsShort a c p (t ++ u)
  passes_then_cut first second = since_then a b c _ _ _ first second join_part

module _ (a b : Option (List Move)) (p t : List ℕ) where
  -- a front of the first of two texts
  longer : (u : List ℕ) (xs : List Move) → ArePuts xs × IsProperPrefix (outs xs) (p ++ t) → ArePuts xs
      × IsProperPrefix (outs xs) (p ++ (t ++ u))
  longer u xs it = (
    it.0,
    (
      it.1.0 ++ u,
      omega (arith, it.1.1, length-append it.1.0 u),
      sym (append_assoc p t u) ∙ ap (λ l. l ++ u) it.1.2 ∙ append_assoc (outs xs) it.1.0 u,
    ),
  )

  -- What cuts a text short cuts a longer one short.
  pub cut_longer : (u : List ℕ) → CutsShort a b p t → CutsShort a b p (t ++ u)
  cut_longer u first = since_weaker a b _ _ first (longer u)

-- Nothing passes where nothing is done.
pub passes_nothing : (a : Option (List Move)) (p : List ℕ) → Passes a a p p []
passes_nothing a p = since_none a _ (tt, sym (append-nil p))
