-- What is counted of the steps of a run is counted of those that it prints, where the others don't count.
use Rattle.std.proofs.Common.{◌≡◌, ℕ, ◌+◌, List, [], ◌∷◌, refl, sym, ap, ◌∙◌, Bool, false, cond, count_by, arith}
use Rattle.std.specs.List.{cons_option}
use Rattle.std.proofs.lemmas.List.Sums.{sum_by-cons}
use Rattle.dover_model.specs.declared.events.Event.{Event}
use Rattle.dover_model.specs.Common.{Move, Prints, Step, event_of, printed_of}
use Rattle.dover_model.specs.Step.{Waits, Ticks}

module _ (p : Move → Bool) (waits : (n : ℕ) → p (Waits n) ≡ false) (ticks : p Ticks ≡ false) where
  -- of the steps it is counted what is counted of their events
  pub count_printed : (xs : List Step) → count_by (λ x. p x.move) xs ≡ count_by (λ e. p (Prints e)) (printed_of xs)
  count_printed [] = refl
  count_printed (x ∷ xs) = sum_by-cons (λ (y : Step). cond (p y.move) 1 0) x xs
      ∙ by_move x.move (count_printed xs) where
        by_move : (m : Move) → count_by (λ (y : Step). p y.move) xs ≡ count_by (λ e. p (Prints e)) (printed_of xs)
            → cond (p m) 1 0 + count_by (λ (y : Step). p y.move) xs
            ≡ count_by (λ e. p (Prints e)) (cons_option (event_of m) (printed_of xs))
        by_move (Prints e) rest = ap (λ n. cond (p (Prints e)) 1 0 + n) rest
            ∙ sym (sum_by-cons (λ (f : Event). cond (p (Prints f)) 1 0) e (printed_of xs))
        by_move (Waits n) rest = omega (arith, ap {B = ℕ} (λ (b : Bool). cond b 1 0) (waits n), rest)
        by_move Ticks rest = omega (arith, ap {B = ℕ} (λ (b : Bool). cond b 1 0) ticks, rest)
