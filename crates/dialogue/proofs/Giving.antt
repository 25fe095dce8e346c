-- What is left to give, part by part.
use Rattle.std.proofs.Common.{◌≡◌, ◌<◌, ◌+◌, ◌^◌, ◌-◌, ℕ, List, [], ◌∷◌, ◌++◌, length, refl, sym, ap, ◌∙◌, subst}
use Rattle.std.proofs.Common.{Option, Ok, Err, true, false, arith, append_assoc, length-append, append-nil}
use Rattle.std.proofs.lemmas.List.Concat.{flat_map-append}
use Rattle.dover_port.specs.Moves.{Move, Passes, CutsShort, PutsThrough}
use Rattle.dover_port.specs.declared.port.Failed.{Failed}
use Rattle.dover_port.proofs.Through.{passes_then, passes_then_cut, cut_longer, passes_nothing}
use Rattle.dialogue.specs.Turns.{joined, Standing, Ready, GivesBy}

-- Of the parts some were given and put, so many, and the others are left.
pub record HasGiven (standing : Standing) (old new : Option (List Move)) (before after x : List ℕ)
    (rest : List (List ℕ)) (count : ℕ) : Type 0 where
  pub given : List (List ℕ)
  pub left : List (List ℕ)
  pub whole : rest ≡ given ++ left
  pub counted : length given ≡ count
  pub stands : standing x left
  pub puts : Passes old new before after (joined given)

-- none was given
pub given_none : (standing : Standing) (a : Option (List Move)) (p x : List ℕ) (rest : List (List ℕ)) → standing x rest
    → HasGiven standing a a p p x rest 0
given_none standing a p x rest stands =
    record { given = []; left = rest; whole = refl; counted = refl; stands = stands; puts = passes_nothing a p }

-- the text of parts and one more
joined_more : (parts : List (List ℕ)) (part : List ℕ) → joined (parts ++ part ∷ []) ≡ joined parts ++ part
joined_more parts part = flat_map-append (λ l. l) parts (part ∷ []) ∙ ap (λ l. joined parts ++ l) (append-nil part)

-- and more
joined_on : (parts : List (List ℕ)) (part : List ℕ) (more : List (List ℕ))
    → joined (parts ++ part ∷ more) ≡ (joined parts ++ part) ++ joined more
joined_on parts part more = flat_map-append (λ l. l) parts (part ∷ more)
    ∙ sym (append_assoc (joined parts) part (joined more))

module _ (standing now : Standing) (ready : Ready) (a b : Option (List Move)) (p q x : List ℕ) (rest : List (List ℕ))
    (count : ℕ)
    (given : HasGiven standing a b p q x rest count) where
  module _ (part : List ℕ) (gives : GivesBy now ready x given.left part true) where
    -- a part more
    pub given_more : (c : Option (List Move)) (r : List ℕ) → Passes b c q r part
        → HasGiven now a c p r x rest (count + 1)
    given_more c r puts = record {
      given = given.given ++ part ∷ [];
      left = gives.0;
      whole = given.whole ∙ ap (λ l. given.given ++ l) gives.1 ∙ sym (append_assoc given.given (part ∷ []) gives.0);
      counted = omega (arith, given.counted, length-append given.given (part ∷ []));
      stands = gives.2;
      puts = subst (Passes a c p r) (sym (joined_more given.given part))
          (passes_then a b c p q r (joined given.given) part given.puts puts);
    }

    -- the part couldn't be put
    pub given_cut : (c : Option (List Move)) (r : List ℕ) (failed : Failed) → CutsShort b c q part
        → PutsThrough {T = Unit {0}} a c (Err failed) p r (joined rest)
    given_cut c r failed cut = record {
      all = tt;
      part = subst (CutsShort a c p)
          (sym (ap joined (given.whole ∙ ap (λ l. given.given ++ l) gives.1) ∙ joined_on given.given part gives.0))
          (cut_longer a c p (joined given.given ++ part) (joined gives.0)
          (passes_then_cut a b c p q r (joined given.given) part given.puts cut));
    }

  -- nothing is left
  pub given_all : (part : List ℕ) → GivesBy now ready x given.left part false
      → PutsThrough {T = Unit {0}} {E = Failed} a b (Ok tt) p q (joined rest)
  given_all part gives = record {
    all = subst (λ parts. Passes a b p q (joined parts))
        (sym (given.whole ∙ ap (λ l. given.given ++ l) gives.0 ∙ append-nil given.given)) given.puts;
    part = tt;
  }

  -- no more than there were
  pub given_few : length rest < 2 ^ 64 - 1 → count < 2 ^ 64 - 1
  given_few few = omega (
    arith,
    few,
    given.counted,
    length-append given.given given.left,
    ap (λ (l : List (List ℕ)). length l) given.whole,
  )
