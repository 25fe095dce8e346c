-- A piece, taken front by front.
use Rattle.std.proofs.Common.{◌≡◌, ◌<◌, ◌-◌, arith, ℕ, List, [], ◌++◌, length, take, drop, refl, sym, ap, ◌∙◌, subst}
use Rattle.std.proofs.Common.{Option, Bool, true, false, append_assoc, append-nil, take-append-drop}
use Rattle.std.proofs.lemmas.List.{take_rest}
use Rattle.std.proofs.Math.Seq.{take-length}
use Rattle.dover_model.specs.WholeRun.{Begins}
use Rattle.dover_port.specs.Moves.{Move, Passes, CutsShort}
use Rattle.dover_port.proofs.Through.{passes_then, passes_then_cut, passes_nothing}
use Rattle.dialogue.specs.Talk.{Talk, IsSteady}
use Rattle.dialogue.specs.Turns.{joined, Standing, Ready, AllGiven, Costs, Takes, HasHeard, IsFrontOfDue}

-- nothing was taken
pub heard_none : (t : Talk) (ready : Ready) (x piece : List ℕ) (a : Option (List Move)) (p : List ℕ) → ready x
    → t.goes_on x ≡ true
    → HasHeard t ready x piece piece a a p p true
heard_none t ready x piece a p stands goes_on = record {
  front = [];
  cut = refl;
  text = [];
  due = ap t.due (append-nil x) ∙ sym (append-nil (t.due x));
  puts = passes_nothing a p;
  stands = subst (λ y. ready y) (sym (append-nil x)) stands;
  goes_on = ap t.goes_on (append-nil x) ∙ goes_on;
}

-- a piece was taken whole, for which nothing is due
pub takes_whole : (t : Talk) (ready : Ready) (x piece : List ℕ) → 0 < length piece → t.due (x ++ piece) ≡ t.due x
    → ready (x ++ piece) → Takes t (AllGiven ready) x piece (length piece)
takes_whole t ready x piece some none stands = (
  some,
  omega arith,
  (
    [],
    ap (λ l. t.due (x ++ l)) (take-length piece) ∙ none ∙ sym (append-nil (t.due x)),
    (subst (λ l. ready (x ++ l)) (sym (take-length piece)) stands, refl),
  ),
)

-- what is due for a front of the piece is a front of what is due for the piece
pub front_due : (t : Talk) → IsSteady t → (x piece front behind text : List ℕ) → piece ≡ front ++ behind
    → t.due (x ++ front) ≡ t.due x ++ text
    → IsFrontOfDue t x piece text
front_due t steady x piece front behind text cut due =
    let more : Begins (t.due (x ++ front)) (t.due ((x ++ front) ++ behind)) = steady.grows (x ++ front) behind in
    record {
      begins = (
        more.0,
        ap t.due (ap (λ l. x ++ l) cut ∙ sym (append_assoc x front behind)) ∙ more.1
            ∙ ap (λ l. l ++ more.0) due,
      );
    }

module _ (t : Talk) (steady : IsSteady t) (ready : Ready) (x piece rest : List ℕ) (a b : Option (List Move))
    (p q : List ℕ)
    (heard : HasHeard t ready x piece rest a b p q true) where
  -- there was no memory
  pub heard_no_memory : (costs : Costs) → t.lacks ((x ++ heard.front) ++ rest) false
      × costs ((x ++ heard.front) ++ rest)
      → t.lacks (x ++ piece) false × costs (x ++ piece)
      × ((text : List ℕ) × IsFrontOfDue t x piece text × Passes a b p q text)
  heard_no_memory costs lacks = (
    subst (λ y. t.lacks y false) (append_assoc x heard.front rest ∙ ap (λ l. x ++ l) (sym heard.cut)) lacks.0,
    subst costs (append_assoc x heard.front rest ∙ ap (λ l. x ++ l) (sym heard.cut)) lacks.1,
    (heard.text, front_due t steady x piece heard.front rest heard.text heard.cut heard.due, heard.puts),
  )

  module _ (now : Standing) (n : ℕ) (takes : Takes t now (x ++ heard.front) rest n) where
    -- what was taken so far
    abbrev taken : List ℕ
    taken = heard.front ++ take n rest

    -- behind x
    taken_is : (x ++ heard.front) ++ take n rest ≡ x ++ taken
    taken_is = append_assoc x heard.front (take n rest)

    cut_more : piece ≡ taken ++ drop n rest
    cut_more = heard.cut ∙ ap (λ l. heard.front ++ l) (sym (take-append-drop n rest))
        ∙ sym (append_assoc heard.front (take n rest) (drop n rest))

    due_more : t.due (x ++ taken) ≡ t.due x ++ (heard.text ++ joined takes.2.0)
    due_more = ap t.due (sym taken_is) ∙ takes.2.1 ∙ ap (λ l. l ++ joined takes.2.0) heard.due
        ∙ append_assoc (t.due x) heard.text (joined takes.2.0)

    module _ (c : Option (List Move)) (r : List ℕ) where
      -- what is due couldn't be put
      pub heard_cut : (costs : Costs) → ((x y : List ℕ) → costs x → costs (x ++ y))
          → costs ((x ++ heard.front) ++ take n rest)
          → CutsShort b c q (joined takes.2.0) → costs (x ++ piece)
          × ((text : List ℕ) × IsFrontOfDue t x piece text × CutsShort a c p text)
      heard_cut costs behind spent cut = (
        subst costs (append_assoc x taken (drop n rest) ∙ ap (λ l. x ++ l) (sym cut_more))
            (behind (x ++ taken) (drop n rest) (subst costs taken_is spent)),
        (
          heard.text ++ joined takes.2.0,
          front_due t steady x piece taken (drop n rest) (heard.text ++ joined takes.2.0) cut_more due_more,
          passes_then_cut a b c p q r heard.text (joined takes.2.0) heard.puts cut,
        ),
      )

      -- it was put
      pub heard_more : (last : Ready) (more : Bool) → Passes b c q r (joined takes.2.0)
          → last ((x ++ heard.front) ++ take n rest) → t.goes_on ((x ++ heard.front) ++ take n rest) ≡ more
          → HasHeard t last x piece (take (length rest - n) (drop n rest)) a c p r more
      heard_more last more puts stands goes_on = record {
        front = taken;
        cut = cut_more ∙ ap (λ l. taken ++ l) (sym (take_rest rest n));
        text = heard.text ++ joined takes.2.0;
        due = due_more;
        puts = passes_then a b c p q r heard.text (joined takes.2.0) heard.puts puts;
        stands = subst (λ y. last y) taken_is stands;
        goes_on = ap t.goes_on (sym taken_is) ∙ goes_on;
      }
