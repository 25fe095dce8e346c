-- What a line of the input hands to its lane.
use Rattle.std.proofs.Common.{◌≡◌, ◌<◌, ◌+◌, ◌-◌, ℕ, suc, List, [], ◌∷◌, ◌++◌, length, map, refl, sym, ap, ◌∙◌, arith}
use Rattle.std.proofs.Common.{Bool, true, false, cond, ◌==◌, Option, Some, None, option_map, option_and_then, filter}
use Rattle.std.proofs.Common.{flat_map, ne_eqb, lt-ltb, append-nil}
use Rattle.std.specs.List.{range_with_len}
use Rattle.std.proofs.lemmas.Bool.{eqb-false}
use Rattle.std.proofs.lemmas.List.{map-append}
use Rattle.std.proofs.lemmas.List.Elements.{filter-append}
use Rattle.std.proofs.lemmas.List.Splits.{join_with_byte-slice_split, length-slice_split}
use Rattle.dover_model.specs.Common.{fields_of, line_of, numeral, fault_text}
use Rattle.dover_model.specs.Feed.{Short}
use Rattle.line_text.specs.Reading.{number_of_first}
use Rattle.lane_server.specs.Lanes.{lane_count, OfLane, numbered_line, of_lane, Handed, lane_lines, in_lane, feed_short}
use Rattle.lane_server.specs.Lanes.{lane_short, shorts_from}
use Rattle.lane_server.specs.Shorts.{short_texts}

-- ---- reading

-- the line of a lane's number and what is behind it
pub numbered_is : (fields : List (List ℕ)) (number : ℕ) (r : List ℕ)
    → number_of_first fields ≡ Some (number, fields_of r) → number < lane_count
    → numbered_line fields ≡ Some (OfLane number r)
numbered_is [] number r read low = absurd (let e : None ≡ Some (number, fields_of r) = read in cc)
numbered_is (field ∷ more) number r read low = by_numeral (numeral field) refl read where
  joined : more ≡ fields_of r → line_of more ≡ r
  joined same = ap line_of same ∙ join_with_byte-slice_split 32 r

  by_more : (ms : List (List ℕ)) → ms ≡ more → more ≡ fields_of r → numeral field ≡ Some number
      → numbered_line (field ∷ ms) ≡ Some (OfLane number (line_of ms))
  by_more [] is same spells = absurd (omega (arith, ap length (is ∙ same), length-slice_split (λ b. b == 32) r))
  by_more (m ∷ ms) is same spells =
      ap (option_and_then (of_lane (line_of (m ∷ ms)))) spells
      ∙ ap (λ b. cond b (Some (OfLane number (line_of (m ∷ ms)))) None) (lt-ltb number lane_count low)

  by_numeral : (o : Option ℕ) → numeral field ≡ o
      → option_map {U = ℕ × List (List ℕ)} (λ n. (n, more)) o ≡ Some (number, fields_of r)
      → numbered_line (field ∷ more) ≡ Some (OfLane number r)
  by_numeral None is e = absurd (let f : None ≡ Some (number, fields_of r) = e in cc)
  by_numeral (Some n) is e =
      let both : (n, more) ≡ (number, fields_of r) = let f : Some (n, more) ≡ Some (number, fields_of r) = e in cc in
      let same : more ≡ fields_of r = ap (λ (p : ℕ × List (List ℕ)). p.1) both in
      by_more more refl same (is ∙ ap Some (ap (λ (p : ℕ × List (List ℕ)). p.0) both))
      ∙ ap (λ l. Some (OfLane number l)) (joined same)

-- ---- the lines of a lane

-- a lane's lines, with one handed line more
pub lines_with : (handed : List Handed) (h : Handed) (i : ℕ)
    → lane_lines (handed ++ h ∷ []) i ≡ lane_lines handed i ++ cond (h.lane == i) (h.line ∷ []) []
lines_with handed h i = ap (map (λ (x : Handed). x.line)) (filter-append (λ (x : Handed). x.lane == i) handed (h ∷ []))
    ∙ map-append (λ (x : Handed). x.line) (filter (λ (x : Handed). x.lane == i) handed)
    (filter (λ (x : Handed). x.lane == i) (h ∷ []))
    ∙ ap (λ ls. lane_lines handed i ++ ls) (by_test (h.lane == i)) where
      by_test : (b : Bool) → map (λ (x : Handed). x.line) (cond b (h ∷ []) []) ≡ cond b (h.line ∷ []) []
      by_test true = refl
      by_test false = refl

-- of its own lane
pub lines_same : (handed : List Handed) (lane : ℕ) (line : List ℕ)
    → lane_lines (handed ++ record { lane = lane; line = line } ∷ []) lane ≡ lane_lines handed lane ++ line ∷ []
lines_same handed lane line = lines_with handed (record { lane = lane; line = line }) lane
    ∙ ap (λ b. lane_lines handed lane ++ cond b (line ∷ []) []) (same_test (lane == lane) refl) where
      same_test : (b : Bool) → (lane == lane) ≡ b → b ≡ true
      same_test true e = refl
      same_test false e = absurd (eqb-false lane lane e refl)

-- of another lane
pub lines_other : (handed : List Handed) (lane : ℕ) (line : List ℕ) (i : ℕ) → (i ≡ lane → ⊥)
    → lane_lines (handed ++ record { lane = lane; line = line } ∷ []) i ≡ lane_lines handed i
lines_other handed lane line i other = lines_with handed (record { lane = lane; line = line }) i
    ∙ ap (λ b. lane_lines handed i ++ cond b (line ∷ []) []) (ne_eqb lane i (λ e. other (sym e)))
    ∙ append-nil (lane_lines handed i)

-- ---- short lanes

-- from a lane on
shorts_cons : (handed : List Handed) (i m n : ℕ) → m ≡ suc n
    → shorts_from handed i m ≡ lane_short handed i ++ shorts_from handed (i + 1) n
unfolding shorts_from
shorts_cons handed i m n is = ap (λ k. flat_map (lane_short handed) (range_with_len i k)) is

-- from one lane on
shorts_next : (handed : List Handed) (i : ℕ) → i < lane_count
    → shorts_from handed i (lane_count - i) ≡ lane_short handed i ++ shorts_from handed (i + 1) (lane_count - (i + 1))
shorts_next handed i low = shorts_cons handed i (lane_count - i) (lane_count - (i + 1)) (omega arith)

-- behind the last lane
pub shorts_over : (handed : List Handed) (i m : ℕ) → m ≡ 0 → shorts_from handed i m ≡ []
unfolding shorts_from
shorts_over handed i m is = ap (λ k. flat_map (lane_short handed) (range_with_len i k)) is

-- a lane that isn't short adds nothing
pub shorts_skip : (handed : List Handed) (i : ℕ) → i < lane_count → feed_short (lane_lines handed i) ≡ short_texts None
    → shorts_from handed i (lane_count - i) ≡ shorts_from handed (i + 1) (lane_count - (i + 1))
shorts_skip handed i low none =
    shorts_next handed i low ∙ ap (λ ls. map (in_lane i) ls ++ shorts_from handed (i + 1) (lane_count - (i + 1))) none

-- one that is short adds its line
pub shorts_first : (handed : List Handed) (i line : ℕ) → i < lane_count
    → feed_short (lane_lines handed i) ≡ short_texts (Some line)
    → shorts_from handed i (lane_count - i) ≡ in_lane i (fault_text line Short) ∷ shorts_from handed (i + 1)
    (lane_count - (i + 1))
shorts_first handed i line low one =
    shorts_next handed i low ∙ ap (λ ls. map (in_lane i) ls ++ shorts_from handed (i + 1) (lane_count - (i + 1))) one
