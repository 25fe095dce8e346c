-- The lines of turns, one behind another.
use Rattle.std.proofs.Common.{◌≡◌, ℕ, List, [], ◌∷◌, ◌++◌, map, sym, ap, ◌∙◌, subst, Option, Result, None, Some}
use Rattle.std.proofs.Common.{append_assoc, append-nil, flat_map}
use Rattle.std.proofs.lemmas.List.{map-append}
use Rattle.dover_model.specs.Common.{FeedLine, JobLine, DoneLine, EndLine, feed_text, rules_with, Fraction, in_lines}
use Rattle.dover_model.specs.declared.events.Version.TheVariants.{Three}
use Rattle.dover_port.specs.Moves.{Move, Passes, CutsShort, PutsThrough}
use Rattle.dover_port.proofs.Through.{passes_then, passes_then_cut, cut_longer}
use Rattle.stated_jobs.specs.declared.trial.turns.Done.{Done}
use Rattle.stated_jobs.specs.declared.trial.turns.Turn.{Turn}
use Rattle.trial_words.specs.Drawing.{turn_lines, text_of_lines, feed_of_turns}
use Rattle.event_feed.specs.Feeds.{rules_text}
use Rattle.dover_model.proofs.lists.Beginnings.{in_lines-append}

-- lines behind lines
text_behind : (xs ys : List FeedLine) → text_of_lines (xs ++ ys) ≡ text_of_lines xs ++ text_of_lines ys
text_behind xs ys = ap in_lines (map-append feed_text xs ys) ∙ in_lines-append (map feed_text xs) (map feed_text ys)

-- the text of turns
abbrev pub texts : List Turn → List ℕ
texts turns = text_of_lines (flat_map turn_lines turns)

-- A front of the text was put, and the turns that are left have the rest.
pub record HasPut (turns left : List Turn) (a b : Option (List Move)) (p q : List ℕ) : Type 0 where
  pub front : List ℕ
  pub whole : front ++ texts left ≡ texts turns
  pub passes : Passes a b p q front

module _ (turns left : List Turn) (a b : Option (List Move)) (p q : List ℕ) (it : HasPut turns left a b p q) where
  -- all is put where none is left
  pub all_put : left ≡ [] → Passes a b p q (texts turns)
  all_put none = subst (Passes a b p q)
      (sym (append-nil it.front) ∙ ap (λ ts. it.front ++ texts ts) (sym none) ∙ it.whole) it.passes

  module _ (turn : Turn) (after : List Turn) (is : left ≡ turn ∷ after) (c : Option (List Move)) (r : List ℕ) where
    -- the whole, with the next turn in the front
    whole_now : (it.front ++ text_of_lines (turn_lines turn)) ++ texts after ≡ texts turns
    whole_now = append_assoc it.front (text_of_lines (turn_lines turn)) (texts after)
        ∙ ap (λ l. it.front ++ l) (sym (text_behind (turn_lines turn) (flat_map turn_lines after)))
        ∙ ap (λ ts. it.front ++ texts ts) (sym is) ∙ it.whole

    -- the next turn is put
    pub one_put : Passes b c q r (text_of_lines (turn_lines turn)) → HasPut turns after a c p r
    one_put further = record {
      front = it.front ++ text_of_lines (turn_lines turn);
      whole = whole_now;
      passes = passes_then a b c p q r _ _ it.passes further;
    }

    -- or cut short
    pub one_cut : CutsShort b c q (text_of_lines (turn_lines turn)) → CutsShort a c p (texts turns)
    one_cut further = subst (CutsShort a c p) whole_now
        (cut_longer a c p (it.front ++ text_of_lines (turn_lines turn)) (texts after)
        (passes_then_cut a b c p q r it.front (text_of_lines (turn_lines turn)) it.passes further))

-- the line of a job is cut short, and so are those of its turn
pub turn_cut : (a b : Option (List Move)) (p : List ℕ) (turn : Turn)
    → CutsShort a b p (feed_text (JobLine turn.job) ++ 10 ∷ []) → CutsShort a b p (text_of_lines (turn_lines turn))
turn_cut a b p turn it = cut_longer a b p (feed_text (JobLine turn.job) ++ 10 ∷ [])
    (text_of_lines (elim turn.done [ None ↦ [] | Some done ↦ DoneLine done.tick done.number ∷ [] ])) it

-- the lines of a turn that says a job done
pub done_parts : (turn : Turn) (done : Done) → turn.done ≡ Some done
    → text_of_lines (turn_lines turn)
    ≡ (feed_text (JobLine turn.job) ++ 10 ∷ []) ++ (feed_text (DoneLine done.tick done.number) ++ 10 ∷ [])
done_parts turn done is =
    ap (λ o. text_of_lines (JobLine turn.job ∷ elim o [ None ↦ [] | Some d ↦ DoneLine d.tick d.number ∷ [] ])) is
    ∙ ap (λ t. (feed_text (JobLine turn.job) ++ 10 ∷ []) ++ t)
    (append-nil (feed_text (DoneLine done.tick done.number) ++ 10 ∷ []))

-- the parts of a feed
feed_parts : (k : Fraction) (turns : List Turn)
    → feed_of_turns k turns
    ≡ (rules_text (rules_with k Three) ++ 10 ∷ []) ++ (texts turns ++ ((feed_text EndLine ++ 10 ∷ []) ++ []))
feed_parts k turns = ap (λ t. (rules_text (rules_with k Three) ++ 10 ∷ []) ++ t)
    (text_behind (flat_map turn_lines turns) (EndLine ∷ []))

-- its parts are put, and what was kept back of them
pub feed_put : {T E : Type 0} (a b : Option (List Move)) (result : Result T E) (p q : List ℕ) (k : Fraction)
    (turns : List Turn)
    → PutsThrough a b result p q ((rules_text (rules_with k Three) ++ 10 ∷ [])
    ++ (texts turns ++ ((feed_text EndLine ++ 10 ∷ []) ++ [])))
    → PutsThrough a b result p q (feed_of_turns k turns)
feed_put a b result p q k turns it = subst (PutsThrough a b result p q) (sym (feed_parts k turns)) it
