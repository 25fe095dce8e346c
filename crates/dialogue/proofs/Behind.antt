-- A talk behind bytes for which all that is due was put before.
use Rattle.std.proofs.Common.{◌≡◌, ℕ, List, [], ◌∷◌, ◌++◌, length, drop, refl, sym, ap, ◌∙◌, subst, append_assoc, true}
use Rattle.std.proofs.Common.{false, append-nil}
use Rattle.dialogue.specs.Talk.{Talk, IsSteady, talk_behind}

-- what comes behind a list, without that list
dropped : (front rest all : List ℕ) → all ≡ front ++ rest → drop (length front) all ≡ rest
dropped front rest all is = ap (drop (length front)) is ∙ by front where
  by : (xs : List ℕ) → drop (length xs) (xs ++ rest) ≡ rest
  by [] = refl
  by (x ∷ xs) = by xs

module _ (t : Talk) (steady : IsSteady t) (F : List ℕ) where
  abbrev behind : Talk
  behind = talk_behind F t

  -- what is due for these bytes and those that follow
  pub whole_due : (x : List ℕ) → t.due F ++ behind.due x ≡ t.due (F ++ x)
  whole_due x = let it = steady.grows F x in
      ap (λ r. t.due F ++ r) (dropped (t.due F) it.0 (t.due (F ++ x)) it.1) ∙ sym it.1

  -- with a text behind it
  pub due_then : (x text : List ℕ) → t.due F ++ (behind.due x ++ text) ≡ t.due (F ++ x) ++ text
  due_then x text = sym (append_assoc (t.due F) (behind.due x) text) ∙ ap (λ l. l ++ text) (whole_due x)

  -- with more that is due for more bytes
  pub behind_more : (x y more : List ℕ) → t.due (F ++ (x ++ y)) ≡ t.due (F ++ x) ++ more
      → behind.due (x ++ y) ≡ behind.due x ++ more
  behind_more x y more is =
      dropped (t.due F) (behind.due x ++ more) (t.due (F ++ (x ++ y))) (is ∙ sym (due_then x more))

  -- the bytes in other brackets
  pub joins : (x y : List ℕ) → F ++ (x ++ y) ≡ (F ++ x) ++ y
  joins x y = sym (append_assoc F x y)

  -- its laws
  pub steady_behind : t.goes_on F ≡ true → IsSteady behind
  steady_behind goes = record {
    opens = ap t.goes_on (append-nil F) ∙ goes;
    nothing = dropped (t.due F) [] (t.due (F ++ [])) (ap t.due (append-nil F) ∙ sym (append-nil (t.due F)));
    grows = λ x y. let it = steady.grows (F ++ x) y in (it.0, behind_more x y it.0 (ap t.due (joins x y) ∙ it.1));
    stays = λ x y over. ap t.goes_on (joins x y) ∙ steady.stays (F ++ x) y over;
    answered = λ x y status text over it. subst (λ z. t.answer z false status (t.due F ++ text)) (sym (joins x y))
        (steady.answered (F ++ x) y status (t.due F ++ text) over it);
    lacking = λ x y it. subst (λ z. t.lacks z false) (sym (joins x y)) (steady.lacking (F ++ x) y it);
  }
