-- A text that is put as a whole, and the rows of a table, put one behind another.
use Rattle.std.proofs.Common.{◌≡◌, ◌<◌, ℕ, List, [], ◌++◌, length, Option, Bool, true, false, append_assoc}
use Rattle.std.proofs.Common.{append-nil, refl, sym, ap, ◌∙◌, subst, arith}
use Rattle.dover_model.specs.Lines.{in_lines}
use Rattle.dover_port.specs.Moves.{Move, ArePuts, CutsShort, Passes, Since, outs}
use Rattle.dover_port.proofs.Made.{since_weaker}
use Rattle.dover_port.proofs.Through.{passes_then, passes_then_cut, cut_longer, passes_nothing}
use Rattle.run_reports.specs.report.Rows.{Table, GivesRow}

-- a text that was put passes
pub passes_whole : (a b : Option (List Move)) (text : List ℕ) → Since a b (λ made. ArePuts made × (outs made ≡ text))
    → Passes a b [] [] text
passes_whole a b text put = since_weaker a b _ _ put (λ made it. (it.0, append-nil (outs made) ∙ it.1))

-- Of the whole text a front was put, and these rows are left.
pub record HasPut (old new : Option (List Move)) (before after whole : List ℕ) (left : Table) : Type 0 where
  pub said : List ℕ
  pub parts : whole ≡ said ++ in_lines left.rows
  pub passes : Passes old new before after said

-- none was put
pub put_none : (a : Option (List Move)) (p : List ℕ) (left : Table) → HasPut a a p p (in_lines left.rows) left
put_none a p left = record { said = []; parts = refl; passes = passes_nothing a p }

module _ (a b : Option (List Move)) (p q whole : List ℕ) (left next : Table) (before line : List ℕ)
    (put : HasPut a b p q whole left) where
  module _ (given : Bool) (is : given ≡ true) (gives : GivesRow left next before line given) where
    -- what is said with one row more, and what is left behind it
    one_more : whole ≡ (put.said ++ line) ++ in_lines next.rows
    one_more =
        let row = rw is at gives in
        put.parts ∙ ap (λ rows. put.said ++ in_lines rows) row.1.2
        ∙ ap (λ l. put.said ++ (l ++ in_lines next.rows)) (sym row.1.1)
        ∙ sym (append_assoc put.said line (in_lines next.rows))

    -- one row more was put
    pub put_more : (c : Option (List Move)) (r : List ℕ) → Passes b c q r line → HasPut a c p r whole next
    put_more c r more = record {
      said = put.said ++ line;
      parts = one_more;
      passes = passes_then a b c p q r put.said line put.passes more;
    }

    -- one was cut short
    pub put_cut : (c : Option (List Move)) → CutsShort b c q line → CutsShort a c p whole
    put_cut c cut = subst (CutsShort a c p) (sym one_more)
        (cut_longer a c p (put.said ++ line) (in_lines next.rows)
        (passes_then_cut a b c p q q put.said line put.passes cut))

  -- none is left
  pub put_all : (given : Bool) → given ≡ false → GivesRow left next before line given → Passes a b p q whole
  put_all given is gives =
      let none = rw is at gives in
      subst (Passes a b p q) (sym (put.parts ∙ ap (λ rows. put.said ++ in_lines rows) none.0 ∙ append-nil put.said))
      put.passes

-- what is left behind a row that is given is fewer rows
pub fewer : (left next : Table) (before line : List ℕ) (given : Bool) → given ≡ true
    → GivesRow left next before line given → length next.rows < length left.rows
fewer left next before line given is gives =
    let row = rw is at gives in omega (arith, ap (λ (rows : List (List ℕ)). length rows) row.1.2)
