use Rattle.std.proofs.Common.{◌≡◌, sym, ap, ◌∙◌, Some, Option, ℕ, List, arith}
use denote.Ref.{Bor}
use Rattle.dover_model.specs.Lines.{fields_of}
use Rattle.line_text.specs.Reading.{fields_left}
use Rattle.lane_server.proofs.Handing.{numbered_is}
use Rattle.lane_server.proofs.reading.numbered_line.Goals as goal

-- a number and fields
abbrev pair : ℕ → List (List ℕ) → ℕ × List (List ℕ)
pair n fields = (n, fields)

-- the fields that are left
with_rest : (number : ℕ) (o : Option (Bor (List ℕ))) (rest : Bor (List ℕ)) → o ≡ Some rest
    → Some (pair number (fields_left o)) ≡ Some (pair number (fields_of rest.now))
with_rest number o rest is = ap (λ x. Some (pair number (fields_left x))) is

pub returns-then-number-from : goal.returns-then-number-from
returns-then-number-from c = sym (numbered_is (fields_of c.args.line.now) c.in_ok-number.number c.in_ok-rest.rest.now
    (sym c.in_ok-number.ensures.read
    ∙ with_rest c.in_ok-number.number c.in_ok-number.rest c.in_ok-rest.rest c.in_ok-rest.was)
    (omega (arith, c.if-number-from.true, c.from.ensures)))
