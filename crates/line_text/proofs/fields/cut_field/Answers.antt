use Rattle.std.proofs.Common.{◌≡◌, ℕ, ◌+◌, ◌<◌, List, ◌∷◌, ◌++◌, length, get_or, take, drop, All, Bool, true, false}
use Rattle.std.proofs.Common.{sym, ap, ◌∙◌, take_all, take-append-drop, eq-eqb, ne_eqb, ◌==◌}
use Rattle.std.specs.List.{slice_split}
use Rattle.std.proofs.lemmas.List.{take_rest, drop_more}
use Rattle.std.proofs.lemmas.List.Elements.{All-more}
use Rattle.std.proofs.lemmas.List.Splits.{slice_split_none, slice_split_at}
use Rattle.line_text.proofs.fields.cut_field.Goals as goal

-- the first part ends at a place where the test passes
split_there : (p : ℕ → Bool) (xs : List ℕ) (i : ℕ) → i < length xs → p (get_or xs i 0) ≡ true
    → All (λ x. p x ≡ false) (take i xs)
    → slice_split p xs ≡ take i xs ∷ slice_split p (drop (i + 1) xs)
split_there p xs i here passes before =
    let parts : xs ≡ take i xs ++ get_or xs i 0 ∷ drop (i + 1) xs =
    sym (take-append-drop i xs) ∙ ap (λ zs. take i xs ++ zs) (drop_more xs i 0 here) in
    ap (slice_split p) parts ∙ slice_split_at p (take i xs) (get_or xs i 0) (drop (i + 1) xs) before passes

pub returns-then-byte-eq32-clause-fields : goal.returns-then-byte-eq32-clause-fields
returns-then-byte-eq32-clause-fields c = rw take_rest
    (split_there (λ b. b == 32) c.args.line.now c.loop-at.at c.loop-at-test.true
    (eq-eqb _ 32 c.if-byte-eq32.true) c.loop-at.invariant)

pub loop-at-preserved : goal.loop-at-preserved
loop-at-preserved c = All-more
    (λ b. (b == 32) ≡ false) c.args.line.now c.loop-at.at 0 c.loop-at-test.true c.loop-at.invariant
    (ne_eqb _ 32 c.if-byte-eq32.false)

pub returns-clause-fields : goal.returns-clause-fields
returns-clause-fields c = slice_split_none _ _ (rw (take_all _ _ c.loop-at-test.false) at c.loop-at.invariant)
