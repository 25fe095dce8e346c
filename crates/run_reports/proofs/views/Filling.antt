-- Templates, byte by byte.
use Rattle.std.proofs.Common.{◌≡◌, ℕ, zero, suc, ◌+◌, ◌≤◌, ◌<◌, List, [], ◌∷◌, ◌++◌, length, drop, get_or, arith, refl}
use Rattle.std.proofs.Common.{sym, ap, ◌∙◌, add-one, drop-cons, append_assoc, append-nil, Bool, true, false, ◌==◌}
use Rattle.std.proofs.Common.{if◌then◌else◌, decimal}
use Rattle.std.proofs.lemmas.List.{drop_all}
use Rattle.run_reports.specs.views.Templates.{Text, filled, part, left_behind, first_numeral, others}

-- behind one more number
pub others_drop : (next : ℕ) (ns : List ℕ) → drop (suc next) ns ≡ others (drop next ns)
others_drop zero [] = refl
others_drop zero (n ∷ ns) = refl
others_drop (suc next) [] = refl
others_drop (suc next) (n ∷ ns) = others_drop next ns

-- nothing is left of an empty template
filled_none : (ns : List ℕ) → filled [] ns ≡ []
unfolding filled
filled_none ns = refl

-- one byte
filled_one : (c : ℕ) (cs ns : List ℕ) → filled (c ∷ cs) ns ≡ part c ns ++ filled cs (left_behind c ns)
unfolding filled
filled_one c cs ns = refl

-- one byte more
pub filled_more : (cs ns : List ℕ) (i next after : ℕ) (text more whole : Text) → i < length cs
    → more ≡ text ++ part (get_or cs i 0) (drop next ns)
    → drop after ns ≡ left_behind (get_or cs i 0) (drop next ns)
    → text ++ filled (drop i cs) (drop next ns) ≡ whole
    → more ++ filled (drop (i + 1) cs) (drop after ns) ≡ whole
filled_more cs ns i next after text more whole there longer left before =
    let c = get_or cs i 0 in
    ap (λ t. t ++ filled (drop (i + 1) cs) (drop after ns)) longer
    ∙ ap (λ l. (text ++ part c (drop next ns)) ++ filled (drop (i + 1) cs) l) left
    ∙ append_assoc text (part c (drop next ns)) (filled (drop (i + 1) cs) (left_behind c (drop next ns)))
    ∙ ap (λ t. text ++ t) (sym (filled_one c (drop (i + 1) cs) (drop next ns)))
    ∙ ap (λ l. text ++ filled (c ∷ l) (drop next ns)) (ap (λ n. drop n cs) (add-one i))
    ∙ ap (λ l. text ++ filled l (drop next ns)) (sym (drop-cons cs i 0 there))
    ∙ before

-- all bytes
pub filled_all : (cs ns : List ℕ) (i next : ℕ) (text whole : Text) → length cs ≤ i
    → text ++ filled (drop i cs) (drop next ns) ≡ whole → text ≡ whole
filled_all cs ns i next text whole past before =
    sym (append-nil text) ∙ ap (λ t. text ++ t) (sym (filled_none (drop next ns)))
    ∙ ap (λ l. text ++ filled l (drop next ns)) (sym (drop_all i cs past)) ∙ before

-- ---- templates one behind another

-- how many numbers a template has room for
abbrev pub uses : Text → ℕ
uses [] = 0
uses (c ∷ cs) = if c == 64 then suc (uses cs) else uses cs

-- a first template that uses all numbers of its own
pub filled_two : (cs ds : Text) (ns ms : List ℕ) → uses cs ≡ length ns
    → filled (cs ++ ds) (ns ++ ms) ≡ filled cs ns ++ filled ds ms
unfolding filled
filled_two [] ds [] ms same = refl
filled_two [] ds (n ∷ ns) ms same = absurd (omega (arith, same))
filled_two (c ∷ cs) ds ns ms same = by_byte (c == 64) ns (λ ns. filled_two cs ds ns ms) same where
  by_byte : (b : Bool) (ns : List ℕ)
      → ((ns : List ℕ) → uses cs ≡ length ns → filled (cs ++ ds) (ns ++ ms) ≡ filled cs ns ++ filled ds ms)
      → (if b then suc (uses cs) else uses cs) ≡ length ns
      → (if b then first_numeral (ns ++ ms) else c ∷ [])
      ++ filled (cs ++ ds) (if b then others (ns ++ ms) else ns ++ ms)
      ≡ (if b then first_numeral ns else c ∷ []) ++ filled cs (if b then others ns else ns) ++ filled ds ms
  by_byte true [] more same = absurd (omega (arith, same))
  by_byte true (n ∷ ns) more same = ap (λ t. decimal n ++ t) (more ns (omega (arith, same)))
      ∙ sym (append_assoc (decimal n) (filled cs ns) (filled ds ms))
  by_byte false ns more same = ap (λ t. c ∷ t) (more ns same)
