-- Tables with the item of one place changed, and with more places.
use Rattle.std.proofs.Common.{◌≡◌, ℕ, zero, suc, ◌+◌, ◌<◌, ◌≤◌, cond, List, [], ◌∷◌, ◌++◌, Option, Some, None, length}
use Rattle.std.proofs.Common.{set, get_or, replicate, map, refl, ap, ◌∙◌, arith, is_some, slice_get, count_by}
use Rattle.std.proofs.Common.{length-append, length-set}
use Rattle.std.proofs.lemmas.Option.{slice_get_past}
use Rattle.std.proofs.lemmas.List.{length-replicate, map-append}
use Rattle.std.proofs.lemmas.List.Sums.{sum_by-set, sum_by-cons, sum_by-append, count_by-le-length}
use Rattle.place_heap.specs.Items.{ItemFacts}
use Rattle.place_heap.specs.Table.{nowhere, table_of, blank}

-- at a free place stands nothing
pub none_there : (k n : ℕ) → get_or (replicate {A = Option ItemFacts} k None) n None ≡ None
none_there zero n = refl
none_there (suc k) zero = refl
none_there (suc k) (suc n) = none_there k n

-- ---- one place changed

-- what an item adds to the count
abbrev one_for : Option ItemFacts → ℕ
one_for o = cond (is_some o) 1 0

pub count_put : (t : List (Option ItemFacts)) (n : ℕ) (x : ItemFacts) → n < length t → get_or t n None ≡ None
    → count_by is_some (set t n (Some x)) ≡ count_by is_some t + 1
count_put t n x inside none =
    let zero_there : one_for (get_or t n None) ≡ 0 = ap one_for none in
    omega (arith, zero_there, sum_by-set one_for t n (Some x) None inside)

pub count_taken : (t : List (Option ItemFacts)) (n : ℕ) (x : ItemFacts) → n < length t → get_or t n None ≡ Some x
    → count_by is_some (set t n None) + 1 ≡ count_by is_some t
count_taken t n x inside there =
    let one_there : one_for (get_or t n None) ≡ 1 = ap one_for there in
    omega (arith, one_there, sum_by-set one_for t n None None inside)

-- where a place is free there are fewer items than places
pub count_free : (t : List (Option ItemFacts)) (n : ℕ) → n < length t → get_or t n None ≡ None
    → count_by is_some t < length t
count_free t n inside none =
    omega (
      arith,
      count_put t n blank inside none,
      count_by-le-length is_some (set t n (Some blank)),
      length-set t n
          (Some blank),
    )

-- ---- more places

none_at : {X : Type 0} (x : X) (m n : ℕ) → get_or (replicate m x) n x ≡ x
none_at x zero n = refl
none_at x (suc m) zero = refl
none_at x (suc m) (suc n) = none_at x m n

-- what is read past the end is what more places have
pub grown_at : {X : Type 0} (x : X) (t : List X) (m n : ℕ) → get_or (t ++ replicate m x) n x ≡ get_or t n x
grown_at x [] m n = none_at x m n
grown_at x (o ∷ t) m zero = refl
grown_at x (o ∷ t) m (suc n) = grown_at x t m n

pub grown_len : {X : Type 0} (x : X) (t : List X) (m : ℕ) → length (t ++ replicate m x) ≡ length t + m
grown_len x t m = length-append t (replicate m x) ∙ ap (λ n. length t + n) (length-replicate m x)

count_none : (m : ℕ) → count_by is_some (replicate {A = Option ItemFacts} m None) ≡ 0
count_none zero = refl
count_none (suc m) = let rest = count_none m in omega (arith, rest, sum_by-cons one_for None (replicate m None))

pub grown_count : (t : List (Option ItemFacts)) (m : ℕ) → count_by is_some (t ++ replicate m None) ≡ count_by is_some t
grown_count t m = let both = sum_by-append one_for t (replicate m None) in omega (arith, both, count_none m)

map_none : (es : List ItemFacts) (m : ℕ) → length es ≤ nowhere
    → map (slice_get es) (replicate m nowhere) ≡ replicate m None
map_none es zero few = refl
map_none es (suc m) few = ap (λ o. o ∷ map (slice_get es) (replicate m nowhere)) (slice_get_past es nowhere few)
    ∙ ap (λ t. None ∷ t) (map_none es m few)

pub table_grown : (es : List ItemFacts) (ps : List ℕ) (m : ℕ) → length es ≤ nowhere
    → table_of es (ps ++ replicate m nowhere) ≡ table_of es ps ++ replicate m None
table_grown es ps m few = map-append (slice_get es) ps (replicate m nowhere)
    ∙ ap (λ t. table_of es ps ++ t) (map_none es m few)
