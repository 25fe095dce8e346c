-- What a heap keeps, with one item more, with one less, and with more places.
use Rattle.std.proofs.Common.{◌≡◌, ◌≢◌, ℕ, ◌+◌, ◌-◌, ◌^◌, ◌<◌, ◌≤◌, List, ◌++◌, Option, Some, None, length, replicate}
use Rattle.std.proofs.Common.{set, get_or, ap, ◌∙◌, sym, arith, is_some, slice_get, count_by, length-set}
use Rattle.std.proofs.lemmas.Option.{slice_get-get_or, slice_get_past}
use Rattle.std.proofs.lemmas.List.{length-map, set-get_or}
use Rattle.std.proofs.lemmas.List.Sums.{count_by-le-length}
use Rattle.place_heap.specs.Items.{ItemFacts}
use Rattle.place_heap.specs.Table.{IsIndexed, position, nowhere, table_of, blank}
use Rattle.place_heap.specs.HeapOrder.{IsHeap}
use Rattle.place_heap.specs.Kept.{IsKept}
use Rattle.place_heap.proofs.Indexing.{table_at, place_in}
use Rattle.place_heap.proofs.Tables.{count_taken, count_free, grown_at, grown_count, table_grown}

pub table_len : (es : List ItemFacts) (ps : List ℕ) → length (table_of es ps) ≡ length ps
table_len es ps = length-map ps (slice_get es)

-- there are no more items than places
pub few_items : (es : List ItemFacts) (ps : List ℕ) (cap : ℕ) → IsKept es ps cap → length es ≤ length ps
few_items es ps cap kept = omega (arith, kept.count, count_by-le-length is_some (table_of es ps), table_len es ps)

pub few_kept : (es : List ItemFacts) (ps : List ℕ) (cap : ℕ) → IsKept es ps cap → length es ≤ nowhere
few_kept es ps cap kept = omega (arith, few_items es ps cap kept, kept.places)

-- where a place is free there is room for an item
pub room_kept : (es : List ItemFacts) (ps : List ℕ) (cap n : ℕ) → IsKept es ps cap → n < length (table_of es ps)
    → get_or (table_of es ps) n None ≡ None → length es < length ps
room_kept es ps cap n kept ready free =
    omega (arith, kept.count, count_free (table_of es ps) n ready free, table_len es ps)

same_places : (es new : List ItemFacts) (ps qs : List ℕ) (n : ℕ) (o : Option ItemFacts)
    → table_of new qs ≡ set (table_of es ps) n o
    → length qs ≡ length ps
same_places es new ps qs n o is = sym (table_len new qs) ∙ ap length is ∙ length-set (table_of es ps) n o
    ∙ table_len es ps

-- the item of a place whose position is kept
pub item_there : (es : List ItemFacts) (ps : List ℕ) (cap n at : ℕ) → IsKept es ps cap → position ps n ≡ at
    → at ≢ nowhere
    → get_or (table_of es ps) n None ≡ Some (get_or es at blank)
item_there es ps cap n at kept is some = table_at es ps n (few_kept es ps cap kept) ∙ ap (slice_get es) is
    ∙ slice_get-get_or es at blank (kept.indexed.inside n at is some)

pub kept_taken : (es new : List ItemFacts) (ps qs : List ℕ) (cap cap' n at : ℕ) → IsKept es ps cap
    → position ps n ≡ at → at ≢ nowhere
    → length new + 1 ≡ length es → cap' ≡ cap → IsIndexed new qs → table_of new qs ≡ set (table_of es ps) n None
    → IsHeap new
    → IsKept new qs cap'
kept_taken es new ps qs cap cap' n at kept is some fewer same indexed table heap = record {
  indexed = indexed;
  heap = heap;
  count = let ready : n < length (table_of es ps) = omega (arith, place_in ps n at is some, table_len es ps) in
      let counted = count_taken _ _ _ ready (item_there es ps cap n at kept is some) in
      let now : count_by is_some (table_of new qs) ≡ count_by is_some (set (table_of es ps) n None) =
      ap (λ t. count_by is_some t) table in
      omega (arith, counted, now, kept.count, fewer);
  fits = omega (arith, kept.fits, same, same_places es new ps qs n None table);
  places = omega (arith, kept.places, same_places es new ps qs n None table);
}

-- what is kept at the position is out of the table at its place
pub taken_table : (es new : List ItemFacts) (ps qs : List ℕ) (n at : ℕ) → IsIndexed es ps → position ps n ≡ at
    → at ≢ nowhere
    → ((d : ItemFacts) → table_of new qs ≡ set (table_of es ps) (get_or es at d).place None)
    → table_of new qs ≡ set (table_of es ps) n None
taken_table es new ps qs n at kept is some table = table blank
    ∙ ap (λ p. set (table_of es ps) p None) (kept.placed n at blank is some)

-- where no position is kept there is nothing to take
pub none_to_take : (es : List ItemFacts) (ps : List ℕ) (cap n : ℕ) → IsKept es ps cap → position ps n ≡ nowhere
    → table_of es ps ≡ set (table_of es ps) n None
none_to_take es ps cap n kept is = sym (set-get_or (table_of es ps) n None)
    ∙ ap (set (table_of es ps) n) (table_at es ps n (few_kept es ps cap kept) ∙ ap (slice_get es) is
    ∙ slice_get_past es nowhere (few_kept es ps cap kept))

pub kept_grown : (es : List ItemFacts) (ps qs : List ℕ) (cap cap' m : ℕ) → IsKept es ps cap
    → qs ≡ ps ++ replicate m nowhere
    → length qs ≤ cap' → length qs < 2 ^ 32 → IsKept es qs cap'
kept_grown es ps qs cap cap' m kept is fits few = record {
  indexed = record {
    kept = λ i d inside. at_all (get_or es i d).place ∙ kept.indexed.kept i d inside;
    inside = λ p i e some. kept.indexed.inside p i (sym (at_all p) ∙ e) some;
    placed = λ p i d e some. kept.indexed.placed p i d (sym (at_all p) ∙ e) some;
  };
  heap = kept.heap;
  count = ap (λ l. count_by is_some (table_of es l)) is
      ∙ ap (λ t. count_by is_some t) (table_grown es ps m (few_kept es ps cap kept))
      ∙ grown_count (table_of es ps) m ∙ kept.count;
  fits = fits;
  places = few;
} where
  at_all : (n : ℕ) → position qs n ≡ position ps n
  at_all n = ap (λ l. position l n) is ∙ grown_at nowhere ps m n

pub grown_table : (es : List ItemFacts) (ps qs : List ℕ) (cap n : ℕ) → IsKept es ps cap
    → qs ≡ ps ++ replicate (n - length ps) nowhere
    → table_of es qs ≡ table_of es ps ++ replicate (n - length (table_of es ps)) None
grown_table es ps qs cap n kept is = ap (table_of es) is ∙ table_grown es ps (n - length ps) (few_kept es ps cap kept)
    ∙ ap (λ k. table_of es ps ++ replicate (n - k) None) (sym (table_len es ps))
