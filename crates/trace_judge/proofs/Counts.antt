-- How many lines a trace has, and which of them are refused lines.
use Rattle.std.proofs.Common.{◌≡◌, ℕ, ◌+◌, ◌-◌, max, List, ◌∷◌, length, length-append, map, take, drop, arith, suc, []}
use Rattle.std.proofs.Common.{◌++◌, refl, ap, ◌∙◌, length-take, length-drop, filter_map, slice_get, Some}
use Rattle.std.proofs.lemmas.List.{length-map}
use Rattle.dover_model.specs.declared.events.Event.{Event}
use Rattle.dover_model.specs.Common.{Printed, Refuses, Placed, put_in, places_after, places_of, lines_among}
use Rattle.dover_model.specs.Common.{Declaration, Item, JobItem, RefusedItem, FinishItem, refused_of_item, Session}
use Rattle.dover_model.specs.Common.{refused_count}

-- with refused lines put in, there are so many lines more
length-put_in : (ps : List Placed) (before : ℕ) (steps : List Event)
    → length (put_in ps before steps) ≡ length steps + length ps
length-put_in [] before steps = omega (arith, length-map steps Printed)
length-put_in (p ∷ ps) before steps =
    let front : List Event = take (p.place - before) steps in
    let behind : List Event = drop (p.place - before) steps in
    omega (
      arith,
      length-append (map Printed front) (Refuses p.refused ∷ put_in ps (max before p.place) behind),
      length-map front Printed,
      length-put_in ps (max before p.place) behind,
      length-take (p.place - before) steps,
      length-drop (p.place - before) steps,
    )

-- each refused line has a place
length-places : (rules : Declaration) (before items : List Item)
    → length (places_after rules before items) ≡ length (filter_map refused_of_item items)
length-places rules before [] = refl
length-places rules before (JobItem j ∷ items) = length-places rules (before ++ JobItem j ∷ []) items
length-places rules before (RefusedItem r ∷ items) = ap suc (length-places rules (before ++ RefusedItem r ∷ []) items)
length-places rules before (FinishItem f ∷ items) = length-places rules (before ++ FinishItem f ∷ []) items

-- a line for each step and each refused line
pub length-lines : (S : Session) (steps : List Event) → length (lines_among S steps) ≡ length steps + refused_count S
length-lines S steps = length-put_in (places_of S) 0 steps
    ∙ ap (λ n. length steps + n) (length-places S.rules [] S.items)

-- the element behind others
pub get_behind : {X : Type 0} (xs : List X) (y : X) (ys : List X) → slice_get (xs ++ y ∷ ys) (length xs) ≡ Some y
get_behind [] y ys = refl
get_behind (x ∷ xs) y ys = get_behind xs y ys
