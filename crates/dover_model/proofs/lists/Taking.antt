-- One element more of a list that is read.
use Rattle.std.proofs.Common.{◌≡◌, ℕ, ◌+◌, ◌<◌, List, length, take, get_or, sym, subst}
use Rattle.std.proofs.lemmas.List.{take_more}
use Rattle.dover_model.specs.Sound.{Each}
use Rattle.dover_model.proofs.lists.Members.{each_behind}

-- of one more
pub each_more : {X : Type 0} (P : X → Type 0) (xs : List X) (i : ℕ) (x : X) → i < length xs → x ≡ get_or xs i x
    → Each P (take i xs) → P x → Each P (take (i + 1) xs)
each_more P xs i x short is all here =
    subst (Each P) (sym (take_more xs i x short)) (each_behind P (take i xs) (get_or xs i x) all (subst P is here))
