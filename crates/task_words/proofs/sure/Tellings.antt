-- What is told of a task is its line.
use Rattle.std.proofs.Common.{◌≡◌, ℕ, ◌≤◌, ◌<◌, List, [], ◌∷◌, refl, sym, ap, ◌∙◌, Bool, true, false, cond, arith}
use Rattle.std.proofs.Common.{nat_lt, codes, lt-ltb, le-ltb}
use Rattle.dover_model.specs.Common.{Declaration, Fraction, most_value, with_numbers, is_heavy}
use Rattle.task_laws.specs.Sure.{Stream, stream_at}
use Rattle.task_laws.specs.Sure.{is_spread}
use Rattle.dover_model.proofs.bound.Calculus.{heavy_more}
use Rattle.root_compare.specs.Least.{least_heavy}
use Rattle.task_words.specs.declared.sure.telling.Told.TheVariants as told
use Rattle.task_words.specs.sure.Kept.{told_line}
use Rattle.task_words.specs.sure.Lines.{none_line, raise_line, spread_line, sure_line}
use Rattle.task_words.specs.sure.Streams.{most_against, stays_within}

module _ (rules : Declaration) (streams : List Stream) (x : ℕ) where
  -- by whether it is spread
  abbrev by_spread : Bool → List ℕ
  by_spread b = cond b (spread_line rules.ratio streams x (most_against rules.version streams x))
      (none_line x (codes " spread") [])

  pub where_spread : is_spread (stream_at streams x) ≡ true → (line : List ℕ)
      → line ≡ spread_line rules.ratio streams x (most_against rules.version streams x)
      → line ≡ sure_line rules streams x
  where_spread is line same = same ∙ sym (ap by_spread is)

module _ (k : Fraction) (streams : List Stream) (x : ℕ) where
  module _ (against : ℕ) where
    -- by whether it is heavy
    abbrev by_heavy : Bool → List ℕ
    by_heavy b = cond b (with_numbers (codes "sure") (x ∷ against ∷ []))
        (cond (nat_lt most_value against) (none_line x (codes " limit") [])
        (raise_line k streams x against (least_heavy k against)))

    -- by whether the others are worth more than a value may be
    abbrev by_limit : Bool → List ℕ
    by_limit b = cond b (none_line x (codes " limit") []) (raise_line k streams x against (least_heavy k against))

    pub told_sure : is_heavy k (stream_at streams x).value against ≡ true
        → told_line x (told.Sure against) ≡ spread_line k streams x against
    told_sure heavy = sym (ap by_heavy heavy)

    -- what is worth no more than a value may be isn't heavy against more
    light : (stream_at streams x).value ≤ most_value → most_value < against
        → is_heavy k (stream_at streams x).value against ≡ false
    light small more = by (is_heavy k (stream_at streams x).value against) refl where
      by : (b : Bool) → is_heavy k (stream_at streams x).value against ≡ b → b ≡ false
      by true heavy = absurd (let above : against < (stream_at streams x).value = heavy_more k _ _ heavy in
          omega (arith, above, small, more))
      by false _ = refl

    pub told_beyond : (stream_at streams x).value ≤ most_value → most_value < against
        → told_line x told.Beyond ≡ spread_line k streams x against
    told_beyond small more =
        sym (ap by_heavy (light small more) ∙ ap by_limit (lt-ltb most_value against more))

    pub where_light : is_heavy k (stream_at streams x).value against ≡ false → against ≤ most_value → (line : List ℕ)
        → line ≡ raise_line k streams x against (least_heavy k against) → line ≡ spread_line k streams x against
    where_light fails small line same =
        same ∙ sym (ap by_heavy fails ∙ ap by_limit (le-ltb most_value against small))

    module _ (v : ℕ) where
      -- by whether the value is above the greatest
      abbrev by_value : Bool → List ℕ
      by_value b = cond b (none_line x (codes " limit") (against ∷ v ∷ []))
          (cond (stays_within k streams x v) (with_numbers (codes "raise") (x ∷ against ∷ v ∷ []))
          (none_line x (codes " ratio") (against ∷ v ∷ [])))

      -- by whether it stays within the ratio
      abbrev by_ratio : Bool → List ℕ
      by_ratio b = cond b (with_numbers (codes "raise") (x ∷ against ∷ v ∷ []))
          (none_line x (codes " ratio") (against ∷ v ∷ []))

      pub told_limit : most_value < v → told_line x (told.Limit against v) ≡ raise_line k streams x against v
      told_limit more = sym (ap by_value (lt-ltb most_value v more))

      pub told_raise : v ≤ most_value → stays_within k streams x v ≡ true
          → told_line x (told.Raise against v) ≡ raise_line k streams x against v
      told_raise small stays = sym (ap by_value (le-ltb most_value v small) ∙ ap by_ratio stays)

      pub told_ratio : v ≤ most_value → stays_within k streams x v ≡ false
          → told_line x (told.Ratio against v) ≡ raise_line k streams x against v
      told_ratio small breaks = sym (ap by_value (le-ltb most_value v small) ∙ ap by_ratio breaks)
