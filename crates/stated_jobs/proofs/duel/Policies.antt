-- Policies are on-line as a duel asks.
use Rattle.std.proofs.Common.{◌≡◌, ℕ, zero, suc, List, [], ◌∷◌, sym, ap, ◌∙◌, arith, Some, None, slice_get}
use Rattle.std.proofs.Common.{slice_index_or}
use Rattle.dover_model.specs.declared.events.Version.{Version}
use Rattle.dover_model.specs.Fraction.{Fraction}
use Rattle.dover_model.proofs.valid.Limiting.{jobs_most}
use Rattle.policy_lab.specs.Picks.{Picks}
use Rattle.policy_lab.specs.PolicyRun.{policy_run}
use Rattle.policy_lab.proofs.Onlines.{on_line}
use Rattle.stated_jobs.specs.duel.Game.{IsOnline, AreValid}
use Rattle.stated_jobs.proofs.duel.Duel.{valid_known}
use Rattle.dover_model.proofs.valid.ValidParts.{valid_parts}

-- a place that names a number has it
place_has : (xs : List ℕ) (u n d : ℕ) → slice_get xs u ≡ Some n → slice_index_or xs u d ≡ n
place_has [] u n d named = absurd (none named) where
  none : None ≡ Some n → ⊥
  none e = absurd (cc)
place_has (x ∷ xs) zero n d named = same named where
  same : Some x ≡ Some n → x ≡ n
  same e = cc
place_has (x ∷ xs) (suc u) n d named = place_has xs u n d named

-- and the other way round, but for the number of none
has_place : (xs : List ℕ) (u n d : ℕ) → (d ≡ n → ⊥) → slice_index_or xs u d ≡ n → slice_get xs u ≡ Some n
has_place [] u n d other has = absurd (other has)
has_place (x ∷ xs) zero n d other has = ap (λ m. Some m) has
has_place (x ∷ xs) (suc u) n d other has = has_place xs u n d other has

pub online : (version : Version) (k : Fraction) (picks : Picks) → picks [] ≡ None
    → IsOnline (AreValid version k) (policy_run picks)
online version k picks idles t jobs others valid valid2 same n known = (
  λ named. has_place (policy_run picks others) t n 4_000_000_000 other
      (sym agree ∙ place_has (policy_run picks jobs) t n 4_000_000_000 named),
  λ named. has_place (policy_run picks jobs) t n 4_000_000_000 other
      (agree ∙ place_has (policy_run picks others) t n 4_000_000_000 named),
) where
  agree : slice_index_or (policy_run picks jobs) t 4_000_000_000
      ≡ slice_index_or (policy_run picks others) t 4_000_000_000
  agree = on_line picks t jobs others idles (valid_parts valid).in_order (valid_parts valid2).in_order same t
      (omega arith)

  other : 4_000_000_000 ≡ n → ⊥
  other is = omega (arith, is, known, (valid_parts (valid_known version k jobs t valid)).count, jobs_most version)
