use Rattle.dover_model.proofs.bound.Calculus.{heavy_from, heavy_excess, factor_from, factor_over, paid_add, take_step}
use Rattle.dover_model.proofs.bound.Calculus.{heavy_mono, within_parts, root_agrees, factor_agrees, within_root}
use Rattle.dover_model.proofs.bound.Calculus.{within_root_from, paid_root, paid_root_from}
use Rattle.std.proofs.Common.{◌*◌, ◌<◌, ◌≤◌, ◌⊎◌, inl, inr, arith}
use Rattle.std.proofs.lemmas.Bool.{cases_lt}
use Rattle.std.proofs.lemmas.Nat.{mul-le}
use Rattle.dover_model.proofs.bound.LeastBound.{root_least}
use Rattle.dover_model.proofs.bound.BoundLaws.{some_least, has_books, interval_ordered, interval_displaced}
use Rattle.dover_model.proofs.bound.BoundLaws.{interval_paid, interval_light, interval_lost, intervals_last}
use Rattle.dover_model.proofs.bound.BoundLaws.{intervals_complete, intervals_abandon, bound, observed_bound}
use Rattle.dover_model.proofs.bound.GreatestLaws.{bound-is}
use Rattle.dover_model.proofs.bound_laws.laws_of_bounds.Goals as goal

pub returns-clause-heavy_values_exceed_root : goal.returns-clause-heavy_values_exceed_root
returns-clause-heavy_values_exceed_root c k v w plain = (heavy_excess k plain v w, heavy_from k plain v w)

pub returns-clause-heavy_values_exceed_factor : goal.returns-clause-heavy_values_exceed_factor
returns-clause-heavy_values_exceed_factor x k b c v w some above = (
  factor_over k (record { b = b; c = c }) v w,
  λ over. factor_from k (record { b = b; c = c }) v w (more over (cases_lt w v)) over,
) where
  more : b * w < c * v → (w < v) ⊎ (v ≤ w) → w < v
  more over (inl less) = less
  more over (inr low) = absurd (
      let one : c * v ≤ c * w = mul-le c v c w (omega arith) low in
      let other : c * w ≤ b * w = mul-le c w b w (omega (arith, above)) (omega arith) in
      omega (arith, one, other, over))

pub returns-clause-ratios_add_up_sum : goal.returns-clause-ratios_add_up_sum
returns-clause-ratios_add_up_sum c k x y u v some ratio = paid_add k some ratio x y u v

pub returns-clause-ratios_add_up_take : goal.returns-clause-ratios_add_up_take
returns-clause-ratios_add_up_take c k d w v some ratio = take_step k some ratio d w v

pub returns-clause-ratios_add_up_heavy : goal.returns-clause-ratios_add_up_heavy
returns-clause-ratios_add_up_heavy c = heavy_mono

pub returns-clause-ratios_add_up_within : goal.returns-clause-ratios_add_up_within
returns-clause-ratios_add_up_within c k c2 r z d y some ratio = within_parts k some ratio c2 r z d y

pub returns-clause-thresholds_are_of_two_kinds_paid_root : goal.returns-clause-thresholds_are_of_two_kinds_paid_root
returns-clause-thresholds_are_of_two_kinds_paid_root x k d z plain = (paid_root k plain d z, paid_root_from k plain d z)

pub returns-clause-thresholds_are_of_two_kinds_within_root : goal.returns-clause-thresholds_are_of_two_kinds_within_root
returns-clause-thresholds_are_of_two_kinds_within_root x k c a plain = (
  λ within. (root_agrees k c a).0 (within_root k plain c a within),
  λ square. within_root_from k plain c a ((root_agrees k c a).1 square),
)

pub returns-clause-thresholds_are_of_two_kinds_paid_factor : goal.returns-clause-thresholds_are_of_two_kinds_paid_factor
returns-clause-thresholds_are_of_two_kinds_paid_factor x k b c d z = (λ paid. paid, λ paid. paid)

pub returns-clause-thresholds_are_of_two_kinds_within_factor :
    goal.returns-clause-thresholds_are_of_two_kinds_within_factor
returns-clause-thresholds_are_of_two_kinds_within_factor x k b c o a = factor_agrees k (record { b = b; c = c }) o a

pub returns-clause-the_root_has_the_least_bound : goal.returns-clause-the_root_has_the_least_bound
returns-clause-the_root_has_the_least_bound c = root_least

pub returns-clause-runs_have_books_some : goal.returns-clause-runs_have_books_some
returns-clause-runs_have_books_some c = some_least

pub returns-clause-runs_have_books_books : goal.returns-clause-runs_have_books_books
returns-clause-runs_have_books_books c = has_books

pub returns-clause-intervals_balance_ordered : goal.returns-clause-intervals_balance_ordered
returns-clause-intervals_balance_ordered c = interval_ordered

pub returns-clause-intervals_balance_displaced : goal.returns-clause-intervals_balance_displaced
returns-clause-intervals_balance_displaced c = interval_displaced

pub returns-clause-intervals_balance_paid : goal.returns-clause-intervals_balance_paid
returns-clause-intervals_balance_paid c = interval_paid

pub returns-clause-intervals_balance_light : goal.returns-clause-intervals_balance_light
returns-clause-intervals_balance_light c = interval_light

pub returns-clause-intervals_balance_lost : goal.returns-clause-intervals_balance_lost
returns-clause-intervals_balance_lost c = interval_lost

pub returns-clause-intervals_add_up_last : goal.returns-clause-intervals_add_up_last
returns-clause-intervals_add_up_last c = intervals_last

pub returns-clause-intervals_add_up_completed : goal.returns-clause-intervals_add_up_completed
returns-clause-intervals_add_up_completed c = intervals_complete

pub returns-clause-intervals_add_up_abandoned : goal.returns-clause-intervals_add_up_abandoned
returns-clause-intervals_add_up_abandoned c = intervals_abandon

pub returns-clause-no_schedule_is_worth_more_declared : goal.returns-clause-no_schedule_is_worth_more_declared
returns-clause-no_schedule_is_worth_more_declared c = bound

pub returns-clause-no_schedule_is_worth_more_observed : goal.returns-clause-no_schedule_is_worth_more_observed
returns-clause-no_schedule_is_worth_more_observed c = observed_bound

pub returns-clause-bound_is_greatest : goal.returns-clause-bound_is_greatest
returns-clause-bound_is_greatest c = bound-is
