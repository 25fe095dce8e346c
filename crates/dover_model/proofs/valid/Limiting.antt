-- The limits of each version, beside those of version Three.
use Rattle.std.proofs.Common.{◌≡◌, ◌+◌, ◌*◌, ◌≤◌, refl, sym, arith, false, Option, Some, None}
use Rattle.dover_model.specs.Common.{Instance, IsListable, IsValid, most_items, most_jobs, most_lines, most_total}
use Rattle.dover_model.specs.Common.{last_deadline, last_tick, last_tick_in, Version, One, Two, Three, Session}
use Rattle.dover_model.specs.Common.{may_finish_early, most_lines_in}
use Rattle.dover_model.proofs.lists.Tests.{never}
use Rattle.dover_model.proofs.valid.ValidParts.{valid_parts}
use Rattle.dover_model.specs.declared.events.Version.TheVariants.{Four}

-- no version has more jobs than Three
pub jobs_most : (v : Version) → most_jobs v ≤ 4_000_000_000
jobs_most One = omega arith
jobs_most _ = omega arith

-- nor a greater sum
pub total_most : (v : Version) → most_total v ≤ 999_999_999_999_999_999
total_most One = omega arith
total_most _ = omega arith

-- nor a later tick
pub tick_most : (v : Version) → last_tick_in v ≤ last_tick
tick_most One = omega arith
tick_most _ = omega arith

-- nor more lines
pub lines_most : (v : Version) → most_lines v ≤ 16_000_000_000
lines_most One = omega arith
lines_most _ = omega arith

-- also where none is declared yet
pub lines_most_in : (o : Option Session) → most_lines_in o ≤ 16_000_000_000
lines_most_in None = omega arith
lines_most_in (Some S) = lines_most S.rules.version

-- the versions in which no job finishes early have the limits of Two
few_jobs : (v : Version) → may_finish_early v ≡ false → most_jobs v ≤ 1_000_000
few_jobs Three former = never (sym former)
few_jobs Four former = never (sym former)
few_jobs _ former = omega arith

small_total : (v : Version) → may_finish_early v ≡ false → most_total v ≤ 10_000_000_000_000
small_total Three former = never (sym former)
small_total Four former = never (sym former)
small_total _ former = omega arith

early_tick : (v : Version) → may_finish_early v ≡ false → last_tick_in v ≤ last_tick_in Two
early_tick Three former = never (sym former)
early_tick Four former = never (sym former)
early_tick _ former = omega arith

-- no version has fewer jobs than One
pub jobs_least : (v : Version) → most_jobs One ≤ most_jobs v
jobs_least One = omega arith
jobs_least _ = omega arith

-- nor a smaller sum
pub total_least : (v : Version) → most_total One ≤ most_total v
total_least One = omega arith
total_least _ = omega arith

-- nor an earlier last tick
pub tick_least : (v : Version) → last_tick_in Two ≤ last_tick_in v
tick_least One = omega arith
tick_least _ = omega arith

-- the lines that are no items are the first and the last
pub items_of_lines : (v : Version) → most_lines v ≡ most_items v + 2
items_of_lines One = refl
items_of_lines _ = refl

-- there may be three items for each job
pub items_enough : (v : Version) → 3 * most_jobs v ≤ most_items v
items_enough One = omega arith
items_enough _ = omega arith

-- the last deadline is a tick that may be named
pub deadline_known : (J : Instance) → IsValid J → last_deadline J.jobs ≤ last_tick
deadline_known J valid = omega (arith, (valid_parts valid).due, tick_most J.rules.version)

-- the valid jobs of a version in which none finishes early are listable
pub listable : (J : Instance) → IsValid J → may_finish_early J.rules.version ≡ false → IsListable J
listable J valid former = record {
  count = omega (arith, (valid_parts valid).count, few_jobs J.rules.version former);
  total = omega (arith, (valid_parts valid).total, small_total J.rules.version former);
  due = omega (arith, (valid_parts valid).due, early_tick J.rules.version former);
}
