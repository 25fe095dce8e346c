-- When a task releases, and when it doesn't.
use Rattle.std.proofs.Common.{◌≡◌, ℕ, suc, ◌+◌, ◌-◌, ◌*◌, ◌/◌, ◌%◌, ◌^◌, ◌<◌, ◌≤◌, refl, ap, ◌∙◌, Bool, true, false}
use Rattle.std.proofs.Common.{cond, min, arith, rules, Option, Some, None, ◌&&◌, ◌==◌, nat_le, nat_lt, div-add-mod'}
use Rattle.std.proofs.Common.{leb-true, le-leb, ltb-true, ltb-false, eqb-true, ne_eqb}
use Rattle.std.proofs.lemmas.Nat.{mod-mul-add}
use Rattle.std.proofs.lemmas.Bool.{and_parts}
use Rattle.place_heap.specs.Items.{ItemFacts}
use Rattle.task_words.specs.tasks.Tasks.{releases}
use Rattle.task_words.specs.tasks.Merging.{IsNext, kept_release, release_item}
use Rattle.task_words.specs.declared.tasks.task.PeriodicTask.{PeriodicTask}

-- whether one is kept
abbrev kept_by : Bool → (number release : ℕ) → Option ItemFacts
kept_by b number release = cond b (Some (release_item number release)) None

-- ---- the first release

-- none is before the offset, where the first is
pub first_kept : (until number : ℕ) (task : PeriodicTask)
    → IsNext until number task 0 (kept_release until number task.offset)
first_kept until number task = by (nat_lt task.offset until) refl where
  none_before : (tick : ℕ) → tick < task.offset → releases task tick ≡ false
  none_before tick before = search (rules, before)

  at_offset : releases task task.offset ≡ true
  at_offset = search rules

  by : (b : Bool) → nat_lt task.offset until ≡ b → IsNext until number task 0 (kept_by b number task.offset)
  by true early = record {
    item_is = refl;
    early = omega arith;
    late = ltb-true _ _ early;
    released = at_offset;
    quiet = λ tick from before. none_before tick before;
  }
  by false late = λ tick low high. let after : until ≤ task.offset = ltb-false _ _ late in
      none_before tick (omega (arith, high, after))

-- ---- the next release

module _ (task : PeriodicTask) (at : ℕ) (period : 1 ≤ task.period) (is : releases task at ≡ true) where
  -- the offset and whole periods
  abbrev m : ℕ
  m = (at - task.offset) / task.period

  begun : task.offset ≤ at
  begun = leb-true _ _ (and_parts (nat_le task.offset at) ((at - task.offset) % task.period == 0) is).0

  whole : at - task.offset ≡ m * task.period
  whole =
      let none : (at - task.offset) % task.period ≡ 0 =
      eqb-true _ _ (and_parts (nat_le task.offset at) ((at - task.offset) % task.period == 0) is).1 in
      omega (arith, none, div-add-mod' (at - task.offset) task.period)

  -- none within a period
  gap : (tick : ℕ) → suc at ≤ tick → tick < at + task.period → releases task tick ≡ false
  gap tick low high =
      let d : ℕ = tick - at in
      let n_is : tick - task.offset ≡ m * task.period + d = omega (arith, whole, begun, low) in
      let rest : (m * task.period + d) % task.period ≡ d = mod-mul-add m task.period d (omega (arith, low, high)) in
      ap (λ c. c && ((tick - task.offset) % task.period == 0)) (le-leb task.offset tick (omega (arith, begun, low)))
      ∙ ap (λ k. k % task.period == 0) n_is ∙ ap (λ k. k == 0) rest
      ∙ ne_eqb d 0 (λ none. absurd (omega (arith, none, low)))

  -- one after a period
  again : releases task (at + task.period) ≡ true
  again =
      let n_is : (at + task.period) - task.offset ≡ (m + 1) * task.period + 0 = omega (arith, whole, begun) in
      let rest : ((m + 1) * task.period + 0) % task.period ≡ 0 =
      mod-mul-add (m + 1) task.period 0 (omega (arith, period)) in
      ap (λ c. c && (((at + task.period) - task.offset) % task.period == 0))
      (le-leb task.offset (at + task.period) (omega (arith, begun)))
      ∙ ap (λ k. k % task.period == 0) n_is ∙ ap (λ k. k == 0) rest

  -- the release that follows is kept, where the sum stops at the greatest number
  pub follows_short : (until number release : ℕ) → until < 2 ^ 64 → release ≡ min (at + task.period) (2 ^ 64 - 1)
      → IsNext until number task (suc at) (kept_release until number release)
  follows_short until number release fits is_min = by (nat_lt release until) refl where
    by : (b : Bool) → nat_lt release until ≡ b → IsNext until number task (suc at) (kept_by b number release)
    by true early =
        let low : release < until = ltb-true _ _ early in
        let same : release ≡ at + task.period = omega (arith, low, fits, is_min) in record {
          item_is = refl;
          early = omega (arith, same, period);
          late = low;
          released = ap (releases task) same ∙ again;
          quiet = λ tick from before. gap tick from (omega (arith, same, before));
        }
    by false late = λ tick low high. let after : until ≤ release = ltb-false _ _ late in
        gap tick low (omega (arith, high, after, is_min, fits))
