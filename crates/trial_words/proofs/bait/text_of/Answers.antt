use Rattle.std.proofs.Common.{◌≤◌, ℕ, List, length, ◌∙◌, sym, ap, subst, arith}
use Rattle.dover_model.specs.Common.{bound, most_total}
use Rattle.dover_model.specs.declared.events.Version.TheVariants.{Two}
use Rattle.trial_words.proofs.Baiting.{value_within, bound_line, written, told}
use Rattle.trial_words.proofs.bait.text_of.Goals as goal

pub long_bound-requires : goal.long_bound-requires
long_bound-requires c =
    let low : c.value-value.result ≤ most_total Two = subst (λ v. v ≤ most_total Two)
    (sym c.value-value.ensures.completed)
    (value_within _ _ c.jobs.ensures.ratio c.jobs.ensures.some c.jobs.ensures.fits) in
    omega (arith, low)

pub put_long-requires : goal.put_long-requires
put_long-requires c = omega (arith, ap (λ (bs : List ℕ). length bs) c.new-text.ensures)

pub put_word-requires : goal.put_word-requires
put_word-requires c = omega (
  arith,
  ap (λ (bs : List ℕ). length bs) c.new-text.ensures,
  c.put_long.ensures.size,
)

pub put_with_wide-requires : goal.put_with_wide-requires
put_with_wide-requires c = omega (
  arith,
  ap (λ (bs : List ℕ). length bs) c.new-text.ensures,
  c.put_long.ensures.size,
  ap (λ (bs : List ℕ). length bs) c.put_word.ensures,
)

pub put_with_wide-requires-2 : goal.put_with_wide-requires-2
put_with_wide-requires-2 c = omega (
  arith,
  ap (λ (bs : List ℕ). length bs) c.new-text.ensures,
  c.put_long.ensures.size,
  ap (λ (bs : List ℕ). length bs) c.put_word.ensures,
  c.put_with_wide.ensures.size,
)

pub put_with_wide-requires-3 : goal.put_with_wide-requires-3
put_with_wide-requires-3 c = omega (
  arith,
  ap (λ (bs : List ℕ). length bs) c.new-text.ensures,
  c.put_long.ensures.size,
  ap (λ (bs : List ℕ). length bs) c.put_word.ensures,
  c.put_with_wide.ensures.size,
  c.put_with_wide-2.ensures.size,
)

pub returns-clause-alone : goal.returns-clause-alone
returns-clause-alone c = c.value-value.ensures.alone

pub returns-clause-text : goal.returns-clause-text
returns-clause-text c =
    written c.from-jobs.result c.value-value.result c.schedule_value.result c.long_bound.result _ _ _ _ _
    c.new-text.ensures (bound_line _ _ _ _ c.put_long.ensures.is c.put_word.ensures)
    c.put_with_wide.ensures.is c.put_with_wide-2.ensures.is c.put_with_wide-3.ensures.is
    ∙ told c.args.feed.now.ratio c.args.feed.now.rounds _ _ _ _ (c.from-jobs.ensures ∙ c.jobs.ensures.count)
    c.value-value.ensures.completed c.schedule_value.ensures.worth
    (c.long_bound.ensures.is ∙ ap (λ k. bound k c.value-value.result) (sym c.requires))
