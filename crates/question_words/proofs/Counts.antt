-- Comparisons that are few.
use Rattle.std.proofs.Common.{◌≡◌, ◌≤◌, ◌<◌, ◌+◌, ◌*◌, ◌^◌, ℕ, length, sym, ap, ◌∙◌, arith}
use Rattle.std.proofs.Math.Nat.{mul-le-mul_left, mul-le-mul_right}
use Rattle.dover_model.specs.Common.{Account, CostsAtMost, Instance}
use Rattle.event_feed.specs.Answers.{admitted_in}
use Rattle.event_feed.proofs.Admitting.{admitted_by}
use Rattle.event_feed.specs.Record.{IsEnded}
use Rattle.event_feed.specs.declared.listed.Listed.{Listed}
use Rattle.question_words.specs.Spending.{CostsRuns}

-- as many jobs are admitted as are listed
pub listed_count : (a : Account) (listed : Listed) → IsEnded listed a → length listed.jobs.items ≡ admitted_in a
listed_count a listed it = ap (λ (J : Instance). length J.jobs) it.run ∙ sym (ap admitted_by it.session_is)

-- none are few
pub no_cost : (runs n count : ℕ) → CostsRuns runs n count count
no_cost runs n count = λ d enough. omega arith

-- those of one run, and of one of two
pub one_run : (n before after : ℕ) → CostsAtMost n before after → CostsRuns 1 n before after
one_run n before after few = λ d enough. omega (arith, few d enough)

pub one_of_two : (n before after : ℕ) → CostsAtMost n before after → CostsRuns 2 n before after
one_of_two n before after few = λ d enough. omega (arith, few d enough)

-- those of two runs
pub two_runs : (n before between after : ℕ) → CostsAtMost n before between → CostsAtMost n between after
    → CostsRuns 2 n before after
two_runs n before between after first second = λ d enough. omega (arith, first d enough, second d enough)

-- those that are few for some jobs are few for more
pub more_cost : (runs n m before after : ℕ) → n ≤ m → CostsRuns runs n before after → CostsRuns runs m before after
more_cost runs n m before after most few = λ d enough.
    let less : n + 1 < 2 ^ d = omega (arith, enough, most) in
    let product : runs * (80 * (n + 1) * d) ≤ runs * (80 * (m + 1) * d) =
    mul-le-mul_left runs (mul-le-mul_right d (omega (arith, most))) in
    omega (arith, few d less, product)
