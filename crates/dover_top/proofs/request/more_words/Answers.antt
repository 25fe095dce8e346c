use Rattle.std.proofs.Common.{ap, codes, drop, refl, sym, ◌∙◌, arith}
use Rattle.dover_top.proofs.Asking.{asks_read, row_of}
use Rattle.dover_top.proofs.request.more_words.Goals as goal

pub returns-in-report-clause-some : goal.returns-in-report-clause-some
returns-in-report-clause-some c =
    c.report.ensures.some c.args.word.now (sym c.as_str.ensures.value ∙ c.in-report.is)

pub returns-in-bait-clause-some : goal.returns-in-bait-clause-some
returns-in-bait-clause-some c =
    c.bait.ensures.some c.args.word.now (sym c.as_str.ensures.value ∙ c.in-bait.is)

pub returns-in-duel-clause-some : goal.returns-in-duel-clause-some
returns-in-duel-clause-some c =
    c.duel.ensures.some c.args.word.now (sym c.as_str.ensures.value ∙ c.in-duel.is)

pub returns-in-resume-clause-some : goal.returns-in-resume-clause-some
returns-in-resume-clause-some c =
    c.paused.ensures.some c.args.word.now (sym c.as_str.ensures.value ∙ c.in-resume.is)

pub returns-in-feasible-clause-some : goal.returns-in-feasible-clause-some
returns-in-feasible-clause-some c =
    c.feasible.ensures.some c.args.word.now (sym c.as_str.ensures.value ∙ c.in-feasible.is)

pub returns-in_err-seed-in-trial-clause-none : goal.returns-in_err-seed-in-trial-clause-none
returns-in_err-seed-in-trial-clause-none c = λ _ r asks.
    let it = asks_read _ _ r (codes "trial") (sym c.as_str.ensures.value ∙ c.in-trial.is) asks in
    c.in_err-seed-in-trial.ensures.none refl _ _ _ it.small it.few it.allowed (ap (drop 1) it.row)

pub returns-in_ok-seed-in-trial-clause-some : goal.returns-in_ok-seed-in-trial-clause-some
returns-in_ok-seed-in-trial-clause-some c = let it = c.in_ok-seed-in-trial.ensures.some in record {
  row = row_of c.args.word.now c.args.words.now _ _ (sym c.as_str.ensures.value ∙ c.in-trial.is) it.0;
  small = it.1;
  few = it.2;
  allowed = it.3;
  plain = it.4;
}

pub returns-in_err-seed-in-draw-clause-none : goal.returns-in_err-seed-in-draw-clause-none
returns-in_err-seed-in-draw-clause-none c = λ _ r asks.
    let it = asks_read _ _ r (codes "draw") (sym c.as_str.ensures.value ∙ c.in-draw.is) asks in
    c.in_err-seed-in-draw.ensures.none refl _ _ _ it.small it.few it.allowed (ap (drop 1) it.row)

pub returns-in_ok-seed-in-draw-clause-some : goal.returns-in_ok-seed-in-draw-clause-some
returns-in_ok-seed-in-draw-clause-some c = let it = c.in_ok-seed-in-draw.ensures.some in record {
  row = row_of c.args.word.now c.args.words.now _ _ (sym c.as_str.ensures.value ∙ c.in-draw.is) it.0;
  small = it.1;
  few = it.2;
  allowed = it.3;
  plain = it.4;
}

pub returns-in_err-until-in-unroll-clause-none : goal.returns-in_err-until-in-unroll-clause-none
returns-in_err-until-in-unroll-clause-none c = λ _ r asks.
    let it = asks_read _ _ r (codes "unroll") (sym c.as_str.ensures.value ∙ c.in-unroll.is) asks in
    c.in_err-until-in-unroll.ensures.none refl _ (omega arith) (omega (arith, it.known, c.last_tick.ensures))
    (ap (drop 1) it.row)

pub returns-in_ok-until-in-unroll-clause-some : goal.returns-in_ok-until-in-unroll-clause-some
returns-in_ok-until-in-unroll-clause-some c = record {
  row = row_of c.args.word.now c.args.words.now _ _ (sym c.as_str.ensures.value ∙ c.in-unroll.is)
      c.in_ok-until-in-unroll.ensures.some.0;
  known = omega (arith, c.in_ok-until-in-unroll.ensures.some.2, c.last_tick.ensures);
}

pub returns-in_err-cost-in-budget-clause-none : goal.returns-in_err-cost-in-budget-clause-none
returns-in_err-cost-in-budget-clause-none c = λ _ r asks.
    let it = asks_read _ _ r (codes "budget") (sym c.as_str.ensures.value ∙ c.in-budget.is) asks in
    c.in_err-cost-in-budget.ensures.none refl _ (omega arith) it.known (ap (drop 1) it.row)

pub returns-in_ok-cost-in-budget-clause-some : goal.returns-in_ok-cost-in-budget-clause-some
returns-in_ok-cost-in-budget-clause-some c = record {
  row = row_of c.args.word.now c.args.words.now _ _ (sym c.as_str.ensures.value ∙ c.in-budget.is)
      c.in_ok-cost-in-budget.ensures.some.0;
  known = c.in_ok-cost-in-budget.ensures.some.2;
}
