use Rattle.std.proofs.Common.{ap, codes, drop, length, refl, sym, ◌∙◌, arith, decimal}
use Rattle.dover_model.proofs.valid.JobLimits.{ratio_limits}
use Rattle.dover_top.specs.Words.{spelled}
use Rattle.dover_top.proofs.Asking.{all_behind, asks_read, length_spelled, place_spells, row_of, spelled_behind}
use Rattle.dover_top.proofs.Asking.{spelled_from}
use Rattle.dover_top.proofs.request.bait.Goals as goal

pub returns-in_default-clause-none : goal.returns-in_default-clause-none
returns-in_default-clause-none c = λ word is _ r asks.
    let it = asks_read word c.args.words.now r (codes "bait") is asks in
    absurd (omega (arith, c.in_default.len_below, length_spelled c.args.words.now, ap length it.row))

pub returns-in_err-k-clause-none : goal.returns-in_err-k-clause-none
returns-in_err-k-clause-none c = λ word is _ r asks.
    let it = asks_read word c.args.words.now r (codes "bait") is asks in
    c.in_err-k.ensures.none refl _ it.allowed
    (place_spells c.args.words.now 0 _ _ (omega arith) c.p-item.is (ap (drop 1) it.row))
    (place_spells c.args.words.now 1 _ _ (omega arith) c.q-item.is (ap (drop 1) it.row))

pub returns-in_err-rounds-clause-none : goal.returns-in_err-rounds-clause-none
returns-in_err-rounds-clause-none c = λ word is _ r asks.
    let it = asks_read word c.args.words.now r (codes "bait") is asks in
    c.in_err-rounds.ensures.none refl _ it.some it.few
    (place_spells c.args.words.now 2 _ _ (omega arith) c.rounds-item.is (ap (drop 1) it.row))

pub returns-in_err-k-2-clause-none : goal.returns-in_err-k-2-clause-none
returns-in_err-k-2-clause-none c = λ word is _ r asks.
    let it = asks_read word c.args.words.now r (codes "bait") is asks in
    c.in_err-k-2.ensures.none refl _ (ratio_limits it.allowed).factor (ap spelled (all_behind c.args.words.now 3)
    ∙ spelled_behind c.args.words.now 3 ∙ ap (drop 4) it.row)

pub returns-clause-some : goal.returns-clause-some
returns-clause-some c =
    let p = c.in_ok-k.ensures.some.0 ∙ ap decimal (sym c.in_ok-k-2.ensures.some.0) in
    let q = c.in_ok-k.ensures.some.1 ∙ ap decimal (sym c.in_ok-k-2.ensures.some.1) in
    λ word is. record {
      row = row_of word c.args.words.now _ _ is (spelled_from c.args.words.now 0 _ (omega arith) c.p-item.is p
          (spelled_from c.args.words.now 1 _ (omega arith) c.q-item.is q
          (spelled_from c.args.words.now 2 _ (omega arith) c.rounds-item.is c.in_ok-rounds.ensures.some.0
          (sym (ap spelled (all_behind c.args.words.now 3)) ∙ c.in_ok-k-2.ensures.some.3))));
      some = c.in_ok-rounds.ensures.some.1;
      few = c.in_ok-rounds.ensures.some.2;
      allowed = c.in_ok-k-2.ensures.some.2;
    }
