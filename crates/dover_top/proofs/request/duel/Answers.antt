use Rattle.std.proofs.Common.{ap, codes, drop, length, refl, sym, ◌∙◌, arith}
use Rattle.dover_top.specs.Words.{spelled}
use Rattle.dover_top.proofs.Asking.{all_behind, asks_read, length_spelled, place_spells, row_of, spelled_behind}
use Rattle.dover_top.proofs.Asking.{spelled_from}
use Rattle.dover_top.proofs.request.duel.Goals as goal

pub returns-in_default-clause-none : goal.returns-in_default-clause-none
returns-in_default-clause-none c = λ word is _ r asks.
    let it = asks_read word c.args.words.now r (codes "duel") is asks in
    absurd (omega (arith, c.in_default.len_below, length_spelled c.args.words.now, ap length it.row))

pub returns-in_err-k-clause-none : goal.returns-in_err-k-clause-none
returns-in_err-k-clause-none c = λ word is _ r asks.
    let it = asks_read word c.args.words.now r (codes "duel") is asks in
    c.in_err-k.ensures.none refl _ it.allowed
    (place_spells c.args.words.now 0 _ _ (omega arith) c.p-item.is (ap (drop 1) it.row))
    (place_spells c.args.words.now 1 _ _ (omega arith) c.q-item.is (ap (drop 1) it.row))

pub returns-in_err-share-clause-none : goal.returns-in_err-share-clause-none
returns-in_err-share-clause-none c = λ word is _ r asks.
    let it = asks_read word c.args.words.now r (codes "duel") is asks in
    c.in_err-share.ensures.none refl _ it.share_is
    (place_spells c.args.words.now 2 _ _ (omega arith) c.part-item.is (ap (drop 1) it.row))
    (place_spells c.args.words.now 3 _ _ (omega arith) c.whole-item.is (ap (drop 1) it.row))

pub returns-in_err-front-clause-none : goal.returns-in_err-front-clause-none
returns-in_err-front-clause-none c = λ word is _ r asks.
    let it = asks_read word c.args.words.now r (codes "duel") is asks in
    c.in_err-front.ensures.none refl _ it.formed (ap spelled (all_behind c.args.words.now 4)
    ∙ spelled_behind c.args.words.now 4 ∙ ap (drop 5) it.row)

pub returns-clause-some : goal.returns-clause-some
returns-clause-some c = λ word is. record {
  row = row_of word c.args.words.now _ _ is (spelled_from c.args.words.now 0 _ (omega arith) c.p-item.is
      c.in_ok-k.ensures.some.0 (spelled_from c.args.words.now 1 _ (omega arith) c.q-item.is c.in_ok-k.ensures.some.1
      (spelled_from c.args.words.now 2 _ (omega arith) c.part-item.is c.in_ok-share.ensures.some.0
      (spelled_from c.args.words.now 3 _ (omega arith) c.whole-item.is c.in_ok-share.ensures.some.1
      (sym (ap spelled (all_behind c.args.words.now 4)) ∙ c.in_ok-front.ensures.some.1)))));
  allowed = c.in_ok-k.ensures.some.2;
  plain = c.in_ok-k.ensures.some.3;
  share_is = c.in_ok-share.ensures.some.2;
  formed = c.in_ok-front.ensures.some.0;
}
