use Rattle.std.proofs.Common.{refl, arith}
use Rattle.dover_top.proofs.Asking.{place_spells, spelled_end, spelled_from}
use Rattle.dover_top.proofs.request.stated.Goals as goal

pub returns-in_err-seed-clause-none : goal.returns-in_err-seed-clause-none
returns-in_err-seed-clause-none c = λ _ seed count k small few allowed spells.
    c.in_err-seed.ensures.none refl seed (omega arith) (omega (arith, small))
    (place_spells c.args.words.now 0 _ _ (omega arith) c.seed-item.is spells)

pub returns-in_err-count-clause-none : goal.returns-in_err-count-clause-none
returns-in_err-count-clause-none c = λ _ seed count k small few allowed spells.
    c.in_err-count.ensures.none refl count (omega arith) (omega (arith, few))
    (place_spells c.args.words.now 1 _ _ (omega arith) c.count-item.is spells)

pub returns-in_err-k-clause-none : goal.returns-in_err-k-clause-none
returns-in_err-k-clause-none c = λ _ seed count k small few allowed spells.
    c.in_err-k.ensures.none refl k allowed
    (place_spells c.args.words.now 2 _ _ (omega arith) c.p-item.is spells)
    (place_spells c.args.words.now 3 _ _ (omega arith) c.q-item.is spells)

pub returns-clause-some : goal.returns-clause-some
returns-clause-some c = (
  spelled_from c.args.words.now 0 _ (omega arith) c.seed-item.is c.in_ok-seed.ensures.some.0
      (spelled_from c.args.words.now 1 _ (omega arith) c.count-item.is c.in_ok-count.ensures.some.0
      (spelled_from c.args.words.now 2 _ (omega arith) c.p-item.is c.in_ok-k.ensures.some.0
      (spelled_from c.args.words.now 3 _ (omega arith) c.q-item.is c.in_ok-k.ensures.some.1
      (spelled_end c.args.words.now 4 (omega arith))))),
  omega (arith, c.in_ok-seed.ensures.some.2),
  c.in_ok-count.ensures.some.2,
  c.in_ok-k.ensures.some.2,
  c.in_ok-k.ensures.some.3,
)
