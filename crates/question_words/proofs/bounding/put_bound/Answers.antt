use Rattle.std.proofs.Common.{◌++◌, ◌∙◌, List, ℕ, length, decimal, codes, ap, arith}
use Rattle.question_words.proofs.bounding.put_bound.Goals as goal

pub long_bound-requires : goal.long_bound-requires
long_bound-requires c = record { completed = c.requires.value }

pub put_long-requires : goal.put_long-requires
put_long-requires c = omega (arith, c.requires.fits)

pub put_word-requires : goal.put_word-requires
put_word-requires c = omega (arith, c.requires.fits, c.put_long.ensures.size)

pub returns-clause-is : goal.returns-clause-is
returns-clause-is c = c.put_word.ensures
    ∙ ap (λ l. codes "\nbound " ++ l)
    (c.put_long.ensures.is ∙ ap (λ n. decimal n ++ c.args.head.now) c.long_bound.ensures.is)

pub returns-clause-size : goal.returns-clause-size
returns-clause-size c = omega (arith, c.put_long.ensures.size, ap (λ (bs : List ℕ). length bs) c.put_word.ensures)
