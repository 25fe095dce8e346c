use Rattle.std.proofs.Common.{◌++◌, ◌∙◌, decimal, codes, ap, arith}
use Rattle.question_words.proofs.bounding.put_last_bound.Goals as goal

pub long_bound-requires : goal.long_bound-requires
long_bound-requires c = record { completed = c.requires.value }

pub put_long-requires : goal.put_long-requires
put_long-requires c = omega (arith, c.requires.fits)

pub put_word-requires : goal.put_word-requires
put_word-requires c = omega (arith, c.requires.fits, c.put_long.ensures.size)

pub returns : goal.returns
returns c = c.put_word.ensures
    ∙ ap (λ l. codes "bound " ++ l)
    (c.put_long.ensures.is ∙ ap (λ n. decimal n ++ c.args.head.now) c.long_bound.ensures.is)
