use Rattle.std.proofs.Common.{rules}
use Rattle.std.proofs.lemmas.Iterator.Consumers.{YieldsList-at, YieldsList-from_filter, map_from_collect}
use Rattle.std.proofs.lemmas.Iterator.Splits.{YieldsList-from_lines}
use Rattle.help_words.specs.Help.{is_row_of, rows_of}
use Rattle.help_words.specs.declared.usage.TheConstants.{USAGE}
use Rattle.help_words.proofs.rows.rows.Goals as goal

pub returns : goal.returns
unfolding rows_of
returns c = map_from_collect _ c.collect.ensures.ran
    (YieldsList-from_filter _ (is_row_of c.args.word.now)
    (YieldsList-at c.filter.ensures.source (YieldsList-from_lines USAGE.now c.lines.ensures.rest))
    c.filter.ensures.closure (λ x b q k. search rules))
