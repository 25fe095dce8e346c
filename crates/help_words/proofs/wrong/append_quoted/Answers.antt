use Rattle.std.proofs.Common.{string_bytes}
use Rattle.help_words.specs.Help.{quoted}
use Rattle.help_words.proofs.Appending.{all_of}
use Rattle.help_words.proofs.wrong.append_quoted.Goals as goal

pub returns : goal.returns
returns c = all_of quoted string_bytes c.args.words.now c.loop-word.word-index _ _ c.loop-word-test.false
    c.loop-word.invariant
