use Rattle.std.proofs.Common.{◌≡◌, ◌++◌, flat_map, string_bytes, take}
use Rattle.help_words.specs.Help.{quoted}
use Rattle.help_words.proofs.wrong.append_quoted.Given as goal

abbrev pub invariant-loop-word : goal.invariant-loop-word
invariant-loop-word l = string_bytes l.text
    ≡ string_bytes l.initial.text ++ flat_map (λ word. quoted (string_bytes word)) (take l.word-index l.words)
