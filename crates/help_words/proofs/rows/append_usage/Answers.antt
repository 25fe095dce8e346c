use Rattle.std.proofs.Common.{◌∷◌, [], ◌++◌, codes, flat_map, map, string_bytes}
use Rattle.help_words.proofs.Appending.{all_of, three}
use Rattle.help_words.proofs.rows.append_usage.Goals as goal

pub returns : goal.returns
returns c = three (string_bytes c.args.text.now) (codes "usage: dover WORD.. [< INPUT]\n")
    (flat_map (λ line. line ++ 10 ∷ []) (map (λ row. row.now) c.args.rows.now))
    (codes "more:     dover WORD --help, man dover, and docs/MANUAL.md\n") _ _ _ c.in_ok-push_str.ensures.bytes
    (all_of (λ line. line ++ 10 ∷ []) (λ row. row.now) c.args.rows.now c.loop-row.row-index _ _ c.loop-row-test.false
    c.loop-row.invariant) c.in_ok-push_str-4.ensures.bytes
