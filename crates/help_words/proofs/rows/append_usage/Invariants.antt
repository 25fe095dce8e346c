use Rattle.std.proofs.Common.{◌≡◌, ◌++◌, ◌∷◌, [], flat_map, string_bytes, take}
use Rattle.help_words.proofs.rows.append_usage.Given as goal

abbrev pub invariant-loop-row : goal.invariant-loop-row
invariant-loop-row l = string_bytes l.text
    ≡ string_bytes l.initial.text ++ flat_map (λ row. row.now ++ 10 ∷ []) (take l.row-index l.rows)
