-- A text with no rest is its lines, each with its line feed.
use Rattle.std.proofs.Common.{◌≡◌, ℕ, List, [], ◌++◌, append-nil, sym, ap, ◌∙◌}
use Rattle.dover_model.specs.Lines.{in_lines, lines_of, whole_lines, rest_of}
use Rattle.dover_model.proofs.traces.AcceptedTexts.{text_joined}
use Rattle.event_feed.proofs.Behind.{lines_whole}

-- whole lines are what their lines are joined to
pub lines_again : (bytes : List ℕ) → rest_of bytes ≡ [] → in_lines (lines_of bytes) ≡ bytes
lines_again bytes whole = ap in_lines (lines_whole bytes whole []) ∙ sym (append-nil (in_lines (whole_lines bytes)))
    ∙ ap (λ rest. in_lines (whole_lines bytes) ++ rest) (sym whole) ∙ text_joined bytes
