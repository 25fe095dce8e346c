use Rattle.std.proofs.Common.{◌∷◌, [], ◌++◌, ap, codes, flat_map, map, string_bytes, sym, ◌∙◌}
use Rattle.help_words.specs.Help.{hint_by, quoted, rows_of}
use Rattle.help_words.proofs.Asking.{wrong_of}
use Rattle.help_words.proofs.wrong.wrong_words.Goals as goal

pub returns : goal.returns
returns c = c.in_ok-push_str-2.ensures.bytes
    ∙ ap (λ z. z ++ 10 ∷ []) (c.in_ok-append_quoted.ensures
    ∙ ap (λ z. z ++ flat_map quoted (map string_bytes c.args.words.now)) (c.in_ok-push_str.ensures.bytes
    ∙ ap (λ z. z ++ codes "dover: these words ask for nothing:") (c.in_ok-text.ensures
    ∙ ap (λ word. hint_by (rows_of word)) c.deref.ensures)))
    ∙ sym (wrong_of c.args.words.now c.in-Some.word.now c.in-Some.ensures.value)
