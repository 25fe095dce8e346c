use Rattle.std.proofs.Common.{None, IfOk, ap, if◌then◌else◌, option_map, string_bytes, subst, sym, ◌∙◌, ◌≡◌}
use Rattle.help_words.specs.Help.{asks_help, rows_of, told_by}
use Rattle.help_words.proofs.Asking.{by_last}
use Rattle.help_words.proofs.help.told.Goals as goal

pub returns-in-len2-up-2 : goal.returns-in-len2-up-2
returns-in-len2-up-2 c =
    let no = sym (c.if-asks_help.ensures ∙ ap asks_help c.deref-2.ensures) in
    let yes = sym (c.if-asks_help-2.ensures ∙ ap asks_help c.deref-3.ensures) in
    let all = by_last c.args.words.now c.word-item-2.result c.word-item-3.result c.last-item.result
    c.in-len2-up.len_at_least c.word-item-2.is c.word-item-3.is c.last-item.is no
    ∙ ap (λ b. if b then told_by (rows_of (string_bytes c.word-item-3.result)) else None) yes
    ∙ ap (λ word. told_by (rows_of word)) (sym c.deref-in-len2-up-2.ensures) in
    subst (λ t. IfOk c.told_of-in-len2-up-2.result (λ text. option_map string_bytes text ≡ t)) (sym all)
    c.told_of-in-len2-up-2.ensures

pub returns-in_default : goal.returns-in_default
returns-in_default c =
    let no = sym (c.if-asks_help.ensures ∙ ap asks_help c.deref-2.ensures) in
    let none = sym (c.if-asks_help-2.ensures ∙ ap asks_help c.deref-3.ensures) in
    sym (by_last c.args.words.now c.word-item-2.result c.word-item-3.result c.last-item.result
    c.in-len2-up.len_at_least c.word-item-2.is c.word-item-3.is c.last-item.is no
    ∙ ap (λ b. if b then told_by (rows_of (string_bytes c.word-item-3.result)) else None) none)
