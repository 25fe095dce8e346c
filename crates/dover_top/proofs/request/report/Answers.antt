use Rattle.std.proofs.Common.{◌≡◌, ◌≢◌, List, [], ◌∷◌, ℕ, Option, None, codes, get_or, drop, ap, refl, sym, ◌∙◌, inl}
use Rattle.std.proofs.Common.{inr, String, string_bytes}
use Rattle.std.specs.declared.alloc.Global.{Global}
use Rattle.trace_words.specs.declared.report.form.Form.{Form}
use Rattle.trace_words.specs.declared.report.form.Form.TheVariants.{Text, Table, Chrome, Why, Timeline, Svg}
use Rattle.run_reports.specs.declared.views.window.Window.{Window}
use Rattle.dover_top.specs.Words.{IsFormed, IsWindow, form_words, spelled, window_words}
use Rattle.dover_top.proofs.Asking.{asks_report}
use Rattle.dover_top.proofs.request.report.Goals as goal

-- without a window no words name a form, but those that ask why
no_form : (name : List ℕ) (words : List (List ℕ)) (form : Form) → name ∷ words ≡ form_words form → IsFormed form
    → name ≢ codes "why" → ((window : Option Window) → IsWindow window → words ≡ window_words window → ⊥) → ⊥
no_form name words Text e formed other none = none None tt (ap (drop 1) e)
no_form name words Table e formed other none = none None tt (ap (drop 1) e)
no_form name words Chrome e formed other none = none None tt (ap (drop 1) e)
no_form name words (Why n) e formed other none = other (ap (λ l. get_or l 0 []) e)
no_form name words (Timeline window) e formed other none = none window formed (ap (drop 1) e)
no_form name words (Svg window) e formed other none = none window formed (ap (drop 1) e)

-- the name that words begin with
its_name : {name first : List ℕ} {words rest : List (List ℕ)} → name ∷ words ≡ first ∷ rest → name ≡ first
its_name e = ap (λ l. get_or l 0 []) e

-- the words that are read, with the name split off
split : {words rest : List (String Global)} {name : String Global} {row : List (List ℕ)} → words ≡ name ∷ rest
    → spelled words ≡ row → string_bytes name ∷ spelled rest ≡ row
split e spells = sym (ap spelled e) ∙ spells

pub returns-in_err-window-in_default-clause-none : goal.returns-in_err-window-in_default-clause-none
returns-in_err-window-in_default-clause-none c = λ word is _ r asks.
    elim (asks_report word _ r is asks) [
      | inl it ↦ no_form _ _ it.0 (split c.in_ok-name.ensures.cases.0 it.1) it.2
          (λ why. c.in_default.not-why (c.as_str.ensures.value ∙ why)) (c.in_err-window-in_default.ensures.none refl)
      | inr (inl it) ↦ c.in_default.not-any
          (c.as_str.ensures.value ∙ its_name (split c.in_ok-name.ensures.cases.0 it.1))
      | inr (inr it) ↦ c.in_default.not-tasks
          (c.as_str.ensures.value ∙ its_name (split c.in_ok-name.ensures.cases.0 it.1))
    ]
