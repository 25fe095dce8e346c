use Rattle.std.proofs.Common.{◌≡◌, List, ◌∷◌, ℕ, Option, None, drop, ap, refl, sym, ◌∙◌, String, string_bytes}
use Rattle.std.specs.declared.alloc.Global.{Global}
use Rattle.trace_words.specs.declared.schedule.form.ScheduleForm.{ScheduleForm}
use Rattle.trace_words.specs.declared.schedule.form.ScheduleForm.TheVariants.{Table, Timeline, Svg}
use Rattle.run_reports.specs.declared.views.window.Window.{Window}
use Rattle.dover_top.specs.Words.{IsScheduleForm, IsWindow, schedule_words, spelled, window_words}
use Rattle.dover_top.proofs.request.schedule.Goals as goal

-- without a window no words name a form
no_form : (name : List ℕ) (words : List (List ℕ)) (form : ScheduleForm) → name ∷ words ≡ schedule_words form
    → IsScheduleForm form → ((window : Option Window) → IsWindow window → words ≡ window_words window → ⊥) → ⊥
no_form name words Table e formed none = none None tt (ap (drop 1) e)
no_form name words (Timeline window) e formed none = none window formed (ap (drop 1) e)
no_form name words (Svg window) e formed none = none window formed (ap (drop 1) e)

-- the words that are read, with the name split off
split : {words rest : List (String Global)} {name : String Global} {row : List (List ℕ)} → words ≡ name ∷ rest
    → spelled words ≡ row → string_bytes name ∷ spelled rest ≡ row
split e spells = sym (ap spelled e) ∙ spells

pub returns-in_err-window-clause-none : goal.returns-in_err-window-clause-none
returns-in_err-window-clause-none c = λ _ form formed spells.
    no_form _ _ form (split c.in_ok-name.ensures.cases.0 spells) formed (c.in_err-window.ensures.none refl)
