use Rattle.std.proofs.Common.{◌≡◌, [], Option, Some, None, get_or, length, map, string_bytes, refl, ap, arith}
use Rattle.run_reports.specs.declared.views.window.Window.{Window}
use Rattle.dover_top.specs.Words.{IsWindow, window_words}
use Rattle.dover_top.proofs.Asking.{length_spelled, place_spells, spelled_end, spelled_from}
use Rattle.dover_top.proofs.Numbers.{decimal_same}
use Rattle.dover_top.proofs.request.window.Goals as goal

pub returns-in_err-until-in-len2-clause-none : goal.returns-in_err-until-in-len2-clause-none
returns-in_err-until-in-len2-clause-none c = λ _ window formed spells. by_window window formed
    (place_spells c.args.words.now 0 _ _ (omega arith) c.from-item.is spells)
    (place_spells c.args.words.now 1 _ _ (omega arith) c.until-item.is spells) (ap length spells) where
      by_window : (window : Option Window) → IsWindow window
          → string_bytes c.from-item.result ≡ get_or (window_words window) 0 []
          → string_bytes c.until-item.result ≡ get_or (window_words window) 1 []
          → length (map string_bytes c.args.words.now) ≡ length (window_words window) → ⊥
      by_window None formed first last long = absurd (omega (arith, long, length_spelled c.args.words.now))
      by_window (Some w) formed first last long =
          let from : c.in_ok-from-in-len2.from ≡ w.from = decimal_same _ _ _
          (omega (arith, c.in_ok-from-in-len2.ensures.some.2)) (omega (arith, formed.0, formed.1))
          c.in_ok-from-in-len2.ensures.some.0 first in
          c.in_err-until-in-len2.ensures.none refl w.until (omega (arith, from, formed.0)) (omega (arith, formed.1))
          last

pub returns-in_ok-until-in-len2-clause-some : goal.returns-in_ok-until-in-len2-clause-some
returns-in_ok-until-in-len2-clause-some c = (
  (omega (arith, c.in_ok-until-in-len2.ensures.some.1), omega (arith, c.in_ok-until-in-len2.ensures.some.2)),
  spelled_from c.args.words.now 0 _ (omega arith) c.from-item.is c.in_ok-from-in-len2.ensures.some.0
      (spelled_from c.args.words.now 1 _ (omega arith) c.until-item.is c.in_ok-until-in-len2.ensures.some.0
      (spelled_end c.args.words.now 2 (omega arith))),
)
