use Rattle.std.proofs.Common.{subst}
use Rattle.dover_model.specs.Feed.{rules_with}
use Rattle.dover_port.specs.Moves.{PutsThrough}
use Rattle.dialogue.proofs.Putting.{puts_behind, puts_cut}
use Rattle.event_feed.specs.Feeds.{rules_text}
use Rattle.ratio_word.specs.Says.{bound_line, extreme_lines}
use Rattle.ratio_word.proofs.Puts.{lines_between}
use Rattle.ratio_word.proofs.answering.put_found.Goals as goal

pub returns-in-Err-clause-text : goal.returns-in-Err-clause-text
returns-in-Err-clause-text g c = subst (PutsThrough _ _ _ _ _)
    (lines_between (rules_text (rules_with c.args.rules.0 c.args.rules.1)) (extreme_lines c.args.extremes.now)
    (bound_line c.args.rules.0)) (puts_cut _ _ _ _ _ _ _ c.in-Err.ensures.text.part)

pub returns-in-Err-put_extremes-clause-text : goal.returns-in-Err-put_extremes-clause-text
returns-in-Err-put_extremes-clause-text g c = subst (PutsThrough _ _ _ _ _)
    (lines_between (rules_text (rules_with c.args.rules.0 c.args.rules.1)) (extreme_lines c.args.extremes.now)
    (bound_line c.args.rules.0)) (puts_behind _ _ _ _ _ _ _ _ _ c.in-Ok.ensures.text.all
    (puts_cut _ _ _ _ _ _ _ c.in-Err-put_extremes.ensures.text.part))

pub returns-clause-text : goal.returns-clause-text
returns-clause-text g c = subst (PutsThrough _ _ _ _ _)
    (lines_between (rules_text (rules_with c.args.rules.0 c.args.rules.1)) (extreme_lines c.args.extremes.now)
    (bound_line c.args.rules.0)) (puts_behind _ _ _ _ _ _ _ _ _ c.in-Ok.ensures.text.all
    (puts_behind _ _ _ _ _ _ _ _ _ c.in-Ok-put_extremes.ensures.text.all c.put_bound.ensures.text))

pub returns-in-Err-clause-cause : goal.returns-in-Err-clause-cause
returns-in-Err-clause-cause g c = c.in-Err.ensures.cause

pub returns-in-Err-clause-stops : goal.returns-in-Err-clause-stops
returns-in-Err-clause-stops g c = c.in-Err.ensures.stops
