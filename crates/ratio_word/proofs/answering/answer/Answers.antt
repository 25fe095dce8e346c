use Rattle.std.proofs.Common.{◌++◌, ◌∷◌, [], codes, refl}
use Rattle.dover_model.specs.Common.{in_lines, rules_with}
use Rattle.dover_port.specs.declared.status.Status.TheVariants.{Done, No}
use Rattle.event_feed.specs.Feeds.{rules_text}
use Rattle.ratio_word.specs.Says.{bound_line, extreme_lines}
use Rattle.ratio_word.proofs.Said.{says_done, says_no}
use Rattle.ratio_word.proofs.answering.answer.Goals as goal

pub least_kept-requires : goal.least_kept-requires
least_kept-requires g c = (c.args.declared.now.ratio, c.requires.keeps.1, c.requires.keeps.2.extremes)

pub returns-in-Ok-clause-says : goal.returns-in-Ok-clause-says
returns-in-Ok-clause-says g c = λ rules jobs keeps. (
  tt,
  (
    in_lines (rules_text (rules_with c.in-Some.k c.args.declared.now.version)
        ∷ extreme_lines c.args.declared.now.extremes ++ bound_line c.in-Some.k ∷ []),
    says_done rules jobs c.args.declared.now.extremes c.args.declared.now.ratio
        keeps.extremes c.in-Some.k c.args.declared.now.version
        keeps.rules_are (c.in-Some.ensures.found c.args.declared.now.ratio jobs keeps.extremes),
    rw c.requires.empty at c.in-Ok.ensures.text.all,
  ),
)

pub returns-in-Err-clause-says : goal.returns-in-Err-clause-says
returns-in-Err-clause-says g c = λ rules jobs keeps. (
  Done,
  in_lines (rules_text (rules_with c.in-Some.k c.args.declared.now.version)
      ∷ extreme_lines c.args.declared.now.extremes ++ bound_line c.in-Some.k ∷ []),
  says_done rules jobs c.args.declared.now.extremes c.args.declared.now.ratio
      keeps.extremes c.in-Some.k c.args.declared.now.version
      keeps.rules_are (c.in-Some.ensures.found c.args.declared.now.ratio jobs keeps.extremes),
  rw c.requires.empty at c.in-Err.ensures.text.part,
)

pub returns-in-Ok-put_none-clause-says : goal.returns-in-Ok-put_none-clause-says
returns-in-Ok-put_none-clause-says g c = λ rules jobs keeps. (
  tt,
  (
    in_lines (codes "none" ∷ extreme_lines c.args.declared.now.extremes),
    says_no rules jobs c.args.declared.now.extremes c.args.declared.now.ratio
        keeps.extremes (c.in-None.ensures.none c.args.declared.now.ratio jobs keeps.extremes refl),
    rw c.requires.empty at c.in-Ok-put_none.ensures.text.all,
  ),
)

pub returns-in-Err-put_none-clause-says : goal.returns-in-Err-put_none-clause-says
returns-in-Err-put_none-clause-says g c = λ rules jobs keeps. (
  No,
  in_lines (codes "none" ∷ extreme_lines c.args.declared.now.extremes),
  says_no rules jobs c.args.declared.now.extremes c.args.declared.now.ratio
      keeps.extremes (c.in-None.ensures.none c.args.declared.now.ratio jobs keeps.extremes refl),
  rw c.requires.empty at c.in-Err-put_none.ensures.text.part,
)
