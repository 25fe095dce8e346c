use Rattle.std.proofs.Common.{ℕ, List, refl, sym, ap, ◌∙◌, subst, arith}
use Rattle.dover_model.specs.Lines.{whole_lines}
use Rattle.dover_model.specs.Verdict as model
use Rattle.trace_judge.specs.Judging.{IsGood, Tells}
use Rattle.trace_judge.proofs.Readings.{ends_of, reads_ahead}
use Rattle.trace_judge.proofs.Judging.{earned, is_ended, stands_good, reads_few, reads_short, reads_accepted}
use Rattle.trace_judge.proofs.judge.Judge.good.Goals as goal

pub returns-in-Ended : goal.returns-in-Ended
returns-in-Ended c text stands =
    let good = subst (λ j. IsGood j text) (sym c.self.view_is) (stands_good c.args.self.now text c.requires stands) in
    let ls : List (List ℕ) = whole_lines text in
    let ended = sym c.stage.ensures ∙ c.in-Ended.is in
    let end = ends_of c.self.inside.reader ls ended (reads_ahead c.self.inside.reader ls good.reads) in
    subst (λ v. Tells v text) (sym (c.accepted.ensures ls end.0 end.1)) (
      end.0,
      reads_accepted c.self.inside.reader text good.reads (ap is_ended ended) good.counts end.0 end.1,
      refl,
      refl,
      refl,
      refl,
      refl,
      earned end.0 end.1.valid,
    )

pub returns-in-Going : goal.returns-in-Going
returns-in-Going c text stands =
    let good = subst (λ j. IsGood j text) (sym c.self.view_is) (stands_good c.args.self.now text c.requires stands) in
    reads_short c.self.inside.reader text good.reads (ap is_ended (sym c.stage.ensures ∙ c.in-Going.is)) good.counts
    ∙ ap model.Short (omega (
      arith,
      reads_few c.self.inside.reader (whole_lines text) good.reads,
      good.cut.count,
      c.count-in-Going.ensures,
    ))
