use Rattle.std.proofs.Common.{◌≡◌, ◌+◌, ◌++◌, [], ◌∷◌, length, ap, subst, sym, ◌∙◌}
use Rattle.admission.specs.Kept.{AreExtremes, HasExtremes}
use Rattle.run_reports.proofs.report.Densities.{densities_more}
use Rattle.run_reports.proofs.report.kept.take_in.Goals as goal
use Rattle.run_reports.proofs.report.kept.take_in.Goals.{in-Some, in-None}

pub returns-clause-kept : goal.returns-clause-kept
returns-clause-kept c jobs has = elim c.match-kept.branch [
  | in-Some w ↦ densities_more c.args.k.now jobs c.args.job c.args.kept.now _ w.add.new.self has
      (ap (λ s. s.count + 1) w.kept-is) (ap (λ s. s.extremes) w.kept-is)
      (w.add.ensures jobs (subst (HasExtremes c.args.k.now jobs) w.in-Some.is has.extremes) has.count)
  | in-None w ↦
      let none : jobs ≡ [] = subst (HasExtremes c.args.k.now jobs) w.in-None.is has.extremes in
      densities_more c.args.k.now jobs c.args.job c.args.kept.now _ w.of.result has
      (ap (λ s. s.count + 1) w.kept-is) (ap (λ s. s.extremes) w.kept-is)
      (subst (λ l. AreExtremes c.args.k.now (l ++ c.args.job ∷ []) w.of.result) (sym none)
      (w.of.ensures (has.count ∙ ap length none)))
]
