-- What is kept stands for one job more, whether it is the first or another.
use Rattle.std.proofs.Common.{◌≡◌, ◌+◌, ◌++◌, [], ◌∷◌, length, ap, arith, subst, sym}
use Rattle.admission.specs.Kept.{Kept, StandsFor, HasExtremes, AreExtremes}
use Rattle.admission.proofs.Firsts.{stands_more}
use Rattle.admission.proofs.admitting.Admission.admit.Goals as goal
use Rattle.admission.proofs.admitting.Admission.admit.Goals.{in-Some, in-None}

pub returns-clause-stands : goal.returns-clause-stands
returns-clause-stands c jobs stands =
    let old : Kept = record {
      rules = record { ratio = c.self.inside.ratio; version = c.self.inside.version };
      count = c.self.inside.count;
      total = c.self.inside.total;
      extremes = c.self.inside.extremes;
    } in
    let known : StandsFor old jobs = subst (λ k. StandsFor k jobs) (sym c.self.view_is) stands in
    elim c.match-self.branch [
      | in-Some w ↦ stands_more old _ jobs c.args.job w.add.new.self known
          (ap (λ s. record { ratio = s.ratio; version = s.version }) w.self-inside-is)
          (ap (λ s. s.count + 1) w.self-inside-is)
          (omega (arith, c.value-value.ensures.is, ap (λ s. s.total) w.self-inside-is))
          (ap (λ s. s.extremes) w.self-inside-is)
          (w.add.ensures jobs (subst (HasExtremes c.self.inside.ratio jobs) w.in-Some.is known.extremes) known.count)
      | in-None w ↦
          let none : jobs ≡ [] = subst (HasExtremes c.self.inside.ratio jobs) w.in-None.is known.extremes in
          stands_more old _ jobs c.args.job w.of.result known
          (ap (λ s. record { ratio = s.ratio; version = s.version }) w.self-inside-is)
          (ap (λ s. s.count + 1) w.self-inside-is)
          (omega (arith, c.value-value.ensures.is, ap (λ s. s.total) w.self-inside-is))
          (ap (λ s. s.extremes) w.self-inside-is)
          (subst (λ l. AreExtremes c.self.inside.ratio (l ++ c.args.job ∷ []) w.of.result) (sym none)
          (w.of.ensures (omega (arith, known.count, ap length none))))
    ]
