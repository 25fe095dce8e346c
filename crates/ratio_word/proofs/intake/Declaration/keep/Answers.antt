use Rattle.std.proofs.Common.{◌≡◌, ◌+◌, ◌++◌, [], ◌∷◌, length, ap, subst, sym, ◌∙◌}
use Rattle.admission.specs.Kept.{AreExtremes, HasExtremes}
use Rattle.ratio_word.proofs.Offering.{kept_more}
use Rattle.ratio_word.proofs.intake.Declaration.keep.Goals as goal
use Rattle.ratio_word.proofs.intake.Declaration.keep.Goals.{in-Some, in-None}

pub returns : goal.returns
returns c rules jobs keeps = elim c.match-self.branch [
  | in-Some w ↦ kept_more c.args.self.now _ rules jobs c.args.job w.add.new.self keeps c.requires.room
      (ap (λ s. s.ratio) w.self-is) (ap (λ s. s.version) w.self-is) (ap (λ s. s.count + 1) w.self-is)
      (ap (λ s. s.extremes) w.self-is)
      (w.add.ensures jobs (subst (HasExtremes c.args.self.now.ratio jobs) w.in-Some.is keeps.extremes) keeps.count)
  | in-None w ↦
      let none : jobs ≡ [] = subst (HasExtremes c.args.self.now.ratio jobs) w.in-None.is keeps.extremes in
      kept_more c.args.self.now _ rules jobs c.args.job w.of.result keeps c.requires.room
      (ap (λ s. s.ratio) w.self-is) (ap (λ s. s.version) w.self-is) (ap (λ s. s.count + 1) w.self-is)
      (ap (λ s. s.extremes) w.self-is)
      (subst (λ l. AreExtremes c.args.self.now.ratio (l ++ c.args.job ∷ []) w.of.result) (sym none)
      (w.of.ensures (keeps.count ∙ ap length none)))
]
