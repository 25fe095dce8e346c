use Rattle.std.proofs.Common.{sym, ◌∙◌}
use Rattle.event_feed.proofs.Ending.{keeps_standing, refused_by}
use Rattle.event_feed.proofs.gathering.Gathering.close.Goals as goal

pub listed-requires : goal.listed-requires
listed-requires c = let all = c.requires.1.all c.if-self.false in
    (c.requires.0, c.in-Ok.ensures.answer c.requires.0 (keeps_standing _ _ all.intake), all.lists)

pub returns-then-self-clause-none : goal.returns-then-self-clause-none
returns-then-self-clause-none c = λ ls it. sym it.too_many ∙ c.if-self.true

pub returns-in-Ok-clause-jobs : goal.returns-in-Ok-clause-jobs
returns-in-Ok-clause-jobs c = λ ls it. let all = it.all c.if-self.false in
    c.listed.ensures ls (sym it.too_many ∙ c.if-self.false)
    (c.in-Ok.ensures.answer ls (keeps_standing _ _ all.intake)) all.lists

pub returns-in-Err-clause-none : goal.returns-in-Err-clause-none
returns-in-Err-clause-none c = λ ls it. let all = it.all c.if-self.false in (
  sym it.too_many ∙ c.if-self.false,
  refused_by c.args.self ls all c.in-Err.fault (c.in-Err.ensures.answer ls (keeps_standing _ _ all.intake))
      (λ other is. let e = c.in-Err.ensures.fault other is in cc),
)
