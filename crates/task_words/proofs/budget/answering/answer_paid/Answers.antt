use Rattle.std.proofs.Common.{length, refl, sym, subst}
use Rattle.dover_port.specs.declared.status.Status.TheVariants.{Done}
use Rattle.task_words.specs.budget.Kept.{AreModest}
use Rattle.task_words.specs.budget.Lines.{FitUpTo, ratio_text, tasks_text}
use Rattle.task_words.specs.reading.Record.{listed_rules}
use Rattle.task_words.proofs.budget.Standing.{modest}
use Rattle.task_words.proofs.budget.Unpaid.{says_unpaid, dense_unpaid, paid_says}
use Rattle.task_words.proofs.budget.answering.answer_paid.Goals as goal

pub find_breakers-requires : goal.find_breakers-requires
find_breakers-requires g c = record {
  modest = subst AreModest (sym c.requires.paid)
      (modest c.args.listed.now.ratio c.args.cost c.args.listed.now.tasks.items c.requires.are
      (subst (λ bs. FitUpTo bs (length bs)) c.requires.paid c.requires.fit));
}

pub returns-in-Some-clause-says : goal.returns-in-Some-clause-says
returns-in-Some-clause-says g c = let it = c.in-Some.ensures.some in
    says_unpaid c.args.cost (listed_rules c.args.listed.now) c.args.listed.now.tasks.items
    (ratio_text c.in-Some.two.number c.in-Some.two.other)
    (dense_unpaid c.args.cost c.args.listed.now.tasks.items c.args.listed.now.ratio c.args.budgets.now
    c.in-Some.two.number c.in-Some.two.other c.requires.paid c.requires.fit it.0 it.1 it.2 it.3 it.4) _ _ _ _
    c.refuse.ensures.says

pub returns-in-Ok-clause-says : goal.returns-in-Ok-clause-says
returns-in-Ok-clause-says g c = (
  tasks_text (listed_rules c.args.listed.now) c.args.budgets.now,
  paid_says c.args.cost c.args.listed.now.tasks.items (listed_rules c.args.listed.now) c.args.budgets.now
      c.requires.paid c.requires.are c.requires.fit (c.in_default.ensures.none refl),
  rw c.requires.empty at c.in-Ok.ensures.text.all,
)

pub returns-in-Err-clause-says : goal.returns-in-Err-clause-says
returns-in-Err-clause-says g c = (
  Done,
  tasks_text (listed_rules c.args.listed.now) c.args.budgets.now,
  paid_says c.args.cost c.args.listed.now.tasks.items (listed_rules c.args.listed.now) c.args.budgets.now
      c.requires.paid c.requires.are c.requires.fit (c.in_default.ensures.none refl),
  rw c.requires.empty at c.in-Err.ensures.text.part,
)
