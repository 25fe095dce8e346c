use Rattle.std.proofs.Common.{◌+◌, inl, inr, subst, sym}
use Rattle.task_words.proofs.sure.Rivals.{HasSeen, seen_none, seen_more, seen_same, seen_all}
use Rattle.task_words.proofs.sure.densities.sparsest.Goals as goal
use Rattle.task_words.proofs.sure.densities.sparsest.Goals.{then-number-without+then-comes_under, else-number-without}
use Rattle.task_words.proofs.sure.densities.sparsest.Goals.{else-number-without-via-then-number-without+else-comes_under}
use Rattle.task_words.proofs.sure.densities.sparsest.Goals.{else-number-without-via-else-number-without}

pub loop-number-preserved : goal.loop-number-preserved
loop-number-preserved c = elim c.if-number-without.branch [
  | then-number-without+then-comes_under w ↦
      subst (HasSeen c.args.tasks.now c.args.without (c.loop-number.number + 1)) (sym w.best-is)
      (seen_more c.args.tasks.now c.requires c.args.without c.loop-number.number c.loop-number.best
      c.loop-number-test.true c.loop-number.invariant w.if-number-without.true
      (w.comes_under.ensures.under w.if-comes_under.true))
  | else-number-without w ↦
      subst (HasSeen c.args.tasks.now c.args.without (c.loop-number.number + 1)) (sym w.best-is)
      (elim w.else-number-without.branch [
        | else-number-without-via-then-number-without+else-comes_under v ↦
            seen_same c.args.tasks.now c.args.without c.loop-number.number c.loop-number.best
            c.loop-number-test.true c.loop-number.invariant (inr (v.comes_under.ensures.above v.if-comes_under.false))
        | else-number-without-via-else-number-without v ↦
            seen_same c.args.tasks.now c.args.without c.loop-number.number c.loop-number.best
            c.loop-number-test.true c.loop-number.invariant (inl v.if-number-without.false)
      ])
]

pub returns : goal.returns
returns c = seen_all c.args.tasks.now c.args.without c.loop-number.number c.loop-number.best
    c.loop-number-test.false c.loop-number.invariant

pub loop-number-init : goal.loop-number-init
loop-number-init c = seen_none c.args.tasks.now c.args.without
