use Rattle.std.proofs.Common.{◌++◌, ◌∷◌, ◌∙◌, [], take, sym, ap, subst, arith}
use Rattle.std.proofs.lemmas.List.{take_more, take_all, length-take}
use Rattle.question_words.specs.Watching.{HasSeen}
use Rattle.question_words.proofs.replaying.completed_by.Goals as goal

pub see-requires : goal.see-requires
see-requires c = (
  take c.loop-event.event-index c.args.run.now,
  c.loop-event.invariant,
  omega (arith, length-take c.loop-event.event-index c.args.run.now, c.loop-event-test.true, c.requires),
)

pub loop-event-preserved : goal.loop-event-preserved
loop-event-preserved c = subst (HasSeen c.see.new.self)
    (ap (λ e. take c.loop-event.event-index c.args.run.now ++ e ∷ []) (c.event.ensures ∙ c.event-item.is)
    ∙ sym (take_more c.args.run.now c.loop-event.event-index c.event-item.result c.loop-event-test.true))
    (c.see.ensures (take c.loop-event.event-index c.args.run.now) c.loop-event.invariant)

pub returns-clause-seen : goal.returns-clause-seen
returns-clause-seen c = subst (HasSeen c.loop-event.completion)
    (take_all c.loop-event.event-index c.args.run.now (omega arith)) c.loop-event.invariant
