use Rattle.std.proofs.Common.{[], ◌∷◌, ◌++◌, replicate, ap, ◌∙◌, append_assoc}
use Rattle.std.proofs.lemmas.List.{replicate_more}
use Rattle.run_reports.proofs.views.signs.put_blanks.Goals as goal

pub loop-preserved : goal.loop-preserved
loop-preserved c = c.in_ok-push.ensures.items ∙ ap (λ t. t ++ 32 ∷ []) c.loop.invariant
    ∙ append_assoc c.args.text.now.items (replicate c.loop.counter 32) (32 ∷ [])
    ∙ ap (λ l. c.args.text.now.items ++ l) (replicate_more c.loop.counter 32)
