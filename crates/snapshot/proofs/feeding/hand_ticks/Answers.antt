use Rattle.std.proofs.Common.{◌++◌, ◌-◌, ◌∷◌, [], ◌∙◌, replicate, ap, subst, arith, sym}
use Rattle.dover_model.specs.FeedLine.{TickLine, feed_text}
use Rattle.event_feed.specs.Kept.{StandsFor, HasLines}
use Rattle.snapshot.specs.Forms.{head_in}
use Rattle.snapshot.specs.Stored.{fed_lines}
use Rattle.snapshot.proofs.Beginning.{tick_good, tick_going, tick_room, tick_mark, some_lines, none_lines}
use Rattle.snapshot.proofs.feeding.hand_ticks.Goals as goal

pub hand-requires-clause-good : goal.hand-requires-clause-good
hand-requires-clause-good c =
    let (items, it, can, many) = c.requires in (
      fed_lines (head_in c.args.head.now) items,
      tick_good (head_in c.args.head.now) items can (omega (arith, many, c.if-head-handed.true)) c.args.intake.now
          it.stands,
    )

pub skip-requires-clause-going : goal.skip-requires-clause-going
skip-requires-clause-going c =
    let (items, it, can, many) = c.requires in
    tick_going (head_in c.args.head.now) items can (omega (arith, many, c.if-head-handed.true)) c.hand.new.intake
    (c.hand.ensures.stands (fed_lines (head_in c.args.head.now) items) it.stands)

pub skip-requires-clause-room : goal.skip-requires-clause-room
skip-requires-clause-room c =
    let (items, it, can, many) = c.requires in
    subst (λ n. HasLines c.hand.new.intake (c.args.head.now.lines - n - 2)) (sym many)
    (tick_room (head_in c.args.head.now) items can (omega (arith, many, c.if-head-handed.true)) c.hand.new.intake
    (c.hand.ensures.stands (fed_lines (head_in c.args.head.now) items) it.stands))

pub returns-then-head-handed : goal.returns-then-head-handed
returns-then-head-handed c = record {
  stands = λ items it can many. subst (StandsFor c.skip.new.self)
      (ap (λ mark. (fed_lines (head_in c.args.head.now) items ++ feed_text (TickLine c.args.head.now.mark) ∷ [])
      ++ replicate (c.args.head.now.lines - c.args.handed - 2) (feed_text (TickLine mark)))
      (tick_mark (head_in c.args.head.now) items can (omega (arith, many, c.if-head-handed.true)))
      ∙ ap (λ n. (fed_lines (head_in c.args.head.now) items ++ feed_text (TickLine c.args.head.now.mark) ∷ [])
      ++ replicate (c.args.head.now.lines - n - 2) (feed_text (TickLine c.args.head.now.mark))) many
      ∙ some_lines (head_in c.args.head.now) items can (omega (arith, many, c.if-head-handed.true)))
      (c.skip.ensures.stands _ (c.hand.ensures.stands (fed_lines (head_in c.args.head.now) items) it.stands));
}

pub returns-else-head-handed : goal.returns-else-head-handed
returns-else-head-handed c = record {
  stands = λ items it can many. subst (StandsFor c.args.intake.now)
      (sym (none_lines (head_in c.args.head.now) items can (omega (arith, many, c.if-head-handed.false)))) it.stands;
}
