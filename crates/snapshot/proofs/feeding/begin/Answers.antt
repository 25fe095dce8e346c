use Rattle.std.proofs.Common.{[], ◌∷◌, sym, subst}
use Rattle.dover_model.specs.FeedLine.{feed_text}
use Rattle.event_feed.specs.Kept.{StandsFor}
use Rattle.snapshot.specs.Kept.{IsGoodNext}
use Rattle.snapshot.specs.Forms.{head_in}
use Rattle.snapshot.proofs.Beginning.{begin_good, begin_fed}
use Rattle.snapshot.proofs.feeding.begin.Goals as goal

pub hand-requires-clause-good : goal.hand-requires-clause-good
hand-requires-clause-good c = (
  [],
  subst (λ line. IsGoodNext c.new-intake.result [] (feed_text line)) (sym c.rules_line.ensures.is)
      (begin_good (head_in c.args.head.now) c.rules_line.ensures.ratio c.requires c.new-intake.result
      c.new-intake.ensures.stands),
)

pub returns : goal.returns
returns c = begin_fed (head_in c.args.head.now) c.rules_line.ensures.ratio c.requires c.hand.new.intake
    (subst (λ line. StandsFor c.hand.new.intake (feed_text line ∷ [])) c.rules_line.ensures.is
    (c.hand.ensures.stands [] c.new-intake.ensures.stands))
