use Rattle.std.proofs.Common.{◌∷◌, [], ◌∙◌, inl, inr, refl, append-nil, subst, sym}
use Rattle.std.specs.List.{AllByRecursion}
use Rattle.dover_model.specs.JobFacts.{IsJob}
use Rattle.dover_model.proofs.valid.ValidParts.{valid_parts}
use Rattle.dover_port.specs.Moves.{IsProperPrefix, outs}
use Rattle.dover_port.specs.Moves.Move.{Put}
use Rattle.dover_port.proofs.Made.{since_weaker}
use Rattle.event_feed.specs.Feeds.{feed_of}
use Rattle.trial_words.specs.Dueled.{duel_front, no_duel_text}
use Rattle.trial_words.proofs.Putting.{is_front, none_before, nothing_before}
use Rattle.trial_words.proofs.dueling.duel_word.Goals as goal

pub returns-in-Ok-put_all-clause-duels : goal.returns-in-Ok-put_all-clause-duels
returns-in-Ok-put_all-clause-duels g c = since_weaker _ _ _ _ c.in-Ok-put_all.ensures.text.all
    (λ moves put. inr (c.in-Err.cause, c.in-Err.ensures, (put.0, put.1 ∙ c.refusal.ensures)))

pub returns-in-Ok-put_all-clause-ends : goal.returns-in-Ok-put_all-clause-ends
returns-in-Ok-put_all-clause-ends g c = inr (
  Put (no_duel_text c.in-Err.cause) ∷ [],
  inr (c.in-Err.cause, c.in-Err.ensures, (tt, append-nil (no_duel_text c.in-Err.cause))),
)

pub returns-in-Ok-put_all-clause-causes : goal.returns-in-Ok-put_all-clause-causes
returns-in-Ok-put_all-clause-causes g c = (c.in-Ok-put_all.ensures.cause.other, c.in-Ok-put_all.ensures.cause.ok)

pub returns-in-Ok-put_all-clause-stops : goal.returns-in-Ok-put_all-clause-stops
returns-in-Ok-put_all-clause-stops g c = c.in-Ok-put_all.ensures.stops.well

pub returns-in-Err-put_all-clause-duels : goal.returns-in-Err-put_all-clause-duels
returns-in-Err-put_all-clause-duels g c = since_weaker _ _ _ _ c.in-Err-put_all.ensures.text.part
    (λ moves put. inr (
      c.in-Err.cause,
      c.in-Err.ensures,
      (put.0, subst (λ text. IsProperPrefix (outs moves) text) c.refusal.ensures put.1),
    ))

pub returns-in-Err-put_all-clause-ends : goal.returns-in-Err-put_all-clause-ends
returns-in-Err-put_all-clause-ends g c = inl refl

pub returns-in-Err-put_all-clause-causes : goal.returns-in-Err-put_all-clause-causes
returns-in-Err-put_all-clause-causes g c = (c.in-Err-put_all.ensures.cause.other, c.in-Err-put_all.ensures.cause.failed)

pub returns-in-Err-put_all-clause-stops : goal.returns-in-Err-put_all-clause-stops
returns-in-Err-put_all-clause-stops g c = c.in-Err-put_all.ensures.stops.stopped

pub returns-in-Ok-put_feed-clause-causes : goal.returns-in-Ok-put_feed-clause-causes
returns-in-Ok-put_feed-clause-causes g c = (c.in-Ok-put_feed.ensures.cause.other, c.in-Ok-put_feed.ensures.cause.ok)

pub returns-in-Ok-put_feed-clause-stops : goal.returns-in-Ok-put_feed-clause-stops
returns-in-Ok-put_feed-clause-stops g c = c.in-Ok-put_feed.ensures.stops.well

pub returns-in-Err-put_feed-clause-ends : goal.returns-in-Err-put_feed-clause-ends
returns-in-Err-put_feed-clause-ends g c = inl refl

pub returns-in-Err-put_feed-clause-causes : goal.returns-in-Err-put_feed-clause-causes
returns-in-Err-put_feed-clause-causes g c =
    (c.in-Err-put_feed.ensures.cause.other, c.in-Err-put_feed.ensures.cause.failed)

pub returns-in-Err-put_feed-clause-stops : goal.returns-in-Err-put_feed-clause-stops
returns-in-Err-put_feed-clause-stops g c = c.in-Err-put_feed.ensures.stops.stopped

pub returns-in-Ok-put_feed-clause-ends : goal.returns-in-Ok-put_feed-clause-ends
returns-in-Ok-put_feed-clause-ends g c = inr (
  Put (feed_of (duel_front c.args.k c.args.share c.args.front)) ∷ [],
  inl (c.in-Ok.ensures.0, (tt, append-nil (feed_of (duel_front c.args.k c.args.share c.args.front)))),
)

pub returns-in-Err-put_feed-clause-duels : goal.returns-in-Err-put_feed-clause-duels
returns-in-Err-put_feed-clause-duels g c = since_weaker _ _ _ _ c.in-Err-put_feed.ensures.text.part
    (λ moves put. inl (
      c.in-Ok.ensures.0,
      (
        put.0,
        none_before _ _ _ _ c.new-out.ensures
            (is_front c.args.k c.args.front _ _ _ c.new-coming.ensures.jobs c.in-Ok.ensures.1) put.1,
      ),
    ))

pub put_feed-requires-clause-each : goal.put_feed-requires-clause-each
put_feed-requires-clause-each g c = subst (λ jobs. AllByRecursion IsJob jobs) (sym c.new-coming.ensures.jobs)
    (valid_parts c.in-Ok.ensures.0.valid).each

pub returns-in-Ok-put_feed-clause-duels : goal.returns-in-Ok-put_feed-clause-duels
returns-in-Ok-put_feed-clause-duels g c = since_weaker _ _ _ _ c.in-Ok-put_feed.ensures.text.all
    (λ moves put. inl (
      c.in-Ok.ensures.0,
      (
        put.0,
        nothing_before _ _ _ _ c.new-out.ensures
            (is_front c.args.k c.args.front _ _ _ c.new-coming.ensures.jobs c.in-Ok.ensures.1) put.1,
      ),
    ))
