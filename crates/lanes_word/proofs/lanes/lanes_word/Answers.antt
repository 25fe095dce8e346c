use Rattle.std.proofs.Common.{[], refl, inl, inr}
use Rattle.dover_port.proofs.Made.{since_none, since_weaker}
use Rattle.lane_server.specs.Lanes.{input}
use Rattle.lane_server.proofs.Sharing.{none_made}
use Rattle.lanes_word.proofs.lanes.lanes_word.Goals as goal

pub converse-requires : goal.converse-requires
converse-requires g c = (
  c.args.comparisons.now,
  record { rests = c.in-Ok.ensures.rests; paid = c.in-Ok.ensures.paid c.args.comparisons.now },
)

pub returns-in-Ok-clause-serves : goal.returns-in-Ok-clause-serves
returns-in-Ok-clause-serves g c = since_weaker _ _ _ _ (c.converse.ensures.talks c.args.comparisons.now
    (record { rests = c.in-Ok.ensures.rests; paid = c.in-Ok.ensures.paid c.args.comparisons.now }))
    (λ moves it. inl it.0)

pub returns-in-Ok-clause-count : goal.returns-in-Ok-clause-count
returns-in-Ok-clause-count g c = since_weaker _ _ _ _ (c.converse.ensures.talks c.args.comparisons.now
    (record { rests = c.in-Ok.ensures.rests; paid = c.in-Ok.ensures.paid c.args.comparisons.now }))
    (λ moves it. it.1)

pub returns-in-Ok-clause-ends : goal.returns-in-Ok-clause-ends
returns-in-Ok-clause-ends g c = elim (c.converse.ensures.ends c.args.comparisons.now
    (record { rests = c.in-Ok.ensures.rests; paid = c.in-Ok.ensures.paid c.args.comparisons.now })) [
      | inl cut ↦ inl cut
      | inr it ↦ inr (it.0, inl it.1)
    ]

pub returns-in-Err-clause-serves : goal.returns-in-Err-clause-serves
returns-in-Err-clause-serves g c = since_none _ _ (inr (refl, refl))

pub returns-in-Err-clause-count : goal.returns-in-Err-clause-count
returns-in-Err-clause-count g c = since_none _ _ (none_made (input []).handed c.args.comparisons.now)

pub returns-in-Err-clause-ends : goal.returns-in-Err-clause-ends
returns-in-Err-clause-ends g c = inr ([], inr (refl, refl))

pub returns-in-Ok-clause-causes : goal.returns-in-Ok-clause-causes
returns-in-Ok-clause-causes g c = c.converse.ensures.causes

pub returns-in-Ok-clause-stops : goal.returns-in-Ok-clause-stops
returns-in-Ok-clause-stops g c = c.converse.ensures.stops

pub returns-in-Err-clause-causes : goal.returns-in-Err-clause-causes
returns-in-Err-clause-causes g c = (refl, refl)

pub returns-in-Err-clause-stops : goal.returns-in-Err-clause-stops
returns-in-Err-clause-stops g c = λ well. well
