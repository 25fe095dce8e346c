use Rattle.std.proofs.Common.{ap, ◌∙◌}
use Rattle.ready_jobs.specs.Parts.{Parted}
use Rattle.ready_jobs.proofs.Silences.{from_on, part_after}
use Rattle.ready_jobs.proofs.parts.Parts.settle.Goals as goal

pub returns-in-None-clause-settles : goal.returns-in-None-clause-settles
returns-in-None-clause-settles g c =
    from_on _ _ _ _ _ (ap (λ (q : Parted). q.version) c.place.ensures.kept) (c.place.ensures.settles c.args.mark)
    c.tick_to.ensures.settles

pub tick_to-requires-clause-part : goal.tick_to-requires-clause-part
tick_to-requires-clause-part g c = part_after _ c.args.mark _ _
    (ap (λ (q : Parted). q.version) c.place.ensures.kept) (c.place.ensures.settles c.args.mark) c.requires.part

pub returns-in-None-clause-fewer : goal.returns-in-None-clause-fewer
returns-in-None-clause-fewer g c = c.tick_to.ensures.fewer ∙ c.place.ensures.fewer

pub returns-in-Some-clause-settles : goal.returns-in-Some-clause-settles
returns-in-Some-clause-settles g c = c.place.ensures.settles c.args.mark

pub returns-in-Some-clause-count : goal.returns-in-Some-clause-count
returns-in-Some-clause-count g c = c.place.ensures.count

pub returns-in-Some-clause-step : goal.returns-in-Some-clause-step
returns-in-Some-clause-step g c = c.in-Some.ensures.some

pub returns-in-Some-clause-finds : goal.returns-in-Some-clause-finds
returns-in-Some-clause-finds g c = c.in-Some.ensures.finds

pub returns-in-Some-clause-stops : goal.returns-in-Some-clause-stops
returns-in-Some-clause-stops g c silent = absurd (c.in-Some.ensures.prints silent)

pub returns-in-Some-clause-fewer : goal.returns-in-Some-clause-fewer
returns-in-Some-clause-fewer g c = c.place.ensures.fewer

pub returns-in-None-clause-step : goal.returns-in-None-clause-step
returns-in-None-clause-step g c = c.tick_to.ensures.step

pub returns-in-None-clause-finds : goal.returns-in-None-clause-finds
returns-in-None-clause-finds g c = c.tick_to.ensures.finds

pub returns-in-None-clause-stops : goal.returns-in-None-clause-stops
returns-in-None-clause-stops g c = c.tick_to.ensures.stops

pub returns-in-None-clause-low : goal.returns-in-None-clause-low
returns-in-None-clause-low g c = c.tick_to.ensures.low
