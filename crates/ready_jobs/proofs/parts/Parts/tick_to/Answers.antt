use Rattle.std.proofs.Common.{refl}
use Rattle.ready_jobs.proofs.Silences.{known_sound, from_none, stale_tick}
use Rattle.ready_jobs.proofs.parts.Parts.tick_to.Goals as goal

pub open_step-action-requires : goal.open_step-action-requires
open_step-action-requires c = known_sound _ c.args.self.now c.laws.ensures.roles c.requires.part

pub returns-in_default : goal.returns-in_default
returns-in_default c =
    let p = c.args.self.now in
    record {
      settles = from_none c.args.k.now c.args.mark p;
      step = c.open_step-action.ensures.is;
      finds = c.open_step-action.ensures.finds;
      stops = λ silent. absurd (c.in_default.not-Tick (stale_tick c.args.k.now p c.laws.ensures.roles c.requires.stale
          c.open_step-action.result c.open_step-action.ensures.is silent));
      low = c.requires.low;
      kept = refl;
      fewer = refl;
    }

pub returns-in-Tick-clause-settles : goal.returns-in-Tick-clause-settles
returns-in-Tick-clause-settles c = c.tick_on-in-Tick.ensures.settles

pub returns-in-Tick-clause-step : goal.returns-in-Tick-clause-step
returns-in-Tick-clause-step c = c.tick_on-in-Tick.ensures.step

pub returns-in-Tick-clause-finds : goal.returns-in-Tick-clause-finds
returns-in-Tick-clause-finds c = c.tick_on-in-Tick.ensures.finds

pub returns-in-Tick-clause-stops : goal.returns-in-Tick-clause-stops
returns-in-Tick-clause-stops c = c.tick_on-in-Tick.ensures.stops

pub returns-in-Tick-clause-low : goal.returns-in-Tick-clause-low
returns-in-Tick-clause-low c = c.tick_on-in-Tick.ensures.low

pub returns-in-Tick-clause-kept : goal.returns-in-Tick-clause-kept
returns-in-Tick-clause-kept c = c.tick_on-in-Tick.ensures.kept

pub returns-in-Tick-clause-fewer : goal.returns-in-Tick-clause-fewer
returns-in-Tick-clause-fewer c = c.tick_on-in-Tick.ensures.fewer

pub tick_on-requires-in-Tick-clause-part : goal.tick_on-requires-in-Tick-clause-part
tick_on-requires-in-Tick-clause-part c = c.requires.part

pub tick_on-requires-in-Tick-clause-stale : goal.tick_on-requires-in-Tick-clause-stale
tick_on-requires-in-Tick-clause-stale c = c.requires.stale

pub tick_on-requires-in-Tick-clause-low : goal.tick_on-requires-in-Tick-clause-low
tick_on-requires-in-Tick-clause-low c = c.requires.low

pub tick_on-requires-in-Tick-clause-known : goal.tick_on-requires-in-Tick-clause-known
tick_on-requires-in-Tick-clause-known c = c.requires.known

pub returns-then-is_some-clause-settles : goal.returns-then-is_some-clause-settles
returns-then-is_some-clause-settles c = c.tick_on.ensures.settles

pub returns-then-is_some-clause-step : goal.returns-then-is_some-clause-step
returns-then-is_some-clause-step c = c.tick_on.ensures.step

pub returns-then-is_some-clause-finds : goal.returns-then-is_some-clause-finds
returns-then-is_some-clause-finds c = c.tick_on.ensures.finds

pub returns-then-is_some-clause-stops : goal.returns-then-is_some-clause-stops
returns-then-is_some-clause-stops c = c.tick_on.ensures.stops

pub returns-then-is_some-clause-low : goal.returns-then-is_some-clause-low
returns-then-is_some-clause-low c = c.tick_on.ensures.low

pub returns-then-is_some-clause-kept : goal.returns-then-is_some-clause-kept
returns-then-is_some-clause-kept c = c.tick_on.ensures.kept

pub returns-then-is_some-clause-fewer : goal.returns-then-is_some-clause-fewer
returns-then-is_some-clause-fewer c = c.tick_on.ensures.fewer

pub tick_on-requires-clause-part : goal.tick_on-requires-clause-part
tick_on-requires-clause-part c = c.requires.part

pub tick_on-requires-clause-stale : goal.tick_on-requires-clause-stale
tick_on-requires-clause-stale c = c.requires.stale

pub tick_on-requires-clause-low : goal.tick_on-requires-clause-low
tick_on-requires-clause-low c = c.requires.low

pub tick_on-requires-clause-known : goal.tick_on-requires-clause-known
tick_on-requires-clause-known c = c.requires.known
