use Rattle.std.proofs.Common.{[], ◌-◌, refl, sym, ap, ◌∙◌, subst, arith}
use Rattle.dover_model.specs.Step.{open_step}
use Rattle.ready_jobs.specs.Dues.{still_ticks}
use Rattle.ready_jobs.specs.Deeds.{step_at}
use Rattle.ready_jobs.specs.Parts.{Parted, AreSound, state_of}
use Rattle.ready_jobs.specs.Following.{SettlesFrom}
use Rattle.ready_jobs.proofs.Following.{parts_later, roles_later}
use Rattle.ready_jobs.proofs.Silences.{part_after, known_sound, known_fits, jump, jump_settles, jump_stops, ticks_count}
use Rattle.ready_jobs.proofs.Silences.{Jump}
use Rattle.ready_jobs.proofs.parts.Parts.tick_on.Goals as goal

pub silent_ticks-count-requires : goal.silent_ticks-count-requires
silent_ticks-count-requires c = known_sound _ c.args.self.now c.laws.ensures.roles c.requires.part

pub tick-requires-clause-had : goal.tick-requires-clause-had
tick-requires-clause-had c =
    known_fits _ c.args.self.now c.laws.ensures.roles c.requires.part c.silent_ticks-count.result
    (omega (arith, c.silent_ticks-count.ensures.most, c.requires.known))

pub open_step-requires : goal.open_step-requires
open_step-requires c =
    let p = c.args.self.now in
    let n = c.silent_ticks-count.result in
    let roles = c.laws.ensures.roles in
    let most = ap (λ t. still_ticks (c.args.mark - t) (state_of p)) c.clock-clock.ensures in
    let it : Jump c.args.k.now c.args.mark n p roles =
    jump c.args.k.now c.args.mark n p roles c.requires.part c.requires.stale c.requires.ticks
    (λ early. c.silent_ticks-count.ensures.still early ∙ most)
    c.silent_ticks-count.ensures.done c.silent_ticks-count.ensures.start in
    subst AreSound (sym c.tick.ensures)
    (known_sound _ (parts_later n p) (roles_later n p roles)
    (part_after _ _ _ _ refl (jump_settles c.args.k.now c.args.mark n p roles it c.requires.low) c.requires.part))

pub returns-clause-settles : goal.returns-clause-settles
returns-clause-settles c =
    let p = c.args.self.now in
    let n = c.silent_ticks-count.result in
    let roles = c.laws.ensures.roles in
    let most = ap (λ t. still_ticks (c.args.mark - t) (state_of p)) c.clock-clock.ensures in
    let it : Jump c.args.k.now c.args.mark n p roles =
    jump c.args.k.now c.args.mark n p roles c.requires.part c.requires.stale c.requires.ticks
    (λ early. c.silent_ticks-count.ensures.still early ∙ most)
    c.silent_ticks-count.ensures.done c.silent_ticks-count.ensures.start in
    subst (SettlesFrom c.args.k.now c.args.mark p) (sym c.tick.ensures)
    (jump_settles c.args.k.now c.args.mark n p roles it c.requires.low)

pub returns-clause-stops : goal.returns-clause-stops
returns-clause-stops c silent =
    let p = c.args.self.now in
    let n = c.silent_ticks-count.result in
    let roles = c.laws.ensures.roles in
    let most = ap (λ t. still_ticks (c.args.mark - t) (state_of p)) c.clock-clock.ensures in
    let it : Jump c.args.k.now c.args.mark n p roles =
    jump c.args.k.now c.args.mark n p roles c.requires.part c.requires.stale c.requires.ticks
    (λ early. c.silent_ticks-count.ensures.still early ∙ most)
    c.silent_ticks-count.ensures.done c.silent_ticks-count.ensures.start in
    let stops = jump_stops c.args.k.now c.args.mark n p roles it c.requires.low c.requires.stale
    (step_at c.tick.new.self.clock c.open_step.result)
    (sym (ap (λ (q : Parted).
    open_step (record { ratio = c.args.k.now; version = q.version; finishes = [] }) (state_of q)) c.tick.ensures)
    ∙ sym c.open_step.ensures.is) silent in
    (stops.0, omega (arith, stops.1, ap (λ (q : Parted). q.clock) c.tick.ensures))

pub returns-clause-fewer : goal.returns-clause-fewer
returns-clause-fewer c =
    ticks_count c.silent_ticks-count.result c.args.self.now c.tick.new.self c.tick.ensures
