use Rattle.std.proofs.Common.{subst, sym, ap, ◌∙◌, List, length}
use Rattle.lane_server.specs.Kept.{Kept, StandsFor, AllQuiet}
use Rattle.lane_server.specs.declared.lane.Lane.{Lane}
use Rattle.lane_server.proofs.Keeping.{short_some, short_none, closed_closing}
use Rattle.lane_server.proofs.lanes.Lanes.give_short.Goals as goal

pub next_short-requires : goal.next_short-requires
next_short-requires c = ap (λ (xs : List Lane). length xs)
    (c.deref.ensures.value ∙ ap (λ (k : Kept). k.lanes) c.self.view_is) ∙ c.requires.stands.2.count

pub returns-in-Some-clause-gives : goal.returns-in-Some-clause-gives
returns-in-Some-clause-gives c =
    λ ls rest it. short_some _ ls rest c.args.from
    (subst (λ k. StandsFor k ls rest) (sym c.self.view_is) it)
    (ap (λ (k : Kept). k.phase) c.self.view_is ∙ c.requires.phase) c.in-Some.lane c.in-Some.line
    c.in-Some.ensures.within
    (λ handed all. c.in-Some.ensures.first handed
    (subst (λ xs. AllQuiet xs handed) (sym c.deref.ensures.value) all))

pub returns-in-Some-clause-closed : goal.returns-in-Some-clause-closed
returns-in-Some-clause-closed c = sym (closed_closing c.args.self.now c.args.from c.requires.phase)

pub returns-in-None-clause-gives : goal.returns-in-None-clause-gives
returns-in-None-clause-gives c =
    λ ls rest it. short_none _ ls rest c.args.from
    (subst (λ k. StandsFor k ls rest) (sym c.self.view_is) it)
    (ap (λ (k : Kept). k.phase) c.self.view_is ∙ c.requires.phase)
    (λ handed all. c.in-None.ensures.first handed
    (subst (λ xs. AllQuiet xs handed) (sym c.deref.ensures.value) all))

pub returns-in-None-clause-closed : goal.returns-in-None-clause-closed
returns-in-None-clause-closed c = sym (closed_closing c.args.self.now c.args.from c.requires.phase)
