use Rattle.std.proofs.Common.{refl, subst, sym, ap, ◌∙◌, length, arith}
use Rattle.std.proofs.lemmas.Bool.{false≢true}
use Rattle.lane_server.specs.Lanes.{lane_lines, input_of_lines}
use Rattle.lane_server.specs.Kept.{Kept, StandsFor, is_closed}
use Rattle.lane_server.specs.Spending.{HavePaid}
use Rattle.lane_server.proofs.Keeping.{lane_gives, give_some, give_none, closed_giving}
use Rattle.lane_server.proofs.Sharing.{lane_there, giving_low, paid_step}
use Rattle.lane_server.proofs.lanes.Lanes.give.Goals as goal

pub next_out-requires : goal.next_out-requires
next_out-requires g c =
    let it =
    subst (λ k. StandsFor k c.requires.stands.0 c.requires.stands.1)
    (sym c.self.view_is) c.requires.stands.2 in
    let given = lane_gives _ c.requires.stands.0 c.requires.stands.1 c.args.lane c.from.result c.index_mut.result.now it
    (ap (λ (k : Kept). k.phase) c.self.view_is ∙ c.requires.phase) c.from.ensures c.index_mut.ensures.value in
    (lane_lines (input_of_lines c.requires.stands.0).handed c.args.lane, given.0, given.1)

pub returns-in-Some-clause-gives : goal.returns-in-Some-clause-gives
returns-in-Some-clause-gives g c =
    λ ls rest it. give_some _ ls rest c.args.lane c.from.result c.index_mut.result.now c.next_out.new.self
    (subst (λ k. StandsFor k ls rest) (sym c.self.view_is) it)
    (ap (λ (k : Kept). k.phase) c.self.view_is ∙ c.requires.phase) c.from.ensures
    c.index_mut.ensures.value c.in-Some.out c.in-Some.ensures.gives

pub returns-in-Some-clause-closed : goal.returns-in-Some-clause-closed
returns-in-Some-clause-closed g c = ap is_closed c.self.view_is

pub returns-in-None-clause-gives : goal.returns-in-None-clause-gives
returns-in-None-clause-gives g c =
    λ ls rest it. give_none _ ls rest c.args.lane c.from.result c.index_mut.result.now c.next_out.new.self
    (subst (λ k. StandsFor k ls rest) (sym c.self.view_is) it)
    (ap (λ (k : Kept). k.phase) c.self.view_is ∙ c.requires.phase) c.from.ensures
    c.index_mut.ensures.value c.in-None.ensures.gives

pub returns-in-None-clause-closed : goal.returns-in-None-clause-closed
returns-in-None-clause-closed g c = sym (closed_giving c.args.self.now c.args.lane c.requires.phase)

pub returns-in-Some-clause-paid : goal.returns-in-Some-clause-paid
returns-in-Some-clause-paid g c = λ start paid.
    let ls = c.requires.stands.0 in
    let rest = c.requires.stands.1 in
    let low = giving_low c.args.self.now ls rest c.args.lane c.requires.stands.2 c.requires.phase in
    let it = subst (λ k. StandsFor k ls rest) (sym c.self.view_is) c.requires.stands.2 in
    paid_step _ c.from.result c.index_mut.result.now c.next_out.new.self
    (lane_there _ c.from.result c.index_mut.result.now it.count (omega (arith, c.from.ensures, low))
    c.index_mut.ensures.value) start (omega (arith, c.from.ensures, low)) _ _
    (λ from has. c.in-Some.ensures.paid from has)
    (subst (λ (k : Kept). HavePaid k.lanes start c.args.comparisons.now) (sym c.self.view_is) paid)

pub returns-in-None-clause-paid : goal.returns-in-None-clause-paid
returns-in-None-clause-paid g c = λ start paid.
    let ls = c.requires.stands.0 in
    let rest = c.requires.stands.1 in
    let low = giving_low c.args.self.now ls rest c.args.lane c.requires.stands.2 c.requires.phase in
    let it = subst (λ k. StandsFor k ls rest) (sym c.self.view_is) c.requires.stands.2 in
    paid_step _ c.from.result c.index_mut.result.now c.next_out.new.self
    (lane_there _ c.from.result c.index_mut.result.now it.count (omega (arith, c.from.ensures, low))
    c.index_mut.ensures.value) start (omega (arith, c.from.ensures, low)) _ _
    (λ from has. c.in-None.ensures.paid from has)
    (subst (λ (k : Kept). HavePaid k.lanes start c.args.comparisons.now) (sym c.self.view_is) paid)

pub index_mut-requires : goal.index_mut-requires
index_mut-requires g c =
    let it = c.requires.stands.2 in
    omega (
      arith,
      c.from.ensures,
      ap (λ (k : Kept). length k.lanes) c.self.view_is,
      it.count,
      giving_low c.args.self.now c.requires.stands.0 c.requires.stands.1 c.args.lane it c.requires.phase,
    )

pub returns-in-Some-clause-ready : goal.returns-in-Some-clause-ready
returns-in-Some-clause-ready g c = λ none. absurd (false≢true (sym none))

pub returns-in-None-clause-ready : goal.returns-in-None-clause-ready
returns-in-None-clause-ready g c = λ none going. refl
