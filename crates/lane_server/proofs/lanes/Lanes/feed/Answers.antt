use Rattle.std.proofs.Common.{subst, sym, ap, ◌∙◌, [], arith}
use Rattle.lane_server.specs.Lanes.{lane_lines, input_of_lines}
use Rattle.lane_server.specs.Kept.{Kept, StandsFor}
use Rattle.lane_server.specs.Spending.{HavePaid}
use Rattle.lane_server.proofs.Keeping.{feed_stands, one_quiet, ready_left, has_room}
use Rattle.lane_server.proofs.Sharing.{lane_there, paid_line}
use Rattle.lane_server.proofs.lanes.Lanes.feed.Goals as goal

pub line-requires : goal.line-requires
line-requires c =
    let it = subst (λ k. StandsFor k c.requires.stands.0 [])
    (sym c.self.view_is) c.requires.stands.1 in (
      lane_lines (input_of_lines c.requires.stands.0).handed c.args.lane,
      one_quiet _ (input_of_lines c.requires.stands.0).handed c.args.lane c.from.result c.index_mut.result.now
          (ready_left _ c.requires.stands.0 [] it (ap (λ (k : Kept). k.phase) c.self.view_is ∙ c.requires.ready)).2
          it.count c.requires.lane
          c.from.ensures c.index_mut.ensures.value,
    )

pub returns-in-Ok-clause-answers : goal.returns-in-Ok-clause-answers
returns-in-Ok-clause-answers c = λ ls bytes it reads. feed_stands _ ls bytes c.args.lane c.from.result c.args.line.now
    c.index_mut.result.now c.line.new.self
    (subst (λ k. StandsFor k ls []) (sym c.self.view_is) it)
    (ap (λ (k : Kept). k.phase) c.self.view_is ∙ c.requires.ready)
    (omega (arith, c.requires.room, ap (λ (k : Kept). k.lines) c.self.view_is)) c.requires.lane reads c.from.ensures
    c.index_mut.ensures.value
    c.in-Ok.ensures.stands

pub returns-in-Err-clause-answers : goal.returns-in-Err-clause-answers
returns-in-Err-clause-answers c = λ ls bytes it reads.
    (has_room c.args.self.now ls [] it c.requires.room, (c.args.lane, c.args.line.now, reads))

pub returns-in-Ok-clause-paid : goal.returns-in-Ok-clause-paid
returns-in-Ok-clause-paid c = λ start now paid.
    let ls = c.requires.stands.0 in
    let it = subst (λ k. StandsFor k ls []) (sym c.self.view_is) c.requires.stands.1 in
    let quiet = one_quiet _ (input_of_lines ls).handed c.args.lane c.from.result c.index_mut.result.now
    (ready_left _ ls [] it (ap (λ (k : Kept). k.phase) c.self.view_is ∙ c.requires.ready)).2 it.count c.requires.lane
    c.from.ensures c.index_mut.ensures.value in
    paid_line _ c.from.result c.index_mut.result.now c.line.new.self
    (lane_there _ c.from.result c.index_mut.result.now it.count (omega (arith, c.from.ensures, c.requires.lane))
    c.index_mut.ensures.value) start now (λ a b has. c.in-Ok.ensures.paid _ a b quiet has)
    (subst (λ (k : Kept). HavePaid k.lanes start now) (sym c.self.view_is) paid)
