use Rattle.std.proofs.Common.{◌≡◌, ◌-◌, ◌<◌, ◌++◌, length, get_or, sym, ap, ◌∙◌, subst, arith}
use Rattle.std.proofs.lemmas.List.{get_or_default}
use Rattle.run_reports.specs.views.Book.{Book, Threads}
use Rattle.run_reports.specs.views.Stays.{stays_of}
use Rattle.run_reports.proofs.views.Threading.{there, lower, on, all_read}
use Rattle.run_reports.proofs.views.stays.Stays.copy_to.Goals as goal

pub loop-place-init : goal.loop-place-init
loop-place-init c = λ run keeps.
    let many : length c.self.inside.firsts.items ≡ length c.args.self.now.firsts =
    ap (λ (b : Book). length b.firsts) c.self.view_is in
    let first : c.index-place.result.now ≡ get_or c.args.self.now.firsts c.args.number 0 = c.index-place.ensures
    ∙ get_or_default c.self.inside.firsts.items c.args.number c.index-place.result.now 0
    (omega (arith, c.requires.known, many))
    ∙ ap (λ (b : Book). get_or b.firsts c.args.number 0) c.self.view_is in
    record {
      rest = stays_of c.args.number run;
      threads = subst (λ place. Threads c.args.self.now.links place (stays_of c.args.number run)) (sym first)
          (keeps.each c.args.number c.requires.known);
      all = ap (λ l. l ++ stays_of c.args.number run) c.clear.ensures.items;
    }

pub index-link-requires : goal.index-link-requires
index-link-requires c =
    let many : length c.self.inside.links.items ≡ length c.args.self.now.links =
    ap (λ (b : Book). length b.links) c.self.view_is in
    let low : c.loop-place.place - 1 < length c.args.self.now.links =
    there c.args.self.now.links c.loop-place.place c.loop-place.own.items (stays_of c.args.number c.requires.keeps.0)
    (c.loop-place.invariant c.requires.keeps.0 c.requires.keeps.1) c.loop-place-test.true in
    omega (arith, low, many, c.self.inside.links.ok.0)

pub loop-place-smaller : goal.loop-place-smaller
loop-place-smaller c = lower c.args.self.now.links c.loop-place.place c.loop-place.own.items
    (stays_of c.args.number c.requires.keeps.0) c.push.new.self.items c.index-link.result.now c.loop-place-test.true
    (c.index-link.ensures
    ∙ ap (λ (b : Book). get_or b.links (c.loop-place.place - 1) c.index-link.result.now) c.self.view_is)
    (c.loop-place.invariant c.requires.keeps.0 c.requires.keeps.1)

pub loop-place-preserved : goal.loop-place-preserved
loop-place-preserved c = λ run keeps. on c.args.self.now.links c.loop-place.place c.loop-place.own.items
    (stays_of c.args.number run) c.push.new.self.items c.index-link.result.now c.loop-place-test.true
    (c.index-link.ensures
    ∙ ap (λ (b : Book). get_or b.links (c.loop-place.place - 1) c.index-link.result.now) c.self.view_is)
    c.in_ok-push.ensures.items (c.loop-place.invariant run keeps)

pub returns : goal.returns
returns c = λ run keeps. all_read c.args.self.now.links c.loop-place.own.items (stays_of c.args.number run)
    c.loop-place.place
    (omega (arith, c.loop-place-test.false)) (c.loop-place.invariant run keeps)
