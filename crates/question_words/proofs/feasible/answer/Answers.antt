use Rattle.std.proofs.Common.{◌≡◌, ◌++◌, ◌∷◌, ◌∙◌, [], length, refl, ap, subst, codes, arith}
use Rattle.dover_model.specs.Lines.{in_lines}
use Rattle.clairvoyant.specs.feasible.Feasibility.{IsAnswer, ShowsAll, ShowsWindow}
use Rattle.event_feed.specs.Listing.{listed_instance}
use Rattle.question_words.specs.Texts.{piece_lines}
use Rattle.question_words.proofs.Lines.{one_written}
use Rattle.question_words.proofs.feasible.answer.Goals as goal

pub returns-in-All-clause-says : goal.returns-in-All-clause-says
returns-in-All-clause-says c =
    let pieces = c.in-All.pieces.items in
    let it = subst (λ js. ShowsAll js pieces) c.deref.ensures.value
    (subst (IsAnswer c.deref.result.now) c.in-All.is c.in_ok-pieces.ensures) in (
      c.if-not-is_listable.ensures.0 refl,
      it.meets (listed_instance c.args.listed.now).rules,
      (
        pieces,
        it,
        one_written (codes "feasible") (c.len.result ∷ []) (length pieces ∷ []) (piece_lines pieces) c.new-head.result
            c.put_with_wide.new.self c.new-head.ensures c.put_with_wide.ensures.is
            (ap (λ n. n ∷ []) (let e : c.len.result ≡ length pieces = omega (arith, c.len.ensures) in e)),
      ),
    )

pub returns-in-Window-clause-says : goal.returns-in-Window-clause-says
returns-in-Window-clause-says c =
    let it = subst (λ js. ShowsWindow js c.in-Window.a c.in-Window.b c.in-Window.work) c.deref.ensures.value
    (subst (IsAnswer c.deref.result.now) c.in-Window.is c.in_ok-pieces.ensures) in
    let numbers = c.in-Window.a ∷ c.in-Window.b ∷ c.in-Window.work ∷ [] in (
      c.if-not-is_listable.ensures.0 refl,
      it.unmet (listed_instance c.args.listed.now).rules,
      (
        c.in-Window.a,
        c.in-Window.b,
        c.in-Window.work,
        it,
        ap (λ ps. c.put_with_wide-in-Window.new.self ++ in_lines (piece_lines ps)) c.new.ensures.items
            ∙ one_written (codes "window") numbers numbers [] c.new-head.result c.put_with_wide-in-Window.new.self
            c.new-head.ensures c.put_with_wide-in-Window.ensures.is refl,
      ),
    )

pub put_with_wide-requires : goal.put_with_wide-requires
put_with_wide-requires c = omega (arith, ap length c.new-head.ensures)

pub put_with_wide-requires-in-Window : goal.put_with_wide-requires-in-Window
put_with_wide-requires-in-Window c = omega (arith, ap length c.new-head.ensures)
