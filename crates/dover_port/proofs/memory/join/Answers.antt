use Rattle.std.proofs.Common.{◌≡◌, ℕ, ◌+◌, ◌<◌, List, [], ◌∷◌, ◌++◌, length, get_or, take, drop, map, sym, ap}
use Rattle.std.proofs.Common.{◌∙◌, arith, subst, suc, add-one, append_assoc, drop-cons, length-append}
use Rattle.std.proofs.lemmas.List.{append-nil, drop_all, take_all, take_more}
use Rattle.std.proofs.lemmas.List.Concat.{flat_map-append}
use Rattle.std.specs.List.{flat_map}
use Rattle.dover_port.specs.MustFail.{ends_after}
use Rattle.dover_port.proofs.memory.join.Goals as goal

-- one more piece of a list, given by what it has
module _ {X : Type 0} (f : X → List ℕ) (script : List X) (n : ℕ) (piece : X) (low : n < length script)
    (is : piece ≡ get_or script n piece) where
  joined_more : (input new : List ℕ) → input ≡ flat_map f (take n script) → new ≡ input ++ f piece
      → new ≡ flat_map f (take (n + 1) script)
  joined_more input new was grown = grown ∙ ap (λ z. z ++ f piece) was
      ∙ sym (ap (flat_map f) (take_more script n piece low)
      ∙ flat_map-append f (take n script) (get_or script n piece ∷ [])
      ∙ ap (λ z. flat_map f (take n script) ++ z) (append-nil (f (get_or script n piece)) ∙ ap f (sym is)))

  ends_more : (len now : ℕ) (ends new all : List ℕ) → ends ++ ends_after len (map f (drop n script)) ≡ all
      → now ≡ len + length (f piece) → new ≡ ends ++ now ∷ []
      → new ++ ends_after now (map f (drop (n + 1) script)) ≡ all
  ends_more len now ends new all was grown pushed =
      let split : drop n script ≡ piece ∷ drop (n + 1) script =
      rw add-one (drop-cons script n piece low ∙ ap (λ z. z ∷ drop (suc n) script) (sym is)) in
      let next : ends ++ (len + length (f piece)) ∷ ends_after (len + length (f piece)) (map f (drop (n + 1) script))
      ≡ all =
      subst (λ z. ends ++ ends_after len (map f z) ≡ all) split was in
      ap (λ z. z ++ ends_after now (map f (drop (n + 1) script))) pushed
      ∙ append_assoc ends (now ∷ []) _
      ∙ subst (λ m. ends ++ m ∷ ends_after m (map f (drop (n + 1) script)) ≡ all) (sym grown) next

pub loop-piece-preserved : goal.loop-piece-preserved
loop-piece-preserved c =
    let grown : c.extend_from_slice.new.self.items ≡ c.loop-piece.input.items ++ c.piece-item.result.items =
    c.in_ok-extend_from_slice.ensures.items ∙ ap (λ z. c.loop-piece.input.items ++ z) c.deref.ensures.value in
    let long : c.len.result ≡ length c.extend_from_slice.new.self.items =
    omega (arith, c.len.ensures, c.extend_from_slice.new.self.ok.0) in
    record {
      input = joined_more (λ piece. piece.items) c.args.script.now c.loop-piece.piece-index c.piece-item.result
          c.loop-piece-test.true c.piece-item.is _ _ c.loop-piece.invariant.input grown;
      ends = ends_more (λ piece. piece.items) c.args.script.now c.loop-piece.piece-index c.piece-item.result
          c.loop-piece-test.true c.piece-item.is _ _ _ _ _ c.loop-piece.invariant.ends
          (ap length grown ∙ length-append c.loop-piece.input.items c.piece-item.result.items)
          (c.in_ok-push.ensures.items ∙ ap (λ z. c.loop-piece.ends.items ++ z ∷ []) long);
    }

pub returns-clause-input : goal.returns-clause-input
returns-clause-input c = c.loop-piece.invariant.input
    ∙ ap (flat_map (λ piece. piece.items)) (take_all c.loop-piece.piece-index c.args.script.now c.loop-piece-test.false)

pub returns-clause-ends : goal.returns-clause-ends
returns-clause-ends c = sym (append-nil c.loop-piece.ends.items)
    ∙ ap (λ z. c.loop-piece.ends.items ++ ends_after (length c.loop-piece.input.items) (map (λ piece. piece.items) z))
    (sym (drop_all c.loop-piece.piece-index c.args.script.now c.loop-piece-test.false)) ∙ c.loop-piece.invariant.ends
