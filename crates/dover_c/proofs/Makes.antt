-- A function for C writes what is made into a place.
use seplogic.Ra.Ura.{Ura}
use lib.Dec.{T}
use mir.Syntax.{Fn, Callee, Place, Body, Opd, seq, call}
use mir.Val.{has_ty, WT}
use base.Fml.{froom}
use base.Logic.{SProp, emp}
use prog.Wp.{Env, Loops, Closed}
use prog.Model.{Model}
use contract.Running.{Running}
use types.Logic.{Logic}
use types.Kit.{Go, Item, Post, runs, lands as stores}
use types.Run.{Opds}
use borrow.Table.OneValue.{part_in}
use denote.Memory.{lone}
use denote.RawPtr.{ptr_val, room_at}
use denote.Triple.Clauses.{Clauses, closing}
use denote.Triple.End.{Fins, all}
use denote.Triple.Statement.{Triple}
use Rattle.dover_c.proofs.Steps.{ℕ, List, [], ◌∷◌, refl, sym, full_share, id⊢, Fml, ftrue, fat, fsep, fex, Val, vunit}
use Rattle.dover_c.proofs.Steps.{vptr, fact, ‵, raw, ◌⊛◌, some, later, prop, Sq, ◌$◌, !, move, drop, use1, use2, split}
use Rattle.dover_c.proofs.Steps.{join, fsplit, fjoin, fpack, feq_i, pick, await, rewrite, regoal, unit, yes, Is, shows}
use Rattle.dover_c.proofs.Steps.{part_at, block_ptr, lies_at, in_a_block, nothing, heard, peeks, calls_at, lasts}
use Rattle.dover_c.proofs.Steps.{triple_of, framed}
use Rattle.dover_c.proofs.Exports.{Copied, pointer, params, Values, vals, passed, held, AllFit, function, 𝓣, does}
use Rattle.dover_c.proofs.Exports.{IsAsSaid, meets}
use Rattle.dover_c.specs.declared.slot.Slot.{Slot}
use Rattle.dover_c.specs.contracts.slot.Slot.{the_row}
use Rattle.dover_c.proofs.slot.Slot.TheLaws.{the_row_laws}
use Rattle.dover_c.specs.Places.{after_at}

module _ {M : Type 1} {𝓤 : Ura M} (𝓛 : Logic 𝓤) (𝓜 : Model 𝓤 𝓛.H) (𝓡 : Running 𝓤 𝓛.H 𝓜) where
  open 𝓛 use {H}

  module _ (gs : List Copied) (Says : Values 0 tt gs → Slot → Type 0) where
    abbrev maker_says : Clauses 𝓤 (function gs the_row)
    maker_says κs a = record { ghost = Unit {0}; requires = λ _. emp 𝓤; ensures = λ _ r _. fact 𝓤 (Says a r) }

    -- what makes a slot from these is called
    pub makes : {Γ : List (Item 𝓤)} {E : Env 𝓤 H} {Λ : Loops 𝓤 H} {q : Post 𝓤 H} {d : Place} {rest : Body}
        {f : Callee} {xs : List Opd} →
        Triple 𝓤 ((𝓣 𝓛 𝓜 𝓡).C f)
        (triple_of 𝓛 (function gs the_row).signature (closing 𝓛 (function gs the_row) maker_says)) →
        (a : Values 0 tt gs) → ((i : Item 𝓤) → Opds (Go {0}) 𝓛 (i ∷ Γ) E xs (passed 0 tt gs a)) →
        ((u : Val) (r : Slot) → T (has_ty (lone the_row.mir) u) × WT u → Says a r →
        Sq 𝓛 (‵ (the_row.own_val r (u ∷ [])) ∷ Γ) (stores (𝓣 𝓛 𝓜 𝓡).C Λ E d u rest q)) →
        Sq 𝓛 (‵ (held 0 tt gs a) ∷ Γ) (runs (𝓣 𝓛 𝓜 𝓡).C Λ E (seq (call f xs d) rest) q)
    makes met a reads then =
        let G = triple_of 𝓛 (function gs the_row).signature (closing 𝓛 (function gs the_row) maker_says) in
        let z : G.Ghost = ((tt, tt, tt, a, vals 0 tt gs a), tt) in
        nothing ! $ join ! $ nothing ! $ move ! (1 ∷ 0 ∷ []) $ join ! $ use1 𝓛 (raw (G.pre z)) (id⊢ 𝓤 _) $
        calls_at ! (framed 𝓤 H 𝓜 (𝓣 𝓛 𝓜 𝓡)) G met z (reads _) (λ u.
        use1 𝓛 (later (some (λ (r : Slot). (‵ ftrue ⊛ ‵ (the_row.own_val r (u ∷ []))) ⊛
        some (λ (ws : Fins tt (params gs) (all yes (params gs)) a). ‵ (lasts (function gs the_row) tt a ws) ⊛
        raw (fact 𝓤 (Says a r)))))) (id⊢ 𝓤 _) $
        await ! tt $ pick ! (λ r. split ! $ split ! $ drop ! $ move ! (1 ∷ []) $
        pick ! (λ ws. split ! $ drop ! $ heard ! _ (λ said.
        peeks ! the_row (Is the_row) (shows 𝓛 the_row) r (u ∷ []) (λ is.
        then u r ((the_row_laws.lawful 𝓛).typed r (u ∷ []) is).0 said)))))

  -- ---- behind the allocator and the place

  module _ (h : Copied) (gs : List Copied) (Says : Values 0 tt gs → Slot → Type 0) where
    abbrev Before : Values 0 tt (h ∷ pointer ∷ gs) → Unit {0} → Fml
    Before a _ = room_at the_row a.1.0

    abbrev After : Values 0 tt (h ∷ pointer ∷ gs) → Unit {0} → Unit {0} → Fml
    After a _ _ = after_at a.1.0 (Says a.1.1)

    pub writes : {k : Callee} (e : Fn) → Closed 𝓤 H (𝓣 𝓛 𝓜 𝓡).C (𝓣 𝓛 𝓜 𝓡).Λ k e →
        ((b o : ℕ) (a : Values 0 tt (h ∷ gs)) → AllFit (h ∷ gs) a → (Q : Val → SProp 𝓤) →
        ((u : Val) (w : Slot) → Says a.1 w →
        Sq 𝓛 (‵ (fat full_share (lone the_row.mir) b o u) ∷ ‵ (the_row.own_val w (u ∷ [])) ∷ []) (prop (Q vunit))) →
        Sq 𝓛 (‵ (held 0 tt (h ∷ gs) a) ∷ ‵ (froom (lone the_row.mir) b o) ∷ [])
        (does 𝓛 𝓜 𝓡 e (h.copies.val a.0 ∷ vptr b o ∷ passed 0 tt gs a.1) Q)) →
        IsAsSaid 𝓛 𝓜 𝓡 (h ∷ pointer ∷ gs) unit Before After k
    writes e closed walk =
        meets 𝓛 𝓜 𝓡 (h ∷ pointer ∷ gs) unit Before After e closed (λ _ a fit Q ends.
        move ! (1 ∷ []) $ fsplit ! $ move ! (1 ∷ []) $ fsplit ! $ drop ! $ move ! (1 ∷ 0 ∷ []) $ fjoin ! $
        move ! (1 ∷ []) $ in_a_block ! a.1.0 (λ p. room_at the_row p) (id⊢ 𝓤 _) (λ b o is. move ! (1 ∷ []) $
        regoal ! (λ p. does 𝓛 𝓜 𝓡 e (h.copies.val a.0 ∷ ptr_val p ∷ passed 0 tt gs a.1.1) Q) is refl $
        walk b o (a.0, a.1.1) (fit.0, fit.1.1) Q (λ u w said.
        use2 𝓛 (‵ (part_at the_row full_share w b o)) (part_in 𝓛 the_row refl full_share w b o u) $
        nothing ! $ fpack ! (Says a.1.1 w) (λ _. ftrue) said $ move ! (1 ∷ 0 ∷ []) $ fjoin ! $
        fpack ! Slot (λ w. fsep (lies_at the_row full_share (block_ptr b o) w) (fex (Says a.1.1 w) (λ _. ftrue))) w $
        rewrite ! 0 (λ p. ‵ (after_at p (Says a.1.1))) (sym is) refl $
        feq_i ! _ (vunit ∷ []) _ refl $ move ! (1 ∷ []) $ ends vunit tt)))
