-- A function for C lends the slot at the address for one call of a method.
use seplogic.Ra.Ura.{Ura}
use mir.Syntax.{Fn, Callee, Place, Body, Opd, ty_ptr, ty_ref, erased, mut, value_local, local, place, copy, rv_opd}
use mir.Syntax.{assign, addr_of, deref, seq, call, return}
use base.Logic.{SProp, ent, emp}
use prog.Wp.{Env, Loops, Closed}
use prog.Model.{Model}
use contract.Running.{Running}
use contract.Lifetimes.{Lfts}
use types.Logic.{Logic, sem}
use types.Kit.{Go, Item, Post, runs, lands as stores}
use types.Run.{Opds}
use denote.Memory.{lone, pointee}
use denote.RawPtr.{ptr_val}
use denote.Signature.{mut_ref_to}
use denote.Triple.Clauses.{Ended, Clauses, closing}
use denote.Triple.End.{Fins, all}
use denote.Triple.Statement.{Triple}
use Rattle.dover_c.proofs.Steps.{ℕ, List, [], ◌∷◌, refl, sym, MutBor, full_share, id⊢, Fml, ftrue, flft, flent, fsep}
use Rattle.dover_c.proofs.Steps.{fex, named, Val, vptr, fact, ‵, raw, ◌⊛◌, some, later, prop, Sq, ◌$◌, !, move, drop}
use Rattle.dover_c.proofs.Steps.{use1, use3, split, join, fsplit, fjoin, fpack, pick, await, rewrite, regoal, lft_new}
use Rattle.dover_c.proofs.Steps.{lft_end, enter, of_opd, addr, stop, no_more, and_then, returns, alloc_all, pass_all}
use Rattle.dover_c.proofs.Steps.{free_all, look_at, get, through, sets, lands_as, yes, Is, shows, lends_ref, ref_back}
use Rattle.dover_c.proofs.Steps.{mem, block_ptr, lies_at, in_a_block, MutRef, plain, nothing, heard, peeks, calls_at}
use Rattle.dover_c.proofs.Steps.{lasts, triple_of, framed, Body as Lent}
use Rattle.dover_c.proofs.Exports.{Copied, pointer, Fits, fits, params, Values, vals, passed, held, AllFit, 𝓣, does}
use Rattle.dover_c.proofs.Exports.{IsAsSaid, meets}
use Rattle.dover_c.specs.declared.slot.Slot.{Slot}
use Rattle.dover_c.specs.contracts.slot.Slot.{the_row}
use Rattle.dover_c.specs.Places.{after_at}

-- ---- a method of the slot, with these parameters behind it

abbrev pub method : List Copied → Copied → Ended
method gs R = record {
  signature = record {
    lifetimes = 1;
    outlives = [];
    params = mut_ref_to (0 ∷ []) tt (plain (λ _. the_row)) ∷ params gs;
    result = plain (λ _. R.row);
  };
  kept = (yes, all yes (params gs));
}

module _ (gs : List Copied) (R : Copied)
    (Says : (κs : Lfts 1) → Values 1 κs gs → Slot → Slot → R.row.Denot → Type 0) where
  abbrev method_says : {M : Type 1} (𝓤 : Ura M) → Clauses 𝓤 (method gs R)
  method_says 𝓤 κs a = record {
    ghost = Unit {0};
    requires = λ _. emp 𝓤;
    ensures = λ _ r e. fact 𝓤 (Says κs a.1 a.0.now e.0.now r);
  }

  module _ {M : Type 1} {𝓤 : Ura M} (𝓛 : Logic 𝓤) (𝓜 : Model 𝓤 𝓛.H) (𝓡 : Running 𝓤 𝓛.H 𝓜) where
    open 𝓛 use {H}

    abbrev pub IsMethod : Callee → Type 1
    IsMethod f =
        Triple 𝓤 ((𝓣 𝓛 𝓜 𝓡).C f) (triple_of 𝓛 (method gs R).signature (closing 𝓛 (method gs R) (method_says 𝓤)))

    -- the slot at an address is lent, and lies there again with what the method says
    pub lends : {Γ : List (Item 𝓤)} {E : Env 𝓤 H} {Λ : Loops 𝓤 H} {q : Post 𝓤 H} {d : Place} {rest : Body}
        {f : Callee} {xs : List Opd} →
        IsMethod f → (b o : ℕ) (v : Slot) (own : Fml) (a : (κs : Lfts 1) → Values 1 κs gs) →
        ((κs : Lfts 1) → ent 𝓤 (sem 𝓛 own) (sem 𝓛 (held 1 κs gs (a κs)))) →
        ((κs : Lfts 1) (i j : Item 𝓤) → Opds (Go {0}) 𝓛 (i ∷ j ∷ Γ) E xs (vptr b o ∷ passed 1 κs gs (a κs))) →
        ((u : Val) (r : R.row.Denot) (w : Slot) → Fits R u → ((κs : Lfts 1) × Says κs (a κs) v w r) →
        Sq 𝓛 (‵ (lies_at the_row full_share (block_ptr b o) w) ∷ ‵ (R.row.own_val r (u ∷ [])) ∷ Γ)
        (stores (𝓣 𝓛 𝓜 𝓡).C Λ E d u rest q)) →
        Sq 𝓛 (‵ (lies_at the_row full_share (block_ptr b o) v) ∷ ‵ own ∷ Γ)
        (runs (𝓣 𝓛 𝓜 𝓡).C Λ E (seq (call f xs d) rest) q)
    lends met b o v own a gives reads then =
        lft_new ! tt (λ α. let κ : List ℕ = α ∷ [] in let κs : Lfts 1 = (κ, tt) in move ! (1 ∷ []) $
        use1 𝓛 (later (some (λ (γ : ℕ). ‵
        ((MutRef (named 0) κ the_row).own_val (record { ref_ptr = (b, o); ghost_name = γ; now = v }) (vptr b o ∷ [])) ⊛
        ‵ (flent κ (Lent (mem the_row) b o γ)))))
        (lends_ref 𝓛 the_row (named 0) κ v b o) $ await ! tt $ pick ! (λ γ. split ! $
        -- [the loan; the lender's part; the token of α; what is handed on beside it]
        let G = triple_of 𝓛 (method gs R).signature (closing 𝓛 (method gs R) (method_says 𝓤)) in
        let lent : MutBor Slot = record { ref_ptr = (b, o); ghost_name = γ; now = v } in
        let z : G.Ghost = ((κs, (full_share, tt), tt, (lent, a κs), (vptr b o ∷ [], vals 1 κs gs (a κs))), tt) in
        move ! (3 ∷ []) $ use1 𝓛 (‵ (held 1 κs gs (a κs))) (gives κs) $ move ! (1 ∷ 0 ∷ []) $ fjoin ! $
        nothing ! $ move ! (3 ∷ 0 ∷ []) $ join ! $ join ! $ nothing ! $ move ! (1 ∷ 0 ∷ []) $ join ! $
        use1 𝓛 (raw (G.pre z)) (id⊢ 𝓤 _) $
        calls_at ! (framed 𝓤 H 𝓜 (𝓣 𝓛 𝓜 𝓡)) G met z (reads κs _ _) (λ u.
        use1 𝓛 (later (some (λ (r : R.row.Denot). ((‵ (flft κ full_share) ⊛ ‵ ftrue) ⊛ ‵ (R.row.own_val r (u ∷ []))) ⊛
        some (λ (ws : Slot × Fins κs (params gs) (all yes (params gs)) (a κs)). ‵
        (lasts (method gs R) z.0.0 z.0.3 ws) ⊛ raw (fact 𝓤 (Says κs (a κs) v ws.0 r)))))) (id⊢ 𝓤 _) $
        await ! tt $ pick ! (λ r. split ! $ split ! $ split ! $ lft_end ! tt $ move ! (3 ∷ []) $
        -- [what the call says; α is over; nothing; the answer; the lender's part]
        pick ! (λ ws. split ! $ move ! (1 ∷ []) $ heard ! _ (λ said. fsplit ! $ fsplit ! $
        -- [the slot's last value; its borrow; the rest; α is over; nothing; the answer; the lender's part]
        move ! (3 ∷ 6 ∷ 0 ∷ []) $ use3 𝓛 (later (‵ (lies_at the_row full_share (block_ptr b o) ws.0)))
        (ref_back 𝓛 the_row κ γ ws.0 b o) $ await ! tt $
        move ! (1 ∷ 2 ∷ 3 ∷ []) $ drop ! $ drop ! $ drop ! $ move ! (1 ∷ []) $
        peeks ! R.row (Is R.row) (shows 𝓛 R.row) r (u ∷ []) (λ is. move ! (1 ∷ []) $
        then u r ws.0 (fits 𝓛 R r u is) (κs, said))))))))

-- ---- a function with the place as its first parameter

module _ {M : Type 1} {𝓤 : Ura M} (𝓛 : Logic 𝓤) (𝓜 : Model 𝓤 𝓛.H) (𝓡 : Running 𝓤 𝓛.H 𝓜) where
  open 𝓛 use {H}

  module _ (gs : List Copied) (R : Copied) (Says : Values 0 tt gs → Slot → Slot → R.row.Denot → Type 0) where
    abbrev Before : Values 0 tt (pointer ∷ gs) → Slot → Fml
    Before a v = lies_at the_row full_share a.0 v

    abbrev After : Values 0 tt (pointer ∷ gs) → Slot → R.row.Denot → Fml
    After a v r = after_at a.0 (λ w. Says a.1 v w r)

    pub lends_once : {k : Callee} (e : Fn) → Closed 𝓤 H (𝓣 𝓛 𝓜 𝓡).C (𝓣 𝓛 𝓜 𝓡).Λ k e →
        ((b o : ℕ) (v : Slot) (a : Values 0 tt gs) → AllFit gs a → (Q : Val → SProp 𝓤) →
        ((u : Val) (r : R.row.Denot) (w : Slot) → Says a v w r →
        Sq 𝓛 (‵ (lies_at the_row full_share (block_ptr b o) w) ∷ ‵ (R.row.own_val r (u ∷ [])) ∷ []) (prop (Q u))) →
        Sq 𝓛 (‵ (lies_at the_row full_share (block_ptr b o) v) ∷ ‵ (held 0 tt gs a) ∷ [])
        (does 𝓛 𝓜 𝓡 e (vptr b o ∷ passed 0 tt gs a) Q)) →
        IsAsSaid 𝓛 𝓜 𝓡 (pointer ∷ gs) R.row Before After k
    lends_once e closed walk =
        meets 𝓛 𝓜 𝓡 (pointer ∷ gs) R.row Before After e closed (λ v a fit Q ends.
        move ! (1 ∷ []) $ fsplit ! $ drop ! $ move ! (1 ∷ []) $
        in_a_block ! a.0 (λ p. lies_at the_row full_share p v) (id⊢ 𝓤 _) (λ b o is.
        regoal ! (λ p. does 𝓛 𝓜 𝓡 e (ptr_val p ∷ passed 0 tt gs a.1) Q) is refl $
        walk b o v a.1 fit.1 Q (λ u r w said.
        nothing ! $ fpack ! (Says a.1 v w r) (λ _. ftrue) said $ move ! (1 ∷ 0 ∷ []) $ fjoin ! $
        fpack ! Slot (λ w. fsep (lies_at the_row full_share (block_ptr b o) w) (fex (Says a.1 v w r) (λ _. ftrue))) w $
        rewrite ! 0 (λ p. ‵ (after_at p (λ w. Says a.1 v w r))) (sym is) refl $ ends u r)))

  -- with no further parameter
  abbrev asks : Copied → Callee → Fn
  asks R f = record {
    lifetimes = 0;
    outlives = [];
    ty_params = [];
    givens = 0;
    params = 1;
    locals =
        local (lone R.row.mir) value_local ∷ local ty_ptr value_local ∷ local ty_ptr value_local ∷
        local (ty_ref erased mut (pointee the_row.written)) value_local ∷ [];
    body =
        seq (assign (place 2 []) (rv_opd (copy (place 1 []))))
        (seq (assign (place 3 []) (addr_of (place 2 (deref (lone the_row.mir) ∷ []))))
        (seq (call f (copy (place 3 []) ∷ []) (place 0 [])) return));
  }

  pub answers : (R : Copied) (Says : Slot → Slot → R.row.Denot → Type 0) {k f : Callee} →
      Closed 𝓤 H (𝓣 𝓛 𝓜 𝓡).C (𝓣 𝓛 𝓜 𝓡).Λ k (asks R f) → IsMethod [] R (λ _ _. Says) 𝓛 𝓜 𝓡 f →
      IsAsSaid 𝓛 𝓜 𝓡 (pointer ∷ []) R.row (Before [] R (λ _. Says)) (After [] R (λ _. Says)) k
  answers R Says {k} {f} closed met = lends_once [] R (λ _. Says) (asks R f) closed (λ b o v a fit Q ends.
      enter ! _ _ _ _ _ $ alloc_all ! (λ l. pass_all ! refl ((tt, tt), fit) $
      sets ! (of_opd ! (get ! refl)) refl (tt, tt) $ sets ! (addr ! (through ! refl (stop !))) refl (tt, tt) $
      lends [] R (λ _ _. Says) 𝓛 𝓜 𝓡 met b o v _ (λ _. a) (λ _. id⊢ 𝓤 _)
      (λ κs i j. and_then ! (get ! refl) (no_more !)) (λ u r w is said.
      lands_as ! refl refl is $ returns ! (look_at ! 0 refl) $ free_all ! refl $ ends u r w said.1)))
