-- A function for C takes its parameters by value, has nothing of them at exit, and says nothing of them there.
use mathlib.Core.Path.{subst}
use seplogic.Ra.Ura.{Ura}
use lib.Dec.{T}
use mir.Syntax.{Fn, Callee}
use mir.Val.{has_ty, WT}
use base.Logic.{SProp, ent, emp}
use prog.Wp.{Closed}
use prog.Model.{Model}
use contract.Running.{Running, MachineTables}
use contract.Lifetimes.{Lfts}
use types.Logic.{Logic, sem}
use types.Kit.{Goal, use0}
use denote.Exit.{Exit, Last, unchanged, left}
use denote.RattleType.{RattleType, Denots, Valss, flat, owns}
use denote.Laws.{Spells, Tellss, Ises, Are, valss, Typed, Lawful}
use denote.Memory.{lone}
use denote.Param.Laws.{Laws, IsCopy}
use denote.Signature.{Slot as Param, types_at}
use denote.Struct.Laws.{RawPtr-copy, u32-copy, u64-copy, unit-copy}
use denote.Triple.Clauses.{Ended, Clauses, closing}
use denote.Triple.End.{Fins, all}
use denote.Triple.Spec.{Meets}
use denote.Triple.Walked.{AllGo, fits_of, has_of}
use Rattle.dover_c.proofs.Steps.{◌≡◌, ℕ, List, [], ◌∷◌, refl, sym, w32, w64, proved, id⊢, Fml, ftrue, Val, WpFn, tables}
use Rattle.dover_c.proofs.Steps.{‵, ◌⊛◌, prop, Sq, ◌$◌, ◌∵◌, !, qed, done, move, drop, split, fjoin, suffices, group}
use Rattle.dover_c.proofs.Steps.{u32, u64, unit, yes, Is, uint_Lawful, Nothing-Lawful, RawPtr, rawptr_Lawful, plain}
use Rattle.dover_c.proofs.Steps.{nothing, Stays, walk_of, stay_dropped, Goes-dropped, ends_at}

-- ---- types that are Copy

pub record Copied : Type 2 where
  pub row : RattleType
  pub copies : IsCopy row
  pub lawful : {M : Type 1} {𝓤 : Ura M} (𝓛 : Logic 𝓤) → Lawful 𝓛 row

abbrev pub copied : {R : RattleType} → Laws R → IsCopy R → Copied
copied {R} laws copies = record { row = R; copies = copies; lawful = λ 𝓛. laws.lawful 𝓛 }

abbrev pub word32 : Copied
word32 = record { row = u32; copies = u32-copy; lawful = λ 𝓛. uint_Lawful 𝓛 w32 }

abbrev pub word64 : Copied
word64 = record { row = u64; copies = u64-copy; lawful = λ 𝓛. uint_Lawful 𝓛 w64 }

abbrev pub nought : Copied
nought = record { row = unit; copies = unit-copy; lawful = λ 𝓛. Nothing-Lawful 𝓛 }

abbrev pub pointer : Copied
pointer = record { row = RawPtr; copies = RawPtr-copy; lawful = λ 𝓛. rawptr_Lawful 𝓛 }

-- that a machine value is of the type
abbrev pub Fits : Copied → Val → Type 0
Fits R u = T (has_ty (lone R.row.mir) u) × WT u

pub fits : {M : Type 1} {𝓤 : Ura M} (𝓛 : Logic 𝓤) (R : Copied) (x : R.row.Denot) (u : Val) → Is R.row x (u ∷ []) →
    Fits R u
fits 𝓛 R x u is = (subst (λ τs. Typed τs (u ∷ [])) R.copies.alone ((R.lawful 𝓛).typed x (u ∷ []) is)).0

-- ---- parameters of such types

abbrev pub params : {n : ℕ} → List Copied → List (Param n)
params [] = []
params (g ∷ gs) = plain (λ _. g.row) ∷ params gs

module _ (n : ℕ) (κs : Lfts n) where
  abbrev pub Values : List Copied → Type 0
  Values gs = Denots (types_at (params gs) κs)

  abbrev spells : (gs : List Copied) → Spells (types_at (params gs) κs)
  spells [] = tt
  spells (g ∷ gs) = ((λ x. g.copies.val x ∷ []), spells gs)

  tells : (gs : List Copied) → Tellss (types_at (params gs) κs) (Ises (types_at (params gs) κs)) (spells gs)
  tells [] = tt
  tells (g ∷ gs) = (g.copies.tells, tells gs)

  abbrev pub vals : (gs : List Copied) → Values gs → Valss (types_at (params gs) κs)
  vals gs = valss (types_at (params gs) κs) (spells gs)

  -- their machine values, and what they own
  abbrev pub passed : (gs : List Copied) → Values gs → List Val
  passed gs a = flat (types_at (params gs) κs) (vals gs a)

  abbrev pub held : (gs : List Copied) → Values gs → Fml
  held gs a = owns (types_at (params gs) κs) a (vals gs a)

abbrev pub AllFit : (gs : List Copied) → Values 0 tt gs → Type 0
AllFit [] a = Unit {0}
AllFit (g ∷ gs) a = Fits g (g.copies.val a.0) × AllFit gs a.1

-- nothing is had of them at exit, and they are there as they were
abbrev dropped : (gs : List Copied) → Stays (params {n = 0} gs) (all yes (params gs))
dropped [] = tt
dropped (g ∷ gs) = (stay_dropped _ yes, dropped gs)

lasts_of : (gs : List Copied) (a : Values 0 tt gs) → Fins tt (params gs) (all yes (params gs)) a
lasts_of [] a = tt
lasts_of (g ∷ gs) a = (subst (λ e. Last e a.0) (sym (g.copies.still yes)) tt, lasts_of gs a.1)

fitting : (gs : List Copied) (a : Values 0 tt gs) (ws : Fins tt (params gs) (all yes (params gs)) a) →
    fits_of tt (params gs) (all yes (params gs)) (dropped gs) a ws
fitting [] a ws = tt
fitting (g ∷ gs) a ws = (tt, fitting gs a.1 ws.1)

silent : {D : Type 0} (e : Exit D) → e ≡ unchanged → (x : D) (w : Last e x) → left e x w ≡ ftrue
silent e is = subst (λ (e : Exit _). (x : _) (w : Last e x) → left e x w ≡ ftrue) (sym is) (λ x w. refl)

module _ {M : Type 1} {𝓤 : Ura M} (𝓛 : Logic 𝓤) where
  all_fit : (gs : List Copied) (a : Values 0 tt gs) →
      Are (types_at (params gs) tt) (Ises (types_at (params gs) tt)) a (vals 0 tt gs a) → AllFit gs a
  all_fit [] a are = tt
  all_fit (g ∷ gs) a are = (fits 𝓛 g a.0 (g.copies.val a.0) are.0, all_fit gs a.1 are.1)

  go : (gs : List Copied) → AllGo 𝓛 0 (params gs) (all yes (params gs)) (dropped gs)
  go [] = tt
  go (g ∷ gs) =
      (Goes-dropped 𝓛 0 (plain (λ _. g.row)) yes (λ _. silent (g.row.exit yes) (g.copies.still yes)), go gs)

  had : (gs : List Copied) (a : Values 0 tt gs) (ws : Fins tt (params gs) (all yes (params gs)) a) →
      ent 𝓤 (emp 𝓤) (sem 𝓛 (has_of tt (params gs) (all yes (params gs)) (dropped gs) a ws (vals 0 tt gs a)))
  had [] a ws = id⊢ 𝓤 (emp 𝓤)
  had (g ∷ gs) a ws = qed 𝓛 [] ∵ use0 𝓛 (‵ (has_of tt (params gs) (all yes (params gs)) (dropped gs) a.1 ws.1 _))
      (had gs a.1 ws.1) $ nothing ! $ fjoin ! $ done !

-- ---- the function

abbrev pub function : List Copied → RattleType → Ended
function gs R = record {
  signature = record { lifetimes = 0; outlives = []; params = params gs; result = plain (λ _. R) };
  kept = all yes (params gs);
}

module _ {M : Type 1} {𝓤 : Ura M} (𝓛 : Logic 𝓤) (𝓜 : Model 𝓤 𝓛.H) (𝓡 : Running 𝓤 𝓛.H 𝓜) where
  open 𝓛 use {H}

  abbrev pub 𝓣 : MachineTables 𝓤 H 𝓜
  𝓣 = tables 𝓤 H 𝓜 𝓡 𝓡.env

  abbrev pub does : Fn → List Val → (Val → SProp 𝓤) → Goal 𝓤 H
  does e vs Q = prop (WpFn 𝓤 H 𝓣.C 𝓣.Λ e vs Q)

  module _ (gs : List Copied) (R : RattleType) {G : Type 0} (Asks : Values 0 tt gs → G → Fml)
      (Leaves : Values 0 tt gs → G → R.Denot → Fml) where
    abbrev function_says : Clauses 𝓤 (function gs R)
    function_says κs a = record {
      ghost = G;
      requires = λ v. sem 𝓛 (Asks a v);
      ensures = λ v r _. sem 𝓛 (Leaves a v r);
    }

    -- it is there as the contract says
    abbrev pub IsAsSaid : Callee → Type 1
    IsAsSaid k = Meets 𝓛 (function gs R).signature (𝓣.C k) (closing 𝓛 (function gs R) function_says)

    -- where the code leads from what is asked, and what the parameters own, to what is left
    pub meets : {k : Callee} (e : Fn) → Closed 𝓤 H 𝓣.C 𝓣.Λ k e →
        ((v : G) (a : Values 0 tt gs) → AllFit gs a → (Q : Val → SProp 𝓤) →
        ((u : Val) (r : R.Denot) → Sq 𝓛 (‵ (Leaves a v r) ∷ ‵ (R.own_val r (u ∷ [])) ∷ []) (prop (Q u))) →
        Sq 𝓛 (‵ (Asks a v) ∷ ‵ (held 0 tt gs a) ∷ []) (does e (passed 0 tt gs a) Q)) →
        IsAsSaid k
    meets {k} e closed walk =
        let T = function gs R in let W = walk_of 𝓛 T (dropped gs) function_says in
        proved 𝓛 T (dropped gs) function_says 𝓜 𝓡 (go 𝓛 gs) k e closed (λ κs. spells 0 tt gs) (λ κs. tells 0 tt gs)
        (λ κs qs bounds a v are.
        let y : W.Ghost = ((κs, qs, bounds, a, vals 0 tt gs a), v) in
        let ws = lasts_of gs a in
        qed 𝓛 ((‵ ftrue ⊛ ‵ (held 0 tt gs a)) ∷ ‵ (Asks a v) ∷ []) ∵ split ! $ drop ! $ move ! (1 ∷ []) $
        walk v a (all_fit 𝓛 gs a are) (W.post y) (λ u r. move ! (1 ∷ []) $
        suffices ! _ (ends_at 𝓛 T (dropped gs) function_says y u r ws (fitting gs a ws)) $
        use0 𝓛 (‵ (has_of tt (params gs) (all yes (params gs)) (dropped gs) a ws y.0.4)) (had 𝓛 gs a ws) $
        nothing ! $ group ! 3 $ done !))
