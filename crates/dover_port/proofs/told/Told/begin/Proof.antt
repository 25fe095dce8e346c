-- `begin` makes a value of no bytes, at the moves that its clause names.
use mathlib.Core.Path.{refl}
use mathlib.Core.List.{[], ◌∷◌}
use mir.Syntax.{a_type, dcons, dnil, named}
use mir.Val.{Val, vptr, vstruct, vnil}
use mir.MapTy.{inst_fn}
use base.Logic.{via, fst∗}
use prog.Wp.{WpFn}
use contract.Running.{tables, tables_of}
use sound.WpLaws.{WpFn-mono}
use types.Kit.{‵, raw, ◌$◌, ◌∵◌, !, qed, move, suffices, done}
use types.Run.{no_more, returns, enter}
use types.Part.{agg}
use types.ByLocal.{alloc_all, pass_all, free_all, look_at, sets}
use denote.Exit.{yes}
use denote.RattleType.{RattleType, owns}
use denote.Param.{param, bounded}
use denote.Ref.{shr_vals, shr_Tells}
use denote.Shadow.{pure_i}
use denote.Signature.{plain, types_at}
use denote.Triple.Clauses.{closing}
use denote.Triple.Entry.{alive}
use denote.Triple.Spec.{triple_of}
use denote.Triple.Table.{entered}
use denote.Triple.Walked.{says, stay_none_ref, Stays, walk_of, ends_at, walked, Goes-none_ref, walk_Meets}
use Rattle.dover_port.specs.Told.{begun}
use Rattle.dover_port.specs.declared.told.Told.{Told}
use Rattle.dover_port.specs.contracts.told.Told as told
use Rattle.dover_port.specs.contracts.told.Told.begin.Key.{name as key}
use Rattle.dover_port.specs.contracts.told.Told.begin as f
use Rattle.dover_port.proofs.told.Told.begin.Statement as stated
use Rattle.dover_port.proofs.told.Told.begin.Code as code

pub begin_spec : {M : Type 1} → stated.statement M
unfolding tables_of
begin_spec 𝓤 𝓛 𝓜 𝓡 wired I O _ _ g d h e _ _ =
    let H = 𝓛.H in
    let 𝓣 = tables 𝓤 H 𝓜 𝓡 𝓡.env in
    let R : RattleType = param 0 I in
    let W : RattleType = param 1 O in
    let En = f.ended I O g d h e in
    let inst = bounded (a_type ∷ a_type ∷ []) (I, (O, tt)) (dcons d (dcons e dnil)) in
    let fn = inst_fn inst code.function in
    let c = f.clauses I O g d h e 𝓛 𝓜.mem 𝓡.returns in
    let hs : Stays En.signature.params En.kept =
    (stay_none_ref (0 ∷ []) tt (plain (λ _. R)) yes, (stay_none_ref (1 ∷ []) tt (plain (λ _. W)) yes, tt)) in
    entered 𝓤 H (triple_of 𝓛 En.signature (closing 𝓛 En c)) 𝓣.C 𝓣.Λ (key inst) fn
    (code.unfolded 𝓤 H 𝓜 𝓡 wired (I, (O, tt)) d e)
    (walk_Meets 𝓛 En hs
    (Goes-none_ref 𝓛 4 (0 ∷ []) tt (plain (λ _. R)) yes, (Goes-none_ref 𝓛 4 (1 ∷ []) tt (plain (λ _. W)) yes, tt))
    c (WpFn 𝓤 H 𝓣.C 𝓣.Λ fn) (WpFn-mono 𝓤 H 𝓛.laws (tables_of 𝓤 H 𝓜 𝓣) fn)
    (walked 𝓛 En hs c (WpFn 𝓤 H 𝓣.C 𝓣.Λ fn) (λ κs. (shr_vals, (shr_vals, tt)))
    (λ κs. (shr_Tells (named 0) κs.0 R, (shr_Tells (named 1) κs.1.0 W, tt))) (λ κs qs bounds a gh are.
    let reader : Val = vptr a.0.ref_ptr.0 a.0.ref_ptr.1 in
    let writer : Val = vptr a.1.0.ref_ptr.0 a.1.0.ref_ptr.1 in
    let made : Told = record { moves = begun (g.remaining a.0.now) (h.contents a.1.0.now) } in
    let bound : (walk_of 𝓛 En hs c).Ghost = ((κs, qs, bounds, a, (reader ∷ [], (writer ∷ [], tt))), gh) in
    via 𝓤 _ (fst∗ 𝓤 _ ((c κs a).requires gh))
    (qed 𝓛 (raw (alive 𝓛 En.signature κs qs) ∷ ‵ (owns (types_at En.signature.params κs) a bound.0.4) ∷ []) ∵
    enter ! 𝓣.C 𝓣.Λ fn (reader ∷ writer ∷ []) _ $
    alloc_all ! (λ l. pass_all ! refl ((tt, tt), ((tt, tt), tt)) $
    sets ! (agg ! (no_more !)) refl (tt, tt) $
    returns ! (look_at ! 0 refl) $ free_all ! refl $
    suffices ! _ (ends_at 𝓛 En hs c bound (vstruct vnil) made (tt, (tt, tt)) (tt, (tt, tt))) $
    says ! refl $
    pure_i ! (told.the_row.own_val made (vstruct vnil ∷ [])) ((λ vss. (tt, tt)), tt) ((tt, (refl, tt)), tt) $
    move ! (1 ∷ 2 ∷ 0 ∷ []) $ done !)))))
