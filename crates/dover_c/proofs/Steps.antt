-- The names that walks cite.
pub use Rattle.std.proofs.Common.{◌≡◌, ℕ, List, [], ◌∷◌, refl, sym, w32, w64, MutBor}
pub use Rattle.std.proofs.raw_atomic.Walks.{proved}
pub use base.Fraction.{full_share}
pub use base.Logic.{id⊢}
pub use base.Fml.{Fml, ftrue, fat, flft, flent, fsep, fex}
pub use mir.Syntax.{named}
pub use mir.Val.{Val, vunit, vptr}
pub use prog.Wp.{WpFn}
pub use contract.Monad.{fact}
pub use contract.Running.{tables}
pub use types.SemTy.{Body}
pub use types.Kit.{‵, raw, ◌⊛◌, some, later, prop, Sq, ◌$◌, ◌∵◌, !, qed, done, move, drop, use1, use2, use3, split}
pub use types.Kit.{join, fsplit, fjoin, fpack, feq_i, pick, await, rewrite, regoal, suffices, group}
pub use types.Tokens.{lft_new, lft_end}
pub use types.Run.{enter, of_opd, unit_lit, addr, stop, no_more, and_then, assigns, returns}
pub use types.ByLocal.{alloc_all, pass_all, free_all, look_at, get, through, sets, lands_as}
pub use denote.Builtin.{u32, u64, unit}
pub use denote.Exit.{yes}
pub use denote.Laws.{Is, shows}
pub use denote.Lend.{lends_ref, ref_back}
pub use denote.Memory.{mem, part_at}
pub use denote.Plain.{uint_Lawful, Nothing-Lawful}
pub use denote.RawPtr.{RawPtr, block_ptr, lies_at, in_a_block, rawptr_Lawful}
pub use denote.Ref.{MutRef}
pub use denote.Signature.{plain}
pub use denote.Steps.{nothing, heard, peeks}
pub use denote.Triple.Call.{calls_at}
pub use denote.Triple.Clauses.{lasts}
pub use denote.Triple.Spec.{triple_of}
pub use denote.Triple.Walked.{Stays, walk_of, stay_dropped, Goes-dropped, ends_at}
pub use denote.Triple.Table.{framed}
