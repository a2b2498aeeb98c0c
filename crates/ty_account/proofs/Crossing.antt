-- What blocks and the rights to them own names no token of one thread, so they cross threads as their values do.
use Rattle.std.proofs.Common.{ℕ, List, [], ◌∷◌}
use mir.Raw.{raw}
use base.Fml.{ftrue}
use base.Shift.{Keyless}
use denote.RattleType.{RattleType}
use denote.RawPtr.{Ptr, block_ptr, null_ptr, block_of, count_of, in_block}
use denote.Memory.{lone}
use denote.Builtin.{RawPtr}
use denote.Struct.Struct.{exits_of}
use denote.Struct.Owning.{shape, fields, to}
use denote.Param.Send.{IsSend, IsSync, owning_send, struct_send, sendable}
use Rattle.core.specs.declared.alloc.Allocator.{Ghosts}
use Rattle.std_alloc.proofs.SendSync.{FreesAnywhere, lies, quiet}
use Rattle.std.proofs.Crossing.{frees}
use Rattle.ty_account.specs.contracts.block.Block as Block
use Rattle.ty_account.specs.steps.Blocks.{heap, owned_block, lent, all_lent, all_deeds}

at_block : (p : Ptr) → Keyless (in_block p ftrue)
at_block (block_ptr b o) = tt
at_block null_ptr = tt

pub lent_keyless : (R : RattleType) → IsSync R → (life : ℕ) (p : Ptr) (x : R.Denot) → Keyless (lent R life p x)
lent_keyless R y life p x = (at_block p, y.shared x (block_of p) (count_of p) (life ∷ []))

pub all_lent_keyless : (R : RattleType) → IsSync R → (life : ℕ) (ls : List (Ptr × R.Denot)) → Keyless (all_lent R life ls)
all_lent_keyless R y life [] = tt
all_lent_keyless R y life (l ∷ ls) = (lent_keyless R y life l.0 l.1, all_lent_keyless R y life ls)

owned_keyless : (R : RattleType) → IsSend R → (p : Ptr) (x : R.Denot) → Keyless (owned_block R p x)
owned_keyless R s p x = (lies R s p x, frees.frees heap (raw (lone R.mir)) p)

pub all_deeds_keyless : (R : RattleType) → IsSend R → (life : ℕ) (ls : List (Ptr × R.Denot)) → Keyless (all_deeds R life ls)
all_deeds_keyless R s life [] = tt
all_deeds_keyless R s life (l ∷ ls) = (owned_keyless R s l.0 l.1, all_deeds_keyless R s life ls)

-- a block may go to another thread where its value and its allocator may, as a box
pub block_send : (T B : RattleType) (g : Ghosts B.Denot) → IsSend T → IsSend B → FreesAnywhere B.Denot g → IsSend (Block.the_row T B g)
block_send T B g s sb f = let O = Block.the_type T B g in let p : IsSend RawPtr = search sendable in
    owning_send O (p, (sb, tt)) (λ d. (lies T s d.at d.value, f.frees d.alloc (raw (lone T.mir)) d.at)) (λ k. quiet (to O) (exits_of k (fields O)) ((struct_send (shape O) (p, (sb, tt))).leaving k))
