-- A room goes to another thread where its values and its allocator may, and any thread may give the allocator's blocks
-- back.
use Rattle.std.specs.Prelude.{ℕ, ◌+◌, List, [], ◌∷◌, Option, Some, None}
use Rattle.std.specs.Mem.{type_size}
use base.Fraction.{full_share}
use base.Fml.{Fml}
use base.Shift.{Keyless}
use mir.Syntax.{Ty}
use denote.Param.Send.{IsSend, AllSend, Frees, part_keyless, owning_send, struct_send, sendable}
use denote.RattleType.{RattleType}
use denote.RawPtr.{Ptr, block_ptr, null_ptr}
use denote.Struct.Owning.{shape, fields, to}
use denote.Struct.Struct.{exits_of}
use Rattle.core.specs.declared.alloc.Allocator.{Ghosts}
use Rattle.std_alloc.proofs.SendSync.{quiet}
use Rattle.qs_chunk.specs.Room.{row_owns, room_owns}
use Rattle.qs_chunk.specs.contracts.cells.Room.{the_row, the_type}

module _ (X : RattleType) (sends : IsSend X) where
  row-Keyless : (b o : ℕ) (places : List (Option X.Denot)) → Keyless (row_owns X b o places)
  row-Keyless b o [] = tt
  row-Keyless b o (None ∷ places) = (tt, row-Keyless b (o + type_size X) places)
  row-Keyless b o (Some value ∷ places) = (part_keyless X sends full_share value b o, row-Keyless b (o + type_size X) places)

  room-Keyless : (token : Ty → Ptr → Fml) → ((τ : Ty) (p : Ptr) → Keyless (token τ p)) → (p : Ptr) (places : List (Option X.Denot)) → Keyless (room_owns X token p places)
  room-Keyless token frees (block_ptr b o) places = (tt, (row-Keyless b o places, frees _ (block_ptr b o)))
  room-Keyless token frees null_ptr places = tt

pub send : (X U : RattleType) (g : Ghosts U.Denot) → IsSend X → IsSend U → Frees g g.dealloc_token → IsSend (the_row X U g)
send X U g x u frees =
    let O = the_type X U g in let all : AllSend (fields O) = (search sendable, (search sendable, tt)) in
    owning_send O all (λ d. room-Keyless X x (g.dealloc_token d.giver) (λ τ p. frees.frees d.giver τ p) d.ptr d.places) (λ k. quiet (to O) (exits_of k (fields O)) ((struct_send (shape O) all).leaving k))
