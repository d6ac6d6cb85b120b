-- A `&` to a room holds nothing of its places. Assumes `Logic`.
use denote.RattleType.{RattleType}
use denote.Param.Laws.{Laws}
use denote.Param.Shared.{copy_shared}
use denote.SharingLaws.{nothing_shr_laws}
use denote.Struct.Field.{RawPtr-field}
use denote.Struct.Laws.{RawPtr-copy, field_copy}
use denote.Struct.Lending.{of_Lends, Lends-nothing}
use Rattle.core.specs.declared.alloc.Allocator.{Ghosts}
use Rattle.core.specs.contracts.marker.PhantomData as mark
use Rattle.qs_chunk.specs.contracts.cells.Room as T
use Rattle.qs_chunk.proofs.cells.Room.TheLaw.Statement.{statement}

pub shares : (X U : RattleType) (g : Ghosts U.Denot) (L : Laws X) (M : Laws U) → statement X U g L M
shares X U g L M =
    of_Lends (T.struct X U g) (T.the_codes X.Denot U.Denot X.coded U.coded (mark.the_row U).coded) (T.the_heap X U g) (T.the_lent X U g) (λ d p. nothing_shr_laws)
    (copy_shared RawPtr-field RawPtr-copy, (copy_shared (mark.the_field U) (field_copy (mark.the_type U) tt), tt)) (λ N 𝓤 𝓛 d p. Lends-nothing 𝓛 (T.the_heap X U g d) (T.the_row X U g).lives)
