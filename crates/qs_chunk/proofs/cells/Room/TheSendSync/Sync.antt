-- A `&` to a room holds nothing of its places, so any thread may have one.
use denote.Param.Send.{IsSync, struct_sync, sendable}
use denote.RattleType.{RattleType}
use denote.Struct.Owning.{shape, to}
use Rattle.core.specs.declared.alloc.Allocator.{Ghosts}
use Rattle.qs_chunk.specs.contracts.cells.Room.{the_row, the_type}

pub sync : (X U : RattleType) (g : Ghosts U.Denot) → IsSync X → IsSync U → IsSync (the_row X U g)
sync X U g x u = let O = the_type X U g in record { shared = λ d b o κ. ((struct_sync (shape O) (search sendable, (search sendable, tt))).shared (to O d) b o κ, tt) }
