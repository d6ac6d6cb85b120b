-- What a handler's parts in the code mean together: its stage, its object and the chunk that it gives back.
use Rattle.std.specs.Prelude.{◌≡◌, [], Option, Some, None, IsSome}
use Rattle.qs_objects.specs.audit.Journals.{HeldState}
use Rattle.qs_objects.specs.declared.Request.{Request}
use Rattle.qs_objects.specs.declared.held.Ticket.{Ticket}
use Rattle.qs_chunk.specs.audit.Batch.{Batch}
use Rattle.qs_handler.specs.audit.Handler.{Handler, free, serves, spares, gives, away, closed}
use Rattle.qs_handler.specs.declared.mind.HandlerStage.{HandlerStage}
use Rattle.qs_handler.specs.declared.mind.HandlerStage.TheVariants as stages

-- stands where parts do not fit together
abbrev nobody : Ticket
nobody = record { client = 0; index = 0 }

abbrev pub at_home : Option HeldState → (HeldState → Handler) → Handler
at_home (Some x) stage = stage x
at_home None stage = away nobody

abbrev pub spares_chunk : Ticket → Option (Batch Request) → HeldState → Handler
spares_chunk t (Some chunk) x = spares t x chunk.capacity
spares_chunk t None x = away nobody

abbrev pub staged_handler : HandlerStage → Option HeldState → Option (Batch Request) → Handler
staged_handler stages.Free held spare = at_home held free
staged_handler (stages.Serves t) held spare = at_home held (serves t)
staged_handler (stages.Spares t) held spare = at_home held (spares_chunk t spare)
staged_handler (stages.Gives t) held spare = at_home held (gives t)
staged_handler (stages.Away t) held spare = away t
staged_handler stages.Closed held spare = at_home held closed

abbrev pub IsEmptyChunk : Option (Batch Request) → Type 0
IsEmptyChunk (Some chunk) = chunk.items ≡ []
IsEmptyChunk None = ⊥

-- the object is there but where it is away, and a chunk that is to be given back is there, and empty
abbrev pub IsTidy : HandlerStage → Option HeldState → Option (Batch Request) → Type 0
IsTidy (stages.Away t) held spare = held ≡ None
IsTidy (stages.Spares t) held spare = IsSome held × IsEmptyChunk spare
IsTidy stage held spare = IsSome held
