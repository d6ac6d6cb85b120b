-- A handler's run: all that it did, one thing after another.
use Rattle.std.specs.Prelude.{◌≡◌, ℕ, ◌==◌, if◌then◌else◌, List, [], ◌∷◌, Some}
use Rattle.qs_objects.specs.audit.Journals.{HeldState}
use Rattle.qs_objects.specs.declared.held.Next.{Next}
use Rattle.qs_objects.specs.declared.Request.{Request}
use Rattle.qs_chunk.specs.audit.Batch.{Batch}
use Rattle.qs_chunk.specs.declared.parcel.Parcel.{Parcel}
use Rattle.qs_handler.specs.audit.Handler.{Handler, act_of, gave, accept_next, accept_parcel}
use Rattle.qs_handler.specs.declared.mind.Act.TheVariants as acts

-- it took what its queue of tickets had next, or a parcel of a client's lane, or gave a client its object or an empty
-- chunk
pub data Task : Type 0 where
  takes : (next : Next) → Task
  receives : (client : ℕ) → (parcel : Parcel) → Task
  gives : (client : ℕ) → (held : HeldState) → Task
  spares : (client : ℕ) → (chunk : Batch Request) → Task

-- these tasks, each of which the handler was asked to do, lead it from one state to another
abbrev pub TasksLead : Handler → List Task → Handler → Type 0
TasksLead h [] end = h ≡ end
TasksLead h (takes next ∷ tasks) end = (new : Handler) × (accept_next h next ≡ Some new) × TasksLead new tasks end
TasksLead h (receives c parcel ∷ tasks) end =
    (new : Handler) × (act_of h ≡ acts.TakeParcel c) × (accept_parcel h parcel ≡ Some new) × TasksLead new tasks end
TasksLead h (gives c x ∷ tasks) end = (act_of h ≡ acts.Give c x) × TasksLead (gave h) tasks end
TasksLead h (spares c chunk ∷ tasks) end = (act_of h ≡ acts.Spare c chunk) × TasksLead (gave h) tasks end

-- the parcels that it received from a client, and the objects that it gave to it
abbrev pub received_from : ℕ → List Task → List Parcel
received_from client [] = []
received_from client (takes next ∷ tasks) = received_from client tasks
received_from client (receives c parcel ∷ tasks) =
    if c == client then parcel ∷ received_from client tasks else received_from client tasks
received_from client (gives c x ∷ tasks) = received_from client tasks
received_from client (spares c chunk ∷ tasks) = received_from client tasks

abbrev pub given_to : ℕ → List Task → List HeldState
given_to client [] = []
given_to client (takes next ∷ tasks) = given_to client tasks
given_to client (receives c parcel ∷ tasks) = given_to client tasks
given_to client (gives c x ∷ tasks) = if c == client then x ∷ given_to client tasks else given_to client tasks
given_to client (spares c chunk ∷ tasks) = given_to client tasks

-- what it took from its queue of tickets, in order
abbrev pub taken_by : List Task → List Next
taken_by [] = []
taken_by (takes next ∷ tasks) = next ∷ taken_by tasks
taken_by (receives c parcel ∷ tasks) = taken_by tasks
taken_by (gives c x ∷ tasks) = taken_by tasks
taken_by (spares c chunk ∷ tasks) = taken_by tasks
