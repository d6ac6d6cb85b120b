-- What a handler does next.
use Rattle.std.specs.Prelude.{ℕ, Bool, true, false, [], Option, Some, None}
use Rattle.qs_objects.specs.audit.Journals.{HeldState}
use Rattle.qs_objects.specs.declared.held.Next.{Next}
use Rattle.qs_objects.specs.declared.held.Next.TheVariants as nexts
use Rattle.qs_objects.specs.declared.held.Ticket.{Ticket}
use Rattle.qs_chunk.specs.audit.Batch.{batch}
use Rattle.qs_chunk.specs.audit.Runs.{ran_all}
use Rattle.qs_chunk.specs.declared.parcel.Parcel.{Parcel}
use Rattle.qs_chunk.specs.declared.parcel.Parcel.TheVariants.{Work, Sync, Home, End}
use Rattle.qs_handler.specs.declared.mind.Act.{Act}
use Rattle.qs_handler.specs.declared.mind.Act.TheVariants as acts

-- a handler: free; serving a block; with an empty chunk to give back; with its object to give; without it; and closed
pub data Handler : Type 0 where
  free : (held : HeldState) → Handler
  serves : (ticket : Ticket) → (held : HeldState) → Handler
  spares : (ticket : Ticket) → (held : HeldState) → (capacity : ℕ) → Handler
  gives : (ticket : Ticket) → (held : HeldState) → Handler
  away : (ticket : Ticket) → Handler
  closed : (held : HeldState) → Handler

-- what it does next
abbrev pub act_of : Handler → Act
act_of (free x) = acts.TakeTicket
act_of (serves t x) = acts.TakeParcel t.client
act_of (spares t x n) = acts.Spare t.client (batch [] n)
act_of (gives t x) = acts.Give t.client x
act_of (away t) = acts.TakeParcel t.client
act_of (closed x) = acts.Closed

-- what stays behind once that act was handed out: the empty chunk, or the object, went with it
abbrev pub gave : Handler → Handler
gave (spares t x n) = serves t x
gave (gives t x) = away t
gave h = h

-- with the next ticket, or the word that none comes, where it asks for one
abbrev pub accept_next : Handler → Next → Option Handler
accept_next (free x) (nexts.Ticket t) = Some (serves t x)
accept_next (free x) nexts.Closed = Some (closed x)
accept_next h next = None

-- with a parcel of the block that it serves, where the parcel may stand there
abbrev pub accept_parcel : Handler → Parcel → Option Handler
accept_parcel (serves t x) (Work chunk) = Some (spares t (ran_all x t chunk.items) chunk.capacity)
accept_parcel (serves t x) Sync = Some (gives t x)
accept_parcel (serves t x) End = Some (free x)
accept_parcel (away t) (Home x) = Some (serves t x)
accept_parcel h parcel = None

abbrev pub is_free : Handler → Bool
is_free (free x) = true
is_free (serves t x) = false
is_free (spares t x n) = false
is_free (gives t x) = false
is_free (away t) = false
is_free (closed x) = false
