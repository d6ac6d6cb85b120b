-- What holds of every client's acts: what an act carries was the client's own, and what follows once it was sent does
-- not depend on it.
use Rattle.std.specs.Prelude.{◌≡◌, ℕ, List, Some}
use Rattle.qs_objects.specs.declared.held.Ticket.{Ticket}
use Rattle.qs_chunk.specs.declared.parcel.Parcel.{Parcel}
use Rattle.qs_chunk.specs.declared.parcel.Parcel.TheVariants as parcels
use Rattle.qs_client.specs.audit.rules.Client.{Client, Settings, act_of, set_chunk, set_held, after_parcel}
use Rattle.qs_client.specs.audit.rules.Outgoings.{after_send, without_act, outgoing_of}
use Rattle.qs_client.specs.declared.rules.act.Act.{Act}
use Rattle.qs_client.specs.declared.rules.act.Act.TheVariants as acts

-- what a client does once it sent a parcel is what it does without what the act carried
abbrev pub SendsAreParted : Type 0
SendsAreParted =
    (settings : Settings) (ticket : Ticket) (reserved : List ℕ) (blocks : ℕ) (m : Client) (h : ℕ) (p : Parcel)
    → act_of settings blocks m ≡ acts.Send h p
    → after_parcel settings ticket reserved m h p ≡ after_send settings ticket reserved (outgoing_of (acts.Send h p))
    (without_act m (acts.Send h p))

-- a client with what an act carries
abbrev pub with_act : Client → Act → Client
with_act m (acts.Send h (parcels.Home x)) = set_held m h (Some x)
with_act m (acts.Send h (parcels.Work c)) = set_chunk m h (Some c.items)
with_act m act = m

-- a chunk that an act carries has the size of all chunks
abbrev pub IsSizedAct : ℕ → Act → Type 0
IsSizedAct size (acts.Send h (parcels.Work c)) = c.capacity ≡ size
IsSizedAct size act = Unit {0}

-- what an act carries was the client's own, and with it the client is as it was
pub record LosesNothing (settings : Settings) (m : Client) (act : Act) : Type 0 where
  pub whole : with_act (without_act m act) act ≡ m
  pub sized : IsSizedAct settings.size act

abbrev pub ActsLoseNothing : Type 0
ActsLoseNothing = (settings : Settings) (blocks : ℕ) (m : Client) → LosesNothing settings m (act_of settings blocks m)
