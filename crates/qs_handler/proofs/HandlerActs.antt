-- An act of a handler loses nothing of what it had, and it takes a ticket or a parcel exactly where it asks for one. The
-- proofs of the optimised machine and of a handler's thread use these laws. Each goes by cases on the handler's state,
-- which the proof search finds from the definitions.
use Rattle.std.proofs.Common.{rules}
use Rattle.qs_handler.specs.HandlerLaws.{ActsLoseNothing, TicketsAreAskedFor, ParcelsStand}

pub acts_lose_nothing : ActsLoseNothing
acts_lose_nothing = search rules

pub tickets_are_asked_for : TicketsAreAskedFor
tickets_are_asked_for = search rules

pub parcels_stand : ParcelsStand
parcels_stand = search rules
