-- A handler that serves a block is in that stage in the code, and has its object.
use Rattle.std.proofs.Common.{◌≡◌, Option, Some, rules}
use Rattle.qs_objects.specs.audit.Journals.{HeldState}
use Rattle.qs_objects.specs.declared.Request.{Request}
use Rattle.qs_objects.specs.declared.held.Ticket.{Ticket}
use Rattle.qs_chunk.specs.audit.Batch.{Batch}
use Rattle.qs_handler.specs.audit.Handler.{serves}
use Rattle.qs_handler.specs.Stages.{staged_handler}
use Rattle.qs_handler.specs.declared.mind.HandlerStage.{HandlerStage}

pub serves_with : (s : HandlerStage) (held : Option HeldState) (spare : Option (Batch Request)) (t : Ticket) (x : HeldState) → staged_handler s held spare ≡ serves t x → held ≡ Some x
serves_with s held spare t x e = search rules

pub one_object : (o : Option HeldState) (y x : HeldState) → o ≡ Some y → o ≡ Some x → y ≡ x
one_object o y x e f = cc
