use Rattle.std.proofs.Common.{◌≡◌, ◌<◌, ℕ, [], length, get_or}
use Rattle.qs_handler.specs.audit.Handler.{free}
use Rattle.qs_played.specs.audit.JournalRooms.{fresh_held}
use Rattle.qs_core.specs.parts.CoreHandlers.{CoreHandlerState, handler_with}
use Rattle.qs_core.proofs.core_machine.fresh_handlers.Given as goal

abbrev pub invariant-loop-object : goal.invariant-loop-object
invariant-loop-object l = record {
  many : length l.handlers.items ≡ l.object;
  each : (h : ℕ) (d : CoreHandlerState) → h < l.object → get_or l.handlers.items h d ≡ handler_with (free (fresh_held l.program h)) [] l.room;
}
