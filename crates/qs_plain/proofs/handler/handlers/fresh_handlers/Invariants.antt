use Rattle.std.proofs.Common.{◌≡◌, ◌<◌, ℕ, length, get_or}
use Rattle.qs_plain.specs.handler.Beginning.{idle}
use Rattle.qs_plain.specs.handler.Served.{HandlerState}
use Rattle.qs_plain.proofs.handler.handlers.fresh_handlers.Given as goal

abbrev pub invariant-loop-object : goal.invariant-loop-object
invariant-loop-object l = record {
  many : length l.handlers.items ≡ l.object;
  each : (h : ℕ) (d : HandlerState) → h < l.object → get_or l.handlers.items h d ≡ idle l.program l.room h;
}
