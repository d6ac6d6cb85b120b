use Rattle.std.proofs.Common.{◌≡◌, ℕ, take}
use Rattle.qs_objects.specs.ByteSets.{in_byte}
use Rattle.qs_questions.specs.NamedClients.{named_clients}
use Rattle.qs_questions.proofs.clients.named_clients.Given as goal

abbrev pub invariant-loop-step : goal.invariant-loop-step
invariant-loop-step l = (c : ℕ) → in_byte l.set c ≡ named_clients l.program (take l.step-index l.condition) c
