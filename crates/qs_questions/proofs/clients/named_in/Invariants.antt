use Rattle.std.proofs.Common.{◌≡◌, ℕ, take}
use Rattle.qs_objects.specs.ByteSets.{in_byte}
use Rattle.qs_questions.specs.NamedClients.{is_named}
use Rattle.qs_questions.proofs.clients.named_in.Given as goal

abbrev pub invariant-loop-summand : goal.invariant-loop-summand
invariant-loop-summand l = (c : ℕ) → in_byte l.set c ≡ is_named l.program (take l.summand-index l.sum) c
