-- The clients before this number are there.
use Rattle.qs_dot.proofs.Common.{◌≡◌, ◌++◌, texts_up_to, client_text}
use Rattle.qs_dot.proofs.end_text.put_clients.Given as goal

abbrev pub invariant-loop-client : goal.invariant-loop-client
invariant-loop-client l = l.out.items ≡ l.initial.out.items ++ texts_up_to l.client (client_text l.program l.standing)
