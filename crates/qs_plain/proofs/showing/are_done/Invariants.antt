use Rattle.std.proofs.Common.{◌≡◌, ◌&&◌, map, drop}
use Rattle.qs_program.specs.audit.Program.{ProgramShape}
use Rattle.qs_plain_laws.specs.audit.PlainSchedule.{all_done}
use Rattle.qs_plain.proofs.Names.{client_of_state, AreOwn}
use Rattle.qs_plain.proofs.showing.are_done.Given as goal

abbrev pub invariant-loop-client : goal.invariant-loop-client
invariant-loop-client l = (p : ProgramShape) → AreOwn p l.clients → (l.done && all_done p l.client-index (map client_of_state (drop l.client-index l.clients))) ≡ all_done p 0 (map client_of_state l.clients)
