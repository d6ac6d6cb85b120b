-- The handlers that the blocks of a program reserve, as the desk keeps them.
use Rattle.std.specs.Prelude.{ℕ, List, map}
use Rattle.qs_program.specs.audit.Program.{BlockShape, ClientShape, ProgramShape}

abbrev pub list_of : BlockShape → List ℕ
list_of b = b.reserved

abbrev pub lists_of_client : ClientShape → List (List ℕ)
lists_of_client c = map list_of c.blocks

-- for each client and each of its blocks the list of the block
abbrev pub lists_of_program : ProgramShape → List (List (List ℕ))
lists_of_program p = map lists_of_client p.clients
