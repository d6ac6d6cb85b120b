-- Beside what the headline reaches (`audit/Program.antt`): what else contracts and proofs use.
use Rattle.std.specs.Prelude.{List}
use Rattle.qs_program.specs.declared.program.Declared.{Declared}
use Rattle.qs_program.specs.audit.Program.{ClientShape, ProgramShape}

abbrev pub program_of : List Declared → List ClientShape → ProgramShape
program_of objects clients = record { objects = objects; clients = clients }
