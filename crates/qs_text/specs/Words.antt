-- Beside what the headline reaches (`audit/Words.antt`): what else contracts and proofs use.
use Rattle.std.specs.Prelude.{ℕ, List}
use Rattle.qs_program.specs.audit.Program.{ProgramShape, declared_as}

-- a name of a client's own text: of a formal, where the client is of a template, else of an object
abbrev pub name_of : ProgramShape → (c : ℕ) → ℕ → List ℕ
name_of p c name = (declared_as p c name).name
