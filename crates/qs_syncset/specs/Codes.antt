-- Beside what the headline reaches (`audit/Codes.antt`): what else contracts and proofs use.
use Rattle.std.specs.Prelude.{ℕ}
use Rattle.qs_program.specs.audit.Program.{ProgramShape}
use Rattle.qs_program.specs.Sound.{IsSound}
use Rattle.qs_syncset.specs.declared.mode.Mode.{Mode}
use Rattle.qs_syncset.specs.audit.Codes.{ClientCode, IsCodeOf}

-- the code of some client of some checked program
pub record IsCode (code : ClientCode) : Type 0 where
  pub program : ProgramShape
  pub mode : Mode
  pub client : ℕ
  pub sound : IsSound program
  pub of : IsCodeOf program mode client code
