-- How a proof tells programs apart.
use Rattle.std.specs.Prelude.{refl, ℕ, List, Option}
use Rattle.std.specs.Coded.{Coded, code_by, codes, coded×, coded_list, coded_option, coded_ℕ}
use Rattle.qs_program.specs.audit.Statements.{Statements}
use Rattle.qs_program.specs.StatementsCode.{statements_code}
use Rattle.qs_program.specs.declared.program.Declared.{Declared}
use Rattle.qs_program.specs.audit.Numbering.{Name}
use Rattle.qs_program.specs.audit.Program.{BlockShape, ClientShape, ProgramShape, StartShape}

abbrev pub name_code : Coded Name
name_code = coded_list coded_ℕ

pub object_code : Coded Declared
object_code = hlevel codes

abbrev pub block_code : Coded BlockShape
block_code =
    code_by (List ℕ × Statements) (coded× (coded_list coded_ℕ) statements_code) (λ b. (
      b.reserved,
      b.body,
    )) (λ p. record { reserved = p.0; body = p.1 }) (λ _. refl)

abbrev pub start_code : Coded StartShape
start_code =
    code_by (List Declared × (List ℕ × List BlockShape))
    (coded× (coded_list object_code) (coded× (coded_list coded_ℕ) (coded_list block_code))) (λ s. (
      s.formals,
      (s.binding, s.blocks),
    )) (λ p. record { formals = p.0; binding = p.1.0; blocks = p.1.1 }) (λ _. refl)

abbrev pub client_code : Coded ClientShape
client_code =
    code_by (Name × (List Name × (List BlockShape
    × Option StartShape))) (coded× name_code (coded× (coded_list name_code)
    (coded× (coded_list block_code) (coded_option start_code)))) (λ c. (
      c.name,
      (c.variables, (c.blocks, c.start)),
    )) (λ p. record {
      name = p.0;
      variables = p.1.0;
      blocks = p.1.1.0;
      start = p.1.1.1;
    }) (λ _. refl)

abbrev pub program_code : Coded ProgramShape
program_code =
    code_by (List Declared × List ClientShape) (coded× (coded_list object_code) (coded_list client_code))
    (λ p. (p.objects, p.clients)) (λ p. record { objects = p.0; clients = p.1 }) (λ _. refl)
