-- Beside what the headline reaches (`audit/RunJson.antt`): what else contracts and proofs use.
use Rattle.std.specs.Prelude.{ℕ, List, ◌++◌, codes, decimal, length, sum_by}
use Rattle.qs_program.specs.audit.Program.{ClientShape, ProgramShape, whole_load, whole_weight}
use Rattle.qs_json.specs.audit.Pieces.{field, first_field}

-- the five counts of a program
abbrev pub counts_json : ProgramShape → List ℕ
counts_json p =
    first_field (codes "objects") (decimal (length p.objects))
    ++ field (codes "clients") (decimal (length p.clients))
    ++ field (codes "blocks") (decimal (sum_by (λ (c : ClientShape). length c.blocks) p.clients))
    ++ field (codes "load") (decimal (whole_load p))
    ++ field (codes "weight") (decimal (whole_weight p)) ++ codes "}\n"
