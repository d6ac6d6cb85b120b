-- Beside what the headline reaches (`audit/Operations.antt`): what else contracts and proofs use.
use Rattle.std.specs.Prelude.{ℕ, ◌+◌, ◌==◌, Bool, List, [], filter, length}
use Rattle.qs_objects.specs.declared.Op.{Op}
use Rattle.qs_objects.specs.declared.object.Kind.{Kind}
use Rattle.qs_objects.specs.declared.object.Kind.TheVariants as kinds
use Rattle.qs_objects.specs.audit.Operations.{is_of_account, is_of_buffer, is_of_grid}

-- whether objects of a kind have the operation, whatever the kind's numbers
abbrev pub fits : Op → Kind → Bool
fits op (kinds.Account b) = is_of_account op
fits op (kinds.Buffer k) = is_of_buffer op
fits op (kinds.Grid n k) = is_of_grid op

-- how many parts a text has, with a comma between each two
abbrev pub parts : List ℕ → ℕ
parts [] = 0
parts text = 1 + length (filter (λ c. c == 44) text)
