-- Beside what the headline reaches (`audit/Parts.antt`): what else contracts and proofs use.
use Rattle.std.specs.Prelude.{ℕ, ◌==◌, List, Option}
use Rattle.std.specs.List.{slice_split}
use Rattle.qs_line.specs.declared.parts.Part.{Part}
use Rattle.qs_line.specs.audit.Parts.{each_in, clients_in}

-- lists of clients that are joined by colons
abbrev pub orders_in : List ℕ → Option (List (List Part))
orders_in text = each_in clients_in (slice_split (λ byte. byte == 58) text)
