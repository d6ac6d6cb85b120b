-- Orders that lead to one configuration go on alike. So of several orders that lead to one, also such as were found apart
-- in parts of a search, one may go on for all.
use Rattle.std.specs.Prelude.{◌≡◌, List, ◌++◌}
use Rattle.qs_objects.specs.declared.held.Ticket.{Ticket}
use Rattle.qs_program.specs.audit.Program.{ProgramShape}
use Rattle.qs_meaning.specs.audit.Configurations.{IsComplete, configuration_after}
use Rattle.qs_meaning.specs.Configurations.{outcome_of}
use Rattle.qs_meaning.specs.audit.Serial.{IsLegal}

-- The same tickets may come after the other order, and lead to the same configuration; and where the whole is complete
-- after the one, so it is after the other, and comes to the same.
pub record GoesOnAlike (p : ProgramShape) (one other rest : List Ticket) : Type 0 where
  pub legal : IsLegal p (one ++ rest) → IsLegal p (other ++ rest)
  pub there : configuration_after p (one ++ rest) ≡ configuration_after p (other ++ rest)
  pub complete : IsComplete p (one ++ rest) → IsComplete p (other ++ rest)
  pub end : IsComplete p (one ++ rest) → outcome_of p (one ++ rest) ≡ outcome_of p (other ++ rest)

-- for any two legal orders that lead to one configuration, and whatever comes after them
abbrev pub EqualConfigurationsGoOnAlike : Type 0
EqualConfigurationsGoOnAlike =
    (p : ProgramShape) (one other : List Ticket) → IsLegal p one → IsLegal p other
    → configuration_after p one ≡ configuration_after p other → (rest : List Ticket) → GoesOnAlike p one other rest
