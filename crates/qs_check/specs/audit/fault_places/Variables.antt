-- The variables of a client: those that the places of its blocks name.
use Rattle.std.specs.Prelude.{List, [], ◌∷◌}
use Rattle.qs_script.specs.declared.tree.tree.ClientItem.{ClientItem}
use Rattle.qs_program.specs.audit.Numbering.{Name, with_name}
use Rattle.qs_check.specs.audit.fault_places.Places.{TextPlace, object, number, client, separate, listed, target, operation, arguments, variable, leaves, template, text, starts, given, blocks_places}

-- the client's variables after these places, in the order of their first appearance; a new client has none yet
abbrev pub variables_at : List Name → List TextPlace → List Name
variables_at names [] = names
variables_at names (object n kind ∷ ps) = variables_at names ps
variables_at names (number low high n ∷ ps) = variables_at names ps
variables_at names (client n ∷ ps) = variables_at [] ps
variables_at names (separate ∷ ps) = variables_at names ps
variables_at names (listed o ∷ ps) = variables_at names ps
variables_at names (target o ∷ ps) = variables_at names ps
variables_at names (operation asks o op ∷ ps) = variables_at names ps
variables_at names (arguments asks o op n ∷ ps) = variables_at names ps
variables_at names (variable x ∷ ps) = variables_at (with_name names x) ps
variables_at names (leaves inside ∷ ps) = variables_at names ps
variables_at names (template n formals ∷ ps) = variables_at names ps
variables_at names (text fault ∷ ps) = variables_at names ps
variables_at names (starts n count ∷ ps) = variables_at names ps
variables_at names (given n i o ∷ ps) = variables_at names ps

abbrev pub variables_of : ClientItem → List Name
variables_of c = variables_at [] (blocks_places c.blocks)
