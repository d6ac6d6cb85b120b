-- Beside what the headline reaches (`audit/resolution/Resolve.antt`): what else contracts and proofs use.
use Rattle.std.specs.Prelude.{◌≡◌, List, [], ◌∷◌, None}
use Rattle.std.specs.List.{AllByRecursion}
use Rattle.qs_script.specs.declared.tree.tree.TemplateItem.{TemplateItem}
use Rattle.qs_script.specs.declared.tree.tree.Item.{Item}
use Rattle.qs_script.specs.declared.tree.tree.Item.TheVariants as items
use Rattle.qs_program.specs.audit.Numbering.{Name}
use Rattle.qs_check.specs.audit.fault_places.Places.{fault_of_text}
use Rattle.qs_check.specs.audit.fault_places.Variables.{variables_of}

-- the texts of all templates have no fault
abbrev pub AreFaultless : List TemplateItem → Type 0
AreFaultless ts = AllByRecursion (λ t. fault_of_text t ≡ None) ts

-- the variables of each client with blocks of its own, in text order
abbrev pub variable_lists : List Item → List (List Name)
variable_lists [] = []
variable_lists (items.Object o ∷ rest) = variable_lists rest
variable_lists (items.Client c ∷ rest) = variables_of c ∷ variable_lists rest
variable_lists (items.Template t ∷ rest) = variable_lists rest
variable_lists (items.Started c ∷ rest) = variable_lists rest
