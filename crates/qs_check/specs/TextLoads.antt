-- The loads and weights of a script's text, by the names that are written there.
use Rattle.std.specs.Prelude.{ℕ, ◌+◌, ◌*◌, max, if◌then◌else◌, List, [], ◌∷◌, sum_by}
use Rattle.qs_script.specs.declared.tree.tree.Block.{Block}
use Rattle.qs_script.specs.declared.tree.tree.TemplateItem.{TemplateItem}
use Rattle.qs_script.specs.declared.tree.tree.Item.{Item}
use Rattle.qs_script.specs.declared.tree.tree.Item.TheVariants.{Object, Client, Template, Started}
use Rattle.qs_script.specs.audit.tree.Tree.{Stmts, end, command, query, assign, choose, choose_else, again, leave}
use Rattle.qs_program.specs.audit.Loads.{weight_of}
use Rattle.qs_program.specs.audit.Numbering.{Name, same_name}
use Rattle.qs_program.specs.audit.Program.{block_load}
use Rattle.qs_check.specs.audit.resolution.Resolve.{started_of, template_called}

-- the most requests on an object
abbrev pub requests_on : Name → Stmts → ℕ
requests_on o end = 0
requests_on o (command c rest) = (if same_name c.object o then 1 else 0) + requests_on o rest
requests_on o (query x c rest) = (if same_name c.object o then 1 else 0) + requests_on o rest
requests_on o (assign x e rest) = requests_on o rest
requests_on o (choose t first rest) = requests_on o first + requests_on o rest
requests_on o (choose_else t first other rest) = max (requests_on o first) (requests_on o other) + requests_on o rest
requests_on o (again n body rest) = n * requests_on o body + requests_on o rest
requests_on o (leave rest) = requests_on o rest

-- the most steps; a repeat's empty body counts 1
abbrev pub steps_in : Stmts → ℕ
steps_in end = 0
steps_in (command c rest) = 1 + steps_in rest
steps_in (query x c rest) = 1 + steps_in rest
steps_in (assign x e rest) = 1 + steps_in rest
steps_in (choose t first rest) = 1 + steps_in first + steps_in rest
steps_in (choose_else t first other rest) = 1 + max (steps_in first) (steps_in other) + steps_in rest
steps_in (again n body rest) = 1 + n * max 1 (steps_in body) + steps_in rest
steps_in (leave rest) = 1 + steps_in rest

-- a block's load is counted for the objects of its list
abbrev pub text_block_load : Block → ℕ
text_block_load b = sum_by (λ o. requests_on o b.body) b.reserved

-- over all blocks of all clients; of a client of a template its blocks count once each formal stands for its object,
-- and a template itself counts nothing
abbrev pub text_load : List TemplateItem → List Name → List Item → ℕ
text_load templates objects [] = 0
text_load templates objects (Object o ∷ rest) = text_load templates objects rest
text_load templates objects (Client c ∷ rest) = sum_by text_block_load c.blocks + text_load templates objects rest
text_load templates objects (Template t ∷ rest) = text_load templates objects rest
text_load templates objects (Started c ∷ rest) =
    sum_by block_load (started_of objects (template_called templates c.template) c).blocks
    + text_load templates objects rest

abbrev pub text_weight : List TemplateItem → List Name → List Item → ℕ
text_weight templates objects [] = 0
text_weight templates objects (Object o ∷ rest) = text_weight templates objects rest
text_weight templates objects (Client c ∷ rest) =
    sum_by (λ b. steps_in b.body) c.blocks + text_weight templates objects rest
text_weight templates objects (Template t ∷ rest) = text_weight templates objects rest
text_weight templates objects (Started c ∷ rest) =
    sum_by (λ b. weight_of b.body) (started_of objects (template_called templates c.template) c).blocks
    + text_weight templates objects rest
