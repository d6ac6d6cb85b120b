-- A block as an interaction tree: what it asks next, and for each reply what it asks then.
use Rattle.std.specs.Prelude.{ℕ, zero, suc, ℤ, if◌then◌else◌, slice_set}
use Rattle.qs_objects.specs.declared.Request.{Request}
use Rattle.qs_program.specs.audit.Statements.{Statements, end, command, query, assign, choose, again, leave}
use Rattle.qs_program.specs.audit.Values.{Locals, expr_value, test_value, request_of}

-- n turns of a repeat's body, and then what comes after the repeat, in any kind of tree
abbrev pub turns_in : {T : Type 0} → ℕ → ((Locals → T) → Locals → T) → (Locals → T) → Locals → T
turns_in zero body next = next
turns_in (suc n) body next = body (turns_in n body next)

-- What statements ask, in any kind of tree whose nodes for a command and for a query are these.
module _ {T : Type 0} (call : Request → T → T) (query_of : Request → (ℤ → T) → T) where
  -- the tree of statements, by what comes after them and what comes after the innermost repeat
  abbrev pub meaning_in : Statements → (Locals → T) → (Locals → T) → Locals → T
  meaning_in end next leaves l = next l
  meaning_in (command c rest) next leaves l = call (request_of l c) (meaning_in rest next leaves l)
  meaning_in (query x c rest) next leaves l =
      query_of (request_of l c) (λ v. meaning_in rest next leaves (slice_set l x v))
  meaning_in (assign x e rest) next leaves l = meaning_in rest next leaves (slice_set l x (expr_value l e))
  meaning_in (choose t has_else first other rest) next leaves l =
      let later = meaning_in rest next leaves in
      if test_value l t then meaning_in first later leaves l else meaning_in other later leaves l
  meaning_in (again n body rest) next leaves l =
      let later = meaning_in rest next leaves in turns_in n (λ turn. meaning_in body turn later) later l
  meaning_in (leave rest) next leaves l = leaves l

-- over, with these variables; a command, and the rest; a query, and for each reply the rest
pub data Interaction : Type 0 where
  Done : (locals : Locals) → Interaction
  Call : (request : Request) → (next : Interaction) → Interaction
  Query : (request : Request) → (next : ℤ → Interaction) → Interaction

-- what comes next, by the variables
abbrev pub Next : Type 0
Next = Locals → Interaction

-- the tree of statements, by what comes after them and what comes after the innermost repeat
abbrev pub meaning : Statements → Next → Next → Next
meaning body next leaves l = meaning_in Call Query body next leaves l

-- the tree of a whole block
abbrev pub tree_of : Statements → Locals → Interaction
tree_of body l = meaning body Done Done l
