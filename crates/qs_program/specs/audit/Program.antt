-- Checked programs, as callers see them: everything by its number.
use Rattle.std.specs.Prelude.{ℕ, Bool, true, false, List, [], Option, Some, None, slice_index_or, length, pos, sum_by}
use Rattle.qs_objects.specs.declared.object.Kind.TheVariants.{Account}
use Rattle.qs_objects.specs.declared.held.Ticket.{Ticket}
use Rattle.qs_program.specs.declared.program.Declared.{Declared}
use Rattle.qs_program.specs.audit.Numbering.{Name}
use Rattle.qs_program.specs.audit.Statements.{Statements, end}
use Rattle.qs_program.specs.audit.Loads.{load_of, weight_of}

-- the objects that the block reserves, in the order of its list, and its statements
pub record BlockShape : Type 0 where
  pub reserved : List ℕ
  pub body : Statements

-- what a client of a template was started with: the template's formal names with their kinds, for each formal its
-- object, and the template's blocks, whose lists and statements name formals by their numbers
pub record StartShape : Type 0 where
  pub formals : List Declared
  pub binding : List ℕ
  pub blocks : List BlockShape

-- the blocks name objects by their numbers; `start` is there where the client is of a template
pub record ClientShape : Type 0 where
  pub name : Name
  pub variables : List Name
  pub blocks : List BlockShape
  pub start : Option StartShape

pub record ProgramShape : Type 0 where
  pub objects : List Declared
  pub clients : List ClientShape

abbrev pub no_object : Declared
no_object = record { name = []; kind = Account (pos 0) }

abbrev pub no_block : BlockShape
no_block = record { reserved = []; body = end }

abbrev pub no_client : ClientShape
no_client = record { name = []; variables = []; blocks = []; start = None }

abbrev pub object_at : ProgramShape → ℕ → Declared
object_at p h = slice_index_or p.objects h no_object

abbrev pub client_at : ProgramShape → ℕ → ClientShape
client_at p c = slice_index_or p.clients c no_client

abbrev pub block_at : ProgramShape → ℕ → ℕ → BlockShape
block_at p c k = slice_index_or (client_at p c).blocks k no_block

-- how many blocks a client has
abbrev pub blocks_of : ProgramShape → ℕ → ℕ
blocks_of p c = length (client_at p c).blocks

-- whether a client is of a template, so that two names of its blocks may stand for one object
abbrev pub is_started : Option StartShape → Bool
is_started None = false
is_started (Some s) = true

-- the objects that its names stand for; none where a name is the number of its object
abbrev pub binding_in : Option StartShape → List ℕ
binding_in None = []
binding_in (Some s) = s.binding

abbrev pub binding_of : ProgramShape → ℕ → List ℕ
binding_of p c = binding_in (client_at p c).start

-- a block as the client's text has it, with its own names
abbrev pub own_in : Option StartShape → ℕ → BlockShape → BlockShape
own_in None k b = b
own_in (Some s) k b = slice_index_or s.blocks k no_block

abbrev pub own_block : ProgramShape → ℕ → ℕ → BlockShape
own_block p c k = own_in (client_at p c).start k (block_at p c k)

-- what a client's own text may name: the formals of its template, or the objects
abbrev pub declarations_in : List Declared → Option StartShape → List Declared
declarations_in objects None = objects
declarations_in objects (Some s) = s.formals

abbrev pub declarations_of : ProgramShape → ℕ → List Declared
declarations_of p c = declarations_in p.objects (client_at p c).start

abbrev pub declared_as : ProgramShape → ℕ → ℕ → Declared
declared_as p c name = slice_index_or (declarations_of p c) name no_object

-- the text of a ticket's block: the one function through which a block's list and statements are read
abbrev pub text_of : ProgramShape → Ticket → BlockShape
text_of p t = block_at p t.client t.index

-- a block's load is counted for the objects of its list
abbrev pub block_load : BlockShape → ℕ
block_load b = sum_by (load_of b.body) b.reserved

abbrev pub whole_load : ProgramShape → ℕ
whole_load p = sum_by (λ c. sum_by block_load c.blocks) p.clients

abbrev pub whole_weight : ProgramShape → ℕ
whole_weight p = sum_by (λ c. sum_by (λ b. weight_of b.body) c.blocks) p.clients
