-- The operation that a kind of object has under a word.
use Rattle.std.specs.Prelude.{Bool, true, false, if◌then◌else◌, List, [], ◌∷◌, Option, Some, None, unwrap_or}
use Rattle.qs_objects.specs.audit.Operations.{is_query, operations_of, word}
use Rattle.qs_objects.specs.declared.Op.{Op}
use Rattle.qs_objects.specs.declared.Op.TheVariants.{Refused}
use Rattle.qs_objects.specs.declared.object.Kind.{Kind}
use Rattle.qs_program.specs.audit.Numbering.{Name, same_name}

-- a query where one is asked, else a command
abbrev pub is_meant : (asks : Bool) → Op → Bool
is_meant true op = is_query op
is_meant false op = if is_query op then false else true

-- the first query, or the first command, of a list that has the word
abbrev pub called : (asks : Bool) → Name → List Op → Option Op
called asks w [] = None
called asks w (op ∷ ops) =
    if is_meant asks op then if same_name w (word op) then Some op else called asks w ops else called asks w ops

-- the command, or the query, that a kind has under a word
abbrev pub op_of : (asks : Bool) → Kind → Name → Option Op
op_of asks kind w = called asks w (operations_of kind)

-- the operation, where it is known that there is one
abbrev pub op_or_refused : Option Op → Op
op_or_refused found = unwrap_or found Refused
