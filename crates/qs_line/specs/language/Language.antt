-- The page on the language: a head, each kind of object under its title with a line for each of its operations, and a
-- tail. The words that explain are free, but within their lines.
use Rattle.std.specs.Prelude.{◌≡◌, ℕ, pos, true, ◌+◌, ◌-◌, ◌==◌, not, if◌then◌else◌, List, [], ◌∷◌, ◌++◌, length, take, drop, replicate, codes}
use Rattle.std.specs.List.{list_all}
use Rattle.qs_objects.specs.audit.Operations.{arity, is_query, operations_of, word}
use Rattle.qs_objects.specs.Operations.{parts}
use Rattle.qs_objects.specs.declared.Op.{Op}
use Rattle.qs_objects.specs.declared.object.Kind.{Kind}
use Rattle.qs_objects.specs.declared.object.Kind.TheVariants.{Account, Buffer, Grid}

abbrev pub BeginsWith : (start text : List ℕ) → Type 0
BeginsWith start text = take (length start) text ≡ start

abbrev pub EndsWith : (end text : List ℕ) → Type 0
EndsWith end text = drop (length text - length end) text ≡ end

-- no line ends in the text
abbrev pub IsWithinLine : List ℕ → Type 0
IsWithinLine text = list_all (λ byte. not (byte == 10)) text ≡ true

-- what a declaration of an object of a kind has after the object's name
abbrev pub declaration : Kind → List ℕ
declaration (Account b) = codes "account N"
declaration (Buffer k) = codes "buffer N"
declaration (Grid n k) = codes "grid R C"

-- an empty line, and how an object of the kind is declared, with some words after it
abbrev pub title : Kind → (explained : List ℕ) → List ℕ
title kind explained = codes "\n  " ++ declaration kind ++ codes ", " ++ explained ++ codes "\n"

-- the words begin in one column
abbrev pub spaces_after : (written : ℕ) → List ℕ
spaces_after written = replicate (24 - written) 32

-- an operation as a request has it after the name of its object and a point
abbrev pub call : Op → (parameters : List ℕ) → List ℕ
call op parameters =
    codes "    " ++ word op ++ codes "(" ++ parameters ++ codes ")"
    ++ spaces_after (length (word op) + length parameters)

-- whether it is a query or a command
abbrev pub sort_of : Op → List ℕ
sort_of op = if is_query op then codes "query    " else codes "command  "

-- a line of an operation: how it is called, with as many parameters as it takes, its sort, and some words
pub record AddsLineOf (op : Op) (old new : List ℕ) : Type 0 where
  pub parameters : List ℕ
  pub explained : List ℕ
  pub as_many : parts parameters ≡ arity op
  pub within_line : IsWithinLine explained
  pub line : new ≡ old ++ call op parameters ++ sort_of op ++ explained ++ codes "\n"

-- a line of each of these operations, one after another
abbrev pub AddsLinesOf : List Op → (old new : List ℕ) → Type 0
AddsLinesOf [] old new = new ≡ old
AddsLinesOf (op ∷ ops) old new = (middle : List ℕ) × AddsLineOf op old middle × AddsLinesOf ops middle new

-- the title of a kind, and a line of each of its operations
pub record AddsKind (kind : Kind) (old new : List ℕ) : Type 0 where
  pub explained : List ℕ
  pub within_line : IsWithinLine explained
  pub lines : AddsLinesOf (operations_of kind) (old ++ title kind explained) new

-- the text before the kinds
pub record IsHead (head : List ℕ) : Type 0 where
  pub begins : BeginsWith (codes "The language of scripts\n\nA script declares objects, and clients that use") head
  pub names_kinds : EndsWith (codes "\nKinds of objects, and their operations:\n") head

-- the text after them
pub record IsTail (tail : List ℕ) : Type 0 where
  pub begins : BeginsWith (codes "\nWhich client comes first is for the schedule to say,") tail
  pub names_helps : EndsWith (codes "`qs --help` says what can be done with a script, and `qs WORD --help` its limits.\n")
      tail

-- a head, each kind with its operations, and a tail
pub record IsLanguagePage (page : List ℕ) : Type 0 where
  pub head : List ℕ
  pub accounts : List ℕ
  pub buffers : List ℕ
  pub grids : List ℕ
  pub tail : List ℕ
  pub beginning : IsHead head
  pub account : AddsKind (Account (pos 0)) head accounts
  pub buffer : AddsKind (Buffer (pos 1)) accounts buffers
  pub grid : AddsKind (Grid (pos 1) (pos 1)) buffers grids
  pub end : IsTail tail
  pub whole : page ≡ grids ++ tail
