-- The anchors of a script, in text order: its tokens that are a name, a number, `separate` or `leave`, each with the
-- places that stand there. All other tokens only part them. A tree tells its anchors, and not all its tokens: `-0` and
-- `0` make one tree.
use Rattle.std.specs.Prelude.{◌≡◌, ℕ, suc, ◌<◌, Bool, true, false, if◌then◌else◌, List, [], ◌∷◌, ◌++◌, length, get_or, take, map, flat_map, unsigned_abs}
use Rattle.qs_script.specs.declared.tokens.token.Token.{Token}
use Rattle.qs_script.specs.declared.tree.tree.Atom.{Atom}
use Rattle.qs_script.specs.declared.tree.tree.Atom.TheVariants.{Variable, Number}
use Rattle.qs_script.specs.declared.tree.tree.Expr.{Expr}
use Rattle.qs_script.specs.declared.tree.tree.Expr.TheVariants.{Plain, Binary}
use Rattle.qs_script.specs.declared.tree.tree.Test.{Test}
use Rattle.qs_script.specs.declared.tree.tree.Call.{Call}
use Rattle.qs_script.specs.declared.tree.tree.Block.{Block}
use Rattle.qs_script.specs.declared.tree.tree.KindText.{KindText}
use Rattle.qs_script.specs.declared.tree.tree.KindText.TheVariants.{Account, Buffer, Grid}
use Rattle.qs_script.specs.declared.tree.tree.Formal.{Formal}
use Rattle.qs_script.specs.declared.tree.tree.TemplateItem.{TemplateItem}
use Rattle.qs_script.specs.declared.tree.tree.Item.{Item}
use Rattle.qs_script.specs.declared.tree.tree.Item.TheVariants.{Object, Client, Template, Started}
use Rattle.qs_script.specs.declared.tokens.token.Token.TheVariants as t
use Rattle.qs_script.specs.audit.tree.Tree.{Stmts, end, command, query, assign, choose, choose_else, again, leave}
use Rattle.qs_objects.specs.audit.Limits.{greatest_balance, most_lines, most_values}
use Rattle.qs_program.specs.audit.Limits.{most_turns}
use Rattle.qs_program.specs.audit.Numbering.{Name}
use Rattle.qs_check.specs.audit.fault_places.Places.{TextPlace, object, number, client, separate, listed, target, operation_places, variable, leaves, starts, given, formal_kind, kind_of}
use Rattle.qs_check.specs.declared.anchors.anchor.Anchor.{Anchor}
use Rattle.qs_check.specs.declared.anchors.anchor.Anchor.TheVariants as m

-- the token that an anchor is
abbrev pub anchor_token : Anchor → Token
anchor_token (m.Object n kind) = t.Name n
anchor_token (m.Range low high n) = t.Number n
anchor_token (m.Client n) = t.Name n
anchor_token m.Separate = t.Separate
anchor_token (m.Listed o) = t.Name o
anchor_token (m.Target o) = t.Name o
anchor_token (m.Operation asks o op n) = t.Name op
anchor_token (m.Variable x) = t.Name x
anchor_token (m.Value z) = t.Number (unsigned_abs z)
anchor_token (m.Leave inside) = t.Leave
anchor_token (m.Template n) = t.Name n
anchor_token (m.Starts n count) = t.Name n
anchor_token (m.Given n i o) = t.Name o

-- the places that stand at an anchor. Nothing can be wrong with a number among the values; a template's name is met
-- with its formals
abbrev pub anchor_places : Anchor → List TextPlace
anchor_places (m.Object n kind) = object n kind ∷ []
anchor_places (m.Range low high n) = number low high n ∷ []
anchor_places (m.Client n) = client n ∷ []
anchor_places m.Separate = separate ∷ []
anchor_places (m.Listed o) = listed o ∷ []
anchor_places (m.Target o) = target o ∷ []
anchor_places (m.Operation asks o op n) = operation_places asks o op n
anchor_places (m.Variable x) = variable x ∷ []
anchor_places (m.Leave inside) = leaves inside ∷ []
anchor_places (m.Starts n count) = starts n count ∷ []
anchor_places (m.Given n i o) = given n i o ∷ []
anchor_places _ = []

abbrev pub is_anchor : Token → Bool
is_anchor (t.Name n) = true
is_anchor (t.Number n) = true
is_anchor t.Separate = true
is_anchor t.Leave = true
is_anchor _ = false

-- the anchors among some tokens
abbrev pub anchors_in : List Token → List Token
anchors_in ts = flat_map (λ t. if is_anchor t then t ∷ [] else []) ts

-- the anchor of a number, counted from 0, stands at a place among some tokens
pub record IsAnchorAt (ts : List Token) (number place : ℕ) : Type 0 where
  pub within : place < length ts
  pub anchor : is_anchor (get_or ts place t.Semicolon) ≡ true
  pub before : length (anchors_in (take place ts)) ≡ number

abbrev pub atom_anchor : Atom → Anchor
atom_anchor (Variable x) = m.Variable x
atom_anchor (Number z) = m.Value z

abbrev pub expr_anchors : Expr → List Anchor
expr_anchors (Plain a) = atom_anchor a ∷ []
expr_anchors (Binary a op b) = atom_anchor a ∷ atom_anchor b ∷ []

abbrev pub test_anchors : Test → List Anchor
test_anchors t = atom_anchor t.left ∷ atom_anchor t.right ∷ []

-- a request: a query asks, a command does not
abbrev pub call_anchors : Bool → Call → List Anchor
call_anchors asks c = m.Target c.object ∷ m.Operation asks c.object c.op (length c.args) ∷ map atom_anchor c.args

-- the anchors of statements, inside a repeat or not
abbrev pub anchors : Bool → Stmts → List Anchor
anchors inside end = []
anchors inside (command c rest) = call_anchors false c ++ anchors inside rest
anchors inside (query x c rest) = m.Variable x ∷ (call_anchors true c ++ anchors inside rest)
anchors inside (assign x e rest) = m.Variable x ∷ (expr_anchors e ++ anchors inside rest)
anchors inside (choose t first rest) = test_anchors t ++ (anchors inside first ++ anchors inside rest)
anchors inside (choose_else t first other rest) =
    test_anchors t ++ (anchors inside first ++ (anchors inside other ++ anchors inside rest))
anchors inside (again n body rest) = m.Range 0 most_turns n ∷ (anchors true body ++ anchors inside rest)
anchors inside (leave rest) = m.Leave inside ∷ anchors inside rest

abbrev pub block_anchors : Block → List Anchor
block_anchors b = m.Separate ∷ (map m.Listed b.reserved ++ anchors false b.body)

abbrev pub blocks_anchors : List Block → List Anchor
blocks_anchors bs = flat_map block_anchors bs

abbrev pub kind_anchors : KindText → List Anchor
kind_anchors (Account n) = m.Range 0 greatest_balance n ∷ []
kind_anchors (Buffer n) = m.Range 1 most_values n ∷ []
kind_anchors (Grid r c) = m.Range 1 most_lines r ∷ m.Range 1 most_lines c ∷ []

abbrev pub formal_anchor : Formal → Anchor
formal_anchor f = m.Object f.name (formal_kind f.kind)

-- a template's formals and blocks
abbrev pub text_anchors : TemplateItem → List Anchor
text_anchors t = map formal_anchor t.formals ++ blocks_anchors t.blocks

-- the objects that are given for the formals from a place on
abbrev pub given_anchors : Name → ℕ → List Name → List Anchor
given_anchors n i [] = []
given_anchors n i (o ∷ os) = m.Given n i o ∷ given_anchors n (suc i) os

abbrev pub item_anchors : Item → List Anchor
item_anchors (Object o) = m.Object o.name (kind_of o.kind) ∷ kind_anchors o.kind
item_anchors (Client c) = m.Client c.name ∷ blocks_anchors c.blocks
item_anchors (Template t) = m.Template t.name ∷ text_anchors t
item_anchors (Started c) =
    m.Client c.name ∷ m.Starts c.template (length c.objects) ∷ given_anchors c.template 0 c.objects

-- the anchors of a whole script
abbrev pub script_anchors : List Item → List Anchor
script_anchors items = flat_map item_anchors items
