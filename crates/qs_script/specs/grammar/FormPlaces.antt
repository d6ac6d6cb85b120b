-- Where no script goes on.
use Rattle.std.specs.Prelude.{ℕ, suc, ◌≤◌, ◌<◌, List, ◌++◌, length, take, Option, Some, None}
use Rattle.qs_script.specs.declared.tokens.token.Token.{Token}
use Rattle.qs_script.specs.declared.tree.tree.Item.{Item}
use Rattle.qs_script.specs.audit.grammar.Grammar.{IsScript}

-- some script begins with these tokens
abbrev pub BeginsScript : List Token → Type 0
BeginsScript ts = (rest : List Token) × (script : List Item) × IsScript script (ts ++ rest)

-- The place of a fault of form, told by the grammar alone: that of the first token with which no script goes on, or the
-- end. Some script begins with the tokens before it, and none with those and the token there.
pub record IsFormPlace (ts : List Token) (place : ℕ) : Type 0 where
  pub within : place ≤ length ts
  pub goes_on : BeginsScript (take place ts)
  pub stops : place < length ts → BeginsScript (take (suc place) ts) → ⊥

-- the place of the fault of form of tokens that no script has; none, where a script has them
abbrev pub IsFormPlaceOf : List Token → Option ℕ → Type 0
IsFormPlaceOf ts None = (script : List Item) × IsScript script ts
IsFormPlaceOf ts (Some place) = ((script : List Item) → IsScript script ts → ⊥) × IsFormPlace ts place
