-- What the definitions of anchors have to say of the grammar and of the check.
use Rattle.std.specs.Prelude.{◌≡◌, ◌<◌, ℕ, List, length, map, Some, option_map}
use Rattle.qs_script.specs.declared.tokens.token.Token.{Token}
use Rattle.qs_script.specs.declared.tree.tree.Item.{Item}
use Rattle.qs_script.specs.audit.grammar.Grammar.{IsScript}
use Rattle.qs_check.specs.audit.fault_places.Places.{fault_in, scope_or_fault, script_places, start}
use Rattle.qs_check.specs.declared.anchors.finding.Anchored.{Anchored}
use Rattle.qs_check.specs.anchors.Anchors.{anchor_token, anchors_in, script_anchors}
use Rattle.qs_check.specs.anchors.Anchored.{first_anchored}
use Rattle.qs_check.specs.anchors.Blocks.{block_number}

-- the anchors of a script are those of its tokens
abbrev pub AnchorsAreTokens : Type 0
AnchorsAreTokens =
    (items : List Item) (ts : List Token) → IsScript items ts → anchors_in ts ≡ map anchor_token (script_anchors items)

-- the first fault that stands at an anchor is the first fault of the script's places, in text order
abbrev pub FirstIsFirst : Type 0
FirstIsFirst =
    (items : List Item) → option_map (λ anchored. anchored.fault) (first_anchored items)
    ≡ fault_in (scope_or_fault start (script_places items))

-- it stands at one of the script's anchors
abbrev pub FirstIsAnAnchor : Type 0
FirstIsAnAnchor =
    (items : List Item) (anchored : Anchored) → first_anchored items ≡ Some anchored
    → anchored.anchor < length (script_anchors items)

-- the anchor of a block is one of the script's anchors
abbrev pub BlocksHaveAnchors : Type 0
BlocksHaveAnchors =
    (items : List Item) (client block number : ℕ) → block_number 0 items client block ≡ Some number
    → number < length (script_anchors items)
