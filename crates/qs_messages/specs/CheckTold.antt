-- What is told of a script that is refused: a diagnosis of the token at which its first fault stands, or of the block
-- with which it passes a limit.
use Rattle.std.specs.Prelude.{◌≡◌, ℕ, ◌-◌, List, get_or, Option, Some, None, option_map}
use Rattle.qs_script.specs.declared.tokens.token.Token.TheVariants as t
use Rattle.qs_script.specs.declared.tree.tree.Item.{Item}
use Rattle.qs_script.specs.audit.Reads.{IsScriptText}
use Rattle.qs_diagnosis.specs.declared.told.Span.{Span}
use Rattle.qs_diagnosis.specs.declared.told.Diagnosis.{Diagnosis}
use Rattle.qs_diagnosis.specs.Diagnoses.{IsTold}
use Rattle.qs_check.specs.declared.anchors.finding.Anchored.{Anchored}
use Rattle.qs_check.specs.anchors.Anchors.{IsAnchorAt}
use Rattle.qs_check.specs.anchors.Anchored.{first_anchored}
use Rattle.qs_check.specs.anchors.Blocks.{block_number}
use Rattle.qs_check.specs.declared.excess.Excess.{Excess}
use Rattle.qs_check.specs.Excess.{IsExcessOf}
use Rattle.qs_messages.specs.declared.causes.refusal.Refusal.{Refusal}
use Rattle.qs_messages.specs.declared.causes.spans.PlacedToken.{PlacedToken}
use Rattle.qs_messages.specs.Spans.{ArePlaced, tokens_in}

-- the token at a place, of those that there are
abbrev pub placed_at : List PlacedToken → ℕ → PlacedToken
placed_at tokens place = get_or tokens place (record { token = t.Semicolon; start = 0; end = 0 })

-- the bytes of a token
abbrev pub span_at : List PlacedToken → ℕ → Span
span_at tokens place = let p = placed_at tokens place in record { start = p.start; length = p.end - p.start }

-- a diagnosis of some bytes was put at the end
pub record IsSaidAt (text : List ℕ) (span : Span) (old new : List ℕ) : Type 0 where
  pub diagnosis : Diagnosis
  pub there : diagnosis.span ≡ span
  pub told : IsTold text diagnosis old new

-- a diagnosis of the anchor of a number was put at the end
pub record IsToldAt (text : List ℕ) (number : ℕ) (old new : List ℕ) : Type 0 where
  pub tokens : List PlacedToken
  pub placed : ArePlaced text tokens
  pub place : ℕ
  pub stands : IsAnchorAt (tokens_in tokens) number place
  pub said : IsSaidAt text (span_at tokens place) old new

-- a diagnosis of the anchor of a number, if there is one
abbrev pub IsMaybeToldAt : List ℕ → Option ℕ → List ℕ → List ℕ → Type 0
IsMaybeToldAt text None old new = new ≡ old
IsMaybeToldAt text (Some number) old new = IsToldAt text number old new

abbrev pub anchor_of : Option Refusal → Option ℕ
anchor_of found = option_map (λ (refusal : Refusal). refusal.anchor) found

-- the anchor of a block of a script
abbrev pub block_anchor_of : List Item → Option Excess → Option ℕ
block_anchor_of items None = None
block_anchor_of items (Some e) = block_number 0 items e.client e.block

-- the anchor of the block with which a script passes a limit; none, where it passes none
abbrev pub IsExcessAt : List Item → Option ℕ → Type 0
IsExcessAt items anchor = (found : Option Excess) × IsExcessOf items found × (anchor ≡ block_anchor_of items found)

-- the anchor of the first fault of a script's text, if there is one, or else that of the block with which it passes a
-- limit
abbrev pub IsRefusalAnchor : List Item → Option Anchored → Option ℕ → Type 0
IsRefusalAnchor items None anchor = IsExcessAt items anchor
IsRefusalAnchor items (Some first) anchor = anchor ≡ Some first.anchor

-- the anchor at which a script is refused; none, where it is not
abbrev pub IsRefusedAt : List Item → Option ℕ → Type 0
IsRefusedAt items anchor = IsRefusalAnchor items (first_anchored items) anchor

-- a diagnosis of this anchor was put at the end; nothing, where there is none
abbrev pub IsRefusalTold : List ℕ → List Item → List ℕ → List ℕ → Type 0
IsRefusalTold text items old new = (anchor : Option ℕ) × IsRefusedAt items anchor × IsMaybeToldAt text anchor old new

-- of the text's script, why it is refused was told
abbrev pub IsCheckTold : List ℕ → List ℕ → List ℕ → Type 0
IsCheckTold text old new = (items : List Item) → IsScriptText text items → IsRefusalTold text items old new
