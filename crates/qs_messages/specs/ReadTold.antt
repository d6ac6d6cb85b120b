-- What is told of a text that can't be read: a diagnosis of its first token at fault, or of the place of its fault of
-- form.
use Rattle.std.specs.Prelude.{◌≡◌, ◌⊎◌, ◌↔◌, ℕ, ◌+◌, ◌-◌, ◌^◌, min, Bool, true, false, IsTrue, List, [], ◌∷◌, ◌++◌, take, Option, Some, None}
use Rattle.qs_script.specs.declared.tokens.token.Token.{Token}
use Rattle.qs_script.specs.declared.tokens.token.Token.TheVariants as t
use Rattle.qs_script.specs.declared.tokens.lex.TokenFault.{TokenFault}
use Rattle.qs_script.specs.declared.tree.tree.Item.{Item}
use Rattle.qs_script.specs.audit.grammar.Grammar.{IsScript}
use Rattle.qs_script.specs.grammar.FormPlaces.{BeginsScript, IsFormPlace}
use Rattle.qs_diagnosis.specs.declared.told.Span.{Span}
use Rattle.qs_messages.specs.declared.causes.finding.FormFault.{FormFault}
use Rattle.qs_messages.specs.declared.causes.spans.PlacedToken.{PlacedToken}
use Rattle.qs_messages.specs.declared.causes.spans.SpanFault.TheVariants as f
use Rattle.qs_messages.specs.CheckTold.{IsSaidAt}
use Rattle.qs_messages.specs.Sources.{end_in, span_in, token_in}
use Rattle.qs_messages.specs.Spans.{ArePlaced, IsFaultAt, tokens_in}

-- a token may stand at a place: some script begins with the tokens before it and this one
abbrev pub MayStand : List Token → ℕ → Token → Type 0
MayStand ts place token = BeginsScript (take place ts ++ token ∷ [])

-- a `;` may stand at a place
abbrev pub MayEnd : List Token → ℕ → Type 0
MayEnd ts place = MayStand ts place t.Semicolon

-- the fault of form of tokens that no script has: its place, and whether a `;` may stand there; none, where a script
-- has them
abbrev pub IsFormFaultOf : List Token → Option FormFault → Type 0
IsFormFaultOf ts None = (script : List Item) × IsScript script ts
IsFormFaultOf ts (Some found) =
    ((script : List Item) → IsScript script ts → ⊥) × IsFormPlace ts found.place
    × (IsTrue found.ends ↔ MayEnd ts found.place)

-- a name, a number or a kind of object
abbrev pub is_word : Option Token → Bool
is_word (Some (t.Name name)) = true
is_word (Some (t.Number number)) = true
is_word (Some t.Account) = true
is_word (Some t.Buffer) = true
is_word (Some t.Grid) = true
is_word token = false

-- `->` or `<-`, which are two tokens each
abbrev pub is_arrow : Option Token → Option Token → Bool
is_arrow (Some t.Minus) (Some t.Greater) = true
is_arrow (Some t.Less) (Some t.Minus) = true
is_arrow first second = false

-- the bytes of the token at a place, or the text's end; or those of an arrow that begins there; or those of the token
-- before, where that is such a word
abbrev pub IsAt : List ℕ → List PlacedToken → ℕ → Span → Type 0
IsAt text tokens place span =
    (span ≡ span_in text tokens place)
    ⊎ (((is_arrow (token_in tokens place) (token_in tokens (min (place + 1) (2 ^ 64 - 1))) ≡ true)
    × (span ≡ record { start = (span_in text tokens place).start; length = 2 }))
    ⊎ ((is_word (token_in tokens (place - 1)) ≡ true) × (span ≡ span_in text tokens (place - 1))))

-- what is told of these; or, where that may be, of the place right after the token before
abbrev pub IsSpot : List ℕ → List PlacedToken → ℕ → Type 0 → Span → Type 0
IsSpot text tokens place after span = IsAt text tokens place span ⊎ (after × (span ≡ end_in text tokens (place - 1)))

-- a diagnosis of the text's fault of form was put at the end
pub record IsFormTold (text : List ℕ) (old new : List ℕ) : Type 0 where
  pub tokens : List PlacedToken
  pub placed : ArePlaced text tokens
  pub place : ℕ
  pub there : IsFormPlace (tokens_in tokens) place
  pub span : Span
  pub spot : IsSpot text tokens place (MayEnd (tokens_in tokens) place) span
  pub said : IsSaidAt text span old new

-- a diagnosis of the text's first token at fault was put at the end
pub record IsTokenTold (text : List ℕ) (fault : TokenFault) (old new : List ℕ) : Type 0 where
  pub span : Span
  pub there : IsFaultAt text (f.Token fault span.start)
  pub said : IsSaidAt text span old new
