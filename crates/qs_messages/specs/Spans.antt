-- Where the tokens of a text stand.
use Rattle.std.specs.Prelude.{◌≡◌, ℕ, ◌<◌, ◌≤◌, List, [], ◌∷◌, length, map, drop, ⊤, Result, Ok, Err}
use Rattle.qs_script.specs.declared.tokens.token.Token.{Token}
use Rattle.qs_script.specs.declared.tokens.lex.TokenFault.{TokenFault}
use Rattle.qs_script.specs.declared.tokens.lex.Piece.{Piece}
use Rattle.qs_script.specs.declared.tokens.lex.Piece.TheVariants as piece
use Rattle.qs_script.specs.audit.tokens.Tokens.{after, tokens_of}
use Rattle.qs_messages.specs.declared.causes.spans.PlacedToken.{PlacedToken}
use Rattle.qs_messages.specs.declared.causes.spans.SpanFault.{SpanFault}
use Rattle.qs_messages.specs.declared.causes.spans.SpanFault.TheVariants as fault

abbrev pub tokens_in : List PlacedToken → List Token
tokens_in ps = map (λ p. p.token) ps

-- the token of a piece, where it is one, at its place
abbrev pub placed_in : Piece → (start end : ℕ) → List PlacedToken
placed_in (piece.Token t) start end = record { token = t; start = start; end = end } ∷ []
placed_in piece.Line start end = []
placed_in piece.Gap start end = []

-- Each token stands at its place: from its start on, the text has this token and those after it, and from its end on
-- those after it. What comes after all of them is `later`.
abbrev pub Stand : List ℕ → List PlacedToken → Result (List Token) TokenFault → Type 0
Stand text [] later = ⊤
Stand text (p ∷ ps) later =
    (tokens_of (drop p.start text) ≡ after (tokens_in (p ∷ ps)) later)
    × (tokens_of (drop p.end text) ≡ after (tokens_in ps) later)
    × (p.start < p.end) × (p.end ≤ length text) × Stand text ps later

-- all tokens of a text, each at its place
abbrev pub ArePlaced : List ℕ → List PlacedToken → Type 0
ArePlaced text ps = (tokens_of text ≡ Ok (tokens_in ps)) × Stand text ps (Ok [])

-- the text's first fault is one of its tokens, and from the place on the text has this fault
abbrev pub IsFaultAt : List ℕ → SpanFault → Type 0
IsFaultAt text (fault.Token f start) =
    (tokens_of text ≡ Err f) × (tokens_of (drop start text) ≡ Err f) × (start < length text)
IsFaultAt text fault.Memory = ⊤
