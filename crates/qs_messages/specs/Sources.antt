-- A text with its tokens, by their places.
use Rattle.std.specs.Prelude.{ℕ, ◌-◌, ◌&&◌, nat_le, if◌then◌else◌, List, [], length, take, drop, slice_get, Option, Some, None, option_map}
use Rattle.qs_script.specs.declared.tokens.token.Token.{Token}
use Rattle.qs_diagnosis.specs.declared.told.Span.{Span}
use Rattle.qs_messages.specs.declared.causes.spans.PlacedToken.{PlacedToken}

-- the token at a place, where there is one
abbrev pub token_in : List PlacedToken → ℕ → Option Token
token_in tokens place = option_map (λ (p : PlacedToken). p.token) (slice_get tokens place)

-- the bytes of a token
abbrev pub bytes_of : List ℕ → Option PlacedToken → List ℕ
bytes_of text None = []
bytes_of text (Some p) =
    if nat_le p.start p.end && nat_le p.end (length text) then take (p.end - p.start) (drop p.start text) else []

-- the bytes of the token at a place; none after the last token
abbrev pub word_in : List ℕ → List PlacedToken → ℕ → List ℕ
word_in text tokens place = bytes_of text (slice_get tokens place)

abbrev pub span_of : List ℕ → Option PlacedToken → Span
span_of text None = record { start = length text; length = 0 }
span_of text (Some p) = record { start = p.start; length = p.end - p.start }

-- where the token at a place stands; after the last token, the text's end
abbrev pub span_in : List ℕ → List PlacedToken → ℕ → Span
span_in text tokens place = span_of text (slice_get tokens place)

abbrev pub end_of : List ℕ → Option PlacedToken → Span
end_of text None = record { start = length text; length = 0 }
end_of text (Some p) = record { start = p.end; length = 0 }

-- the place right after a token; after the last token, the text's end
abbrev pub end_in : List ℕ → List PlacedToken → ℕ → Span
end_in text tokens place = end_of text (slice_get tokens place)
