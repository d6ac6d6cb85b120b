-- What is told of a fault of form is told within the text: at a token that stands there, right after one, or at the
-- text's end. It goes by induction on the tokens.
use Rattle.std.proofs.Common.{ℕ, zero, suc, ◌-◌, ◌≤◌, List, [], ◌∷◌, length, arith, inl, inr, Result, Ok}
use Rattle.qs_script.specs.declared.tokens.token.Token.{Token}
use Rattle.qs_script.specs.declared.tokens.lex.TokenFault.{TokenFault}
use Rattle.qs_diagnosis.specs.declared.told.Span.{Span}
use Rattle.qs_messages.specs.declared.causes.spans.PlacedToken.{PlacedToken}
use Rattle.qs_messages.specs.ReadTold.{IsSpot}
use Rattle.qs_messages.specs.Sources.{end_in, span_in}
use Rattle.qs_messages.specs.Spans.{Stand}

span_within : (text : List ℕ) (ps : List PlacedToken) (later : Result (List Token) TokenFault) (i : ℕ) → Stand text ps later → (span_in text ps i).start ≤ length text
span_within text [] later i h = omega arith
span_within text (p ∷ ps) later zero h = omega (arith, h.2, h.3)
span_within text (p ∷ ps) later (suc i) h = span_within text ps later i h.4

end_within : (text : List ℕ) (ps : List PlacedToken) (later : Result (List Token) TokenFault) (i : ℕ) → Stand text ps later → (end_in text ps i).start ≤ length text
end_within text [] later i h = omega arith
end_within text (p ∷ ps) later zero h = h.3
end_within text (p ∷ ps) later (suc i) h = end_within text ps later i h.4

pub spot_within : (text : List ℕ) (ps : List PlacedToken) (i : ℕ) (after : Type 0) (span : Span) → Stand text ps (Ok []) → IsSpot text ps i after span → span.start ≤ length text
spot_within text ps i after span h (inl (inl e)) = rw e (span_within text ps (Ok []) i h)
spot_within text ps i after span h (inl (inr (inl (arrow, e)))) = rw e (span_within text ps (Ok []) i h)
spot_within text ps i after span h (inl (inr (inr (word, e)))) = rw e (span_within text ps (Ok []) (i - 1) h)
spot_within text ps i after span h (inr (there, e)) = rw e (end_within text ps (Ok []) (i - 1) h)

-- the second case holds where another does
pub spot_where : (text : List ℕ) (ps : List PlacedToken) (i : ℕ) (before after : Type 0) (span : Span) → (before → after) → IsSpot text ps i before span → IsSpot text ps i after span
spot_where text ps i before after span f (inl e) = inl e
spot_where text ps i before after span f (inr (there, e)) = inr (f there, e)
