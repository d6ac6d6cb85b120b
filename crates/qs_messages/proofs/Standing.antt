-- A token that is cut off at the front of what is left of a text stands at its place, and so do those before it still.
-- By induction on the tokens before it: what comes after each of them has one token more.
use Rattle.std.proofs.Common.{◌≡◌, ℕ, ◌<◌, ◌≤◌, ◌+◌, ◌-◌, List, [], ◌∷◌, ◌++◌, length, drop, refl, sym, ap, ◌∙◌, arith, Result}
use Rattle.std.proofs.lemmas.List.{drop-drop}
use Rattle.qs_script.specs.declared.tokens.token.Token.{Token}
use Rattle.qs_script.specs.declared.tokens.lex.TokenFault.{TokenFault}
use Rattle.qs_script.specs.declared.tokens.lex.Piece.{Piece}
use Rattle.qs_script.specs.declared.tokens.lex.Piece.TheVariants as piece
use Rattle.qs_script.specs.audit.tokens.Tokens.{after, tokens_of}
use Rattle.qs_script.specs.tokens.Cutting as cutting
use Rattle.qs_script.proofs.tokens.Lexemes.{after-after, after-nil}
use Rattle.qs_messages.specs.declared.causes.spans.PlacedToken.{PlacedToken}
use Rattle.qs_messages.specs.Spans.{Stand, placed_in, tokens_in}

tokens_joined : (ps qs : List PlacedToken) → tokens_in (ps ++ qs) ≡ tokens_in ps ++ tokens_in qs
tokens_joined [] qs = refl
tokens_joined (p ∷ ps) qs = ap (λ ts. p.token ∷ ts) (tokens_joined ps qs)

pub of_piece : (p : Piece) (s e : ℕ) → tokens_in (placed_in p s e) ≡ cutting.tokens_in p
of_piece (piece.Token t) s e = refl
of_piece piece.Line s e = refl
of_piece piece.Gap s e = refl

-- the tokens before a piece, then it, then the rest
pub more : (ps : List PlacedToken) (p : Piece) (s e : ℕ) (later next : Result (List Token) TokenFault) → later ≡ after (cutting.tokens_in p) next
    → after (tokens_in ps) later ≡ after (tokens_in (ps ++ placed_in p s e)) next
more ps p s e later next h =
    ap (after (tokens_in ps)) h ∙ after-after (tokens_in ps) (cutting.tokens_in p) next
    ∙ ap (λ ts. after ts next) (ap (λ us. tokens_in ps ++ us) (sym (of_piece p s e)) ∙ sym (tokens_joined ps (placed_in p s e)))

stands : (text : List ℕ) (p : Piece) (s e : ℕ) (later next : Result (List Token) TokenFault) → later ≡ after (cutting.tokens_in p) next
    → tokens_of (drop s text) ≡ later → tokens_of (drop e text) ≡ next → s < e → e ≤ length text → Stand text (placed_in p s e) next
stands text (piece.Token t) s e later next h begins ends some within = (begins ∙ h, ends ∙ sym (after-nil next), some, within, tt)
stands text piece.Line s e later next h begins ends some within = tt
stands text piece.Gap s e later next h begins ends some within = tt

pub stand_more : (text : List ℕ) (ps : List PlacedToken) (p : Piece) (s e : ℕ) (later next : Result (List Token) TokenFault)
    → later ≡ after (cutting.tokens_in p) next → tokens_of (drop s text) ≡ later → tokens_of (drop e text) ≡ next → s < e → e ≤ length text
    → Stand text ps later → Stand text (ps ++ placed_in p s e) next
stand_more text [] p s e later next h begins ends some within old = stands text p s e later next h begins ends some within
stand_more text (q ∷ ps) p s e later next h begins ends some within (a, b, c, d, old) = (
  a ∙ more (q ∷ ps) p s e later next h,
  b ∙ more ps p s e later next h,
  c,
  d,
  stand_more text ps p s e later next h begins ends some within old,
)

-- what is left of what is left of a text is what is left of the text
pub rest_of : (text rest next : List ℕ) → length rest ≤ length text → length next < length rest → rest ≡ drop (length text - length rest) text
    → next ≡ drop (length rest - length next) rest → next ≡ drop (length text - length next) text
rest_of text rest next short shorter e f =
    let sum : (length text - length rest) + (length rest - length next) ≡ length text - length next = omega (arith, short, shorter) in
    f ∙ ap (drop (length rest - length next)) e ∙ drop-drop (length rest - length next) (length text - length rest) text
    ∙ ap (λ n. drop n text) sum
