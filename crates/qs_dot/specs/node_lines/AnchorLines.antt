-- The line of each anchor of a text. No token goes on past the end of its line, so each line has tokens of its own, and
-- these are the text's, line by line.
use Rattle.std.specs.Prelude.{ℕ, ◌+◌, nat_eq, if◌then◌else◌, List, [], ◌∷◌, ◌++◌, map, Result, Ok, Err}
use Rattle.qs_script.specs.declared.tokens.token.Token.{Token}
use Rattle.qs_script.specs.declared.tokens.lex.TokenFault.{TokenFault}
use Rattle.qs_script.specs.audit.tokens.Tokens.{tokens_of}
use Rattle.qs_check.specs.anchors.Anchors.{anchors_in}

abbrev pub tokens_or_none : Result (List Token) TokenFault → List Token
tokens_or_none (Ok ts) = ts
tokens_or_none (Err e) = []

-- the anchors of a line; none, where one of its tokens is at fault
abbrev pub line_anchors : List ℕ → List Token
line_anchors line = anchors_in (tokens_or_none (tokens_of line))

-- an anchor with its line
abbrev pub its_token : Token × ℕ → Token
its_token p = p.0

abbrev pub its_line : Token × ℕ → ℕ
its_line p = p.1

-- each anchor of the line of a number, with the number
abbrev pub numbered : ℕ → List ℕ → List (Token × ℕ)
numbered n line = map (λ t. (t, n)) (line_anchors line)

-- the number of a line for each of its anchors
abbrev pub lines_in : ℕ → List ℕ → List ℕ
lines_in n line = map its_line (numbered n line)

-- the anchors of a text, each with its line, where some bytes of the line of this number stand before the text
abbrev pub anchors_from : ℕ → List ℕ → List ℕ → List (Token × ℕ)
anchors_from n begun [] = numbered n begun
anchors_from n begun (b ∷ bs) =
    if nat_eq b 10 then numbered n begun ++ anchors_from (n + 1) [] bs else anchors_from n (begun ++ b ∷ []) bs

-- the anchors of a text, each with its line, counted from 1
abbrev pub placed_anchors : List ℕ → List (Token × ℕ)
placed_anchors text = anchors_from 1 [] text

-- the line of each anchor of a text, in text order
abbrev pub anchor_lines : List ℕ → List ℕ
anchor_lines text = map its_line (placed_anchors text)
