-- The line of a fault. No token goes beyond its line, so the tokens of a text are those of its lines, one after
-- another.
use Rattle.std.specs.Prelude.{◌≡◌, ℕ, ◌+◌, ◌<◌, ◌≤◌, List, length, take, drop, Ok, Err}
use Rattle.qs_diagnosis.specs.Spots.{line_end_at, spot_at}
use Rattle.qs_script.specs.declared.tokens.token.Token.{Token}
use Rattle.qs_script.specs.declared.tokens.lex.TokenFault.{TokenFault}
use Rattle.qs_script.specs.audit.tokens.Tokens.{tokens_of}

-- the bytes from a place up to the end of its line
abbrev pub line_from : List ℕ → ℕ → List ℕ
line_from text place = take (line_end_at text place) (drop place text)

-- the line of this number begins at this place, and the lines before it have these tokens
pub record IsLine (text : List ℕ) (line place : ℕ) (before : List Token) : Type 0 where
  pub within : place ≤ length text
  pub first : (spot_at text place).column ≡ 1
  pub number : (spot_at text place).line ≡ line
  pub tokens : tokens_of (take place text) ≡ Ok before

-- the line in which a byte, a number or a name is at fault: the lines before it have tokens, and it has the fault
pub record IsFaultLine (text : List ℕ) (fault : TokenFault) (line : ℕ) : Type 0 where
  pub place : ℕ
  pub before : List Token
  pub there : IsLine text line place before
  pub at_fault : tokens_of (line_from text place) ≡ Err fault

-- the line of the token before which so many stand
pub record IsTokenLine (text : List ℕ) (count line : ℕ) : Type 0 where
  pub place : ℕ
  pub before : List Token
  pub there : IsLine text line place before
  pub here : List Token
  pub cut : tokens_of (line_from text place) ≡ Ok here
  pub not_before : length before ≤ count
  pub not_after : count < length before + length here

-- the line of the text's end: one more than all the LF
abbrev pub last_line : List ℕ → ℕ
last_line text = (spot_at text (length text)).line
