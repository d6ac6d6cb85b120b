-- Beside what the headline reaches (`audit/Reads.antt`): what else contracts and proofs use.
use Rattle.std.specs.Prelude.{◌≡◌, ℕ, ◌≤◌, ◌<◌, List, length, Result, Ok, Err}
use Rattle.qs_script.specs.declared.tokens.token.Token.{Token}
use Rattle.qs_script.specs.declared.tree.tree.Item.{Item}
use Rattle.qs_script.specs.declared.fault.ReadFault.{ReadFault}
use Rattle.qs_script.specs.declared.fault.ReadFault.TheVariants as f
use Rattle.qs_script.specs.declared.tokens.lex.TokenFault.{TokenFault}
use Rattle.qs_script.specs.declared.tokens.lex.TokenFault.TheVariants as token
use Rattle.qs_script.specs.audit.tokens.Tokens.{tokens_of}
use Rattle.qs_script.specs.audit.grammar.Grammar.{IsScript}
use Rattle.qs_script.specs.grammar.FormPlaces.{IsFormPlace}
use Rattle.qs_script.specs.Lines.{IsFaultLine, IsTokenLine, last_line}
use Rattle.qs_script.specs.audit.tree.Limits.{longest_text}
use Rattle.qs_script.specs.audit.Reads.{IsScriptText}

-- a text's first token fault, with its line
abbrev pub IsFaultAt : List ℕ → TokenFault → ℕ → Type 0
IsFaultAt text fault line = (tokens_of text ≡ Err fault) × IsFaultLine text fault line

-- the line of a fault of form: that of the token at its place, or of the text's end
pub record IsFormLine (text : List ℕ) (ts : List Token) (line : ℕ) : Type 0 where
  pub place : ℕ
  pub there : IsFormPlace ts place
  pub at_token : place < length ts → IsTokenLine text place line
  pub at_end : length ts ≤ place → line ≡ last_line text

-- why a text is refused: too long; its first token fault, with its line; or no script has its tokens, with the line
-- where none goes on. Where memory runs out no more is said than that the text wasn't too long
abbrev pub IsRefused : ReadFault → List ℕ → Type 0
IsRefused f.Size text = longest_text < length text
IsRefused (f.Byte line) text = (length text ≤ longest_text) × IsFaultAt text token.Byte line
IsRefused (f.Number line) text = (length text ≤ longest_text) × IsFaultAt text token.Number line
IsRefused (f.Name line) text = (length text ≤ longest_text) × IsFaultAt text token.Name line
IsRefused (f.Form line) text =
    (length text ≤ longest_text) × (ts : List Token) × (tokens_of text ≡ Ok ts)
    × ((script : List Item) → IsScript script ts → ⊥)
    × IsFormLine text ts line
IsRefused f.Memory text = length text ≤ longest_text

abbrev pub IsReadOf : List ℕ → Result (List Item) ReadFault → Type 0
IsReadOf text (Ok script) = IsScriptText text script
IsReadOf text (Err fault) = IsRefused fault text

-- the first token fault of a text, unless memory ran out
abbrev pub HasFault : ReadFault → List ℕ → Type 0
HasFault (f.Byte line) text = IsFaultAt text token.Byte line
HasFault (f.Number line) text = IsFaultAt text token.Number line
HasFault (f.Name line) text = IsFaultAt text token.Name line
HasFault f.Memory text = Unit {0}
HasFault _ text = ⊥
