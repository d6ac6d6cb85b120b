use Rattle.std.proofs.Common.{◌≡◌, ℕ, ◌==◌, ◌<◌, Bool, true, false, map, cond, get_or, refl, ap, ◌∙◌, arith}
use Rattle.std.proofs.lemmas.List.FromFn.{get_or-map-range_with_len}
use Rattle.std.specs.List.{range_with_len}
use Rattle.qs_script.specs.audit.tokens.Tokens.{is_name_byte}
use Rattle.qs_script.specs.declared.tokens.lex.TheConstants.{NAME_BYTES}
use Rattle.qs_script.proofs.tokens.lex.in_name.Goals as goal

abbrev mark : ℕ → ℕ
mark b = cond (is_name_byte b) 110 46

-- the table has the mark of each byte
table_is : NAME_BYTES ≡ map mark (range_with_len 0 256)
table_is = refl

marked : (t : Bool) → (cond t 110 46 == 110) ≡ t
marked true = refl
marked false = refl

read : (b : ℕ) → b < 256 → (get_or NAME_BYTES b 0 == 110) ≡ is_name_byte b
read b h =
    ap (λ (n : ℕ). n == 110) (ap (λ t. get_or t b 0) table_is ∙ get_or-map-range_with_len mark 0 256 b b 0 h (omega arith))
    ∙ marked (is_name_byte b)

pub returns : goal.returns
returns c = read c.args.b (omega arith)
