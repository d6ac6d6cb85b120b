-- A line that is put piece by piece, and lines behind lines. What is written without asking for room stands on it.
use Rattle.std.proofs.Common.{◌≡◌, List, [], ◌∷◌, ◌++◌, codes, length, ℕ, zero, suc, ◌+◌, ◌-◌, take, drop, flat_map, ℤ, get_or, pos, refl, sym, ap, ◌∙◌, append_assoc, append-nil, length-drop, arith, Option, Some}
use lib.Seq.{take-add}
use Rattle.std.proofs.lemmas.Grind.{flat_map-append}
use Rattle.std.proofs.lemmas.List.{take_all}
use Rattle.std.specs.Fmt.{signed_decimal}
use Rattle.qs_objects.specs.declared.Request.{Request}
use Rattle.qs_program.specs.audit.Program.{ProgramShape, object_at}
use Rattle.qs_text.specs.audit.Words.{args_text, reply_text}
use Rattle.qs_objects.specs.audit.Operations.{word}
use Rattle.qs_report.specs.Lines.{line_text}

no_argument : (xs : List ℤ) → length xs ≡ 0 → args_text xs ≡ []
no_argument [] empty = refl
no_argument (x ∷ xs) empty = absurd (omega (arith, empty))

one_argument : (xs : List ℤ) → length xs ≡ 1 → args_text xs ≡ signed_decimal (get_or xs 0 (pos 0))
one_argument [] one = absurd (omega (arith, one))
one_argument (x ∷ []) one = append-nil (signed_decimal x)
one_argument (x ∷ y ∷ ys) one = absurd (omega (arith, one))

-- a line, put in three pieces
line_shown : (p : ProgramShape) (r : Request) (reply : Option ℤ) (old first second last : List ℕ)
    → first ≡ old ++ (object_at p r.object).name ++ codes "." ++ word r.op ++ codes "(" → second ≡ first ++ args_text r.args
    → last ≡ second ++ (codes ")" ++ (reply_text reply ++ codes "\n")) → last ≡ old ++ line_text p r reply
line_shown p r reply old first second last f s l = rw (l, s, f) (simp append_assoc)

-- a line with no argument, put in two pieces
pub line_without : (p : ProgramShape) (r : Request) (reply : Option ℤ) (old first last : List ℕ) → length r.args ≡ 0
    → first ≡ old ++ (object_at p r.object).name ++ codes "." ++ word r.op ++ codes "("
    → last ≡ first ++ (codes ")" ++ (reply_text reply ++ codes "\n")) → last ≡ old ++ line_text p r reply
line_without p r reply old first last empty f l =
    line_shown p r reply old first first last f (sym (ap (λ t. first ++ t) (no_argument r.args empty) ∙ append-nil first)) l

-- a line with one argument, put in three pieces
pub line_with_one : (p : ProgramShape) (r : Request) (reply : Option ℤ) (old first second last : List ℕ) → length r.args ≡ 1
    → first ≡ old ++ (object_at p r.object).name ++ codes "." ++ word r.op ++ codes "("
    → second ≡ first ++ signed_decimal (get_or r.args 0 (pos 0))
    → last ≡ second ++ (codes ")" ++ (reply_text reply ++ codes "\n")) → last ≡ old ++ line_text p r reply
line_with_one p r reply old first second last one f s l = line_shown p r reply old first second last f (s ∙ ap (λ t. first ++ t) (sym (one_argument r.args one))) l

-- a reply, put in three pieces
pub reply_behind : (second : List ℕ) (reply : ℤ) → second ++ codes ") = " ++ signed_decimal reply ++ codes "\n" ≡ second ++ (codes ")" ++ (reply_text (Some reply) ++ codes "\n"))
reply_behind second reply = simp append_assoc

-- the texts of the first items, and of those behind them
taken_both : {X : Type 0} (text : X → List ℕ) (i k : ℕ) (xs : List X) → flat_map text (take i xs) ++ flat_map text (take k (drop i xs)) ≡ flat_map text (take (i + k) xs)
taken_both text i k xs = sym (ap (flat_map text) (take-add i k xs) ∙ flat_map-append text (take i xs) (take k (drop i xs)))

-- some more items are there
pub items_more : {X : Type 0} (text : X → List ℕ) (xs : List X) (i k : ℕ) (old mid new : List ℕ) → mid ≡ old ++ flat_map text (take i xs)
    → new ≡ mid ++ flat_map text (take k (take (length xs - i) (drop i xs))) → new ≡ old ++ flat_map text (take (i + k) xs)
items_more text xs i k old mid new e h =
    h ∙ ap (λ l. mid ++ flat_map text (take k l)) (take_all (length xs - i) (drop i xs) (omega (arith, length-drop i xs)))
    ∙ ap (λ l. l ++ flat_map text (take k (drop i xs))) e ∙ append_assoc old (flat_map text (take i xs)) (flat_map text (take k (drop i xs)))
    ∙ ap (λ l. old ++ l) (taken_both text i k xs)
