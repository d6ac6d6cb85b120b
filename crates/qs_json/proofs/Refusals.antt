-- The pieces in which a refusal is written are its text. The function `fault_json`, which takes no memory and so puts
-- nothing together, stands on it. It is the same text in other brackets.
use Rattle.std.proofs.Common.{◌≡◌, ℕ, List, ◌++◌, Option, codes, sym, ap, ap₂, ◌∙◌, append_assoc}
use Rattle.qs_report.specs.declared.faults.Fault.{Fault}
use Rattle.qs_report.specs.Faults.{fault_place, fault_words}
use Rattle.qs_json.specs.FaultJson.{fault_json, line_json}
use Rattle.qs_json.specs.audit.Pieces.{first_field, quoted}

pub refusal : (words line : List ℕ)
    → codes "{\"refused\":{\"fault\":\"" ++ (words ++ (codes "\"" ++ (line ++ codes "}}\n")))
    ≡ first_field (codes "refused") (first_field (codes "fault") (quoted words) ++ line ++ codes "}") ++ codes "}\n"
refusal words line =
    let quote = codes "\"" in
    let body : ((words ++ quote ++ line) ++ codes "}") ++ codes "}\n" ≡ words ++ (quote ++ (line ++ codes "}}\n")) =
    append_assoc (words ++ quote ++ line) (codes "}") (codes "}\n") ∙ append_assoc (words ++ quote) line (codes "}}\n")
    ∙ append_assoc words quote (line ++ codes "}}\n") in
    ap (λ l. codes "{\"refused\":{\"fault\":\"" ++ l) (sym body)

-- the text of a fault, by its words, its place and further fields
pub refusal_of : (fault : Fault) (words : List ℕ) (place : Option ℕ) (details : List ℕ) → words ≡ fault_words fault → place ≡ fault_place fault
    → codes "{\"refused\":{\"fault\":\"" ++ (words ++ (codes "\"" ++ (line_json place ++ (details ++ codes "}}\n")))) ≡ fault_json fault details
refusal_of fault words place details is at =
    ap (λ l. codes "{\"refused\":{\"fault\":\"" ++ (words ++ (codes "\"" ++ l))) (sym (append_assoc (line_json place) details (codes "}}\n")))
    ∙ refusal words (line_json place ++ details)
    ∙ ap₂ (λ (w : List ℕ) (p : Option ℕ). first_field (codes "refused") (first_field (codes "fault") (quoted w) ++ (line_json p ++ details) ++ codes "}") ++ codes "}\n")
    is at
