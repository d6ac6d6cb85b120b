-- A program has just one text of its ends after a front, however they are found. The law on these texts,
-- `EndsJsonIsUnique`, is proved here. Two lists of all outcomes are the same, place by place; so they have the same
-- lines, and these are one text in the order of their bytes.
use Rattle.std.proofs.Common.{◌≡◌, ℕ, List, ◌++◌, codes, length, subst}
use Rattle.std.specs.List.Sorted.{IsPermutation}
use Rattle.std.proofs.lemmas.List.Sorted.{IsPermutation-refl}
use Rattle.qs_program.specs.audit.Program.{ProgramShape, client_at, object_at}
use Rattle.qs_serial.specs.audit.NamedOrders.{order_of}
use Rattle.qs_standings.specs.Standings.{StandingShape}
use Rattle.qs_report.proofs.UniqueOutcomes.{IsSame, same_lists}
use Rattle.qs_report.proofs.UniqueEnds.{same_each}
use Rattle.qs_text.proofs.SameOrders.{one_order}
use Rattle.qs_json.specs.audit.Pieces.{array_up_to, field, first_field, quoted}
use Rattle.qs_json.specs.audit.RunJson.{state_json}
use Rattle.qs_json.specs.audit.Variables.{variables_json}
use Rattle.qs_json.specs.EndsJson.{EndsJsonIsUnique, IsEndsJson, end_json, ends_json}

same_end : (p : ProgramShape) (s t : StandingShape) → IsSame s t → end_json p s ≡ end_json p t
same_end p s t (order, e) = λ i.
    first_field (codes "states") (array_up_to (length p.objects) (λ h. state_json (object_at p h).name ((e i).states h)))
    ++ field (codes "clients") (array_up_to (length p.clients)
    (λ c. first_field (codes "client") (quoted (client_at p c).name) ++ variables_json (client_at p c).variables ((e i).locals c) ++ codes "}"))
    ++ codes "}\n"

pub one_ends_json : EndsJsonIsUnique
unfolding IsEndsJson
one_ends_json p limit bound front text other (all, are, within, words, is) (every, too, below, others, one) =
    let (zip, counts) = same_lists p (order_of front) all every are too in
    one_order (ends_json p all.found) (ends_json p every.found) text other
    (subst (λ (texts : List (List ℕ)). IsPermutation (ends_json p all.found) texts) (same_each (end_json p) (same_end p) all.found every.found zip)
    (IsPermutation-refl (ends_json p all.found))) is one
