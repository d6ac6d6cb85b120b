-- A program has just one text of its outcomes after a front, however they are found. The law on these texts,
-- `OutcomesJsonIsUnique`, is proved here. Two lists of all outcomes are the same, place by place, and have the same
-- count; so their texts are the same.
use Rattle.std.proofs.Common.{◌≡◌, ◌+◌, ℕ, ◌++◌, codes, decimal, length, get_or, sym, ap, ◌∙◌}
use Rattle.std.proofs.lemmas.List.Elements.{AllZip-get_or, length_all_zip}
use Rattle.qs_program.specs.audit.Program.{ProgramShape, client_at, object_at}
use Rattle.qs_serial.specs.audit.NamedOrders.{order_of}
use Rattle.qs_standings.specs.Standings.{StandingShape}
use Rattle.qs_report.specs.OutcomesText.{no_standing}
use Rattle.qs_text.specs.audit.Texts.{texts_up_to}
use Rattle.qs_report.proofs.UniqueOutcomes.{IsSame, same_lists}
use Rattle.qs_text.proofs.SameTexts.{same_texts}
use Rattle.qs_json.specs.audit.Pieces.{array_up_to, field, first_field, quoted}
use Rattle.qs_json.specs.audit.RunJson.{state_json}
use Rattle.qs_json.specs.OutcomesJson.{head_json, listed_json, outcome_json, outcome_json_at, IsOutcomesJson, OutcomesJsonIsUnique}
use Rattle.qs_json.specs.audit.Variables.{variables_json}

same_outcome : (p : ProgramShape) (n : ℕ) (s t : StandingShape) → IsSame s t → outcome_json p n s ≡ outcome_json p n t
same_outcome p n s t (order, e) = λ i.
    head_json n (order i)
    ++ (field (codes "states") (array_up_to (length p.objects) (λ h. state_json (object_at p h).name ((e i).states h)))
    ++ field (codes "clients") (array_up_to (length p.clients)
    (λ c. first_field (codes "client") (quoted (client_at p c).name) ++ variables_json (client_at p c).variables ((e i).locals c) ++ codes "}")))
    ++ codes "}\n"

pub one_outcomes_json : OutcomesJsonIsUnique
unfolding IsOutcomesJson
one_outcomes_json p limit bound front text other (all, are, within, is) (every, too, below, one) =
    let (zip, counts) = same_lists p (order_of front) all every are too in
    let long : length all.found ≡ length every.found = length_all_zip IsSame all.found every.found zip in
    let found : texts_up_to (length all.found) (outcome_json_at p all.found) ≡ texts_up_to (length every.found) (outcome_json_at p every.found) =
    same_texts (outcome_json_at p all.found) (outcome_json_at p every.found) (length all.found)
    (λ k less. same_outcome p (k + 1) (get_or all.found k no_standing) (get_or every.found k no_standing)
    (AllZip-get_or IsSame all.found every.found k no_standing no_standing zip less))
    ∙ ap (λ n. texts_up_to n (outcome_json_at p every.found)) long in
    let texts : listed_json p all ≡ listed_json p every = λ i.
    found i ++ first_field (codes "outcomes") (decimal (long i)) ++ field (codes "configurations") (decimal (counts i)) ++ codes "}\n" in
    is ∙ texts ∙ sym one
