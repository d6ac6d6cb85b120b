-- A program has just one text of its ends after a front, however they are found. The law on these texts,
-- `EndsTextsAreUnique`, is proved here. Two lists of all outcomes are the same, place by place; so they have the same
-- texts, and these are one text in the order of their bytes.
use Rattle.std.proofs.Common.{◌≡◌, ℕ, List, [], ◌∷◌, ◌++◌, codes, length, map, refl, subst}
use Rattle.std.specs.List.{AllZip}
use Rattle.std.specs.List.Sorted.{IsPermutation}
use Rattle.std.proofs.lemmas.List.Sorted.{IsPermutation-refl}
use Rattle.qs_program.specs.audit.Program.{ProgramShape, client_at, object_at}
use Rattle.qs_serial.specs.audit.NamedOrders.{order_of}
use Rattle.qs_standings.specs.Standings.{StandingShape}
use Rattle.qs_text.specs.audit.Texts.{texts_up_to}
use Rattle.qs_text.proofs.SameOrders.{one_order}
use Rattle.qs_report.specs.EndsText.{EndsTextsAreUnique, IsEndsText, end_text, end_texts}
use Rattle.qs_text.specs.Variables.{variables_text}
use Rattle.qs_report.specs.audit.Report.{state_line}
use Rattle.qs_report.proofs.UniqueOutcomes.{IsSame, same_lists}

same_end : (p : ProgramShape) (s t : StandingShape) → IsSame s t → end_text p s ≡ end_text p t
same_end p s t (order, e) = λ i.
    codes "end\n" ++ texts_up_to (length p.objects) (λ h. state_line (object_at p h).name ((e i).states h))
    ++ texts_up_to (length p.clients) (λ c. (client_at p c).name ++ variables_text (client_at p c).variables ((e i).locals c) ++ codes "\n")

-- of each place one text
pub same_each : (text : StandingShape → List ℕ) → ((s t : StandingShape) → IsSame s t → text s ≡ text t)
    → (xs ys : List StandingShape) → AllZip IsSame xs ys → map text xs ≡ map text ys
same_each text same [] [] zip = refl
same_each text same [] (y ∷ ys) zip = absurd zip
same_each text same (x ∷ xs) [] zip = absurd zip
same_each text same (x ∷ xs) (y ∷ ys) (first, zip) =
    let rest = same_each text same xs ys zip in λ i. same x y first i ∷ rest i

pub one_ends_text : EndsTextsAreUnique
unfolding IsEndsText
one_ends_text p limit bound front text other (all, are, within, words, is) (every, too, below, others, one) =
    let (zip, counts) = same_lists p (order_of front) all every are too in
    one_order (end_texts p all.found) (end_texts p every.found) text other
    (subst (λ (texts : List (List ℕ)). IsPermutation (end_texts p all.found) texts) (same_each (end_text p) (same_end p) all.found every.found zip)
    (IsPermutation-refl (end_texts p all.found))) is one
