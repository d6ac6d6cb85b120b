-- What is due of one of all alike outcomes. The function `due_of_alike` stands on it. Each goes by cases on what is
-- due.
use Rattle.std.proofs.Common.{◌≡◌, ◌≤◌, ◌⊎◌, ℕ, [], Result, Ok, Err, Vec, IfOk, length, sym, subst, inl, inr}
use Rattle.std.specs.Global.{Global}
use Rattle.std.specs.List.{AllByRecursion}
use Rattle.std.proofs.lemmas.Slice.Zip.{AllZip-long}
use Rattle.qs_program.specs.audit.Program.{ProgramShape}
use Rattle.qs_meaning.proofs.Each.{each_map}
use Rattle.qs_outcomes.specs.Outcomes.{HasPlaces, outcome_at}
use Rattle.qs_outcomes.specs.alike.AlikeOutcomes.{AlikeShape, AreAlikeOutcomes, IsEnd, StandsFor}
use Rattle.qs_alike.specs.Changes.{Classes}
use Rattle.qs_line.specs.audit.Line.{alike}
use Rattle.qs_line.specs.declared.line.Format.{Format}
use Rattle.qs_serve.specs.Due.{AreTheClasses, IsAlikeText, IsDueOfProgram, IsOutOfMemory, IsTextOf, alike_in}
use Rattle.qs_serve.specs.declared.due.Due.{Due}

pub alike_places : (p : ProgramShape) (k : Classes) (all : AlikeShape) → AreAlikeOutcomes p k all → AllByRecursion (HasPlaces p) all.found
alike_places p k all are = each_map (λ s (e : IsEnd p s). e.places) all.found are.sound

pub alike_counted : (p : ProgramShape) (k : Classes) (all : AlikeShape) → AreAlikeOutcomes p k all → length all.counts ≡ length all.found
alike_counted p k all are = AllZip-long (λ s count. StandsFor k (outcome_at s) count) all.found all.counts are.counted

pub due_by_alike : {E : Type 0} (how : Format) (p : ProgramShape) (k : Classes) (limit : ℕ) (all : AlikeShape) (text : Result (Vec ℕ Global) E) (due : Due)
    → AreTheClasses p k → AreAlikeOutcomes p k all → all.configurations ≤ limit
    → IfOk text (λ bytes. bytes.items ≡ alike_in how p all) → IsTextOf text due
    → IsOutOfMemory due ⊎ IsDueOfProgram (alike how limit) [] p due
unfolding IsAlikeText
due_by_alike how p k limit all (Ok bytes) due classes are within is e =
    inr (subst (IsDueOfProgram (alike how limit) [] p) (sym e) (k, classes, (all, are, within, is)))
due_by_alike how p k limit all (Err e) due classes are within is f = inl (subst IsOutOfMemory (sym f) tt)
