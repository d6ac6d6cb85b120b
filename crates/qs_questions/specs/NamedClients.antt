-- Which clients' variables a condition names: each of these stays where it is, where alike clients change places.
use Rattle.std.specs.Prelude.{◌≡◌, ◌<◌, ◌==◌, ℕ, Bool, true, false, List, length, Option, Some, None}
use Rattle.std.specs.List.{list_any}
use Rattle.qs_program.specs.audit.Program.{ProgramShape}
use Rattle.qs_conditions.specs.declared.condition.Value.{Value}
use Rattle.qs_conditions.specs.declared.condition.Value.TheVariants.{Number, Variable, Reply}
use Rattle.qs_conditions.specs.declared.condition.Summand.{Summand}
use Rattle.qs_conditions.specs.declared.condition.Step.{Step}
use Rattle.qs_alike.specs.Changes.{AreClasses, Classes, HaveSameText}
use Rattle.qs_questions.specs.Questions.{client_of, summands_of}

-- whether it is that client
abbrev pub is_client : Option ℕ → ℕ → Bool
is_client None c = false
is_client (Some d) c = d == c

-- whether a value is a variable of the client
abbrev pub names : ProgramShape → Value → ℕ → Bool
names p (Number n) c = false
names p (Variable client name) c = is_client (client_of p client) c
names p (Reply object text args) c = false

-- whether one of these names a variable of the client
abbrev pub is_named : ProgramShape → List Summand → ℕ → Bool
is_named p xs c = list_any (λ (x : Summand). names p x.value c) xs

-- whether the steps of a condition do
abbrev pub named_clients : ProgramShape → List Step → ℕ → Bool
named_clients p steps = is_named p (summands_of steps)

-- Classes of alike clients, in which each whose variable the condition names is alone. All others with the same text are
-- of one class.
pub record AreClassesFor (p : ProgramShape) (steps : List Step) (k : Classes) : Type 0 where
  pub classes : AreClasses p k
  pub alone : (c d : ℕ) → named_clients p steps c ≡ true → k c ≡ k d → c ≡ d
  pub others : (c d : ℕ) → c < length p.clients → d < length p.clients → named_clients p steps c ≡ false
      → named_clients p steps d ≡ false → HaveSameText p c d → k c ≡ k d
