-- What the claims of lines are: of conditions.
use Rattle.std.specs.Prelude.{◌≡◌, ℕ, List, Some, ⊤}
use Rattle.std.specs.List.{AllByRecursion}
use Rattle.clap.specs.Words.{Text}
use Rattle.qs_conditions.specs.Conditions.{Tree, steps_of}
use Rattle.qs_line.specs.declared.question.Question.{Question}
use Rattle.qs_line.specs.declared.question.Question.TheVariants as question
use Rattle.qs_line.specs.audit.Line.{Request, ask, asks}
use Rattle.qs_line.specs.Line.{line_in}
use Rattle.qs_line.specs.ScriptClaims.{claims_in}

-- a claim's steps are those of a condition
abbrev pub IsOfCondition : Question → Type 0
IsOfCondition (question.Claim claim) = (c : Tree) × (claim.condition ≡ steps_of c)
IsOfCondition (question.Values sum) = ⊤

-- where claims are asked, each is of a condition
abbrev pub HaveConditions : Request → Type 0
HaveConditions (ask questions how limit threads front) = AllByRecursion IsOfCondition questions
HaveConditions _ = ⊤

-- so it is for the claims of every script's text
abbrev pub ScriptClaimsHaveConditions : Type 0
ScriptClaimsHaveConditions =
    (text : List ℕ) (claims : List Question) → claims_in text ≡ Some claims → AllByRecursion IsOfCondition claims

-- and for every line
abbrev pub ClaimsHaveConditions : Type 0
ClaimsHaveConditions = (words : List Text) (request : Request) → line_in words ≡ asks request → HaveConditions request
