-- Beside what the headline reaches (`audit/Headline.antt`): what else contracts and proofs use.
use Rattle.std.specs.Prelude.{◌≡◌, ℕ, List, [], ◌∷◌, ◌++◌, length, map, take, Bool, true, false, if◌then◌else◌, ◌&&◌, Option, Some, None, IfSome, IsOkAnd, ⊤}
use Rattle.std.specs.List.{AllByRecursion}
use Rattle.std.specs.Io.KnownBytes.{Appends}
use Rattle.qs_alike.specs.Changes.{Classes}
use Rattle.qs_check.specs.audit.Checked.{fault_of}
use Rattle.qs_conditions.specs.Conditions.{Tree, steps_of}
use Rattle.qs_conditions.specs.declared.claim.Claim.{Claim}
use Rattle.qs_dot.specs.ChartDot.{chart_text}
use Rattle.qs_dot.specs.Charts.{ChartShape}
use Rattle.qs_line.specs.audit.Line.{Request, alike, ask, asks, by_schedule, fronts, outcomes, play, rules, tally}
use Rattle.qs_line.specs.Line.{line_in}
use Rattle.qs_line.specs.audit.Named.{clients_of}
use Rattle.qs_line.specs.declared.line.Format.{Format}
use Rattle.qs_line.specs.declared.line.OutcomesFormat.{OutcomesFormat}
use Rattle.qs_line.specs.declared.line.OutcomesFormat.TheVariants as outcomes_format
use Rattle.qs_line.specs.declared.line.ReportStyle.{ReportStyle}
use Rattle.qs_line.specs.declared.parts.Part.{Part}
use Rattle.qs_line.specs.declared.question.Question.{Question}
use Rattle.qs_line.specs.declared.question.Question.TheVariants as question
use Rattle.qs_conditions.specs.declared.condition.Summand.{Summand}
use Rattle.qs_questions.specs.SumValues.{AreValuesOf}
use Rattle.qs_questions.specs.declared.sums.SumValue.{SumValue}
use Rattle.qs_outcomes.specs.Answers.{AnswerShape}
use Rattle.qs_outcomes.specs.alike.AlikeOutcomes.{AlikeShape}
use Rattle.qs_outcomes.specs.Outcomes.{OutcomesShape}
use Rattle.qs_promises.specs.Answers.{Says}
use Rattle.qs_played.specs.audit.Played.{Played}
use Rattle.qs_program.specs.audit.Program.{ProgramShape}
use Rattle.qs_promises.specs.Fronts.{AreFrontsOfRuns}
use Rattle.qs_promises.specs.Outcomes.{IsWholeList, IsWholeListUpTo}
use Rattle.qs_promises.specs.audit.Runs.{IsRun, on_threads}
use Rattle.qs_report.specs.AnswerText.{is_yes}
use Rattle.qs_check.specs.audit.resolution.Resolve.{program_of_items}
use Rattle.qs_script.specs.audit.Reads.{IsScriptText}
use Rattle.qs_serial.specs.audit.NamedOrders.{order_of}
use Rattle.qs_serve.specs.audit.Due.{longest}
use Rattle.qs_serve.specs.audit.Headline.{IsReported}
use Rattle.qs_serve.specs.Due.{AreTheClasses, IsTextOfList, alike_in, answer_in, claims_of_script, fronts_in, questions_or, tally_in, values_in}
use Rattle.qs_script.specs.declared.tree.tree.Item.{Item}
use Rattle.qs_standings.specs.Standings.{StandingShape}
use Rattle.qs_syncset.specs.declared.mode.Mode.{Mode}
use Rattle.qs_tally.specs.Tallies.{IsCountOf, TallyShape}

-- This is the text of an answer to the claim on the program, yes or no; and that is true of every run whose order begins
-- with the blocks of the clients that the front names (`Says`), by the condition whose steps are the claim's.
pub record IsTrueAnswer (p : ProgramShape) (how : Format) (front : List Part) (claim : Claim) (holds : Bool) (text : List ℕ)
    : Type 0 where
  pub answer : AnswerShape
  pub is : is_yes claim.quantifier answer ≡ holds
  pub told : text ≡ answer_in how p claim answer
  pub condition : Tree
  pub steps : claim.condition ≡ steps_of condition
  pub of_runs : IsOkAnd (clients_of p front) (λ clients. Says claim.quantifier holds p condition (order_of clients))

-- This is the text of the values that a sum has at the ends of all finished runs whose order begins with the blocks of the
-- clients that the front names: each of them, and no other.
pub record AreTrueValues (p : ProgramShape) (how : Format) (front : List Part) (sum : List Summand) (text : List ℕ) : Type 0 where
  pub all : OutcomesShape
  pub of_runs : IsOkAnd (clients_of p front) (λ clients. IsWholeList p (order_of clients) all.found)
  pub values : List SumValue
  pub exact : AreValuesOf p sum all.found values
  pub told : text ≡ values_in how values all

-- a true answer to a question
abbrev pub IsTrueAnswerTo : ProgramShape → Format → (front : List Part) → Question → (holds : Bool) → List ℕ → Type 0
IsTrueAnswerTo p how front (question.Claim claim) holds text = IsTrueAnswer p how front claim holds text
IsTrueAnswerTo p how front (question.Values sum) holds text = (holds ≡ true) × AreTrueValues p how front sum text

-- such answers to questions, one behind another; together they are yes where each of them is
abbrev pub AreTrueAnswers : ProgramShape → Format → (front : List Part) → List Question → (hold : Bool) → List ℕ → Type 0
AreTrueAnswers p how front [] hold text = (hold ≡ true) × (text ≡ [])
AreTrueAnswers p how front (q ∷ questions) hold text =
    (own rest : List ℕ) × (holds others : Bool) × IsTrueAnswerTo p how front q holds own
    × AreTrueAnswers p how front questions others rest × (hold ≡ (holds && others)) × (text ≡ own ++ rest)

-- The text is a script, which is accepted, and what was written are true answers to the questions on its program.
pub record AreAnsweredTruly (questions : List Question) (how : Format) (front : List Part) (hold : Bool) (text : List ℕ)
    (old new : Option (List ℕ)) : Type 0 where
  pub script : List Item
  pub read : IsScriptText text script
  pub accepted : fault_of script ≡ None
  pub bytes : List ℕ
  pub written : Appends old new bytes
  pub answers : AreTrueAnswers (program_of_items script) how front questions hold bytes

-- Where the line asks questions, or the claims of the script, the status 0 says yes to all of them and the status 1 says
-- no to one, and what was written says so truly.
abbrev pub AreAnswersTrue : List (List ℕ) → Option (List ℕ) → (old new : Option (List ℕ)) → (status : ℕ) → Type 0
AreAnswersTrue words known old new status =
    (questions : List Question) (how : Format) (limit threads : ℕ) (front : List Part)
    → line_in words ≡ asks (ask questions how limit threads front) → (hold : Bool) → status ≡ (if hold then 0 else 1)
    → IfSome known (λ bytes. AreAnsweredTruly (questions_or questions (claims_of_script (take longest bytes))) how front hold
    (take longest bytes) old new)

-- all outcomes after a front in a format: a list, their ends alone, or a drawing in which ends have their numbers
abbrev pub IsTextOfAll : OutcomesFormat → ProgramShape → OutcomesShape → List ℕ → Type 0
IsTextOfAll (outcomes_format.List how) p all text = IsTextOfList false how p all text
IsTextOfAll (outcomes_format.Ends how) p all text = IsTextOfList true how p all text
IsTextOfAll outcomes_format.Dot p all text = (chart : ChartShape) × (text ≡ chart_text p all.found chart)

-- after each of some lists of clients, one behind another, fronts of so many blocks that are of runs
abbrev pub AreTrueFronts : Format → ProgramShape → (blocks : ℕ) → (orders : List (List Part)) → List ℕ → Type 0
AreTrueFronts how p blocks [] text = text ≡ []
AreTrueFronts how p blocks (order ∷ orders) text =
    (found : List StandingShape) × (rest : List ℕ)
    × IsOkAnd (clients_of p order) (λ clients. AreFrontsOfRuns p (order_of clients) blocks found)
    × AreTrueFronts how p blocks orders rest × (text ≡ fronts_in how p found ++ rest)

-- so many finished runs on threads, in this mode and with chunks of this size, of whose orders this is the count
pub record AreCountedRuns (p : ProgramShape) (mode : Mode) (size times : ℕ) (t : TallyShape) : Type 0 where
  pub runs : List Played
  pub many : length runs ≡ times
  pub each : AllByRecursion (λ r. IsRun p (on_threads mode size) r × (r.finished ≡ true)) runs
  pub counted : IsCountOf p (map (λ (r : Played). r.order) runs) t.ends

-- What a list says of runs. All outcomes are those to which finished runs come whose order begins with the blocks of the
-- clients that the front names, and each of them can happen (`IsWholeList`); one of all alike ones is so up to changes
-- of alike clients. After fronts all such runs go on, and each front can be passed. And counts are those of runs that
-- were made.
abbrev pub IsTrueOfRuns : Request → ProgramShape → List ℕ → Type 0
IsTrueOfRuns (outcomes how limit threads front) p text =
    (all : OutcomesShape) × IsTextOfAll how p all text
    × IsOkAnd (clients_of p front) (λ clients. IsWholeList p (order_of clients) all.found)
IsTrueOfRuns (alike how limit) p text =
    (k : Classes) × AreTheClasses p k × ((all : AlikeShape) × IsWholeListUpTo p k all.found × (text ≡ alike_in how p all))
IsTrueOfRuns (fronts how blocks limit orders) p text = AreTrueFronts how p blocks orders text
IsTrueOfRuns (tally how mode size times) p text =
    (t : TallyShape) × AreCountedRuns p mode size times t × (text ≡ tally_in how p times t)
IsTrueOfRuns _ p text = ⊤

-- The text is a script, which is accepted; and what was written says what is true of the runs of its program.
pub record IsTrueList (request : Request) (text : List ℕ) (old new : Option (List ℕ)) : Type 0 where
  pub script : List Item
  pub read : IsScriptText text script
  pub accepted : fault_of script ≡ None
  pub bytes : List ℕ
  pub written : Appends old new bytes
  pub of_runs : IsTrueOfRuns request (program_of_items script) bytes

-- Where the line asks for all outcomes (as a list, their ends alone, one of all alike ones, or a drawing), for fronts, or
-- for the ends of many runs on threads, and the status is 0, what was written is true of every run.
abbrev pub AreListsTrue : List (List ℕ) → Option (List ℕ) → (old new : Option (List ℕ)) → Type 0
AreListsTrue words known old new =
    (request : Request) → line_in words ≡ asks request
    → IfSome known (λ bytes. IsTrueList request (take longest bytes) old new)

-- a run by the plain rules or in the optimised machine, by picks and rounds
abbrev pub IsBySchedule : Request → Type 0
IsBySchedule (rules style (by_schedule rounds picks)) = ⊤
IsBySchedule (play style mode size (by_schedule rounds picks)) = ⊤
IsBySchedule _ = ⊥

-- Two texts that report such a run of one script, as one line asks for it and without lines of steps or of queues, are
-- the same.
abbrev pub ReportsAreUnique : Type 0
ReportsAreUnique =
    (request : Request) (style : ReportStyle) (text old one other : List ℕ)
    → IsBySchedule request → style.steps ≡ false → style.queues ≡ false
    → IsReported request style text (Some old) (Some one) → IsReported request style text (Some old) (Some other)
    → one ≡ other
