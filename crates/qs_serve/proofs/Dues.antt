-- Out of memory is always a due answer, the status 4 is due only after a read has failed, the status 0 only with a
-- text, the report of a run is due where the line asked for that run, and what is due of the program of a text is due of
-- the text. The function `serve` and those that find what is due stand on it. Each goes by cases on what the line asks
-- for and on the answer.
use Rattle.std.proofs.Common.{◌≡◌, ◌≤◌, ◌⊎◌, ◌||◌, if◌then◌else◌, ℕ, Bool, List, [], ◌∷◌, ◌∙◌, Option, Some, None, Result, Ok, Err, true, false, refl, sym, subst, inl, inr, IsOkAnd}
use Rattle.std.specs.Prelude.{IsErrOf, is_some}
use Rattle.std.proofs.lemmas.List.{append-nil}
use Rattle.qs_played.specs.audit.Played.{Played}
use Rattle.qs_report.specs.declared.faults.Fault.{Fault}
use Rattle.qs_report.specs.declared.faults.Fault.TheVariants as fault
use Rattle.qs_report.specs.Faults.{fault_status}
use Rattle.qs_script.specs.declared.fault.ReadFault.TheVariants as read
use Rattle.qs_check.specs.declared.fault_places.fault.CheckFault.TheVariants as check_fault
use Rattle.qs_played.specs.declared.fault.PlayFault.TheVariants as play_fault
use Rattle.qs_program.specs.audit.Program.{ProgramShape}
use Rattle.qs_serial.specs.audit.NamedOrders.{order_of}
use Rattle.qs_serial.specs.declared.fault.OrderFault.TheVariants as order_fault
use Rattle.qs_serial.specs.declared.fault.OrderFault.{OrderFault}
use Rattle.qs_outcomes.specs.Outcomes.{AreOutcomesAfter, OutcomesShape}
use Rattle.qs_outcomes.specs.declared.fault.OutcomesFault.TheVariants as outcomes_fault
use Rattle.qs_script.specs.declared.tree.tree.Item.{Item}
use Rattle.qs_script.specs.audit.Reads.{IsScriptText}
use Rattle.qs_check.specs.audit.Checked.{fault_of}
use Rattle.qs_check.specs.audit.resolution.Resolve.{program_of_items}
use Rattle.qs_dot.specs.node_lines.NodeLines.{node_lines}
use Rattle.qs_report.specs.EndsText.{IsEndsText}
use Rattle.qs_report.specs.OutcomesText.{IsOutcomesText}
use Rattle.qs_json.specs.EndsJson.{IsEndsJson}
use Rattle.qs_json.specs.OutcomesJson.{IsOutcomesJson}
use Rattle.qs_line.specs.audit.Named.{clients_of}
use Rattle.qs_line.specs.declared.parts.Part.{Part}
use Rattle.qs_line.specs.declared.line.Format.{Format}
use Rattle.qs_line.specs.declared.line.Format.TheVariants as format
use Rattle.qs_line.specs.declared.line.OutcomesFormat.{OutcomesFormat}
use Rattle.qs_line.specs.declared.line.GraphFormat.TheVariants as graph_format
use Rattle.qs_line.specs.declared.line.ReportStyle.{ReportStyle}
use Rattle.qs_line.specs.audit.Line.{Line, Request, alike, ask, asks, check, estimate, fronts, graph, help, outcomes, play, refused, rules, run, syncs, tally, version}
use Rattle.qs_conditions.specs.declared.claim.Claim.{Claim}
use Rattle.qs_conditions.specs.declared.condition.Summand.{Summand}
use Rattle.qs_line.specs.declared.question.Question.TheVariants as question
use Rattle.qs_questions.specs.SumValues.{AreValuesOf}
use Rattle.qs_questions.specs.declared.sums.SumValue.{SumValue}
use Rattle.qs_report.specs.ValuesText.{IsValuesText}
use Rattle.qs_json.specs.ValuesJson.{IsValuesJson}
use Rattle.qs_outcomes.specs.Answers.{AnswerShape}
use Rattle.std.specs.Prelude.{IfSome}
use Rattle.std.specs.List.{AllByRecursion}
use Rattle.qs_objects.specs.declared.held.Ticket.{Ticket}
use Rattle.qs_meaning.specs.Configurations.{OrderOutcome}
use Rattle.qs_meaning.specs.audit.Serial.{IsLegal}
use Rattle.qs_conditions.specs.declared.claim.Quantifier.{Quantifier}
use Rattle.qs_conditions.specs.declared.claim.Quantifier.TheVariants as quantifier
use Rattle.qs_outcomes.specs.Answers.{IsWitnessAfter}
use Rattle.qs_outcomes.specs.Outcomes.{HasPlaces}
use Rattle.qs_standings.specs.Standings.{StandingShape}
use Rattle.qs_outcomes.specs.throughout.Courses.{IsCourseWitnessAfter}
use Rattle.qs_alike.specs.Changes.{Classes}
use Rattle.qs_questions.specs.Claims.{IsAnswerBy, IsAnswerTo, is_sought}
use Rattle.qs_questions.specs.Questions.{first_unknown_in}
use Rattle.qs_report.specs.AnswerText.{IsAnswerText, is_yes}
use Rattle.qs_json.specs.AnswerJson.{IsAnswerJson}
use Rattle.qs_run.specs.many.Repeats.{IsTallyBy}
use Rattle.qs_tally.specs.Tallies.{CountedShape, IsEnd, TallyShape, standings_in}
use Rattle.qs_syncset.specs.declared.mode.Mode.{Mode}
use Rattle.qs_played.specs.declared.schedule.actor.Actor.{Actor}
use Rattle.qs_core.specs.state.CoreState.{IsShownIsolated}
use Rattle.qs_played.specs.Isolation.{IsIsolated}
use Rattle.qs_serve.specs.audit.RunReports.{report_by}
use Rattle.qs_serve.specs.audit.Due.{told_report}
use Rattle.qs_serve.specs.Due.{AreLinesFor, AreLinesWhere, AreValuesDue, IsAnswerAfterDue, IsAnswered, IsClaimAnswer, IsCounted, IsDue, IsDueAfter, answer_in, most_numbered, IsDueOfProgram, IsDueOfWhole, IsListOf, IsOutOfMemory, IsProgramOf, IsRefusedBy, IsUnordered, IsReportBetween, IsReportOf, IsSomeText, IsTextBy, IsTextOfOutcomes, Lines, IsUnanswered, IsUnlisted, due_status, limit_in, listed_as, values_in, IsTextOfList, IsValuesAnswer}
use Rattle.qs_serve.specs.declared.due.Due.{Due}
use Rattle.qs_serve.specs.declared.due.Due.TheVariants.{Text, No, Refused}

-- of the faults only the input's has the status 4
status_of_input : (f : Fault) → fault_status f ≡ 4 → f ≡ fault.Input
status_of_input fault.Input e = refl
status_of_input fault.CommandLine e = absurd (cc e)
status_of_input fault.Memory e = absurd (cc e)
status_of_input (fault.Read read.Memory) e = absurd (cc e)
status_of_input (fault.Read _) e = absurd (cc e)
status_of_input (fault.Check check_fault.Memory) e = absurd (cc e)
status_of_input (fault.Check _) e = absurd (cc e)
status_of_input (fault.Play play_fault.Memory) e = absurd (cc e)
status_of_input (fault.Play _) e = absurd (cc e)
status_of_input (fault.Order order_fault.Memory) e = absurd (cc e)
status_of_input (fault.Order order_fault.Order) e = absurd (cc e)
status_of_input (fault.Run _) e = absurd (cc e)
status_of_input (fault.Outcomes outcomes_fault.Memory) e = absurd (cc e)
status_of_input (fault.Outcomes outcomes_fault.Limit) e = absurd (cc e)
status_of_input (fault.Outcomes outcomes_fault.Order) e = absurd (cc e)

-- no fault has the status 0
pub zero_is_none : (f : Fault) → fault_status f ≡ 0 → ⊥
zero_is_none fault.Input e = absurd (cc e)
zero_is_none fault.CommandLine e = absurd (cc e)
zero_is_none fault.Memory e = absurd (cc e)
zero_is_none (fault.Read read.Memory) e = absurd (cc e)
zero_is_none (fault.Read _) e = absurd (cc e)
zero_is_none (fault.Check check_fault.Memory) e = absurd (cc e)
zero_is_none (fault.Check _) e = absurd (cc e)
zero_is_none (fault.Play play_fault.Memory) e = absurd (cc e)
zero_is_none (fault.Play _) e = absurd (cc e)
zero_is_none (fault.Order order_fault.Memory) e = absurd (cc e)
zero_is_none (fault.Order order_fault.Order) e = absurd (cc e)
zero_is_none (fault.Run _) e = absurd (cc e)
zero_is_none (fault.Outcomes outcomes_fault.Memory) e = absurd (cc e)
zero_is_none (fault.Outcomes outcomes_fault.Limit) e = absurd (cc e)
zero_is_none (fault.Outcomes outcomes_fault.Order) e = absurd (cc e)

-- and none has the status 1
pub one_is_none : (f : Fault) → fault_status f ≡ 1 → ⊥
one_is_none fault.Input e = absurd (cc e)
one_is_none fault.CommandLine e = absurd (cc e)
one_is_none fault.Memory e = absurd (cc e)
one_is_none (fault.Read read.Memory) e = absurd (cc e)
one_is_none (fault.Read _) e = absurd (cc e)
one_is_none (fault.Check check_fault.Memory) e = absurd (cc e)
one_is_none (fault.Check _) e = absurd (cc e)
one_is_none (fault.Play play_fault.Memory) e = absurd (cc e)
one_is_none (fault.Play _) e = absurd (cc e)
one_is_none (fault.Order order_fault.Memory) e = absurd (cc e)
one_is_none (fault.Order order_fault.Order) e = absurd (cc e)
one_is_none (fault.Run _) e = absurd (cc e)
one_is_none (fault.Outcomes outcomes_fault.Memory) e = absurd (cc e)
one_is_none (fault.Outcomes outcomes_fault.Limit) e = absurd (cc e)
one_is_none (fault.Outcomes outcomes_fault.Order) e = absurd (cc e)

-- so what is due with it is a text
pub zero_is_text : (due : Due) → due_status due ≡ 0 → IsSomeText due
zero_is_text (Text bytes) e = tt
zero_is_text (No bytes) e = tt
zero_is_text (Refused f) e = absurd (zero_is_none f e)

-- a status of 4 that is due says that a read has failed
pub four_is_due : (line : Line) (known : Option (List ℕ)) (failed : Bool) (due : Due) → IsDue line known failed due → due_status due ≡ 4 → failed ≡ true
four_is_due line known failed (Text bytes) is e = absurd (cc e)
four_is_due line known failed (No bytes) is e = absurd (cc e)
four_is_due refused known failed (Refused f) (inl memory) e = absurd (cc (memory, e))
four_is_due refused known failed (Refused f) (inr line) e = absurd (cc (line, e))
four_is_due help known failed (Refused f) (inl memory) e = absurd (cc (memory, e))
four_is_due help known failed (Refused f) (inr none) e = absurd none
four_is_due version known failed (Refused f) (inl memory) e = absurd (cc (memory, e))
four_is_due version known failed (Refused f) (inr none) e = absurd none
four_is_due (asks request) known true (Refused f) is e = refl
four_is_due (asks request) known false (Refused f) is e = absurd (is.0 (status_of_input f e))

-- what holds of those whom a list names, where they are known
pub of_named : {A E : Type 0} (P : A → Type 0) (r : Result A E) (x : A) → r ≡ Ok x → P x → IsOkAnd r P
of_named P r x e holds = subst (λ s. IsOkAnd s P) (sym e) holds

-- a report between some lines that is due by what was asked for
pub due_by_lines : (request : Request) (style : ReportStyle) (p : ProgramShape) (steps queues : List ℕ) (played : Played) (due : Due)
    → ((text : List ℕ) → text ≡ told_report steps queues (report_by style p played) → IsTextBy request [] p text)
    → IsReportBetween steps queues style p played due → IsOutOfMemory due ⊎ IsDueOfProgram request [] p due
due_by_lines request style p steps queues played (Text bytes) by is = inr (by bytes.items is)
due_by_lines request style p steps queues played (No bytes) by is = absurd is
due_by_lines request style p steps queues played (Refused f) by is = inl (subst (λ g. IsOutOfMemory (Refused g)) (sym is) tt)

-- a report alone stands between no lines
pub alone : (text report : List ℕ) → text ≡ report → text ≡ told_report [] [] report
alone text report is = is ∙ sym (append-nil report)

-- a report alone that is due by what was asked for
pub due_by_report : (request : Request) (style : ReportStyle) (p : ProgramShape) (played : Played) (due : Due)
    → ((text : List ℕ) → text ≡ report_by style p played → IsTextBy request [] p text) → IsReportOf style p played due
    → IsOutOfMemory due ⊎ IsDueOfProgram request [] p due
due_by_report request style p played (Text bytes) by is = inr (by bytes.items is)
due_by_report request style p played (No bytes) by is = absurd is
due_by_report request style p played (Refused f) by is = inl (subst (λ g. IsOutOfMemory (Refused g)) (sym is) tt)

-- an order that is refused for what it is
pub unordered : {A : Type 0} (p : ProgramShape) (clients : List ℕ) (r : Result A OrderFault) (f : OrderFault) → r ≡ Err f
    → (IsErrOf r order_fault.Order → ¬ IsLegal p (order_of clients)) → (IsErrOf r order_fault.Memory → IsLegal p (order_of clients))
    → IsUnordered p clients f
unordered p clients r order_fault.Order is illegal legal = illegal is
unordered p clients r order_fault.Memory is illegal legal = legal is

-- where neither steps nor queues are asked for, none stand beside a report
pub no_steps : (steps queues : Bool) (Are : List ℕ → Type 0) → (steps || queues) ≡ false → AreLinesWhere steps Are []
no_steps true queues Are none = absurd (cc none)
no_steps false queues Are none = refl

pub no_queues : (steps queues : Bool) (Are : List ℕ → Type 0) → (steps || queues) ≡ false → AreLinesWhere queues Are []
no_queues true queues Are none = absurd (cc none)
no_queues false true Are none = absurd (cc none)
no_queues false false Are none = refl

-- lines that are right where they are asked for, and empty where they are not
pub lines_where : (asked : Bool) (Are : List ℕ → Type 0) (lines told : List ℕ) → told ≡ (if asked then lines else []) → Are lines → AreLinesWhere asked Are told
lines_where true Are lines told is are = subst Are (sym is) are
lines_where false Are lines told is are = is

pub report_is_no_input : (style : ReportStyle) (p : ProgramShape) (played : Played) (due : Due) → IsReportOf style p played due
    → ¬ IsRefusedBy fault.Input due
report_is_no_input style p played (Text bytes) is = λ none. none
report_is_no_input style p played (No bytes) is = λ none. none
report_is_no_input style p played (Refused f) is = λ e. absurd (cc (is, e))

-- a list of outcomes, or of their ends, that is due by what was asked for, in either format
due_by_list : (ends : Bool) (how : Format) (p : ProgramShape) (limit : ℕ) (clients : List ℕ) (all : OutcomesShape) (text : List ℕ)
    → AreOutcomesAfter p (order_of clients) all → all.configurations ≤ limit → IsTextOfList ends how p all text
    → IsTextOfOutcomes (listed_as ends how) p limit clients text
unfolding IsOutcomesText IsOutcomesJson IsEndsText IsEndsJson
due_by_list false format.Text p limit clients all text are within is = (all, are, within, is)
due_by_list false format.Json p limit clients all text are within is = (all, are, within, is)
due_by_list true format.Text p limit clients all text are within (words, is) = (all, are, within, words, is)
due_by_list true format.Json p limit clients all text are within (words, is) = (all, are, within, words, is)

pub due_after_list : (ends : Bool) (how : Format) (p : ProgramShape) (limit : ℕ) (clients : List ℕ) (all : OutcomesShape) (due : Due)
    → AreOutcomesAfter p (order_of clients) all → all.configurations ≤ limit → IsListOf ends how p all due
    → IsDueAfter (listed_as ends how) p limit clients due
due_after_list ends how p limit clients all (Text bytes) are within is = due_by_list ends how p limit clients all bytes.items are within is
due_after_list ends how p limit clients all (No bytes) are within is = absurd is
due_after_list ends how p limit clients all (Refused f) are within is =
    subst (λ g. IsDueAfter (listed_as ends how) p limit clients (Refused g)) (sym is) tt

-- what is due after the blocks of the clients that a list names is due by what was asked for
pub due_by_outcomes : (how : OutcomesFormat) (p : ProgramShape) (limit threads : ℕ) (front : List Part) (clients : List ℕ) (due : Due)
    → clients_of p front ≡ Ok clients → IsDueAfter how p limit clients due → IsOutOfMemory due ⊎ IsDueOfProgram (outcomes how limit threads front) [] p due
due_by_outcomes how p limit threads front clients (Text bytes) named is =
    inr (of_named (λ xs. IsTextOfOutcomes how p limit xs bytes.items) (clients_of p front) clients named is)
due_by_outcomes how p limit threads front clients (No bytes) named is = absurd is
due_by_outcomes how p limit threads front clients (Refused fault.Memory) named is = inl tt
due_by_outcomes how p limit threads front clients (Refused (fault.Outcomes f)) named is =
    inr (of_named (λ xs. IsUnlisted p (limit_in how limit) xs f) (clients_of p front) clients named is)
due_by_outcomes how p limit threads front clients (Refused fault.CommandLine) named is = absurd is
due_by_outcomes how p limit threads front clients (Refused fault.Input) named is = absurd is
due_by_outcomes how p limit threads front clients (Refused (fault.Read f)) named is = absurd is
due_by_outcomes how p limit threads front clients (Refused (fault.Check f)) named is = absurd is
due_by_outcomes how p limit threads front clients (Refused (fault.Play f)) named is = absurd is
due_by_outcomes how p limit threads front clients (Refused (fault.Order f)) named is = absurd is
due_by_outcomes how p limit threads front clients (Refused (fault.Run f)) named is = absurd is

-- where a place was found there is one
pub found_some : (found due : Option ℕ) → found ≡ due → true ≡ is_some found → due ≡ None → ⊥
found_some None due e h none = absurd (cc h)
found_some (Some i) due e h none = absurd (cc (e, none))

-- a witness has its places, wherever it was found
places_at_end : (p : ProgramShape) (k : Classes) (front : List Ticket) (asked : OrderOutcome → Bool) (w : Option StandingShape)
    → IfSome w (IsWitnessAfter p k front asked) → IfSome w (HasPlaces p)
places_at_end p k front asked None is = tt
places_at_end p k front asked (Some s) is = is.end.places

places_on_the_way : (p : ProgramShape) (front : List Ticket) (asked : OrderOutcome → Bool) (w : Option StandingShape) → IfSome w (IsCourseWitnessAfter p front asked) → IfSome w (HasPlaces p)
places_on_the_way p front asked None is = tt
places_on_the_way p front asked (Some s) is = is.on_the_way.places

places_by : (kind : Quantifier) (p : ProgramShape) (k : Classes) (front : List Ticket) (asked : OrderOutcome → Bool) (a : AnswerShape)
    → IsAnswerBy kind p k front asked a → IfSome a.witness (HasPlaces p)
places_by quantifier.Always p k front asked a is = places_at_end p k front asked a.witness is.witness
places_by quantifier.Some p k front asked a is = places_at_end p k front asked a.witness is.witness
places_by quantifier.Throughout p k front asked a is = places_on_the_way p front asked a.witness is.witness
places_by quantifier.Ever p k front asked a is = places_on_the_way p front asked a.witness is.witness
places_by quantifier.Never p k front asked a is = places_on_the_way p front asked a.witness is.witness

pub answer_places : (claim : Claim) (p : ProgramShape) (front : List Ticket) (a : AnswerShape) → IsAnswerTo claim p front a
    → IfSome a.witness (HasPlaces p)
answer_places claim p front a (k, classes, is) = places_by claim.quantifier p k front (is_sought claim p) a is

-- an answer that is due by a claim, in either format
answered_by : (holds : Bool) (how : Format) (p : ProgramShape) (claim : Claim) (limit : ℕ) (clients : List ℕ) (a : AnswerShape) (text : List ℕ)
    → IsAnswerTo claim p (order_of clients) a → a.configurations ≤ limit → is_yes claim.quantifier a ≡ holds → text ≡ answer_in how p claim a
    → IsClaimAnswer how p claim limit clients holds text
unfolding IsAnswerText IsAnswerJson
answered_by holds format.Text p claim limit clients a text are within is e = (a, are, within, sym is, e)
answered_by holds format.Json p claim limit clients a text are within is e = (a, are, within, sym is, e)

pub answer_after : (how : Format) (p : ProgramShape) (claim : Claim) (limit : ℕ) (clients : List ℕ) (a : AnswerShape) (due : Due)
    → IsAnswerTo claim p (order_of clients) a → a.configurations ≤ limit → IsAnswered how p claim a due
    → IsAnswerAfterDue how p (question.Claim claim) limit clients due
answer_after how p claim limit clients a (Text bytes) are within is = answered_by true how p claim limit clients a bytes.items are within is.0 is.1
answer_after how p claim limit clients a (No bytes) are within is = answered_by false how p claim limit clients a bytes.items are within is.0 is.1
answer_after how p claim limit clients a (Refused f) are within is = subst (λ g. IsAnswerAfterDue how p (question.Claim claim) limit clients (Refused g)) (sym is) tt

-- the values of a sum that are due by a question, in either format
values_by : (how : Format) (p : ProgramShape) (sum : List Summand) (limit : ℕ) (clients : List ℕ) (all : OutcomesShape) (values : List SumValue) (text : List ℕ)
    → AreOutcomesAfter p (order_of clients) all → all.configurations ≤ limit → AreValuesOf p sum all.found values → text ≡ values_in how values all
    → IsValuesAnswer how p sum limit clients text
unfolding IsValuesText IsValuesJson
values_by format.Text p sum limit clients all values text are within exact is = (all, values, are, within, exact, is)
values_by format.Json p sum limit clients all values text are within exact is = (all, values, are, within, exact, is)

pub values_after : (how : Format) (p : ProgramShape) (sum : List Summand) (limit : ℕ) (clients : List ℕ) (all : OutcomesShape) (due : Due)
    → AreOutcomesAfter p (order_of clients) all → all.configurations ≤ limit → AreValuesDue how p sum all due
    → IsAnswerAfterDue how p (question.Values sum) limit clients due
values_after how p sum limit clients all (Text bytes) are within (values, exact, is) =
    (refl, values_by how p sum limit clients all values bytes.items are within exact is)
values_after how p sum limit clients all (No bytes) are within is = absurd is
values_after how p sum limit clients all (Refused f) are within is =
    subst (λ g. IsAnswerAfterDue how p (question.Values sum) limit clients (Refused g)) (sym is) tt

pub values_are_no_input : (how : Format) (p : ProgramShape) (sum : List Summand) (all : OutcomesShape) (due : Due) → AreValuesDue how p sum all due
    → ¬ IsRefusedBy fault.Input due
values_are_no_input how p sum all (Text bytes) is = λ none. none
values_are_no_input how p sum all (No bytes) is = λ none. none
values_are_no_input how p sum all (Refused f) is = λ e. absurd (cc (is, e))

-- each end of a tally has its places
places_of : (p : ProgramShape) (ends : List CountedShape) → AllByRecursion (IsEnd p) (standings_in ends)
    → AllByRecursion (λ (e : CountedShape). HasPlaces p e.standing) ends
places_of p [] are = tt
places_of p (e ∷ ends) are = (are.0.places, places_of p ends are.1)

pub tally_places : (p : ProgramShape) (mode : Mode) (size times limit : ℕ) (t : TallyShape) → IsTallyBy p mode size times limit t
    → AllByRecursion (λ (e : CountedShape). HasPlaces p e.standing) t.ends
tally_places p mode size times limit t is = places_of p t.ends is.counted.sound

-- a tally that is due by what was asked for
pub due_by_tally : (how : Format) (mode : Mode) (size times : ℕ) (p : ProgramShape) (t : TallyShape) (due : Due)
    → IsTallyBy p mode size times most_numbered t → IsCounted how p times t due
    → IsOutOfMemory due ⊎ IsDueOfProgram (tally how mode size times) [] p due
due_by_tally how mode size times p t (Text bytes) are is = inr (t, are, is)
due_by_tally how mode size times p t (No bytes) are is = absurd is
due_by_tally how mode size times p t (Refused f) are is = inl (subst (λ g. IsOutOfMemory (Refused g)) (sym is) tt)

pub tally_is_no_input : (how : Format) (p : ProgramShape) (times : ℕ) (t : TallyShape) (due : Due) → IsCounted how p times t due
    → ¬ IsRefusedBy fault.Input due
tally_is_no_input how p times t (Text bytes) is = λ none. none
tally_is_no_input how p times t (No bytes) is = λ none. none
tally_is_no_input how p times t (Refused f) is = λ e. absurd (cc (is, e))

-- a text that has no lines in it is due with any lines
any_text : (request : Request) (found lines : Lines) (p : ProgramShape) (text : List ℕ) → AreLinesFor request found lines → IsTextBy request found p text
    → IsTextBy request lines p text
any_text (check how) found lines p text are is = is
any_text (graph graph_format.Text) found lines p text are is = is
any_text (graph graph_format.Json) found lines p text are is = is
any_text (graph graph_format.Dot) found lines p text are is = subst (λ xs. IsTextBy (graph graph_format.Dot) xs p text) are is
any_text (rules style plan) found lines p text are is = is
any_text (play style mode size plan) found lines p text are is = is
any_text (syncs how plan) found lines p text are is = is
any_text (run style mode size) found lines p text are is = is
any_text (tally how mode size times) found lines p text are is = is
any_text (ask claim how limit threads front) found lines p text are is = is
any_text (estimate how front) found lines p text are is = is
any_text (fronts how blocks limit orders) found lines p text are is = is
any_text (alike how limit) found lines p text are is = is
any_text (outcomes how limit threads front) found lines p text are is = is

-- what is due with the lines that were found is due with these
pub due_with_lines : (request : Request) (found lines : Lines) (p : ProgramShape) (due : Due) → AreLinesFor request found lines
    → IsDueOfProgram request found p due → IsDueOfProgram request lines p due
due_with_lines request found lines p (Text bytes) are is = any_text request found lines p bytes.items are is
due_with_lines request found lines p (No bytes) are is = is
due_with_lines request found lines p (Refused f) are is = is

pub due_with_any : (request : Request) (found lines : Lines) (p : ProgramShape) (due : Due) → AreLinesFor request found lines
    → IsOutOfMemory due ⊎ IsDueOfProgram request found p due → IsOutOfMemory due ⊎ IsDueOfProgram request lines p due
due_with_any request found lines p due are (inl memory) = inl memory
due_with_any request found lines p due are (inr is) = inr (due_with_lines request found lines p due are is)

-- the order of what the optimised machine shows is legal
pub shown_is_legal : (p : ProgramShape) (mode : Mode) (size : ℕ) (picks : List Actor) (rounds : ℕ) (played : Played) → IsShownIsolated p mode size picks rounds played
    → IsLegal p played.order
unfolding IsShownIsolated IsIsolated
shown_is_legal p mode size picks rounds played is = is.3.legal

-- what is due of the program of a text is due of the text
by_program : (request : Request) (text : List ℕ) (s : List Item) (due : Due) → IsScriptText text s → fault_of s ≡ None
    → IsDueOfProgram request (node_lines text s) (program_of_items s) due → IsDueOfWhole request text due
by_program request text s (Text bytes) script sound is = (s, script, sound, is)
by_program request text s (No bytes) script sound is = (s, script, sound, is)
by_program request text s (Refused fault.CommandLine) script sound is = (s, script, sound, is)
by_program request text s (Refused (fault.Play f)) script sound is = (s, script, sound, is)
by_program request text s (Refused (fault.Order f)) script sound is = (s, script, sound, is)
by_program request text s (Refused (fault.Run f)) script sound is = (s, script, sound, is)
by_program request text s (Refused (fault.Outcomes f)) script sound is = (s, script, sound, is)
by_program request text s (Refused fault.Memory) script sound is = absurd is
by_program request text s (Refused fault.Input) script sound is = absurd is
by_program request text s (Refused (fault.Read f)) script sound is = absurd is
by_program request text s (Refused (fault.Check f)) script sound is = absurd is

pub due_by_program : (request : Request) (text : List ℕ) (found : Lines) (p : ProgramShape) (due : Due) → IsProgramOf request text found p
    → IsOutOfMemory due ⊎ IsDueOfProgram request found p due → IsOutOfMemory due ⊎ IsDueOfWhole request text due
due_by_program request text found p due of (inl memory) = inl memory
due_by_program request text found p due (s, script, sound, e, are) (inr is) =
    inr (by_program request text s due script sound
    (subst (λ q. IsDueOfProgram request (node_lines text s) q due) e (due_with_lines request found (node_lines text s) p due are is)))
