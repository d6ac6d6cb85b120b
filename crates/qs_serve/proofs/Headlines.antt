-- What is written reports a run that is as if serial, and answers are true of every run. It follows from what is due: the
-- function `serve` stands on it. With the status 0 a text is due, of a script that is accepted, whose program is sound;
-- by what the line asks for it is the report of a run, and all runs are as if serial.
use Rattle.std.proofs.Common.{◌≡◌, ℕ, Bool, List, [], ◌∷◌, ◌++◌, ◌∙◌, Option, Some, None, Result, Ok, Err, true, false, refl, sym, ap, subst, inl, inr, take, IsOkAnd, Vec}
use Rattle.std.specs.List.{AllByRecursion}
use Rattle.std.specs.Prelude.{IfSome, MatchBool, if◌then◌else◌, unwrap_or}
use Rattle.std.specs.Global.{Global}
use Rattle.std.specs.Io.KnownBytes.{Appends}
use Rattle.qs_check.specs.audit.Checked.{fault_of}
use Rattle.qs_check.proofs.SoundTexts.{sound_accepted}
use Rattle.qs_conditions.specs.Conditions.{Tree, steps_of}
use Rattle.qs_conditions.specs.declared.claim.Claim.{Claim}
use Rattle.qs_conditions.specs.declared.condition.Summand.{Summand}
use Rattle.qs_line.specs.declared.question.Question.{Question}
use Rattle.qs_line.specs.declared.question.Question.TheVariants as question
use Rattle.qs_questions.specs.SumValues.{AreValuesOf}
use Rattle.qs_questions.specs.declared.sums.SumValue.{SumValue}
use Rattle.qs_report.specs.ValuesText.{IsValuesText}
use Rattle.qs_json.specs.ValuesJson.{IsValuesJson}
use Rattle.qs_script.proofs.grammar.Form.{formed}
use Rattle.qs_line.proofs.Claims.{claims_have_conditions, runs_are_lines, script_claims_have_conditions}
use Rattle.qs_line.specs.ScriptClaims.{claims_in}
use Rattle.qs_line.specs.Claims.{IsOfCondition}
use Rattle.qs_line.specs.audit.RunLines.{style_of}
use Rattle.qs_line.specs.audit.Line.{Line, Request, alike, ask, asks, by_order, by_schedule, check, estimate, fronts, graph, outcomes, play, rules, run, syncs, tally}
use Rattle.qs_line.specs.audit.Named.{actors_of, clients_of}
use Rattle.qs_line.specs.declared.line.Format.{Format}
use Rattle.qs_line.specs.declared.line.Format.TheVariants as format
use Rattle.qs_line.specs.declared.line.OutcomesFormat.{OutcomesFormat}
use Rattle.qs_line.specs.declared.line.OutcomesFormat.TheVariants as outcomes_format
use Rattle.qs_meaning.proofs.Each.{each_map}
use Rattle.qs_line.specs.declared.line.ReportStyle.{ReportStyle}
use Rattle.qs_line.specs.declared.parts.Part.{Part}
use Rattle.qs_dot.specs.node_lines.NodeLines.{node_lines}
use Rattle.qs_played.specs.audit.Played.{Played}
use Rattle.qs_played.specs.declared.schedule.actor.Actor.{Actor}
use Rattle.qs_program.specs.audit.Program.{ProgramShape}
use Rattle.qs_program.specs.Sound.{IsSound}
use Rattle.qs_promises.specs.Answers.{Says}
use Rattle.qs_promises.specs.audit.Runs.{IsRun, Way, by_rules, on_machine, on_threads}
use Rattle.qs_promises.specs.Fronts.{AreFrontsOfRuns}
use Rattle.qs_promises.specs.Outcomes.{IsWholeList}
use Rattle.qs_promises.proofs.Calls.{run_of_outcome, run_of_played, run_of_played_in}
use Rattle.qs_promises.proofs.Answering.{answers_of_runs}
use Rattle.qs_promises.proofs.Ending.{alike_lists_of_runs, lists_of_runs}
use Rattle.qs_promises.proofs.Passing.{fronts_of_runs}
use Rattle.qs_run_laws.specs.Outcomes.{IsOutcome}
use Rattle.qs_outcomes.specs.Answers.{AnswerShape}
use Rattle.qs_outcomes.specs.Outcomes.{AreOutcomesAfter, OutcomesShape}
use Rattle.qs_questions.specs.Claims.{IsAnswerTo}
use Rattle.qs_report.specs.AnswerText.{is_yes}
use Rattle.qs_report.specs.EndsText.{IsEndsText}
use Rattle.qs_report.specs.OutcomesText.{IsOutcomesText}
use Rattle.qs_json.specs.EndsJson.{IsEndsJson}
use Rattle.qs_json.specs.OutcomesJson.{IsOutcomesJson}
use Rattle.qs_promises.proofs.AsSerial.{as_if_serial}
use Rattle.qs_report.specs.AnswerText.{IsAnswerText}
use Rattle.qs_json.specs.AnswerJson.{IsAnswerJson}
use Rattle.qs_report.specs.declared.faults.Fault.{Fault}
use Rattle.qs_check.specs.audit.resolution.Resolve.{program_of_items}
use Rattle.qs_serve.specs.audit.RunReports.{report_by}
use Rattle.qs_script.specs.audit.Reads.{IsScriptText}
use Rattle.qs_serial.specs.audit.NamedOrders.{order_of}
use Rattle.qs_serve.specs.audit.Due.{longest, told_report}
use Rattle.qs_serve.specs.Due.{AreAnswersTo, AreFrontsTexts, AreLinesWhere, IsAlikeText, IsFrontsText, IsAnswerBy, IsAnswerTextTo, IsClaimAnswer, IsDue, IsDueOfLine, IsDueOfText, IsDueOfTextAlone, IsDueOfWhole, IsTextBy, IsTextOfOutcomes, IsValuesAnswer, Lines, Serves, answer_in, claims_of_script, due_status, due_text, questions_or, takes_threads, values_in, with_claims}
use Rattle.qs_serve.specs.audit.Headline.{IsAskedFor, IsHeadline, IsReported, IsToTheEnd}
use Rattle.qs_serve.specs.Headline.{AreAnsweredTruly, AreAnswersTrue, AreListsTrue, AreTrueAnswers, AreTrueFronts, AreTrueValues, IsTextOfAll, IsTrueAnswerTo, IsTrueList, IsTrueOfRuns}
use Rattle.qs_serve.specs.Reading.{Reading}
use Rattle.qs_serve.specs.declared.due.Due.{Due}
use Rattle.qs_serve.specs.declared.due.Due.TheVariants.{Text, No, Refused}
use Rattle.qs_serve.proofs.Dues.{alone, of_named, one_is_none, zero_is_none}
use Rattle.qs_script.specs.declared.tree.tree.Item.{Item}

-- the program of an accepted script is sound
sound_script : (text : List ℕ) (s : List Item) → IsScriptText text s → fault_of s ≡ None → IsSound (program_of_items s)
sound_script text s script accepted = sound_accepted s (formed s script.tokens [] script.tree) accepted

-- who is named, where somebody is
pub named : {A E : Type 0} (r : Result A E) (P : A → Type 0) → IsOkAnd r P → (x : A) × (r ≡ Ok x) × P x
named (Ok x) P is = (x, refl, is)
named (Err e) P is = absurd is

-- no lines stand beside a report that asks for none
none_beside : (asked : Bool) (Are : List ℕ → Type 0) (lines : List ℕ) → AreLinesWhere asked Are lines → asked ≡ false
    → lines ≡ []
none_beside true Are lines are unasked = absurd (cc unasked)
none_beside false Are lines are unasked = are

-- The report of a run of a script, with the lines beside it, that was asked for so.
reports : (request : Request) (style : ReportStyle) (text : List ℕ) (old new : Option (List ℕ)) (s : List Item)
    → IsScriptText text s → fault_of s ≡ None → (way : Way) (r : Played) → IsAskedFor request (program_of_items s) way r
    → IsRun (program_of_items s) way r → (steps queues bytes : List ℕ) → (style.steps ≡ false → steps ≡ [])
    → (style.queues ≡ false → queues ≡ [])
    → bytes ≡ told_report steps queues (report_by style (program_of_items s) r) → Appends old new bytes
    → (IsToTheEnd request → r.finished ≡ true) → IsReported request style text old new
reports request style text old new s script accepted way r asked ran steps queues bytes no_steps no_queues is written ends =
    record {
      script = s;
      read = script;
      accepted = accepted;
      way = way;
      shown = r;
      asked = asked;
      is_run = ran;
      steps = steps;
      queues = queues;
      no_steps = no_steps;
      no_queues = no_queues;
      written = subst (Appends old new) is written;
      serial = as_if_serial (program_of_items s) (sound_script text s script accepted) way r ran;
      finished = ends;
    }

-- so it is by each word and each plan
by_request : (request : Request) (style : ReportStyle) (text bytes : List ℕ) (old new : Option (List ℕ)) (s : List Item)
    → style_of request ≡ Some style → IsScriptText text s → fault_of s ≡ None
    → IsTextBy request (node_lines text s) (program_of_items s) bytes → Appends old new bytes
    → IsReported request style text old new
by_request (rules own (by_schedule rounds picks)) style text bytes old new s e script accepted (r, steps, queues, shown, are, lie, is) written =
    let is_own : own ≡ style = cc e in
    let who = named (actors_of (program_of_items s) picks) _ shown.0 in
    subst (λ it. IsReported (rules own (by_schedule rounds picks)) it text old new) is_own
    (reports (rules own (by_schedule rounds picks)) own text old new s script accepted (by_rules who.0 rounds) r
    (of_named (λ actors. by_rules who.0 rounds ≡ by_rules actors rounds) _ who.0 who.1 refl)
    (run_of_played (program_of_items s) who.0 rounds r who.2) steps queues bytes
    (none_beside own.steps _ steps are) (none_beside own.queues _ queues lie) is written shown.1)
by_request (rules own (by_order list)) style text bytes old new s e script accepted (r, steps, queues, shown, are, lie, is) written =
    let is_own : own ≡ style = cc e in
    let who = named (clients_of (program_of_items s) list) _ shown in
    subst (λ it. IsReported (rules own (by_order list)) it text old new) is_own
    (reports (rules own (by_order list)) own text old new s script accepted (by_rules who.2.1.picks 0) r
    (of_named (λ clients. (r.order ≡ order_of clients) × ((picks : List Actor) × (by_rules who.2.1.picks 0 ≡ by_rules picks 0))) _
    who.0 who.1 (who.2.1.order, (who.2.1.picks, refl))) (run_of_played (program_of_items s) who.2.1.picks 0 r who.2.1.played) steps queues bytes
    (none_beside own.steps _ steps are) (none_beside own.queues _ queues lie) is written (λ none. absurd none))
by_request (play own mode size (by_schedule rounds picks)) style text bytes old new s e script accepted (r, steps, queues, shown, are, lie, is) written =
    let is_own : own ≡ style = cc e in
    let who = named (actors_of (program_of_items s) picks) _ shown.0 in
    subst (λ it. IsReported (play own mode size (by_schedule rounds picks)) it text old new) is_own
    (reports (play own mode size (by_schedule rounds picks)) own text old new s script accepted
    (on_machine mode size who.0 rounds) r
    (of_named (λ actors. on_machine mode size who.0 rounds ≡ on_machine mode size actors rounds) _ who.0 who.1 refl)
    (run_of_played_in (program_of_items s) mode size who.0 rounds r who.2)
    steps queues bytes (none_beside own.steps _ steps are) (none_beside own.queues _ queues lie) is written shown.1)
by_request (play own mode size (by_order list)) style text bytes old new s e script accepted (r, steps, queues, shown, are, lie, is) written =
    let is_own : own ≡ style = cc e in
    let who = named (clients_of (program_of_items s) list) _ shown in
    subst (λ it. IsReported (play own mode size (by_order list)) it text old new) is_own
    (reports (play own mode size (by_order list)) own text old new s script accepted (on_machine mode size who.2.1.picks 0) r
    (of_named (λ clients. (r.order ≡ order_of clients) × ((picks : List Actor)
    × (on_machine mode size who.2.1.picks 0 ≡ on_machine mode size picks 0))) _ who.0 who.1
    (who.2.1.order, (who.2.1.picks, refl))) (run_of_played_in (program_of_items s) mode size who.2.1.picks 0 r who.2.1.played) steps queues bytes
    (none_beside own.steps _ steps are) (none_beside own.queues _ queues lie) is written (λ none. absurd none))
by_request (run own mode size) style text bytes old new s e script accepted (r, outcome, is) written =
    let is_own : own ≡ style = cc e in
    subst (λ it. IsReported (run own mode size) it text old new) is_own
    (reports (run own mode size) own text old new s script accepted (on_threads mode size) r refl
    (run_of_outcome (program_of_items s) mode size r outcome) [] [] bytes
    (λ unasked. refl) (λ unasked. refl) (alone bytes _ is) written (λ all. outcome.finished))
by_request (check how) style text bytes old new s e script accepted is written = absurd (cc e)
by_request (graph how) style text bytes old new s e script accepted is written = absurd (cc e)
by_request (syncs how plan) style text bytes old new s e script accepted is written = absurd (cc e)
by_request (tally how mode size times) style text bytes old new s e script accepted is written = absurd (cc e)
by_request (ask claim how limit threads front) style text bytes old new s e script accepted is written = absurd (cc e)
by_request (estimate how front) style text bytes old new s e script accepted is written = absurd (cc e)
by_request (fronts how blocks limit orders) style text bytes old new s e script accepted is written = absurd (cc e)
by_request (alike how limit) style text bytes old new s e script accepted is written = absurd (cc e)
by_request (outcomes how limit threads front) style text bytes old new s e script accepted is written = absurd (cc e)

-- a request for a run is the same with any claims
with_no_claims : (request : Request) (style : ReportStyle) (found : List Question) → style_of request ≡ Some style
    → with_claims request found ≡ request
with_no_claims (ask claims how limit threads front) style found e = absurd (cc e)
with_no_claims (check how) style found e = refl
with_no_claims (graph how) style found e = refl
with_no_claims (rules own plan) style found e = refl
with_no_claims (play own mode size plan) style found e = refl
with_no_claims (syncs how plan) style found e = refl
with_no_claims (run own mode size) style found e = refl
with_no_claims (tally how mode size times) style found e = refl
with_no_claims (estimate how front) style found e = refl
with_no_claims (fronts how blocks limit orders) style found e = refl
with_no_claims (alike how limit) style found e = refl
with_no_claims (outcomes how limit threads front) style found e = refl

-- what is due of known bytes, where a text is due
text_due : (request : Request) (known : Option (List ℕ)) (failed : Bool) (due : Due) → IsDue (asks request) known failed due
    → ((f : Fault) → due ≡ Refused f → ⊥) → IfSome known (λ bytes. IsDueOfText request (take longest bytes) due)
text_due request known true (Text bytes) is refuses = absurd is
text_due request known true (No bytes) is refuses = absurd is
text_due request known true (Refused f) is refuses = absurd (refuses f refl)
text_due request known false (Text bytes) (input, inl memory) refuses = absurd memory
text_due request known false (Text bytes) (input, inr is) refuses = is
text_due request known false (No bytes) (input, inl memory) refuses = absurd memory
text_due request known false (No bytes) (input, inr is) refuses = is
text_due request known false (Refused f) is refuses = absurd (refuses f refl)

-- a status that is neither 0 nor 1 is that of a fault, and 4 that of a failed write
done : (P : Type 0) (failed : Bool) (status due : ℕ) → MatchBool failed (status ≡ 4) (P × (status ≡ due)) → (status ≡ 4 → ⊥)
    → P × (status ≡ due)
done P true status due is unfailed = absurd (unfailed is)
done P false status due is unfailed = is

not_refused : (status : ℕ) (due : Due) → ((f : Fault) → status ≡ due_status (Refused f) → ⊥) → status ≡ due_status due
    → (f : Fault) → due ≡ Refused f → ⊥
not_refused status due unlike e f is = unlike f (e ∙ ap due_status is)

of_known : (known : Option (List ℕ)) (P Q : List ℕ → Type 0) → ((bytes : List ℕ) → P bytes → Q bytes) → IfSome known P
    → IfSome known Q
of_known None P Q goes is = tt
of_known (Some bytes) P Q goes is = goes bytes is

by_whole : (request : Request) (style : ReportStyle) (text : List ℕ) (old new : Option (List ℕ)) (how : Format) (details : List ℕ) (due : Due)
    → style_of request ≡ Some style → 0 ≡ due_status due → IsDueOfWhole request text due → Appends old new (due_text how details due)
    → IsReported request style text old new
by_whole request style text old new how details (Text bytes) e zero (s, script, accepted, is) written =
    by_request request style text bytes.items old new s e script accepted is written
by_whole request style text old new how details (No bytes) e zero is written = absurd (cc zero)
by_whole request style text old new how details (Refused f) e zero is written = absurd (zero_is_none f (sym zero))

by_due : (request : Request) (style : ReportStyle) (text : List ℕ) (old new : Option (List ℕ)) (how : Format) (details : List ℕ) (due : Due)
    → style_of request ≡ Some style → 0 ≡ due_status due → IsDueOfText request text due → Appends old new (due_text how details due)
    → IsReported request style text old new
by_due request style text old new how details due e zero is written =
    by_whole request style text old new how details due e zero
    (subst (λ r. IsDueOfWhole r text due) (with_no_claims request style (claims_of_script text) e) is) written

-- the headline
pub headline : (words : List (List ℕ)) (before after : Reading) (old new : Option (List ℕ)) (failed : Bool) (status : ℕ)
    → Serves words before after old new failed status → status ≡ 0 → IsHeadline words before.remaining old new
headline words before after old new failed status (due, how, details, is_due, formatted, front, ending) zero request style asked e =
    let all = done _ failed status (due_status due) ending (λ four. absurd (cc (zero, four))) in
    let none = not_refused 0 due (λ f z. zero_is_none f (sym z)) (sym zero ∙ all.1) in
    let of_line = subst (λ l. IsDue l before.remaining after.has_failed due) (runs_are_lines words request asked) is_due in
    of_known before.remaining _ _
    (λ bytes is. by_due request style (take longest bytes) old new how details due e (sym zero ∙ all.1) is all.0)
    (text_due request before.remaining after.has_failed due of_line none)

-- an answer, as text or as JSON
an_answer : (claim : Claim) (how : Format) (limit : ℕ) (clients : List ℕ) (holds : Bool) (p : ProgramShape) (bytes : List ℕ)
    → IsClaimAnswer how p claim limit clients holds bytes
    → (a : AnswerShape) × IsAnswerTo claim p (order_of clients) a × (holds ≡ is_yes claim.quantifier a) × (bytes ≡ answer_in how p claim a)
unfolding IsAnswerText IsAnswerJson
an_answer claim format.Text limit clients holds p bytes (a, are, within, holding, is) = (a, are, holding, is)
an_answer claim format.Json limit clients holds p bytes (a, are, within, holding, is) = (a, are, holding, is)

-- the values of a sum, as text or as JSON
values_of : (sum : List Summand) (how : Format) (limit : ℕ) (clients : List ℕ) (p : ProgramShape) (bytes : List ℕ)
    → IsValuesAnswer how p sum limit clients bytes
    → (all : OutcomesShape) × (values : List SumValue) × AreOutcomesAfter p (order_of clients) all
    × AreValuesOf p sum all.found values × (bytes ≡ values_in how values all)
unfolding IsValuesText IsValuesJson
values_of sum format.Text limit clients p bytes (all, values, are, within, exact, is) = (all, values, are, exact, is)
values_of sum format.Json limit clients p bytes (all, values, are, within, exact, is) = (all, values, are, exact, is)

-- an answer that is written is true of all runs
true_answer : (p : ProgramShape) → IsSound p → (how : Format) (limit : ℕ) (front : List Part) (clients : List ℕ)
    → clients_of p front ≡ Ok clients → (q : Question) → IsOfCondition q → (holds : Bool) (text : List ℕ)
    → IsAnswerTextTo how p q limit clients holds text → IsTrueAnswerTo p how front q holds text
true_answer p sound how limit front clients named (question.Claim claim) own holds text is =
    let found = an_answer claim how limit clients holds p text is in
    record {
      answer = found.0;
      is = sym found.2;
      told = found.3;
      condition = own.0;
      steps = own.1;
      of_runs = of_named (λ xs. Says claim.quantifier holds p own.0 (order_of xs)) _ clients named
          (subst (λ b. Says claim.quantifier b p own.0 (order_of clients)) (sym found.2)
          (answers_of_runs p sound claim own.0 own.1 (order_of clients) found.0 found.1));
    }
true_answer p sound how limit front clients named (question.Values sum) own holds text (yes_it_is, is) =
    let found = values_of sum how limit clients p text is in (
      yes_it_is,
      record {
        all = found.0;
        of_runs = of_named (λ xs. IsWholeList p (order_of xs) found.0.found) _ clients named
            (lists_of_runs p sound (order_of clients) found.0 found.2);
        values = found.1;
        exact = found.3;
        told = found.4;
      },
    )

true_answers : (p : ProgramShape) → IsSound p → (how : Format) (limit : ℕ) (front : List Part) (clients : List ℕ)
    → clients_of p front ≡ Ok clients → (questions : List Question) → AllByRecursion IsOfCondition questions → (hold : Bool)
    (text : List ℕ) → AreAnswersTo how p limit clients questions hold text → AreTrueAnswers p how front questions hold text
true_answers p sound how limit front clients named [] have hold text is = is
true_answers p sound how limit front clients named (q ∷ questions) (own, have) hold text (first, rest, holds, others, is, are, both, e) = (
  first,
  rest,
  holds,
  others,
  true_answer p sound how limit front clients named q own holds first is,
  true_answers p sound how limit front clients named questions have others rest are,
  both,
  e,
)

by_answers : (claims : List Question) (how : Format) (limit threads : ℕ) (front : List Part) (hold : Bool) (text bytes : List ℕ)
    (old new : Option (List ℕ)) (s : List Item) → IsScriptText text s → fault_of s ≡ None
    → AllByRecursion IsOfCondition claims → IsAnswerBy (ask claims how limit threads front) (program_of_items s) hold bytes
    → Appends old new bytes → AreAnsweredTruly claims how front hold text old new
by_answers claims how limit threads front hold text bytes old new s script accepted have (some, known, is) written =
    let who = named (clients_of (program_of_items s) front) _ is in
    record {
      script = s;
      read = script;
      accepted = accepted;
      bytes = bytes;
      written = written;
      answers = true_answers (program_of_items s) (sound_script text s script accepted) how limit front who.0 who.1 claims have hold bytes who.2;
    }

answered_due : (claims : List Question) (how shown : Format) (details : List ℕ) (limit threads : ℕ) (front : List Part) (hold : Bool) (text : List ℕ)
    (old new : Option (List ℕ)) (due : Due) → AllByRecursion IsOfCondition claims
    → (if hold then 0 else 1) ≡ due_status due → IsDueOfWhole (ask claims how limit threads front) text due
    → Appends old new (due_text shown details due) → AreAnsweredTruly claims how front hold text old new
answered_due claims how shown details limit threads front true text old new (Text bytes) have e (s, script, accepted, is) written =
    by_answers claims how limit threads front true text bytes.items old new s script accepted have is written
answered_due claims how shown details limit threads front true text old new (No bytes) have e is written = absurd (cc e)
answered_due claims how shown details limit threads front true text old new (Refused f) have e is written = absurd (zero_is_none f (sym e))
answered_due claims how shown details limit threads front false text old new (Text bytes) have e is written = absurd (cc e)
answered_due claims how shown details limit threads front false text old new (No bytes) have e (s, script, accepted, is) written =
    by_answers claims how limit threads front false text bytes.items old new s script accepted have is written
answered_due claims how shown details limit threads front false text old new (Refused f) have e is written = absurd (one_is_none f (sym e))

-- a status of yes or no is not that of a fault, and not that of a failed write
no_fault : (holds : Bool) (f : Fault) → (if holds then 0 else 1) ≡ due_status (Refused f) → ⊥
no_fault true f e = zero_is_none f (sym e)
no_fault false f e = one_is_none f (sym e)

no_four : (holds : Bool) (status : ℕ) → status ≡ (if holds then 0 else 1) → status ≡ 4 → ⊥
no_four true status e four = absurd (cc (e, four))
no_four false status e four = absurd (cc (e, four))

-- the claims that are asked are of conditions, on the line and in the script
found_have : (o : Option (List Question)) → ((claims : List Question) → o ≡ Some claims → AllByRecursion IsOfCondition claims)
    → AllByRecursion IsOfCondition (unwrap_or o [])
found_have None have = tt
found_have (Some claims) have = have claims refl

asked_have : (claims found : List Question) → AllByRecursion IsOfCondition claims → AllByRecursion IsOfCondition found
    → AllByRecursion IsOfCondition (questions_or claims found)
asked_have [] found own others = others
asked_have (claim ∷ claims) found own others = own

pub answers : (words : List (List ℕ)) (before after : Reading) (old new : Option (List ℕ)) (failed : Bool) (status : ℕ)
    → Serves words before after old new failed status → AreAnswersTrue words before.remaining old new status
answers words before after old new failed status (due, how, details, is_due, formatted, front, ending) claims shown limit threads clients line holds e =
    let all = done _ failed status (due_status due) ending (no_four holds status e) in
    let none = not_refused (if holds then 0 else 1) due (no_fault holds) (sym e ∙ all.1) in
    let of_line = subst (λ l. IsDue l before.remaining after.has_failed due) line is_due in
    of_known before.remaining _ _
    (λ bytes is. answered_due (questions_or claims (claims_of_script (take longest bytes))) shown how details limit threads clients holds
    (take longest bytes) old new due
    (asked_have claims (claims_of_script (take longest bytes)) (claims_have_conditions words (ask claims shown limit threads clients) line)
    (found_have (claims_in (take longest bytes)) (script_claims_have_conditions (take longest bytes))))
    (sym e ∙ all.1) is all.0)
    (text_due (ask claims shown limit threads clients) before.remaining after.has_failed due of_line none)

-- all outcomes, as they were asked for
all_outcomes : (how : OutcomesFormat) (limit : ℕ) (clients : List ℕ) (p : ProgramShape) (bytes : List ℕ)
    → IsTextOfOutcomes how p limit clients bytes
    → (all : OutcomesShape) × AreOutcomesAfter p (order_of clients) all × IsTextOfAll how p all bytes
unfolding IsOutcomesText IsOutcomesJson IsEndsText IsEndsJson
all_outcomes (outcomes_format.List format.Text) limit clients p bytes (all, are, within, is) = (all, are, is)
all_outcomes (outcomes_format.List format.Json) limit clients p bytes (all, are, within, is) = (all, are, is)
all_outcomes (outcomes_format.Ends format.Text) limit clients p bytes (all, are, within, words, is) = (all, are, (words, is))
all_outcomes (outcomes_format.Ends format.Json) limit clients p bytes (all, are, within, words, is) = (all, are, (words, is))
all_outcomes outcomes_format.Dot limit clients p bytes is = (is.all, is.outcomes, (is.chart, is.drawn))

module _ (p : ProgramShape) (sound : IsSound p) where
  true_fronts : (how : Format) (blocks : ℕ) (orders : List (List Part)) (text : List ℕ) → AreFrontsTexts how p blocks orders text
      → AreTrueFronts how p blocks orders text
  unfolding IsFrontsText
  true_fronts how blocks [] text is = is
  true_fronts how blocks (order ∷ orders) text (own, rest, first, others, is) =
      let who = named (clients_of p order) _ first in (
        who.2.0,
        rest,
        of_named (λ xs. AreFrontsOfRuns p (order_of xs) blocks who.2.0) _ who.0 who.1
            (fronts_of_runs p sound (order_of who.0) blocks who.2.0 who.2.1),
        true_fronts how blocks orders rest others,
        is ∙ ap (λ l. l ++ rest) who.2.3,
      )

  -- what a text says is so of the runs of the program
  true_of_runs : (request : Request) (found : List Question) (lines : Lines) (bytes : List ℕ) → IsTextBy (with_claims request found) lines p bytes
      → IsTrueOfRuns request p bytes
  unfolding IsAlikeText
  true_of_runs (outcomes how limit threads front) own lines bytes is =
      let who = named (clients_of p front) _ is in
      let found = all_outcomes how limit who.0 p bytes who.2 in (
        found.0,
        found.2,
        of_named (λ xs. IsWholeList p (order_of xs) found.0.found) _ who.0 who.1
            (lists_of_runs p sound (order_of who.0) found.0 found.1),
      )
  true_of_runs (alike how limit) own lines bytes (k, classes, (all, are, within, is)) =
      (k, classes, (all, alike_lists_of_runs p sound k all are, is))
  true_of_runs (fronts how blocks limit orders) own lines bytes is = true_fronts how blocks orders bytes is
  true_of_runs (tally how mode size times) own lines bytes (t, by, is) = (
    t,
    record {
      runs = by.runs;
      many = by.all_runs;
      each = each_map {P = IsOutcome p mode size} {Q = λ r. IsRun p (on_threads mode size) r × (r.finished ≡ true)}
          (λ r outcome. (run_of_outcome p mode size r outcome, outcome.finished)) by.runs by.each;
      counted = by.counted;
    },
    is,
  )
  true_of_runs _ own lines bytes is = tt

listed_due : (request : Request) (shown : Format) (details : List ℕ) (text : List ℕ) (old new : Option (List ℕ)) (due : Due)
    → 0 ≡ due_status due → IsDueOfText request text due → Appends old new (due_text shown details due) → IsTrueList request text old new
listed_due request shown details text old new (Text bytes) e (s, script, accepted, is) written = record {
  script = s;
  read = script;
  accepted = accepted;
  bytes = bytes.items;
  written = written;
  of_runs = true_of_runs (program_of_items s) (sound_script text s script accepted) request (claims_of_script text) (node_lines text s) bytes.items is;
}
listed_due request shown details text old new (No bytes) e is written = absurd (cc e)
listed_due request shown details text old new (Refused f) e is written = absurd (zero_is_none f (sym e))

pub lists : (words : List (List ℕ)) (before after : Reading) (old new : Option (List ℕ)) (failed : Bool) (status : ℕ)
    → Serves words before after old new failed status → status ≡ 0 → AreListsTrue words before.remaining old new
lists words before after old new failed status (due, how, details, is_due, formatted, front, ending) zero request line =
    let all = done _ failed status (due_status due) ending (λ four. absurd (cc (zero, four))) in
    let none = not_refused 0 due (λ f z. zero_is_none f (sym z)) (sym zero ∙ all.1) in
    let of_line = subst (λ l. IsDue l before.remaining after.has_failed due) line is_due in
    of_known before.remaining _ _
    (λ bytes is. listed_due request how details (take longest bytes) old new due (sym zero ∙ all.1) is all.0)
    (text_due request before.remaining after.has_failed due of_line none)

-- Where there are no threads, a text that is due is due of the script's text.
picked : (b : Bool) (P : Type 0) → MatchBool b ⊥ P → P
picked true P is = absurd is
picked false P is = is

due_of_text : (request : Request) (text : List ℕ) (bytes : Vec ℕ Global) → IsDueOfTextAlone request text (Text bytes)
    → IsDueOfText request text (Text bytes)
due_of_text request text bytes (inl memory) = absurd memory
due_of_text request text bytes (inr is) = picked (takes_threads request) _ is

-- the headline of what is due by a line and a script's text
pub headline_alone : (line : Line) (text : List ℕ) (due : Due) (how : Format) (details : List ℕ) → IsDueOfLine line text due → 0 ≡ due_status due
    → (request : Request) (style : ReportStyle) → line ≡ asks request → style_of request ≡ Some style
    → IsReported request style text (Some []) (Some (due_text how details due))
headline_alone line text (Text bytes) how details is zero request style asked e =
    by_due request style text (Some []) (Some bytes.items) how details (Text bytes) e zero
    (due_of_text request text bytes (subst (λ l. IsDueOfLine l text (Text bytes)) asked is)) refl
headline_alone line text (No bytes) how details is zero request style asked e = absurd (cc zero)
headline_alone line text (Refused f) how details is zero request style asked e = absurd (zero_is_none f (sym zero))
