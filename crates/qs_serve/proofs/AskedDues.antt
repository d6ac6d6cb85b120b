-- What is due by a line and an input, in two parts: what they ask for, or what is due without a program; and what is made
-- of a program. The functions of `asking` and `choosing` stand on it. Each goes by cases on the line, on what is due, or
-- on whether the input's bytes are known.
use Rattle.std.proofs.Common.{◌≡◌, ◌⊎◌, ◌∙◌, ℕ, Bool, List, Option, Some, None, ap, false, inl, refl, sym, subst, true, inr, take}
use Rattle.std.specs.Prelude.{IfSome, MatchBool}
use Rattle.qs_line.specs.declared.line.Settings.{Settings}
use Rattle.qs_line.specs.audit.Line.{Line, Request, alike, ask, asks, check, estimate, fronts, graph, help, outcomes, play, refused, rules, run, syncs, tally, version}
use Rattle.qs_line.specs.Line.{format_by, format_of_request, request_of}
use Rattle.qs_line.specs.declared.question.Question.{Question}
use Rattle.qs_program.specs.audit.Program.{ProgramShape}
use Rattle.qs_report.specs.declared.faults.Fault.{Fault}
use Rattle.qs_report.specs.declared.faults.Fault.TheVariants as fault
use Rattle.qs_run.specs.Starts.{IsRefusal, LetAllStart, worker_count}
use Rattle.qs_run.specs.many.Refusals.{IsRefusedTally, LetRunsStart}
use Rattle.qs_tally.specs.Tallies.{TallyShape}
use Rattle.qs_played.specs.declared.fault.RunFault.{RunFault}
use Rattle.qs_line.specs.declared.line.Format.{Format}
use Rattle.qs_serve.specs.audit.Due.{longest}
use Rattle.qs_serve.specs.Due.{HasAsked, HasAskedFor, HasAskedTimes, HasStarted, IsCounted, IsAsked, IsDue, IsDueOfProgram, IsDueOfTextAlone, IsDueOfWhole, IsDueWithoutThreads, IsFoundBefore, IsOfScript, IsOutOfMemory, IsProgramOf, IsProgramRead, IsRefusedBy, IsStartedBy, IsUnbegun, Lines, Serves, ServesStarting, claims_of_script, takes_threads, with_claims}
use Rattle.qs_serve.specs.Reading.{Reading}
use Rattle.qs_serve.specs.declared.due.Due.{Due}
use Rattle.qs_serve.specs.declared.due.Due.TheVariants.{Text, No, Refused}
use Rattle.qs_serve.proofs.Dues.{due_by_program}

-- what is due of the program that was asked for is due by the line
pub due_by_asked : (line : Line) (known : Option (List ℕ)) (failed : Bool) (settings : Settings) (lines : Lines) (p : ProgramShape) (due : Due)
    → IsAsked line known failed settings lines p → (¬ IsRefusedBy fault.Input due)
    → IsOutOfMemory due ⊎ IsDueOfProgram (request_of settings) lines p due → IsDue line known failed due
due_by_asked line None failed settings lines p due (request, is, whole, (fine, of)) input made =
    subst (λ l. IsDue l None failed due) (sym is)
    (subst (λ b. IsDue (asks request) None b due) (sym fine) (input, inr tt))
due_by_asked line (Some bytes) failed settings lines p due (request, is, (found, whole, claims), (fine, of)) input made =
    let text = take longest bytes in
    let its : request_of settings ≡ with_claims request (claims_of_script text) = whole ∙ ap (with_claims request) claims in
    subst (λ l. IsDue l (Some bytes) failed due) (sym is)
    (subst (λ b. IsDue (asks request) (Some bytes) b due) (sym fine) (
      input,
      subst (λ r. IsOutOfMemory due ⊎ IsDueOfWhole r text due) its
          (due_by_program (request_of settings) text lines p due of made),
    ))

-- its format is that of the line
with_same_format : (request : Request) (found : List Question) → format_of_request (with_claims request found) ≡ format_of_request request
with_same_format (ask claims how limit threads front) found = refl
with_same_format (check how) found = refl
with_same_format (graph how) found = refl
with_same_format (rules style plan) found = refl
with_same_format (play style mode size plan) found = refl
with_same_format (syncs how plan) found = refl
with_same_format (run style mode size) found = refl
with_same_format (tally how mode size times) found = refl
with_same_format (estimate how front) found = refl
with_same_format (fronts how blocks limit orders) found = refl
with_same_format (alike how limit) found = refl
with_same_format (outcomes how limit threads front) found = refl

pub format_by_asked : (line : Line) (known : Option (List ℕ)) (failed : Bool) (settings : Settings) (lines : Lines) (p : ProgramShape)
    → IsAsked line known failed settings lines p → format_of_request (request_of settings) ≡ format_by line
format_by_asked line known failed settings lines p (request, is, (found, whole, claims), read) =
    subst (λ l. format_of_request (request_of settings) ≡ format_by l) (sym is)
    (ap format_of_request whole ∙ with_same_format request found)

-- and it takes threads where the line does
with_same_threads : (request : Request) (found : List Question) → takes_threads (with_claims request found) ≡ takes_threads request
with_same_threads (ask claims how limit threads front) found = refl
with_same_threads (check how) found = refl
with_same_threads (graph how) found = refl
with_same_threads (rules style plan) found = refl
with_same_threads (play style mode size plan) found = refl
with_same_threads (syncs how plan) found = refl
with_same_threads (run style mode size) found = refl
with_same_threads (tally how mode size times) found = refl
with_same_threads (estimate how front) found = refl
with_same_threads (fronts how blocks limit orders) found = refl
with_same_threads (alike how limit) found = refl
with_same_threads (outcomes how limit threads front) found = refl

without_threads : (b : Bool) (P Q : Type 0) → b ≡ false → MatchBool b P Q → Q
without_threads true P Q e is = absurd (cc e)
without_threads false P Q e is = is

where_none : (b : Bool) (P Q : Type 0) → b ≡ false → Q → MatchBool b P Q
where_none true P Q e is = absurd (cc e)
where_none false P Q e is = is

of_text_alone : (request full : Request) (text : List ℕ) (due : Due) → full ≡ with_claims request (claims_of_script text)
    → takes_threads request ≡ false → IsOutOfMemory due ⊎ IsDueOfWhole full text due → IsDueOfTextAlone request text due
of_text_alone request full text due e none (inl memory) = inl memory
of_text_alone request full text due e none (inr is) =
    inr (where_none (takes_threads request) _ _ none (subst (λ r. IsDueOfWhole r text due) e is))

-- what is due of the program of a text, where there are no threads, is due of the text
pub due_alone : (request full : Request) (text : List ℕ) (found : Lines) (p : ProgramShape) (due : Due)
    → full ≡ with_claims request (claims_of_script text) → IsProgramOf full text found p → takes_threads request ≡ false
    → IsDueWithoutThreads full found p due → IsDueOfTextAlone request text due
due_alone request full text found p due e of none (inl memory) = inl memory
due_alone request full text found p due e of none (inr made) =
    let alone : takes_threads full ≡ false = ap takes_threads e ∙ with_same_threads request (claims_of_script text) ∙ none in
    of_text_alone request full text due e none
    (due_by_program full text found p due of (inr (without_threads (takes_threads full) _ _ alone made)))

-- of the script that was read
of_read : (request : Request) (known : Option (List ℕ)) (failed : Bool) (lines : Lines) (p : ProgramShape) (P : ProgramShape → Type 0)
    → IsProgramRead request known failed lines p → P p → IfSome known (λ input. IsOfScript (take longest input) P)
of_read request None failed lines p P read is = tt
of_read request (Some bytes) failed lines p P (fine, (s, script, accepted, e, are)) is =
    (s, script, accepted, subst P e is)

-- where no program was come to, nothing was started
unbegun : (Let : ProgramShape → Type 0) (Failed : RunFault → ProgramShape → Type 0) (known : Option (List ℕ)) (f : Fault)
    → IsFoundBefore f → HasStarted Let Failed known (Refused f)
unbegun Let Failed known fault.Input is = tt
unbegun Let Failed known fault.CommandLine is = tt
unbegun Let Failed known fault.Memory is = tt
unbegun Let Failed known (fault.Read f) is = tt
unbegun Let Failed known (fault.Check f) is = tt
unbegun Let Failed known (fault.Play f) is = absurd is
unbegun Let Failed known (fault.Order f) is = absurd is
unbegun Let Failed known (fault.Run f) is = absurd is
unbegun Let Failed known (fault.Outcomes f) is = absurd is

module _ {S : Type 0} (Answers : S → ℕ → Bool → S → Type 0) (before after : S) where
  -- what was asked of the program is asked of the script
  started : (request : Request) (known : Option (List ℕ)) (failed : Bool) (lines : Lines) (p : ProgramShape) (due : Due)
      → IsProgramRead request known failed lines p → HasAsked Answers p before after due
      → HasStarted (λ q. LetAllStart Answers 0 (worker_count q) before after) (λ f q. IsRefusal Answers (worker_count q) f before after) known due
  started request known failed lines p (Text bytes) read asked =
      of_read request known failed lines p (λ q. LetAllStart Answers 0 (worker_count q) before after) read asked
  started request known failed lines p (No bytes) read asked = tt
  started request known failed lines p (Refused fault.Input) read asked = tt
  started request known failed lines p (Refused fault.CommandLine) read asked = tt
  started request known failed lines p (Refused fault.Memory) read asked = tt
  started request known failed lines p (Refused (fault.Read f)) read asked = tt
  started request known failed lines p (Refused (fault.Check f)) read asked = tt
  started request known failed lines p (Refused (fault.Play f)) read asked = tt
  started request known failed lines p (Refused (fault.Order f)) read asked = tt
  started request known failed lines p (Refused (fault.Run f)) read asked =
      of_read request known failed lines p (λ q. IsRefusal Answers (worker_count q) f before after) read asked
  started request known failed lines p (Refused (fault.Outcomes f)) read asked = tt

  started_times : (request : Request) (times : ℕ) (known : Option (List ℕ)) (failed : Bool) (lines : Lines) (p : ProgramShape) (due : Due)
      → IsProgramRead request known failed lines p → HasAskedTimes Answers times p before after due
      → HasStarted (λ q. LetRunsStart Answers times (worker_count q) before after) (λ f q. IsRefusedTally Answers times (worker_count q) f before after) known due
  started_times request times known failed lines p (Text bytes) read asked =
      of_read request known failed lines p (λ q. LetRunsStart Answers times (worker_count q) before after) read asked
  started_times request times known failed lines p (No bytes) read asked = tt
  started_times request times known failed lines p (Refused fault.Input) read asked = tt
  started_times request times known failed lines p (Refused fault.CommandLine) read asked = tt
  started_times request times known failed lines p (Refused fault.Memory) read asked = tt
  started_times request times known failed lines p (Refused (fault.Read f)) read asked = tt
  started_times request times known failed lines p (Refused (fault.Check f)) read asked = tt
  started_times request times known failed lines p (Refused (fault.Play f)) read asked = tt
  started_times request times known failed lines p (Refused (fault.Order f)) read asked = tt
  started_times request times known failed lines p (Refused (fault.Run f)) read asked =
      of_read request known failed lines p (λ q. IsRefusedTally Answers times (worker_count q) f before after) read asked
  started_times request times known failed lines p (Refused (fault.Outcomes f)) read asked = tt

  -- by what was asked for
  started_for : (request : Request) (found : List Question) (known : Option (List ℕ)) (failed : Bool) (lines : Lines) (p : ProgramShape) (due : Due)
      → IsProgramRead (with_claims request found) known failed lines p → HasAskedFor Answers (with_claims request found) p before after due
      → IsStartedBy Answers (asks request) known before after due
  started_for (run style mode size) found known failed lines p due read asked = started (run style mode size) known failed lines p due read asked
  started_for (tally how mode size times) found known failed lines p due read asked =
      started_times (tally how mode size times) times known failed lines p due read asked
  started_for (check how) found known failed lines p due read asked = tt
  started_for (graph how) found known failed lines p due read asked = tt
  started_for (rules style plan) found known failed lines p due read asked = tt
  started_for (play style mode size plan) found known failed lines p due read asked = tt
  started_for (syncs how plan) found known failed lines p due read asked = tt
  started_for (ask claim how limit threads front) found known failed lines p due read asked = tt
  started_for (estimate how front) found known failed lines p due read asked = tt
  started_for (fronts how blocks limit orders) found known failed lines p due read asked = tt
  started_for (alike how limit) found known failed lines p due read asked = tt
  started_for (outcomes how limit threads front) found known failed lines p due read asked = tt

  pub started_by_asked : (line : Line) (known : Option (List ℕ)) (failed : Bool) (settings : Settings) (lines : Lines) (p : ProgramShape) (due : Due)
      → IsAsked line known failed settings lines p → HasAskedFor Answers (request_of settings) p before after due
      → IsStartedBy Answers line known before after due
  started_by_asked line known failed settings lines p due (request, is, (found, whole, claims), read) asked =
      subst (λ l. IsStartedBy Answers l known before after due) (sym is)
      (started_for request found known failed lines p due (subst (λ r. IsProgramRead r known failed lines p) whole read)
      (subst (λ r. HasAskedFor Answers r p before after due) whole asked))

  pub started_unbegun : (line : Line) (known : Option (List ℕ)) (due : Due) → IsUnbegun line due
      → IsStartedBy Answers line known before after due
  started_unbegun refused known due is = tt
  started_unbegun help known due is = tt
  started_unbegun version known due is = tt
  started_unbegun (asks (run style mode size)) known (Refused f) is =
      unbegun (λ q. LetAllStart Answers 0 (worker_count q) before after) (λ g q. IsRefusal Answers (worker_count q) g before after) known f is
  started_unbegun (asks (run style mode size)) known (Text bytes) is = absurd is
  started_unbegun (asks (run style mode size)) known (No bytes) is = absurd is
  started_unbegun (asks (tally how mode size times)) known (Refused f) is =
      unbegun (λ q. LetRunsStart Answers times (worker_count q) before after) (λ g q. IsRefusedTally Answers times (worker_count q) g before after) known f is
  started_unbegun (asks (tally how mode size times)) known (Text bytes) is = absurd is
  started_unbegun (asks (tally how mode size times)) known (No bytes) is = absurd is
  started_unbegun (asks (check how)) known due is = tt
  started_unbegun (asks (graph how)) known due is = tt
  started_unbegun (asks (rules style plan)) known due is = tt
  started_unbegun (asks (play style mode size plan)) known due is = tt
  started_unbegun (asks (syncs how plan)) known due is = tt
  started_unbegun (asks (ask claim how limit threads front)) known due is = tt
  started_unbegun (asks (estimate how front)) known due is = tt
  started_unbegun (asks (fronts how blocks limit orders)) known due is = tt
  started_unbegun (asks (alike how limit)) known due is = tt
  started_unbegun (asks (outcomes how limit threads front)) known due is = tt

  -- what a starter was asked can be left unsaid
  pub serves_of : (words : List (List ℕ)) (input rest : Reading) (old new : Option (List ℕ)) (failed : Bool) (status : ℕ)
      → ServesStarting Answers before after words input rest old new failed status → Serves words input rest old new failed status
  serves_of words input rest old new failed status (due, how, details, is, formatted, asked, front, ending) =
      (due, how, details, is, formatted, front, ending)

  -- what a tally has asked, whatever is due of it
  pub asked_times : (how : Format) (p : ProgramShape) (times : ℕ) (t : TallyShape) (due : Due) → IsCounted how p times t due
      → LetRunsStart Answers times (worker_count p) before after → HasAskedTimes Answers times p before after due
  asked_times how p times t (Text bytes) is let_start = let_start
  asked_times how p times t (No bytes) is let_start = absurd is
  asked_times how p times t (Refused f) is let_start =
      subst (λ g. HasAskedTimes Answers times p before after (Refused g)) (sym is) tt
