-- What is said of the requests that a handler runs: whether its object, as it stands before them, refuses a command or
-- has nothing to answer to a query.
use Rattle.std.specs.Prelude.{ℕ, ℤ, List, [], ◌∷◌, ◌++◌, Option, Some, None}
use Rattle.qs_objects.specs.audit.Act.{State}
use Rattle.qs_objects.specs.audit.Journals.{after}
use Rattle.qs_objects.specs.declared.Request.{Request}
use Rattle.qs_program.specs.audit.Program.{ProgramShape}
use Rattle.qs_text.specs.audit.fates.Fates.{fate_of}
use Rattle.qs_text.specs.declared.fates.fate.Fate.{Fate}
use Rattle.qs_report.specs.audit.Report.{fate_text}
use Rattle.qs_text.specs.audit.Words.{reply_text, request_text}
use Rattle.qs_steps.specs.Forms.{between, run_json}
use Rattle.qs_steps.specs.declared.wanted.Form.{Form}
use Rattle.qs_steps.specs.declared.wanted.Form.TheVariants as form

abbrev pub fate_or_none : Option State → Request → Option Fate
fate_or_none None r = None
fate_or_none (Some s) r = Some (fate_of s r)

-- the object once it has run a request
abbrev pub next : Option State → Request → Option State
next None r = None
next (Some s) r = Some (after s r)

-- a request with its reply and its mark
abbrev pub marked : Form → ProgramShape → Option State → Request → Option ℤ → List ℕ
marked form.Text p o r reply = request_text p r ++ reply_text reply ++ fate_text (fate_or_none o r)
marked form.Json p o r reply = run_json p r reply (fate_or_none o r)

-- the commands of a chunk, which are run one after another, with a space or a comma between each two
abbrev pub marked_others : Form → ProgramShape → Option State → List Request → List ℕ
marked_others f p o [] = []
marked_others f p o (r ∷ rs) = between f ++ marked f p o r None ++ marked_others f p (next o r) rs

abbrev pub marked_requests : Form → ProgramShape → Option State → List Request → List ℕ
marked_requests f p o [] = []
marked_requests f p o (r ∷ rs) = marked f p o r None ++ marked_others f p (next o r) rs
