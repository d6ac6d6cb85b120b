-- Lines of a trace whose numbers are short, so that room for the longest one is asked for at once.
use Rattle.std.specs.Prelude.{ℕ, ℤ, pos, ◌<ℤ◌, ◌≤ℤ◌, List, ◌++◌, codes, Option}
use Rattle.qs_objects.specs.declared.Request.{Request}
use Rattle.qs_program.specs.audit.Program.{ProgramShape}
use Rattle.qs_text.specs.audit.Words.{request_text, reply_text}

-- a number of at most six digits, without a sign
abbrev pub HasSixDigits : ℤ → Type 0
HasSixDigits n = (pos 0 ≤ℤ n) × (n <ℤ pos 1000000)

-- the line of a request and its reply
abbrev pub line_text : ProgramShape → Request → Option ℤ → List ℕ
line_text p r reply = request_text p r ++ reply_text reply ++ codes "\n"

-- no such line with one argument has more bytes: a name of 16, a word with signs of 10, a number of 6, and a reply of
-- 11
abbrev pub longest_line : ℕ
longest_line = 64
