-- Beside what the headline reaches (`audit/fates/Fates.antt`): what else contracts and proofs use.
use Rattle.std.specs.Prelude.{List, length, map}
use Rattle.std.specs.List.{range_with_len}
use Rattle.qs_program.specs.audit.Program.{ProgramShape}
use Rattle.qs_played.specs.audit.Played.{Played}
use Rattle.qs_text.specs.declared.fates.fate.Fate.{Fate}
use Rattle.qs_text.specs.audit.fates.Fates.{fates_of}

-- of each object of the program
abbrev pub all_fates : ProgramShape → Played → List (List Fate)
all_fates p run = map (fates_of p run) (range_with_len 0 (length p.objects))
