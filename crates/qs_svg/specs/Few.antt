-- No picture has more shapes than this. The most stand in one of 64 columns and 8 rows: each of its stretches has a
-- frame, a symbol and its words for each of 4 requests, and three texts.
use Rattle.std.specs.Prelude.{ℕ, ◌≤◌, Option, length}
use Rattle.qs_program.specs.audit.Program.{ProgramShape}
use Rattle.qs_program.specs.Sound.{IsSound}
use Rattle.qs_played.specs.audit.Played.{Played}
use Rattle.qs_svg.specs.audit.Places.{layout_of}
use Rattle.qs_program.specs.audit.Values.{Locals}
use Rattle.qs_svg.specs.audit.RunSvg.{run_shapes}

abbrev pub most_shapes : ℕ
most_shapes = 6500

-- of whatever run of a sound program
abbrev pub AreFewShapes : Type 0
AreFewShapes =
    (p : ProgramShape) (run : Played) (locals : Option (ℕ → Locals)) → IsSound p
    → length (run_shapes p run locals (layout_of p run)) ≤ most_shapes
