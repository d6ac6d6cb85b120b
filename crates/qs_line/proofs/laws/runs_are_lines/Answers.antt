use Rattle.qs_line.proofs.Claims.{lines_of_runs_are_these, runs_are_lines}
use Rattle.qs_line.proofs.laws.runs_are_lines.Goals as goal

pub returns : goal.returns
returns c = record { lines = runs_are_lines; these = lines_of_runs_are_these }
