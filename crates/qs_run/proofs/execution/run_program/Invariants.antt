-- The name of the desk is that of the desk which was made.
use Rattle.qs_run.proofs.execution.run_program.Given as goal

abbrev pub ghosts-run_parts : goal.ghosts-run_parts
ghosts-run_parts g a = record { program = a.run.raw.program; queues = a.run.raw.queues; ledgers = a.run.raw.ledgers }
