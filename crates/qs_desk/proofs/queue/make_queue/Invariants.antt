use Rattle.qs_desk.proofs.queue.make_queue.Given as goal

abbrev pub ghosts-make_chosen : goal.ghosts-make_chosen
ghosts-make_chosen a = record { program = a.program.now; handler = a.handler }
