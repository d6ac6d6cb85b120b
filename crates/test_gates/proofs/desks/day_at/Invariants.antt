use Rattle.test_gates.proofs.desks.day_at.Given as goal

abbrev pub ghosts-spend : goal.ghosts-spend
ghosts-spend g a = record { program = a.raw.program; queues = a.raw.queues; ledgers = a.raw.ledgers }
