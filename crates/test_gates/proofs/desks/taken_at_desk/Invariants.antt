use Rattle.test_gates.proofs.desks.taken_at_desk.Given as goal

abbrev pub ghosts-take_at_desk : goal.ghosts-take_at_desk
ghosts-take_at_desk g a = record { program = a.raw.program; queues = a.raw.queues; ledgers = a.raw.ledgers }
