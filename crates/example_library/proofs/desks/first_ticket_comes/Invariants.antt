use Rattle.example_library.proofs.desks.first_ticket_comes.Given as goal

abbrev pub ghosts-book_and_take : goal.ghosts-book_and_take
ghosts-book_and_take g a = record { program = a.raw.program; queues = a.raw.queues; ledgers = a.raw.ledgers }
