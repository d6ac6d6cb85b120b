-- How much a desk has room for.
use Rattle.std.specs.Prelude.{ℕ, suc}
use Rattle.qs_program.specs.Limits.{most_tickets}

-- a booking for each block of each client
abbrev pub all_bookings : ℕ
all_bookings = most_tickets

-- of a handler's queue: all bookings and the closing mark
abbrev pub queue_room : ℕ
queue_room = suc all_bookings
