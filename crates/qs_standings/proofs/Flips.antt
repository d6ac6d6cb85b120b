-- An order in which two clients are exchanged, one ticket after another.
use Rattle.std.proofs.Common.{◌≡◌, ℕ, ◌<◌, arith, List, length, map, get_or, sym, ◌∙◌}
use Rattle.qs_standings.proofs.Common.{ext_get_or, get_or-map, length-map, Ticket}
use Rattle.qs_standings.specs.Standings.{flipped_ticket}

abbrev pub no_ticket : Ticket
no_ticket = record { client = 0; index = 0 }

pub flipped_all : (one other : ℕ) (now before : List Ticket) → length now ≡ length before
    → ((i : ℕ) → i < length before → get_or now i no_ticket ≡ flipped_ticket one other (get_or before i no_ticket))
    → now ≡ map (flipped_ticket one other) before
flipped_all one other now before long each =
    ext_get_or no_ticket now (map (flipped_ticket one other) before) (long ∙ sym (length-map before (flipped_ticket one other)))
    (λ i less. (let within : i < length before = omega (arith, long, less) in
    each i within ∙ sym (get_or-map (flipped_ticket one other) before i no_ticket no_ticket within)))
