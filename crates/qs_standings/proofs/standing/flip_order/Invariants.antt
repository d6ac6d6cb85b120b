use Rattle.std.proofs.Common.{◌≡◌, ℕ, ◌<◌, ◌≤◌, length, get_or}
use Rattle.qs_standings.specs.Standings.{flipped_ticket}
use Rattle.qs_standings.proofs.Flips.{no_ticket}
use Rattle.qs_standings.proofs.standing.flip_order.Given as goal

abbrev pub invariant-loop-place : goal.invariant-loop-place
invariant-loop-place l = record {
  long : length l.order ≡ length l.initial.order;
  done : (i : ℕ) → i < l.place → get_or l.order i no_ticket ≡ flipped_ticket l.one l.other (get_or l.initial.order i no_ticket);
  rest : (i : ℕ) → l.place ≤ i → get_or l.order i no_ticket ≡ get_or l.initial.order i no_ticket;
}
