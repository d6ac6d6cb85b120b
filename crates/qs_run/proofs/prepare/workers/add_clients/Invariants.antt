-- The workers of the clients so far are there. What is left of the parts begins with what belongs to the next of them.
use Rattle.std.proofs.Common.{◌≡◌, ℕ, ◌≤◌, None, drop}
use Rattle.qs_run.proofs.Names.{IsClientOf, IsListOf, into_iter_items, slice_index_or, vec_capacity}
use Rattle.qs_run.proofs.prepare.workers.add_clients.Given as goal

abbrev pub invariant-loop-client : goal.invariant-loop-client
invariant-loop-client g l = record {
  room : l.count ≤ vec_capacity l.workers;
  minds : into_iter_items l.minds_left ≡ drop l.client l.fn.minds.items;
  outs : into_iter_items l.lanes_left ≡ drop l.client l.fn.outs.items;
  shares : (c : ℕ) → l.client ≤ c → slice_index_or l.shares_left c None ≡ slice_index_or l.fn.shares c None;
  added : IsListOf l.client (IsClientOf g.D.DeskName.program l.fn.mode l.fn.size l.fn.outs.items) l.workers.items;
}
