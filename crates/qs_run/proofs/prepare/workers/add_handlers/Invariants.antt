-- The workers of the handlers so far are there. What is left of the parts begins with what belongs to the next of them.
use Rattle.std.proofs.Common.{◌≡◌, ℕ, ◌≤◌, None, drop}
use Rattle.qs_run.proofs.Names.{IsHandlerOf, IsListOf, into_iter_items, slice_index_or, vec_capacity}
use Rattle.qs_run.proofs.prepare.workers.add_handlers.Given as goal

abbrev pub invariant-loop-handler : goal.invariant-loop-handler
invariant-loop-handler g l = record {
  room : l.count ≤ vec_capacity l.workers;
  helds : into_iter_items l.helds_left ≡ drop l.handler l.fn.helds.items;
  ins : into_iter_items l.lanes_left ≡ drop l.handler l.fn.ins.items;
  tickets : (h : ℕ) → l.handler ≤ h → slice_index_or l.tickets_left h None ≡ slice_index_or l.fn.tickets h None;
  added : IsListOf l.handler (IsHandlerOf g.D.DeskName.program l.fn.ins.items) l.workers.items;
}
