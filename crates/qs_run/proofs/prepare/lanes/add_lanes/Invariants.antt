-- The lanes of the clients so far are there, and the others have none.
use Rattle.std.proofs.Common.{◌≡◌, ℕ, ◌<◌, ◌≤◌, None, length}
use Rattle.qs_run.specs.Prepared.{AreNewEnds, ever_reserves, in_at, out_at}
use Rattle.qs_run.proofs.prepare.lanes.add_lanes.Given as goal

abbrev pub invariant-loop-client : goal.invariant-loop-client
invariant-loop-client g l = record {
  outs_len : length l.ends.outs.items ≡ length l.initial.ends.outs.items;
  ins_len : length l.ends.ins.items ≡ length l.initial.ends.ins.items;
  done : (c h : ℕ) → c < l.client → AreNewEnds l.size (ever_reserves l.program c h) (out_at l.ends.outs.items c h) (in_at l.ends.ins.items c h);
  rest : (c h : ℕ) → l.client ≤ c → (out_at l.ends.outs.items c h ≡ None) × (in_at l.ends.ins.items c h ≡ None);
}
