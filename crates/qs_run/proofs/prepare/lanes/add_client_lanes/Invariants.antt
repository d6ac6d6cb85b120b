-- The client's lanes to the handlers so far are there, and it has no others; the lanes of other clients are as before.
use Rattle.std.proofs.Common.{◌≡◌, ℕ, ◌<◌, ◌≤◌, None, length}
use Rattle.qs_run.specs.Prepared.{AreNewEnds, ever_reserves, in_at, out_at}
use Rattle.qs_run.proofs.prepare.lanes.add_client_lanes.Given as goal

abbrev pub invariant-loop-handler : goal.invariant-loop-handler
invariant-loop-handler g l = record {
  outs_len : length l.ends.outs.items ≡ length l.initial.ends.outs.items;
  ins_len : length l.ends.ins.items ≡ length l.initial.ends.ins.items;
  done : (h : ℕ) → h < l.handler → AreNewEnds l.size (ever_reserves l.program l.client h) (out_at l.ends.outs.items l.client h) (in_at l.ends.ins.items l.client h);
  rest : (h : ℕ) → l.handler ≤ h → (out_at l.ends.outs.items l.client h ≡ None) × (in_at l.ends.ins.items l.client h ≡ None);
  others : (c h : ℕ) → (c ≡ l.client → ⊥)
      → (out_at l.ends.outs.items c h ≡ out_at l.initial.ends.outs.items c h) × (in_at l.ends.ins.items c h ≡ in_at l.initial.ends.ins.items c h);
}
