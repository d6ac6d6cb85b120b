use Rattle.std.proofs.Common.{◌≡◌, sym, subst, length, nat_eq, arith}
use Rattle.qs_program.specs.audit.Program.{blocks_of}
use Rattle.qs_plain_laws.specs.audit.PlainSchedule.{is_done}
use Rattle.qs_plain.specs.client.Clients.{ClientState, client_from, client_of_state}
use Rattle.qs_plain.specs.declared.client.stage.Stage.TheVariants as stages
use Rattle.qs_plain.proofs.client.StoredClients.{many_prepared}
use Rattle.qs_plain.proofs.client.client.ClientState.is_done.Goals as goal

pub returns-in-Out : goal.returns-in-Out
returns-in-Out c =
    let s = c.self.inside in
    let many = many_prepared (length s.entries.items) s.traces s.counts.rows s.prepared.items c.self.invariant.1 in
    let begun = c.self.invariant.0.begun in
    let whole : c.is_empty.result ≡ nat_eq (length s.entries.items) (blocks_of s.program.now s.number) = grind (arith, begun, many, c.is_empty.ensures, s.prepared.ok) in
    let out : c.is_empty.result ≡ is_done s.program.now s.number (client_of_state (client_from s.program.now s.number stages.Out s.locals s.frames.frames s.frames.room s.entries.items s.traces s.counts.rows s.prepared.items)) = whole in
    record {
      value = subst (λ (d : ClientState). c.is_empty.result ≡ is_done d.program d.number (client_of_state d)) c.self.view_is
          (subst (λ st. c.is_empty.result ≡ is_done s.program.now s.number (client_of_state (client_from s.program.now s.number st s.locals s.frames.frames s.frames.room s.entries.items s.traces s.counts.rows s.prepared.items))) (sym c.in-Out.is) out);
    }
