use Rattle.std.proofs.Common.{◌≡◌, ap, sym, ◌∙◌, length, arith}
use Rattle.qs_plain.specs.client.Clients.{ClientState}
use Rattle.qs_plain.proofs.client.StoredClients.{many_prepared}
use Rattle.qs_plain.proofs.client.client.ClientState.has_more.Goals as goal

pub returns-clause-value : goal.returns-clause-value
returns-clause-value c =
    let s = c.self.inside in
    let many : length c.args.self.now.prepared ≡ length s.prepared.items =
    sym (ap (λ (d : ClientState). length d.prepared) c.self.view_is) ∙ many_prepared (length s.entries.items) s.traces s.counts.rows s.prepared.items c.self.invariant.1 in
    rw many (grind (arith, c.is_empty.ensures))
