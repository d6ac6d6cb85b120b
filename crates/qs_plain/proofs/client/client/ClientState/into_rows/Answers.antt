use Rattle.std.proofs.Common.{sym, subst}
use Rattle.qs_played.specs.Played.{ClientRows}
use Rattle.qs_plain.specs.client.Clients.{AreRowsOf, ClientState, client_from, client_of_state}
use Rattle.qs_plain.proofs.client.StoredClients.{rows_are}
use Rattle.qs_plain.proofs.client.client.ClientState.into_rows.Goals as goal

pub returns : goal.returns
returns c =
    let s = c.self.inside in
    let rows = rows_are s.program.now s.number s.stage s.locals s.frames.frames s.frames.room s.entries.items s.traces s.counts.rows s.prepared.items c.self.invariant.1 in
    let it = client_from s.program.now s.number s.stage s.locals s.frames.frames s.frames.room s.entries.items s.traces s.counts.rows s.prepared.items in
    record { rows = subst (λ (d : ClientState). AreRowsOf c.new.result (client_of_state d)) c.self.view_is (subst (λ (r : ClientRows). AreRowsOf r (client_of_state it)) (sym c.new.ensures.value) rows) }
