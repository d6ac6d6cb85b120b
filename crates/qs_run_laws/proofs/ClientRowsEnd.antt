-- The minds with which the clients end have a row for each block of the order. What is shown of a run is read from
-- these rows, and reading a row asks that it is there. Each mind ends with as many rows as its client has blocks, and
-- each ticket of a legal order is one of them.
use Rattle.std.proofs.Common.{◌<◌, arith, ℕ, sym, subst, length, rules}
use Rattle.qs_played.proofs.Names.{AllByRecursion, Ticket, ProgramShape, blocks_of, IsSound, each_map}
use Rattle.qs_core_laws.proofs.Names.{ClientCode, AreCodes, Mode, ClientModel, no_block_beyond}
use Rattle.qs_run_laws.specs.audit.ThreadRuns.{IsThreadRun, ThreadRun}
use Rattle.qs_run_laws.proofs.ThreadHistories.{count_is, inside, rows_end}
use Rattle.qs_run_laws.proofs.ThreadsIsolated.{mind_is}

-- a mind has written what there is to say of its k-th block
pub record HasRow (m : ClientModel) (k : ℕ) : Type 0 where
  pub entry : k < length m.entries
  pub trace : k < length m.traces
  pub counts : k < length m.counts

module _ (p : ProgramShape) (sound : IsSound p) (mode : Mode) (code : ℕ → ClientCode) (codes : AreCodes p mode code) (size : ℕ) (r : ThreadRun)
    (run : IsThreadRun p code size r) where
  row_there : (t : Ticket) → t.index < blocks_of p t.client → (t.client < length p.clients) × HasRow (r.mind t.client) t.index
  row_there t few =
      let client = no_block_beyond p t.client (omega (arith, few)) in
      let rows = rows_end p sound mode code codes size r run t.client in
      let count = count_is p sound mode code codes size r run t.client in
      let entries = rows.0 in
      let traces = rows.1 in
      let counts = rows.2 in (
        client,
        subst (λ (m : ClientModel). HasRow m t.index) (sym (mind_is p sound mode code codes size r run t.client client)) (record {
          entry = omega (arith, few, count, entries);
          trace = omega (arith, few, count, traces);
          counts = omega (arith, few, count, counts);
        }),
      )

  pub rows_there : AllByRecursion (λ (t : Ticket). (t.client < length p.clients) × HasRow (r.mind t.client) t.index) r.order
  rows_there = each_map row_there r.order (inside p sound mode code codes size r run)
