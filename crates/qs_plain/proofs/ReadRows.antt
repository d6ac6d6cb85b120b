-- The rows that the clients leave behind have a place for each ticket of the order, and there the ticket's values at
-- entry, its trace and its counts. The contract of `into_played` needs this, since it gives the clients' lists away by
-- move and shows them through the rows. The proofs go by induction on the list of clients, and on the order.
use Rattle.std.proofs.Common.{◌≡◌, ◌<◌, ℕ, zero, suc, List, [], ◌∷◌, ◌++◌, length, get_or, get_or-take, map, refl, sym, ap, ◌∙◌, arith}
use Rattle.qs_played.proofs.Names.{Ticket, ClientRows, HaveRows, counts_of_ticket, entry_in, rows_at, trace_in}
use Rattle.qs_plain.proofs.Names.{AreRowsOf, ClientState, client_state_at, client_of_state, AreBegun, AreRows}

pub rows_push : (rows : List ClientRows) (cs : List ClientState) (r : ClientRows) (d : ClientState) → AreRows rows cs → AreRowsOf r (client_of_state d) → AreRows (rows ++ r ∷ []) (cs ++ d ∷ [])
rows_push [] [] r d before here = (here, tt)
rows_push (q ∷ rows) (e ∷ cs) r d before here = (before.0, rows_push rows cs r d before.1 here)
rows_push _ _ r d before here = absurd before

many_rows : (rows : List ClientRows) (cs : List ClientState) → AreRows rows cs → length rows ≡ length cs
many_rows [] [] are = refl
many_rows (r ∷ rows) (d ∷ cs) are = ap suc (many_rows rows cs are.1)
many_rows _ _ are = absurd are

row_of : (rows : List ClientRows) (cs : List ClientState) (c : ℕ) → AreRows rows cs → c < length cs → AreRowsOf (rows_at rows c) (client_of_state (client_state_at cs c))
row_of [] [] c are inside = absurd (omega (arith, inside))
row_of (r ∷ rows) (d ∷ cs) zero are inside = are.0
row_of (r ∷ rows) (d ∷ cs) (suc c) are inside = row_of rows cs c are.1 (omega (arith, inside))
row_of _ _ c are inside = absurd are

-- two functions that give one value for each member of a list
along : {X : Type 0} (f g : Ticket → X) (ts : List Ticket) → ((i : ℕ) (d : Ticket) → i < length ts → f (get_or ts i d) ≡ g (get_or ts i d)) → map f ts ≡ map g ts
along f g [] same = refl
along f g (t ∷ ts) same =
    let here : f t ≡ g t = same 0 t (omega arith) in
    let rest : map f ts ≡ map g ts = along f g ts (λ i d inside. same (suc i) d (omega (arith, inside))) in
    λ k. here k ∷ rest k

module _ (rows : List ClientRows) (cs : List ClientState) (order : List Ticket) (are : AreRows rows cs) (begun : AreBegun cs order) where
  pub have_rows : HaveRows rows order
  have_rows i d inside =
      let t = get_or order i d in
      let here = begun i d inside in
      let row = row_of rows cs t.client are here.0 in
      let many = many_rows rows cs are in
      let client = here.0 in
      let block = here.1 in
      let entries = ap length row.entries in
      let traced = row.traced in
      let counted = row.counted in
      record {
        client = omega (arith, client, many);
        entry = omega (arith, block, entries);
        trace = omega (arith, block, traced);
        counts = omega (arith, block, counted);
      }

  pub entries_are : map (entry_in rows) order ≡ map (λ (t : Ticket). get_or (client_of_state (client_state_at cs t.client)).entries t.index []) order
  entries_are = along _ _ order (λ i d inside.
      let t = get_or order i d in
      ap (λ ls. get_or ls t.index []) (row_of rows cs t.client are (begun i d inside).0).entries)

  pub traces_are : map (trace_in rows) order ≡ map (λ (t : Ticket). get_or (client_of_state (client_state_at cs t.client)).traces t.index []) order
  traces_are = along _ _ order (λ i d inside.
      let t = get_or order i d in
      let row = row_of rows cs t.client are (begun i d inside).0 in
      sym (get_or-take (length (client_state_at cs t.client).entries) (rows_at rows t.client).traces t.index [] (begun i d inside).1) ∙ ap (λ ess. get_or ess t.index []) row.traces)

  pub counts_are : map (counts_of_ticket rows) order ≡ map (λ (t : Ticket). get_or (client_of_state (client_state_at cs t.client)).counts t.index []) order
  counts_are = along _ _ order (λ i d inside.
      let t = get_or order i d in
      let row = row_of rows cs t.client are (begun i d inside).0 in
      sym (get_or-take (length (client_state_at cs t.client).entries) (rows_at rows t.client).counts t.index [] (begun i d inside).1) ∙ ap (λ xss. get_or xss t.index []) row.counts)
