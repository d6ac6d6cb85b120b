-- The counts of one reservation's synchronisations, by its trace: what a block's tree says of them is what its mode
-- says.
use Rattle.std.proofs.Common.{◌≡◌, ◌<◌, ℕ, ◌+◌, ◌==◌, Bool, false, if◌then◌else◌, length, ap, ◌∙◌, inl, inr, arith, rules}
use Rattle.qs_played.proofs.Names.{Ticket, ProgramShape, blocks_of, text_of, IsSound, Leads, block_tree, Interaction, IsSentBy, queries, syncs_along, ended_of, ticket_at, trace_of, entry_of, Played, AreListed, AreSent, IsCounted, syncs_at}
use Rattle.qs_graph.specs.audit.Names.{graph_of}
use Rattle.qs_core_laws.proofs.Names.{Mode, ClientCode, code_at, AreCodes, syncs_are_counted, longest, no_block_beyond, synced_block, longest_covers}
use Rattle.qs_syncset.specs.audit.Modes.{is_dynamic}
use Rattle.qs_syncset.specs.SyncCounts as counts
use Rattle.qs_syncset.proofs.QueryRuns.{runs_within}

-- the same counts, said otherwise
pub sent_as : (ended : Bool) (sent counts others : ℕ → ℕ) → ((h : ℕ) → counts h ≡ others h) → AreSent ended sent counts → AreSent ended sent others
sent_as ended sent counts others same v = search rules

module _ (program : ProgramShape) (sound : IsSound program) (mode : Mode) (code : ℕ → ClientCode) (codes : AreCodes program mode code)
    (r : Played) (i : ℕ) where
  abbrev t : Ticket
  t = ticket_at r i

  -- what the block's tree says of the trace so far
  abbrev pub tree_count : ℕ → ℕ
  tree_count h = syncs_along (code t.client).dynamic h false (synced_block code t (entry_of r i)) (trace_of r i)

  module _ (own_block : t.index < blocks_of program t.client) (rest : Interaction)
      (leads : Leads (block_tree program t (entry_of r i)) (trace_of r i) rest) (sent : AreSent (ended_of r i) (syncs_at r i) tree_count)
      (listed : AreListed program r i) where
    own_client : t.client < length program.clients
    own_client = let own = own_block in no_block_beyond program t.client (omega (arith, own))

    by_mode : (h : ℕ) → IsSentBy mode (graph_of program t.client t.index) (text_of program t).body (code_at (code t.client) t.index).graph (longest (code t.client).blocks) (entry_of r i) (trace_of r i) h
    by_mode h =
        syncs_are_counted program mode t.client (code t.client) sound (codes.own t.client own_client) t.index (longest (code t.client).blocks) (entry_of r i)
        (trace_of r i) rest h own_block (longest_covers (code t.client).blocks t.index) leads

    -- the tree's count, with the test as the mode says
    tree_is : (h : ℕ) → tree_count h ≡ syncs_along (is_dynamic mode) h false (synced_block code t (entry_of r i)) (trace_of r i)
    tree_is h = ap (λ d. syncs_along d h false (synced_block code t (entry_of r i)) (trace_of r i)) (codes.own t.client own_client).dynamic

    counts_as : (others : ℕ → ℕ) → ((h : ℕ) → syncs_along (is_dynamic mode) h false (synced_block code t (entry_of r i)) (trace_of r i) ≡ others h)
        → AreSent (ended_of r i) (syncs_at r i) others
    counts_as others same = sent_as (ended_of r i) (syncs_at r i) tree_count others (λ h. tree_is h ∙ same h) sent

    pub trace_counted : IsCounted program mode r i
    trace_counted = record {
      listed = listed;
      plain = λ e. counts_as (λ h. queries h (trace_of r i)) (λ h. (by_mode h).plain e);
      dynamic = λ e. counts_as (λ h. counts.runs h (trace_of r i)) (λ h. (by_mode h).dynamic e);
      static = λ e held decides.
          counts_as (λ h. counts.kept (text_of program t).body held (entry_of r i) h (trace_of r i)) (λ h. (by_mode h).static e held decides);
      tested = λ e. (by_mode 0).tested e;
      ordered = λ held decides h. (by_mode h).ordered held decides;
      few = λ h. runs_within h (trace_of r i);
    }
