-- The codes of a program's clients have as many blocks as the program, with the same lists of objects, and the walk
-- through a block's graph says the block's interaction tree. The machine and the threads go along these walks, while
-- what is said of them speaks of the program's blocks. It is the law on sound walks where client and block are in
-- range, and elsewhere there is no block.
use Rattle.std.proofs.Common.{◌≡◌, ◌<◌, ℕ, nat_lt, Bool, true, false, List, length, replicate, refl, arith, rules}
use Rattle.qs_played.proofs.Names.{get_or_past, length-replicate, Ticket, block_tree, ProgramShape, blocks_of, IsSound, Locals}
use Rattle.qs_core_laws.proofs.Names.{without_syncs, Mode, ClientCode, AreCodes, blocks_in, reserved_of, IsSoundSynced, IsOnReserved, longest, longest_covers, none_beyond, no_text, synced_block}
use Rattle.qs_syncset.proofs.CodeWalks.{walks_are_sound}
use Rattle.qs_core_laws.proofs.protocol.ClientInvariants.{objects_of_block}

module _ (program : ProgramShape) (sound : IsSound program) (mode : Mode) (code : ℕ → ClientCode) (codes : AreCodes program mode code) where
  pub blocks_are : (c : ℕ) → blocks_in code c ≡ blocks_of program c
  blocks_are c = search (rules, none_beyond)

  pub reserved_is : (t : Ticket) → reserved_of code t ≡ objects_of_block program t
  reserved_is t = search (rules, objects_of_block, none_beyond, blocks_are, get_or_past, no_text)

  -- a block's tree with its synchronisations
  pub block_walk : (t : Ticket) (l : Locals) → t.index < blocks_of program t.client
      → (without_syncs (synced_block code t l) ≡ block_tree program t l) × IsSoundSynced (λ h. false) (synced_block code t l) × IsOnReserved (objects_of_block program t) (synced_block code t l)
  block_walk t l some = by_client (nat_lt t.client (length program.clients)) refl
    where
      by_client : (b : Bool) → nat_lt t.client (length program.clients) ≡ b
          → (without_syncs (synced_block code t l) ≡ block_tree program t l) × IsSoundSynced (λ h. false) (synced_block code t l) × IsOnReserved (objects_of_block program t) (synced_block code t l)
      by_client true e =
          let counts : List ℕ = replicate (longest (code t.client).blocks) 0 in
          let long : length counts ≡ longest (code t.client).blocks = length-replicate (longest (code t.client).blocks) 0 in
          let w = walks_are_sound program mode t.client (code t.client) sound (codes.own t.client (grind (arith, e))) t.index l counts some (omega (arith, long, longest_covers (code t.client).blocks t.index)) in
          (w.tree, w.sound, w.reserved)
      by_client false e = let n = none_beyond program sound t.client (grind (arith, e)) in absurd (omega (arith, n, some))
