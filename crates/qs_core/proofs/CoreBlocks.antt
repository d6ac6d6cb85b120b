-- A block that is played alone on the optimised machine, as the code does it: the first turn of the client leads into
-- its block, each turn leaves fewer steps of the client, and in the end nobody is in a block. The loops of `turn`,
-- `play_block` and `play_clients` stand on this. Actors that lead on are joined, one list after another, and the blocks
-- that a list of clients names are taken from its front.
use Rattle.std.proofs.Common.{◌≡◌, ◌<◌, ◌≤◌, ◌∙◌, ◌+◌, ◌++◌, ◌∷◌, [], ℕ, zero, suc, Bool, true, false, List, refl, sym, ap, subst, length, slice_index_or, append_assoc, append-nil, arith, rules}
use Rattle.qs_core_laws.proofs.Names.{Mode, has_ended, is_between, no_block_beyond, Core, AreCodes, core_played, core_plays, IsPlayedInOrderOn, IsCoreQuiet, turn_of}
use Rattle.qs_played.proofs.Names.{Ticket, AllByRecursion, most_blocks, ClientShape, ProgramShape, blocks_of, no_client, Declared, IsSound, IsSoundClient, Configuration, configuration_after, first_configuration, one_block_on, IsLegal, LegalFrom, put, configuration-append, legal-rest, few_reserved, all_named}
use Rattle.qs_played.specs.declared.schedule.actor.Actor.{Actor}
use Rattle.qs_meaning.specs.audit.Reduced.{Counts}
use Rattle.qs_serial.specs.audit.NamedOrders.{order_from, order_of}
use Rattle.qs_graph.specs.audit.Steps.{limit}
use Rattle.qs_core_laws.proofs.CoreSteps.{HasInvariant, plays_kept, run_kept}
use Rattle.qs_core_laws.proofs.orders.BlocksPlayed.{begin_quiet, has_begun, named_append, shown_in_order, turn_in, turn_named, turn_on}
use Rattle.qs_core_laws.proofs.orders.Entering.{block_over, most_turns}
use Rattle.qs_core_laws.proofs.orders.Turns.{IsWithin}
use Rattle.qs_core.specs.CoreOrders.{CoreGoes, IsOneBlockOn, IsQuietNow, blocks_begun}
use Rattle.qs_core.specs.state.CoreState.{CoreState, IsCoreState, IsFreshCore, IsPlayedOn, IsReachedCore, codes_of, core_of, client_part_at}
use Rattle.qs_core.proofs.CoreGoing.{goes_join, goes_played}
use Rattle.qs_core.proofs.CorePlaying.{fresh_played}

-- what holds of the machine in each state that the code comes to
pub record IsFit (s : CoreState) : Type 0 where
  pub sound : IsSound s.program
  pub mode : Mode
  pub codes : AreCodes s.program mode (codes_of s)
  pub kept : HasInvariant s.program sound mode (codes_of s) codes s.size (core_of s)

pub fit_of : (m s : CoreState) → m ≡ s → IsSound m.program → IsCoreState m → IsReachedCore m → IsFit s
fit_of m s view sound state reached = subst IsFit view (record {
  sound = sound;
  mode = state.mode;
  codes = state.codes;
  kept = subst (HasInvariant m.program sound state.mode (codes_of m) state.codes m.size) (sym reached.1)
      (run_kept m.program sound state.mode (codes_of m) state.codes m.size reached.0);
})

-- where a client's last block is this one, it has ended exactly where the client stands between two blocks
pub ended_is : (s : Core) (t : Ticket) → (s.client t.client).begun ≡ suc t.index → has_ended (s.client t.client) t.index ≡ is_between (s.client t.client).stage
ended_is s t begun = grind (arith, begun)

-- how the code reads off how many blocks a client has begun, and whether one has ended
pub begun_is : (m s : CoreState) (c : ℕ) → m ≡ s → (client_part_at m.clients c).mind.client.begun ≡ blocks_begun s c
unfolding core_of
begun_is m s c view = ap (λ (x : CoreState). (client_part_at x.clients c).mind.client.begun) view

pub ended_by_stage : (m s : CoreState) (c n k : ℕ) (b : Bool) → m ≡ s → n ≡ k → b ≡ has_ended (client_part_at m.clients c).mind.client n → b ≡ has_ended ((core_of s).client c) k
unfolding core_of
ended_by_stage m s c n k b view same is = is ∙ (λ i. has_ended (client_part_at (view i).clients c).mind.client (same i))

few : (objects : List Declared) (cs : List ClientShape) → AllByRecursion (IsSoundClient objects) cs → (c : ℕ) → length (slice_index_or cs c no_client).blocks ≤ most_blocks
few objects [] all c = omega arith
few objects (x ∷ cs) all zero = all.0.blocks
few objects (x ∷ cs) all (suc c) = few objects cs all.1 c

-- a block's number is a byte
pub few_blocks : (p : ProgramShape) (c n k : ℕ) → IsSound p → n ≡ k → k < blocks_of p c → n < 256
few_blocks p c n k sound same less = let most = few p.objects p.clients sound.each c in omega (arith, most, same, less)

-- the blocks of a program are over within fewer turns than a count of 64 bits has
pub few_turns : (p : ProgramShape) → IsSound p → (t : Ticket) → t.index < blocks_of p t.client → most_turns p t < 18446744073709551615
unfolding limit
few_turns p sound t some = grind (arith, few, few_reserved, no_block_beyond)

-- the ticket of a client's next block
abbrev pub next_ticket : CoreState → ℕ → Ticket
next_ticket s c = record { client = c; index = blocks_begun s c }

-- Some actors have led from one state to another, in which the client is in its next block, alone; after so many turns
-- of this block, so many more are left at most.
pub record StandsIn (first : CoreState) (c turns : ℕ) (s : CoreState) : Type 0 where
  pub actors : List Actor
  pub named : all_named first.program actors ≡ true
  pub goes : CoreGoes first actors s
  pub n : ℕ
  pub few : n + turns ≤ most_turns first.program (next_ticket first c)
  pub within : IsWithin first.program (first.order ++ next_ticket first c ∷ []) (put (blocks_begun first) c (suc (blocks_begun first c))) (next_ticket first c)
      (length first.program.objects) n (core_of s)

module _ (first : CoreState) (fit : IsFit first) (quiet : IsQuietNow first) (c : ℕ) (left : blocks_begun first c < blocks_of first.program c) where
  abbrev t : Ticket
  t = next_ticket first c

  abbrev later : List Ticket
  later = first.order ++ next_ticket first c ∷ []

  abbrev begun : ℕ → ℕ
  begun = put (blocks_begun first) c (suc (blocks_begun first c))

  client : c < length first.program.clients
  client = no_block_beyond first.program c (omega (arith, left))

  latest : begun c ≡ suc (blocks_begun first c)
  latest = has_begun first.program fit.sound fit.mode (codes_of first) fit.codes first.size (blocks_begun first) t refl

  kept_at : (actors : List Actor) (s : CoreState) → CoreGoes first actors s → HasInvariant first.program fit.sound fit.mode (codes_of first) fit.codes first.size (core_of s)
  kept_at actors s goes =
      subst (HasInvariant first.program fit.sound fit.mode (codes_of first) fit.codes first.size) (sym goes.played)
      (plays_kept first.program fit.sound fit.mode (codes_of first) fit.codes first.size actors (core_of first) fit.kept)

  -- the first turn
  pub stands_first : (s : CoreState) → CoreGoes first (turn_of first.program c) s → StandsIn first c 0 s
  stands_first s goes = record {
    actors = turn_of first.program c;
    named = turn_named first.program c client;
    goes = goes;
    n = most_turns first.program t;
    few = omega arith;
    within = subst (IsWithin first.program later begun t (length first.program.objects) (most_turns first.program t)) (sym goes.played)
        (turn_in first.program fit.sound fit.mode (codes_of first) fit.codes first.size first.order (blocks_begun first) t refl left (core_of first) quiet fit.kept);
  }

  -- whether the block has ended is known by the client's stage
  pub stage_is : (turns : ℕ) (s : CoreState) → StandsIn first c turns s → (b : Bool) → b ≡ has_ended ((core_of s).client c) (blocks_begun first c)
      → is_between ((core_of s).client c).stage ≡ b
  stage_is turns s now b is = sym (is ∙ ended_is (core_of s) t (now.within.begun c ∙ latest))

  -- one turn more, where the block has not ended
  pub stands_on : (turns : ℕ) (s next : CoreState) → StandsIn first c turns s → is_between ((core_of s).client c).stage ≡ false → CoreGoes s (turn_of s.program c) next
      → StandsIn first c (turns + 1) next
  stands_on turns s next now inside goes =
      let same : turn_of s.program c ≡ turn_of first.program c = ap (λ (q : ProgramShape). turn_of q c) now.goes.program in
      let on = turn_on first.program fit.sound fit.mode (codes_of first) fit.codes first.size later begun t latest now.n (core_of s) now.within (kept_at now.actors s now.goes) inside in
      let played : core_of next ≡ core_plays (codes_of first) first.size (turn_of first.program c) (core_of s) =
      goes.played ∙ (λ k. core_plays (now.goes.codes k) (now.goes.size k) (same k) (core_of s)) in
      record {
        actors = now.actors ++ turn_of first.program c;
        named = named_append first.program now.actors (turn_of first.program c) now.named (turn_named first.program c client);
        goes = subst (λ xs. CoreGoes first (now.actors ++ xs) next) same (goes_join first s next now.actors (turn_of s.program c) now.goes goes);
        n = on.0;
        few = let less = on.1 in let low = now.few in omega (arith, less, low);
        within = subst (IsWithin first.program later begun t (length first.program.objects) on.0) (sym played) on.2;
      }

  -- where it has ended
  pub one_on : (turns : ℕ) (s : CoreState) → StandsIn first c turns s → is_between ((core_of s).client c).stage ≡ true → IsOneBlockOn first c s
  one_on turns s now outside = search (rules, now, block_over, fit, later, begun, latest, kept_at)

  -- it has ended before the turns are counted out
  pub turns_fit : (turns : ℕ) (s : CoreState) → StandsIn first c turns s → turns < 18446744073709551615
  turns_fit turns s now = let few = now.few in let most = few_turns first.program fit.sound t left in omega (arith, few, most)

  -- the client is one of the machine's
  pub client_inside : (turns : ℕ) (m s : CoreState) → m ≡ s → IsCoreState m → StandsIn first c turns s → c < length m.clients
  client_inside turns m s view state now = grind (arith, client, now)

-- some actors of the program have led there
abbrev pub IsPlayedTo : ProgramShape → Mode → ℕ → CoreState → Type 0
IsPlayedTo p mode size s = (actors : List Actor) × (all_named p actors ≡ true) × IsPlayedOn p mode size actors s

played_to : (p : ProgramShape) (mode : Mode) (size : ℕ) (old new : CoreState) (more : List Actor) → all_named old.program more ≡ true → CoreGoes old more new
    → IsPlayedTo p mode size old → IsPlayedTo p mode size new
played_to p mode size old new more named goes (actors, all, on) = (
  actors ++ more,
  named_append p actors more all (subst (λ q. all_named q more ≡ true) on.program named),
  goes_played p mode size actors more old new goes on,
)

-- the blocks that were played so far, and those that the rest of the list names
pub record ArePlayed (p : ProgramShape) (mode : Mode) (size : ℕ) (clients rest : List ℕ) (s : CoreState) : Type 0 where
  pub played : IsPlayedTo p mode size s
  pub quiet : IsCoreQuiet s.order (configuration_after p s.order).begun (core_of s)
  pub whole : order_of clients ≡ s.order ++ order_from (configuration_after p s.order).begun rest

module _ (p : ProgramShape) (mode : Mode) (size : ℕ) (clients : List ℕ) (c : ℕ) (rest : List ℕ) (s : CoreState) (now : ArePlayed p mode size clients (c ∷ rest) s) where
  same_program : s.program ≡ p
  same_program = now.played.2.program

  counts : ◌≡◌ {A = Counts} (blocks_begun s) (configuration_after p s.order).begun
  counts = λ i d. now.quiet.begun d i

  pub quiet_now : IsQuietNow s
  quiet_now = subst (λ b. IsCoreQuiet s.order b (core_of s)) (sym counts) now.quiet

  pub next_left : IsLegal p (order_of clients) → blocks_begun s c < blocks_of s.program c
  next_left legal =
      let from : LegalFrom p (configuration_after p s.order).begun (order_from (configuration_after p s.order).begun (c ∷ rest)) =
      legal-rest p (first_configuration p) s.order (order_from (configuration_after p s.order).begun (c ∷ rest)) (subst (IsLegal p) now.whole legal) in
      subst (λ q. blocks_begun s c < blocks_of q c) (sym same_program) (subst (λ (b : Counts). b c < blocks_of p c) (sym counts) from.1)

  abbrev ticket : Ticket
  ticket = record { client = c; index = (configuration_after p s.order).begun c }

  pub one_more : (n : CoreState) → n.order ≡ (core_of n).order → IsOneBlockOn s c n → ArePlayed p mode size clients rest n
  one_more n own on =
      let g = configuration_after p s.order in
      let longer : n.order ≡ s.order ++ ticket ∷ [] =
      own ∙ (on.quiet.order ∙ ap (λ k. s.order ++ record { client = c; index = k } ∷ []) (now.quiet.begun c)) in
      let there : configuration_after p n.order ≡ one_block_on p c g =
      ap (configuration_after p) longer ∙ configuration-append p (first_configuration p) s.order (ticket ∷ []) in
      let same : ◌≡◌ {A = Counts} (put (blocks_begun s) c (suc (blocks_begun s c))) (configuration_after p n.order).begun =
      (λ i. put (counts i) c (suc (counts i c))) ∙ sym (ap (λ (h : Configuration). h.begun) there) in
      record {
        played = played_to p mode size s n on.actors on.named on.goes now.played;
        quiet = search rules;
        whole =
            now.whole
            ∙ sym (append_assoc s.order (ticket ∷ []) (order_from (one_block_on p c g).begun rest))
            ∙ ap (λ ts. ts ++ order_from (one_block_on p c g).begun rest) (sym longer)
            ∙ ap (λ (h : Configuration). n.order ++ order_from h.begun rest) (sym there);
      }

pub own_order : (s : CoreState) → s.order ≡ (core_of s).order
unfolding core_of
own_order s = refl

pub played_first : (p : ProgramShape) (mode : Mode) (size : ℕ) (clients : List ℕ) (s : CoreState) → IsFreshCore p mode size s → ArePlayed p mode size clients clients s
played_first p mode size clients s fresh =
    let none : s.order ≡ [] = own_order s ∙ ap (λ (x : Core). x.order) fresh.begins in
    record {
      played = ([], refl, fresh_played p mode size s fresh);
      quiet = subst (λ o. IsCoreQuiet o (configuration_after p o).begun (core_of s)) (sym none)
          (subst (IsCoreQuiet [] (first_configuration p).begun) (sym fresh.begins) (begin_quiet p));
      whole = subst (λ o. order_of clients ≡ o ++ order_from (configuration_after p o).begun clients) (sym none) refl;
    }

-- what is shown once all were played
pub all_played : (p : ProgramShape) → IsSound p → (mode : Mode) (size : ℕ) (clients : List ℕ) → IsLegal p (order_of clients) → (s : CoreState) → ArePlayed p mode size clients [] s
    → IsPlayedInOrderOn p mode size (order_of clients) (core_played s.program (core_of s))
all_played p sound mode size clients legal s now = search (rules, now, append-nil, shown_in_order, begun)
