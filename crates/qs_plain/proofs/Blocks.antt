-- A block that is played alone, as the code does it: the client comes into its block in one step, each turn leads on in
-- it, and in the end nobody is in a block. The loops of `turn`, `play_block` and `play_clients` stand on this. Actors
-- that lead on are joined, one list after another, and the blocks that a list of clients names are taken from its
-- front.
use Rattle.std.proofs.Common.{◌≡◌, ◌<◌, ◌∙◌, ◌++◌, ◌∷◌, ◌⊎◌, [], ℕ, suc, true, false, true≢false, List, inl, refl, sym, ap, subst, length, map, append_assoc, append-nil, ⊎_elim, rules}
use Rattle.qs_played.proofs.Names.{lt-ltb, Ticket, ProgramShape, blocks_of, text_of, IsSound, Configuration, configuration_after, first_configuration, one_block_on, IsLegal, LegalFrom, put, configuration-append, legal-rest, put_here, all_named, or_stay}
use Rattle.qs_played.specs.declared.schedule.actor.Actor.{Actor}
use Rattle.qs_meaning.specs.audit.Reduced.{Counts}
use Rattle.qs_serial.specs.audit.NamedOrders.{order_from, order_of}
use Rattle.qs_played.specs.declared.schedule.actor.Actor.TheVariants as actors
use Rattle.qs_plain_laws.proofs.Names.{Plain, begin, client_at, step, is_out, played_of, plays, IsPlayedInOrder, IsQuiet}
use Rattle.qs_plain_laws.proofs.orders.AloneSteps.{IsWithin, left_of, named_append}
use Rattle.qs_plain_laws.proofs.orders.BlockAlone.{named_turn, turn_on}
use Rattle.qs_plain_laws.proofs.orders.BlockReached.{begin_quiet, comes_in, has_client, out_is, shown_in_order}
use Rattle.qs_plain.proofs.Names.{IsOneBlockOn, blocks_begun, RulesState, plain_of}
use Rattle.qs_plain.proofs.Playing.{plays-append}

-- some actors of the program, by whose steps one state comes from another
abbrev pub Leads : ProgramShape → Plain → Plain → Type 0
Leads p s n = (xs : List Actor) × (all_named p xs ≡ true) × (n ≡ plays p xs s)

pub leads_on : (p : ProgramShape) (s n m : Plain) (ys : List Actor) → all_named p ys ≡ true → m ≡ plays p ys n → Leads p s n → Leads p s m
leads_on p s n m ys named is (xs, all, there) =
    (xs ++ ys, named_append p xs ys all named, is ∙ ap (plays p ys) there ∙ sym (plays-append p xs ys s))

pub leads_join : (p : ProgramShape) (s n m : Plain) → Leads p n m → Leads p s n → Leads p s m
leads_join p s n m (ys, named, is) first = leads_on p s n m ys named is first

-- the client is in its block, or the block is over; and what led there
pub record Stands (p : ProgramShape) (order : List Ticket) (begun : ℕ → ℕ) (t : Ticket) (first s : Plain) : Type 0 where
  pub leads : Leads p first s
  pub at : IsWithin p order begun t s ⊎ IsQuiet p order begun s

module _ (p : ProgramShape) (sound : IsSound p) (order : List Ticket) (blocks : ℕ → ℕ) (t : Ticket) (index : t.index ≡ blocks t.client) (left : t.index < blocks_of p t.client) where
  abbrev later : List Ticket
  later = order ++ t ∷ []

  abbrev begun : ℕ → ℕ
  begun = put blocks t.client (suc (blocks t.client))

  client : t.client < length p.clients
  client = has_client p t left

  current : begun t.client ≡ suc t.index
  current = put_here blocks t.client (suc (blocks t.client)) ∙ ap suc (sym index)

  pub stands_first : (s n : Plain) → IsQuiet p order blocks s → n ≡ or_stay s (step p s (actors.Client t.client)) → Stands p later begun t s n
  stands_first s n quiet is = record {
    leads = (actors.Client t.client ∷ [], rw (lt-ltb t.client (length p.clients) client) refl, is);
    at = inl (subst (IsWithin p later begun t) (sym is) (comes_in p sound order blocks t index left s quiet));
  }

  -- where the client is not between two blocks it is in its block
  pub in_block : (first s : Plain) → Stands p later begun t first s → is_out (client_at s t.client).stage ≡ false → IsWithin p later begun t s
  in_block first s now e = ⊎_elim
      (λ (within : IsWithin p later begun t s). within)
      (λ (quiet : IsQuiet p later begun s). absurd (true≢false (sym (out_is (client_at s t.client).stage (quiet.stages t.client)) ∙ e)))
      now.at

  module _ (first s n : Plain) (now : Stands p later begun t first s) (e : is_out (client_at s t.client).stage ≡ false)
      (is : n ≡ plays p (actors.Client t.client ∷ map actors.Handler (text_of p t).reserved) s) where
    pub stands_on : Stands p later begun t first n
    stands_on = record {
      leads = leads_on p first s n (actors.Client t.client ∷ map actors.Handler (text_of p t).reserved)
          (named_turn p sound later begun t client current) is now.leads;
      at = subst (λ m. IsWithin p later begun t m ⊎ IsQuiet p later begun m) (sym is)
          (turn_on p sound later begun t client current s (in_block first s now e)).0;
    }

    pub fewer_left : left_of t n < left_of t s
    fewer_left = subst (λ m. left_of t m < left_of t s) (sym is) (turn_on p sound later begun t client current s (in_block first s now e)).1

-- the blocks that were played so far, and those that the rest of the list names
pub record ArePlayed (p : ProgramShape) (clients rest : List ℕ) (r : RulesState) : Type 0 where
  pub program : r.program ≡ p
  pub leads : Leads p (begin p) (plain_of r)
  pub quiet : IsQuiet p r.order (configuration_after p r.order).begun (plain_of r)
  pub whole : order_of clients ≡ r.order ++ order_from (configuration_after p r.order).begun rest

module _ (p : ProgramShape) (clients : List ℕ) (c : ℕ) (rest : List ℕ) (r : RulesState) (now : ArePlayed p clients (c ∷ rest) r) where
  counts : ◌≡◌ {A = Counts} (blocks_begun r) (configuration_after p r.order).begun
  counts = λ i d. now.quiet.begun d i

  pub next_left : IsLegal p (order_of clients) → blocks_begun r c < blocks_of r.program c
  next_left legal =
      let from : LegalFrom p (configuration_after p r.order).begun (order_from (configuration_after p r.order).begun (c ∷ rest)) =
      legal-rest p (first_configuration p) r.order (order_from (configuration_after p r.order).begun (c ∷ rest)) (subst (IsLegal p) now.whole legal) in
      subst (λ q. blocks_begun r c < blocks_of q c) (sym now.program) (subst (λ (b : Counts). b c < blocks_of p c) (sym counts) from.1)

  abbrev ticket : Ticket
  ticket = record { client = c; index = (configuration_after p r.order).begun c }

  pub one_more : (n : RulesState) → IsOneBlockOn r c n → ArePlayed p clients rest n
  one_more n on =
      let g = configuration_after p r.order in
      let longer : n.order ≡ r.order ++ ticket ∷ [] =
      on.quiet.order ∙ ap (λ k. r.order ++ record { client = c; index = k } ∷ []) (now.quiet.begun c) in
      let there : configuration_after p n.order ≡ one_block_on p c g =
      ap (configuration_after p) longer ∙ configuration-append p (first_configuration p) r.order (ticket ∷ []) in
      let same : ◌≡◌ {A = Counts} (put (blocks_begun r) c (suc (blocks_begun r c))) (configuration_after p n.order).begun =
      (λ i. put (counts i) c (suc (counts i c))) ∙ sym (ap (λ (h : Configuration). h.begun) there) in
      record {
        program = on.program ∙ now.program;
        leads = leads_join p (begin p) (plain_of r) (plain_of n) (subst (λ q. Leads q (plain_of r) (plain_of n)) now.program on.leads) now.leads;
        quiet = search (rules, client, now);
        whole =
            now.whole
            ∙ sym (append_assoc r.order (ticket ∷ []) (order_from (one_block_on p c g).begun rest))
            ∙ ap (λ ts. ts ++ order_from (one_block_on p c g).begun rest) (sym longer)
            ∙ ap (λ (h : Configuration). n.order ++ order_from h.begun rest) (sym there);
      }

pub played_first : (p : ProgramShape) (clients : List ℕ) (r : RulesState) → r.program ≡ p → plain_of r ≡ begin p → ArePlayed p clients clients r
played_first p clients r same fresh =
    let none : r.order ≡ [] = ap (λ (s : Plain). s.order) fresh in
    record {
      program = same;
      leads = ([], refl, fresh);
      quiet = subst (λ o. IsQuiet p o (configuration_after p o).begun (plain_of r)) (sym none)
          (subst (IsQuiet p [] (first_configuration p).begun) (sym fresh) (begin_quiet p));
      whole = subst (λ o. order_of clients ≡ o ++ order_from (configuration_after p o).begun clients) (sym none) refl;
    }

-- what is shown once all were played
pub all_played : (p : ProgramShape) → IsSound p → (clients : List ℕ) → IsLegal p (order_of clients) → (r : RulesState) → ArePlayed p clients [] r
    → IsPlayedInOrder p (order_of clients) (played_of r.program (plain_of r))
all_played p sound clients legal r now =
    let whole : order_of clients ≡ r.order = now.whole ∙ append-nil r.order in
    subst (λ q. IsPlayedInOrder p (order_of clients) (played_of q (plain_of r))) (sym now.program)
    (shown_in_order p sound (order_of clients) legal now.leads.0 now.leads.1 (plain_of r) now.leads.2
    (subst (λ o. IsQuiet p o (configuration_after p o).begun (plain_of r)) (sym whole) now.quiet))
