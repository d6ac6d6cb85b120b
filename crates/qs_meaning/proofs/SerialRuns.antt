-- Where the block records of blocks and the journals of objects go on along a legal order, they agree with the serial
-- run of that order. The isolation of every machine and of the threads stands on `runs_serially`. It goes by induction
-- on the order; the invariant is that each client has the variables, and each object the state, that the blocks before
-- left to them.
use Rattle.std.proofs.Common.{◌≡◌, ◌≢◌, ℕ, zero, suc, ◌≤◌, arith, Bool, true, false, ◌==◌, List, [], ◌∷◌, ◌++◌, map, refl, sym, ap, ◌∙◌, subst, ◌⊎◌, inl, inr, ⊎_elim, append_assoc, append-nil}
use Rattle.qs_meaning.proofs.Common.{AllByRecursion, AllZip, before, command_event, Entry, Event, HasEntry, IsFront, IsHonest, IsSound, Locals, map-append, nat_tests, not_same, num_cases, part, ProgramShape, replay, Request, same, same_self, stamp, State, text_of, Ticket, without_tickets}
use Rattle.qs_objects.proofs.Replays.{replay-append, IsHonest-append}
use Rattle.qs_meaning.specs.audit.Following.{reserves}
use Rattle.qs_meaning.specs.Following.{AsksOnly, block_tree, changed_all, noted_all}
use Rattle.qs_meaning.specs.audit.Interaction.{Interaction, Done, Call, Query}
use Rattle.qs_meaning.specs.Interaction.{run}
use Rattle.qs_meaning.specs.audit.Serial.{LegalFrom, declared_states, zeros}
use Rattle.qs_meaning.specs.Serial.{SerialBlock, serial_from}
use Rattle.qs_meaning.specs.audit.Solo.{States, BlockResult, put, solo}
use Rattle.qs_meaning.proofs.Each.{each_map, each_both, each_join}
use Rattle.qs_meaning.proofs.Histories.{parts_of, done_of, Apart, OnlyCommands, Piece, ObjectCourse, Flow, ClearOf, clear_stamped, clear_later, commands_honest, has_append, has_clear, unstamp_all}
use Rattle.qs_meaning.specs.BlockRecords.{BlockRecord, IsBlockRecord, IsDone, Begins}
use Rattle.qs_meaning.proofs.SoundTrees.{blocks_ask_only}
use Rattle.qs_meaning.proofs.TreeWalks.{put_here, put_there, changed_all_at, honest_traces_run, run_leads, unnamed, untouched}
use Rattle.qs_meaning.proofs.Trees.{trees_agree}

done_is : (t : Interaction) → IsDone t → (l : Locals) × (t ≡ Done l)
done_is (Done l) d = (l, refl)
done_is (Call r next) d = absurd d
done_is (Query r next) d = absurd d

-- each of a client's later tickets has a greater index
later : (c d i j : ℕ) (n : ℕ → ℕ) → i ≡ n c → put n c (suc i) d ≤ j → n d ≤ j
later c d i j n e k = grind (arith, nat_tests)

legal_above : (p : ProgramShape) (n : ℕ → ℕ) (ts : List Ticket) → LegalFrom p n ts → AllByRecursion (λ u. n u.client ≤ u.index) ts
legal_above p n [] g = tt
legal_above p n (t ∷ ts) g = (
  let e : t.index ≡ n t.client = g.0 in omega (arith, e),
  each_map (λ u (k : put n t.client (suc t.index) u.client ≤ u.index). (let e = g.0 in later t.client u.client t.index u.index n e k)) ts
      (legal_above p (put n t.client (suc t.index)) ts g.2),
)

legal_first : (p : ProgramShape) (n : ℕ → ℕ) (t : Ticket) (ts : List Ticket) → LegalFrom p n (t ∷ ts) → AllByRecursion (λ u. t ≢ u) ts
legal_first p n t ts g = each_map {Q = λ u. t ≢ u} (λ u (k : put n t.client (suc t.index) u.client ≤ u.index) (is : t ≡ u).
    let b : put n t.client (suc t.index) t.client ≡ suc t.index = put_here n t.client (suc t.index) in
    let k' : put n t.client (suc t.index) t.client ≤ t.index = subst (λ u. put n t.client (suc t.index) u.client ≤ u.index) (sym is) k in
    omega (arith, b, k')) ts (legal_above p (put n t.client (suc t.index)) ts g.2)

-- no ticket comes twice in a legal order
pub legal_apart : (p : ProgramShape) (n : ℕ → ℕ) (ts : List Ticket) → LegalFrom p n ts → Apart ts
legal_apart p n [] g = tt
legal_apart p n (t ∷ ts) g = (legal_first p n t ts g, legal_apart p (put n t.client (suc t.index)) ts g.2)

abbrev Clear : List Entry → List Ticket → Type 0
Clear j ts = AllByRecursion (λ u. ClearOf u j) ts

clear_nil : (ts : List Ticket) → Clear [] ts
clear_nil [] = tt
clear_nil (t ∷ ts) = (tt, clear_nil ts)

clear_more : (t : Ticket) (ts : List Ticket) (j : List Entry) (es : List Event) → Clear j ts → AllByRecursion (λ u. t ≢ u) ts → Clear (j ++ map (stamp t) es) ts
clear_more t ts j es k n =
    each_both (λ u (c : ClearOf u j) (d : t ≢ u). each_join (λ (x : Entry). same u x.ticket ≡ false) j (map (stamp t) es) c (clear_stamped u t es (apart_same t u d))) ts k n
  where
    apart_same : (t u : Ticket) → t ≢ u → same u t ≡ false
    apart_same t u d = not_same u t (λ is. d (sym is))

before_clear : (t : Ticket) (k j : List Entry) → ClearOf t k → before t (k ++ j) ≡ k ++ before t j
before_clear t [] j c = refl
before_clear t (x ∷ k) j c = rw c.0 (ap (λ xs. x ∷ xs) (before_clear t k j c.1))

-- a ticket's block record and its place in the serial run
pub record Agrees (p : ProgramShape) (journal : ℕ → List Entry) (block_record : Ticket → BlockRecord) (t : Ticket) (q : SerialBlock) : Type 0 where
  pub ticket : q.ticket ≡ t
  pub entry : (block_record t).entry ≡ q.entry
  pub starts : (h : ℕ) → HasEntry t (journal h) → replay (declared_states p h) (without_tickets (before t (journal h))) ≡ q.starts h
  pub front : IsFront (block_record t).trace q.trace
  pub whole : IsDone (block_record t).rest → (block_record t).trace ≡ q.trace
  pub through : (h : ℕ) → (reserves p t h ≡ true → IsDone (block_record t).rest) → part h q.trace ≡ part h (block_record t).trace

module _ (p : ProgramShape) (sound : IsSound p) (block_record : Ticket → BlockRecord) (waits : ℕ → Ticket → List Request) (present : ℕ → State) (busy : ℕ → Type 0) (journal : ℕ → List Entry) where
  -- an object along the order
  abbrev pub line : ℕ → ObjectCourse
  line h = record { may = λ t. reserves p t h; parts = parts_of block_record h; done = done_of block_record; waits = waits h; busy = busy h; present = present h }

  -- what the serial run knows of a client between blocks
  abbrev Known : ℕ → ℕ → Locals → Type 0
  Known c zero l = l ≡ zeros
  Known c (suc k) l = (m : Locals) → (block_record (record { client = c; index = k })).rest ≡ Done m → l ≡ m

  begins_known : (c k : ℕ) (l e : Locals) → Known c k l → Begins block_record c k e → e ≡ l
  begins_known c zero l e k b = b ∙ sym k
  begins_known c (suc j) l e k b = sym (k e b)

  -- at h: the journal goes on along the tickets, or a ticket before them isn't through
  abbrev Ahead : ℕ → State → List Ticket → Type 0
  Ahead h s ts =
      ((j : List Entry) × (k : List Entry) × (journal h ≡ k ++ j) × (replay (declared_states p h) (without_tickets k) ≡ s) × Clear k ts × Flow (line h) s j ts)
      ⊎ (busy h × AllByRecursion (λ u. OnlyCommands (parts_of block_record h u) (waits h u)) ts × Clear (journal h) ts)

  part_honest : (h : ℕ) (s : State) (t : Ticket) (ts : List Ticket) → Ahead h s (t ∷ ts) → IsHonest s (parts_of block_record h t)
  part_honest h s t ts (inl f) =
      let q = f.5.0 in
      subst (IsHonest s) (sym q.part_is) (IsHonest-append s q.ran (map command_event (waits h t)) q.honest (commands_honest (replay s q.ran) (waits h t) q.commands))
  part_honest h s t ts (inr f) = subst (IsHonest s) (sym f.1.0.0) (commands_honest s (waits h t) f.1.0.1)

  -- one ticket
  module _ (t : Ticket) (ts : List Ticket) (ls : ℕ → Locals) (st : States) (ok : IsBlockRecord p t (block_record t)) (entry : (block_record t).entry ≡ ls t.client) (apart : AllByRecursion (λ u. t ≢ u) ts) (ahead : (h : ℕ) → Ahead h (st h) (t ∷ ts)) where
    abbrev pg : BlockRecord
    pg = block_record t

    abbrev o : BlockResult
    o = solo (text_of p t).body (ls t.client) st

    as_tree : o ≡ run (block_tree p t (ls t.client)) st
    as_tree = trees_agree (text_of p t).body (ls t.client) st

    outcome : o ≡ noted_all pg.trace (run pg.rest (changed_all st pg.trace))
    outcome =
        as_tree
        ∙ (ap (λ l. run (block_tree p t l) st) (sym entry)
        ∙ honest_traces_run (block_tree p t pg.entry) pg.trace pg.rest st ok (λ h. part_honest h (st h) t ts (ahead h)))

    at_end : (l : Locals) → pg.rest ≡ Done l → o ≡ noted_all pg.trace (run (Done l) (changed_all st pg.trace))
    at_end l e = outcome ∙ ap (λ t. noted_all pg.trace (run t (changed_all st pg.trace))) e

    asks : (l : Locals) → AsksOnly (reserves p t) (block_tree p t l)
    asks l = blocks_ask_only p sound t l

    -- what stands before its first entry leaves the state that the serial run has there
    starts_case : (h : ℕ) → Ahead h (st h) (t ∷ ts) → HasEntry t (journal h) → replay (declared_states p h) (without_tickets (before t (journal h))) ≡ st h
    starts_case h (inr f) i = absurd (has_clear t (journal h) f.2.0 i)
    starts_case h (inl f) i = by_ran q.ran (is ∙ ap (λ j. f.1 ++ j) q.journal_is)
      where
        q : Piece (st h) t (parts_of block_record h t) (waits h t) f.0
        q = f.5.0

        is : journal h ≡ f.1 ++ f.0
        is = f.2

        by_ran : (ran : List Event) → journal h ≡ f.1 ++ (map (stamp t) ran ++ (f.5.0).later) → replay (declared_states p h) (without_tickets (before t (journal h))) ≡ st h
        by_ran [] e = absurd (elim (has_append t f.1 (f.5.0).later (subst (HasEntry t) e i)) [
          | inl a ↦ has_clear t f.1 f.4.0 a
          | inr a ↦ has_clear t (f.5.0).later (clear_later (line h) (st h) t ts f.0 f.5.0 f.5.1 t apart) a
        ])
        by_ran (x ∷ ran) e =
            let first : before t (stamp t x ∷ (map (stamp t) ran ++ (f.5.0).later)) ≡ [] = rw (same_self t) in
            let b : before t (journal h) ≡ f.1 =
            ap (before t) e ∙ (before_clear t f.1 (stamp t x ∷ (map (stamp t) ran ++ (f.5.0).later)) f.4.0 ∙ (ap (λ j. f.1 ++ j) first ∙ append-nil f.1)) in
            ap (λ j. replay (declared_states p h) (without_tickets j)) b ∙ f.3

    through_case : (h : ℕ) (b : Bool) → reserves p t h ≡ b → (reserves p t h ≡ true → IsDone pg.rest) → part h o.trace ≡ part h pg.trace
    through_case h true e d = let l = done_is pg.rest (d e) in ap (λ (o : BlockResult). part h o.trace) (at_end l.0 l.1) ∙ ap (part h) (append-nil pg.trace)
    through_case h false e d =
        ap (λ (o : BlockResult). part h o.trace) as_tree
        ∙ (unnamed (reserves p t) (block_tree p t (ls t.client)) (run (block_tree p t (ls t.client)) st).trace _ h (asks (ls t.client)) (run_leads (block_tree p t (ls t.client)) st) e
        ∙ sym (unnamed (reserves p t) (block_tree p t pg.entry) pg.trace pg.rest h (asks pg.entry) ok e))

    agrees : Agrees p journal block_record t (record { ticket = t; entry = ls t.client; starts = st; trace = o.trace })
    agrees = record {
      ticket = refl;
      entry = entry;
      starts = λ h i. starts_case h (ahead h) i;
      front = ((run pg.rest (changed_all st pg.trace)).trace, sym (ap (λ o. o.trace) outcome));
      whole = λ d. let l = done_is pg.rest d in sym (ap (λ o. o.trace) (at_end l.0 l.1) ∙ append-nil pg.trace);
      through = λ h d. through_case h (reserves p t h) refl d;
    }

    locals_after : (m : Locals) → pg.rest ≡ Done m → o.locals ≡ m
    locals_after m e = ap (λ o. o.locals) (at_end m e)

    -- the object's state after an ended block, or one that may not touch it
    state_after : (h : ℕ) (es : List Event) → parts_of block_record h t ≡ es → (reserves p t h ≡ true → done_of block_record t) → o.states h ≡ replay (st h) es
    state_after h es e d = by_case (reserves p t h) refl
      where
        by_case : (b : Bool) → reserves p t h ≡ b → (solo (text_of p t).body (ls t.client) st).states h ≡ replay (st h) es
        by_case true b =
            let l = done_is (block_record t).rest (d b) in
            ap (λ o. o.states h) (at_end l.0 l.1) ∙ (changed_all_at st (block_record t).trace h ∙ ap (replay (st h)) e)
        by_case false b =
            ap (λ o. o.states h) as_tree
            ∙ (untouched (reserves p t) (block_tree p t (ls t.client)) st h (asks (ls t.client)) b
            ∙ ap (replay (st h)) (sym (unnamed (reserves p t) (block_tree p t (block_record t).entry) (block_record t).trace (block_record t).rest h (asks (block_record t).entry) ok b) ∙ e))

    ahead_after : (h : ℕ) → Ahead h (o.states h) ts
    ahead_after h = by_case (ahead h)
      where
        by_case : Ahead h (st h) (t ∷ ts) → Ahead h ((solo (text_of p t).body (ls t.client) st).states h) ts
        by_case (inr f) = inr (f.0, f.1.1, f.2.1)
        by_case (inl f) = next f.5.0 f.5.1
          where
            replayed : (q : Piece (st h) t (parts_of block_record h t) (waits h t) f.0) → replay (declared_states p h) (without_tickets (f.1 ++ map (stamp t) q.ran)) ≡ replay (st h) q.ran
            replayed q =
                ap (replay (declared_states p h)) (map-append _ f.1 (map (stamp t) q.ran) ∙ ap (λ es. without_tickets f.1 ++ es) (unstamp_all t q.ran))
                ∙ (replay-append (declared_states p h) (without_tickets f.1) q.ran ∙ ap (λ s. replay s q.ran) f.3)

            next : (q : Piece (st h) t (parts_of block_record h t) (waits h t) f.0)
                → (((reserves p t h ≡ true → done_of block_record t) × (waits h t ≡ []) × Flow (line h) (replay (st h) q.ran) q.later ts)
                ⊎ (busy h × (q.later ≡ []) × AllByRecursion (λ u. OnlyCommands (parts_of block_record h u) (waits h u)) ts))
                → Ahead h ((solo (text_of p t).body (ls t.client) st).states h) ts
            next q (inl g) =
                let is = state_after h q.ran (q.part_is ∙ (ap (λ rs. q.ran ++ map command_event rs) g.1 ∙ append-nil q.ran)) g.0 in
                inl (
                  q.later,
                  f.1 ++ map (stamp t) q.ran,
                  f.2 ∙ (ap (λ j. f.1 ++ j) q.journal_is ∙ sym (append_assoc f.1 (map (stamp t) q.ran) q.later)),
                  replayed q ∙ sym is,
                  clear_more t ts f.1 q.ran f.4.1 apart,
                  subst (λ s. Flow (line h) s q.later ts) (sym is) g.2,
                )
            next q (inr g) =
                inr (
                  g.0,
                  g.2,
                  subst (λ j. Clear j ts)
                      (sym (f.2 ∙ ap (λ j. f.1 ++ j) (q.journal_is ∙ (ap (λ j. map (stamp t) q.ran ++ j) g.1 ∙ append-nil (map (stamp t) q.ran)))))
                      (clear_more t ts f.1 q.ran f.4.1 apart),
                )

  known_after : (n : ℕ → ℕ) (ls : ℕ → Locals) (t : Ticket) (l : Locals) → ((c : ℕ) → Known c (n c) (ls c)) → ((m : Locals) → (block_record t).rest ≡ Done m → l ≡ m) → (c : ℕ) → Known c (put n t.client (suc t.index) c) (put ls t.client l c)
  known_after n ls t l k new c =
      ⊎_elim
      (λ (is : t.client ≡ c). subst (λ c. Known c (put n t.client (suc t.index) c) (put ls t.client l c)) is
      (subst (λ k. Known t.client k (put ls t.client l t.client)) (sym (put_here n t.client (suc t.index))) (subst (λ a. Known t.client (suc t.index) a) (sym (put_here ls t.client l)) new)))
      (λ (other : (t.client == c) ≡ false).
      subst (λ k. Known c k (put ls t.client l c)) (sym (put_there n t.client (suc t.index) c other)) (subst (λ a. Known c (n c) a) (sym (put_there ls t.client l c other)) (k c)))
      (num_cases t.client c)

  pub along : (ts : List Ticket) (n : ℕ → ℕ) (ls : ℕ → Locals) (st : States) → LegalFrom p n ts → AllByRecursion (λ t. IsBlockRecord p t (block_record t)) ts → AllByRecursion (λ t. Begins block_record t.client t.index (block_record t).entry) ts
      → ((c : ℕ) → Known c (n c) (ls c)) → ((h : ℕ) → Ahead h (st h) ts)
      → AllZip (Agrees p journal block_record) ts (serial_from p ls st ts).places × ((h : ℕ) → (busy h → ⊥) → (serial_from p ls st ts).states h ≡ present h)
  along [] n ls st legal block_records begins known ahead = (tt, λ h b. elim (ahead h) [ inl f ↦ f.5.1 | inr f ↦ absurd (b f.0) ])
  along (t ∷ ts) n ls st legal block_records begins known ahead =
      let entry : (block_record t).entry ≡ ls t.client = begins_known t.client (n t.client) (ls t.client) (block_record t).entry (known t.client) (subst (λ k. Begins block_record t.client k (block_record t).entry) legal.0 begins.0) in
      let o = solo (text_of p t).body (ls t.client) st in
      let apart = legal_first p n t ts legal in
      let rest = along ts (put n t.client (suc t.index)) (put ls t.client o.locals) o.states legal.2 block_records.1 begins.1
      (known_after n ls t o.locals known (locals_after t ts ls st block_records.0 entry apart ahead)) (ahead_after t ts ls st block_records.0 entry apart ahead) in
      ((agrees t ts ls st block_records.0 entry apart ahead, rest.0), rest.1)

  -- block records of a legal order, and journals that flow along it
  pub runs_serially : (order : List Ticket) → LegalFrom p (λ _. 0) order → AllByRecursion (λ t. IsBlockRecord p t (block_record t)) order → AllByRecursion (λ t. Begins block_record t.client t.index (block_record t).entry) order
      → ((h : ℕ) → Flow (line h) (declared_states p h) (journal h) order)
      → AllZip (Agrees p journal block_record) order (serial_from p (λ _. zeros) (declared_states p) order).places
      × ((h : ℕ) → (busy h → ⊥) → (serial_from p (λ _. zeros) (declared_states p) order).states h ≡ present h)
  runs_serially order legal block_records begins flows =
      along order (λ _. 0) (λ _. zeros) (declared_states p) legal block_records begins (λ c. refl) (λ h. inl (journal h, [], refl, refl, clear_nil order, flows h))
