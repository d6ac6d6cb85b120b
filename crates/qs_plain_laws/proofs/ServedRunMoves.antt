-- Each move of a served run keeps it sound: a command is logged, a query is answered, a command that waits is run, a
-- ticket leaves, or a new one comes. Each step of the plain rules is shown to be such a move (`Simulation`). A move
-- changes one ticket's block record or one object's service, or adds a ticket; all other block records and services
-- stay, and what is known of the service has its own lemmas.
use Rattle.std.proofs.Common.{◌≡◌, ℕ, suc, ◌<◌, ◌≤◌, arith, Bool, true, false, if◌then◌else◌, ◌==◌, List, [], ◌∷◌, ◌++◌, refl, sym, ap, ◌∙◌, subst, ⊎_elim, ℤ, rules}
use Rattle.qs_played.proofs.Names.{AllByRecursion, command_event, same, Event, Ticket, Request, num_cases, ticket_cases, reserves, Leads, AsksOnly, block_tree, ProgramShape, blocks_of, declared_states, put, event, value_of, IsSound, Locals, each_map, each_both, each_snoc, Among, parts_of, done_of, advance, BlockRecord, IsBlockRecord, IsDone, Begins, blocks_ask_only, put_here, put_there, leads_call, leads_query, asks_rest, part_snoc_here, part_snoc_there}
use Rattle.qs_objects.specs.audit.Journals.{answer}
use Rattle.qs_meaning.specs.audit.Interaction.{Interaction, Done, Call, Query}
use Rattle.qs_plain_laws.proofs.Names.{legal-more, counts-more, each_among, put_at, put_at_here, put_at_there}
use Rattle.qs_plain_laws.proofs.ServedRuns.{Service, ServedRun, log, reply, end_block, run_first, reserve, service_log, service_answer, service_run, service_leave, service_reserve, IsService, IsServedRun}
use Rattle.qs_plain_laws.proofs.Services.{service_same, service_log_ok, service_answer_ok, service_run_ok, service_leave_ok, service_pass_ok, service_reserve_ok}

module _ (p : ProgramShape) (sound : IsSound p) where
  -- what is left of a block makes requests on the objects of its list alone
  pub asks_left : (w : ServedRun) (t : Ticket) → IsBlockRecord p t (w.block_record t) → AsksOnly (reserves p t) (w.block_record t).rest
  asks_left w t path = asks_rest (reserves p t) (block_tree p t (w.block_record t).entry) (w.block_record t).trace (w.block_record t).rest (blocks_ask_only p sound t (w.block_record t).entry) path

  -- one block record goes on by one event
  module _ (w : ServedRun) (t : Ticket) (e : Event) (next : Interaction) (busy : IsDone (w.block_record t).rest → ⊥) where
    abbrev pub block_record' : Ticket → BlockRecord
    block_record' = put_at w.block_record t (advance (w.block_record t) e next)

    entry_same : (u : Ticket) → (block_record' u).entry ≡ (w.block_record u).entry
    entry_same u = search (rules, put_at_here, advance, put_at_there, ticket_cases)

    done_kept : (u : Ticket) (l : Locals) → (w.block_record u).rest ≡ Done l → (block_record' u).rest ≡ Done l
    done_kept u l d = search (rules, put_at_there, advance, ticket_cases)

    pub is_done_kept : (u : Ticket) → done_of w.block_record u → done_of block_record' u
    is_done_kept u d = search (rules, done_of, put_at_there, advance, ticket_cases)

    begins_one : (c k : ℕ) (a b : Locals) → a ≡ b → Begins w.block_record c k a → Begins block_record' c k b
    begins_one c v a b is h = search (rules, done_kept)

    begins_kept : AllByRecursion (λ t. Begins w.block_record t.client t.index (w.block_record t).entry) w.order → AllByRecursion (λ t. Begins block_record' t.client t.index (block_record' t).entry) w.order
    begins_kept = each_map (λ u h. begins_one u.client u.index (w.block_record u).entry (block_record' u).entry (sym (entry_same u)) h) w.order

    records_kept : (IsBlockRecord p t (w.block_record t) → IsBlockRecord p t (advance (w.block_record t) e next)) → AllByRecursion (λ t. IsBlockRecord p t (w.block_record t)) w.order → AllByRecursion (λ t. IsBlockRecord p t (block_record' t)) w.order
    records_kept f = search (rules, each_map, put_at_here, advance, put_at_there, ticket_cases)

    parts_here : (h : ℕ) → e.request.object ≡ h → (u : Ticket) → put_at (parts_of w.block_record h) t (parts_of w.block_record h t ++ e ∷ []) u ≡ parts_of block_record' h u
    parts_here h at u = search (rules, put_at, parts_of, put_at_here, part_snoc_here, advance, put_at_there, ticket_cases)

    parts_there : (h : ℕ) → (e.request.object == h) ≡ false → (u : Ticket) → parts_of w.block_record h u ≡ parts_of block_record' h u
    parts_there h at u = search (rules, parts_of, part_snoc_there, put_at_here, advance, put_at_there, ticket_cases)

  not_done_call : (t r : _) (next : Interaction) → t ≡ Call r next → IsDone t → ⊥
  not_done_call t r next e d = subst IsDone e d

  not_done_query : (t r : _) (next : ℤ → Interaction) → t ≡ Query r next → IsDone t → ⊥
  not_done_query t r next e d = subst IsDone e d

  pub log_ok : (w : ServedRun) (t : Ticket) (r : Request) (next : Interaction) → Among t w.order → (w.block_record t).rest ≡ Call r next → IsServedRun p w → IsServedRun p (log w t r next)
  log_ok w t r next a is ok =
      let busy = not_done_call (w.block_record t).rest r next is in
      let fine = subst (AsksOnly (reserves p t)) is (asks_left w t (each_among (λ t. IsBlockRecord p t (w.block_record t)) t w.order ok.block_records a)) in
      record {
        legal = ok.legal;
        counts = ok.counts;
        below = ok.below;
        block_records = records_kept w t (command_event r) next busy (λ leads. leads_call (block_tree p t (w.block_record t).entry) (w.block_record t).trace r next (subst (Leads (block_tree p t (w.block_record t).entry) (w.block_record t).trace) is leads)) ok.block_records;
        begins = begins_kept w t (command_event r) next busy ok.begins;
        services = λ h. ⊎_elim
            (λ (at : r.object ≡ h). subst (λ h. IsService p (declared_states p h) w.order h (parts_of (block_record' w t (command_event r) next busy) h) (done_of (block_record' w t (command_event r) next busy)) (put w.service r.object (service_log (w.service r.object) t r) h)) at
            (subst (IsService p (declared_states p r.object) w.order r.object (parts_of (block_record' w t (command_event r) next busy) r.object) (done_of (block_record' w t (command_event r) next busy))) (sym (put_here w.service r.object (service_log (w.service r.object) t r)))
            (service_same p (declared_states p r.object) w.order r.object _ _ _ _ _ (parts_here w t (command_event r) next busy r.object refl) (λ u d. d)
            (service_log_ok p (declared_states p r.object) w.order r.object (parts_of w.block_record r.object) (done_of w.block_record) (done_of (block_record' w t (command_event r) next busy)) (w.service r.object) t r (is_done_kept w t (command_event r) next busy) busy fine.0 (ok.services r.object)))))
            (λ (at : (r.object == h) ≡ false).
            subst (IsService p (declared_states p h) w.order h (parts_of (block_record' w t (command_event r) next busy) h) (done_of (block_record' w t (command_event r) next busy))) (sym (put_there w.service r.object (service_log (w.service r.object) t r) h at))
            (service_same p (declared_states p h) w.order h _ _ _ _ _ (parts_there w t (command_event r) next busy h at) (is_done_kept w t (command_event r) next busy) (ok.services h)))
            (num_cases r.object h);
      }

  pub reply_ok : (w : ServedRun) (t : Ticket) (r : Request) (next : ℤ → Interaction) (ts : List Ticket) → Among t w.order → (w.block_record t).rest ≡ Query r next
      → (w.service r.object).queue ≡ t ∷ ts → (w.service r.object).wait t ≡ [] → IsServedRun p w → IsServedRun p (reply w t r next)
  reply_ok w t r next ts a is q free ok =
      let busy = not_done_query (w.block_record t).rest r next is in
      let v = answer (w.service r.object).state r in
      let e = event r v in
      let after' = next (value_of v) in
      let fine = subst (AsksOnly (reserves p t)) is (asks_left w t (each_among (λ t. IsBlockRecord p t (w.block_record t)) t w.order ok.block_records a)) in
      let new = service_answer (w.service r.object) t r in
      record {
        legal = ok.legal;
        counts = ok.counts;
        below = ok.below;
        block_records = records_kept w t e after' busy (λ leads. leads_query (block_tree p t (w.block_record t).entry) (w.block_record t).trace e next (subst (Leads (block_tree p t (w.block_record t).entry) (w.block_record t).trace) is leads)) ok.block_records;
        begins = begins_kept w t e after' busy ok.begins;
        services = λ h. ⊎_elim
            (λ (at : r.object ≡ h). subst (λ h. IsService p (declared_states p h) w.order h (parts_of (block_record' w t e after' busy) h) (done_of (block_record' w t e after' busy)) (put w.service r.object new h)) at
            (subst (IsService p (declared_states p r.object) w.order r.object (parts_of (block_record' w t e after' busy) r.object) (done_of (block_record' w t e after' busy))) (sym (put_here w.service r.object new))
            (service_same p (declared_states p r.object) w.order r.object _ _ _ _ _ (parts_here w t e after' busy r.object refl) (λ u d. d)
            (service_answer_ok p (declared_states p r.object) w.order r.object (parts_of w.block_record r.object) (done_of w.block_record) (done_of (block_record' w t e after' busy)) (w.service r.object) t ts r (is_done_kept w t e after' busy) busy q free (ok.services r.object)))))
            (λ (at : (r.object == h) ≡ false).
            subst (IsService p (declared_states p h) w.order h (parts_of (block_record' w t e after' busy) h) (done_of (block_record' w t e after' busy))) (sym (put_there w.service r.object new h at))
            (service_same p (declared_states p h) w.order h _ _ _ _ _ (parts_there w t e after' busy h at) (is_done_kept w t e after' busy) (ok.services h)))
            (num_cases r.object h);
      }

  -- one service changes and nothing else
  one_service : (w : ServedRun) (h : ℕ) (l : Service) → IsServedRun p w
      → (IsService p (declared_states p h) w.order h (parts_of w.block_record h) (done_of w.block_record) (w.service h) → IsService p (declared_states p h) w.order h (parts_of w.block_record h) (done_of w.block_record) l)
      → IsServedRun p (record { order = w.order; booked = w.booked; block_record = w.block_record; service = put w.service h l })
  one_service w h l ok f = search (rules, ok, parts_of, put_here, put_there, num_cases)

  pub run_ok : (w : ServedRun) (h : ℕ) (t : Ticket) (ts : List Ticket) (r : Request) (rs : List Request) → (w.service h).queue ≡ t ∷ ts → (w.service h).wait t ≡ r ∷ rs
      → IsServedRun p w → IsServedRun p (run_first w h t r rs)
  run_ok w h t ts r rs q some ok = one_service w h (service_run (w.service h) t r rs) ok (service_run_ok p (declared_states p h) w.order h (parts_of w.block_record h) (done_of w.block_record) (w.service h) t ts r rs q some)

  pub leave_ok : (w : ServedRun) (h : ℕ) (t : Ticket) (ts : List Ticket) → (w.service h).queue ≡ t ∷ ts → (w.service h).wait t ≡ [] → IsDone (w.block_record t).rest
      → IsServedRun p w → IsServedRun p (end_block w h t ts)
  leave_ok w h t ts q none d ok = one_service w h (service_leave (w.service h) t ts) ok (service_leave_ok p (declared_states p h) w.order h (parts_of w.block_record h) (done_of w.block_record) (w.service h) t ts q none d)

  -- a ticket that comes
  module _ (w : ServedRun) (t : Ticket) (l : Locals) (is : t.index ≡ w.booked t.client) (ok : IsServedRun p w) where
    abbrev fresh_record : BlockRecord
    fresh_record = record { entry = l; trace = []; rest = block_tree p t l }

    abbrev pub page2 : Ticket → BlockRecord
    page2 = put_at w.block_record t fresh_record

    pub fresh : AllByRecursion (λ u. same t u ≡ false) w.order
    fresh = search (rules, each_map, ticket_cases)

    page2_there : (u : Ticket) → same t u ≡ false → page2 u ≡ w.block_record u
    page2_there u e = put_at_there w.block_record t fresh_record u e

    below2 : (u : Ticket) → suc u.index ≤ w.booked u.client → suc u.index ≤ put w.booked t.client (suc t.index) u.client
    below2 u b = search (rules, put_here, put_there, num_cases)

    -- what stood before another ticket still stands there
    begins_old : (c k : ℕ) (a b : Locals) → a ≡ b → suc k ≤ w.booked c → Begins w.block_record c k a → Begins page2 c k b
    begins_old c k a b e h k' = search (rules, page2_there, ticket_cases)

    begins_new : (c k : ℕ) → c ≡ t.client → k ≡ t.index → Begins w.block_record c k l → Begins page2 c k l
    begins_new c k ec ek k' = search (rules, page2_there, ticket_cases)

    service2 : (h : ℕ) (b : Bool) → reserves p t h ≡ b → IsService p (declared_states p h) (w.order ++ t ∷ []) h (put_at (parts_of w.block_record h) t []) (done_of page2) ((if b then service_reserve (w.service h) t else w.service h))
    service2 h true e = service_reserve_ok p (declared_states p h) w.order h (parts_of w.block_record h) (done_of w.block_record) (done_of page2) (w.service h) t (λ u n d. subst (λ (g : BlockRecord). IsDone g.rest) (sym (page2_there u n)) d) fresh (ok.services h) e
    service2 h false e = service_pass_ok p (declared_states p h) w.order h (parts_of w.block_record h) (done_of w.block_record) (done_of page2) (w.service h) t (λ u n d. subst (λ (g : BlockRecord). IsDone g.rest) (sym (page2_there u n)) d) fresh (ok.services h) e

    parts2 : (h : ℕ) (u : Ticket) → put_at (parts_of w.block_record h) t [] u ≡ parts_of page2 h u
    parts2 h u = search (rules, parts_of)

    pub reserve_ok : t.index < blocks_of p t.client → Begins w.block_record t.client t.index l → IsServedRun p (reserve p w t l)
    reserve_ok some begins = record {
      legal = legal-more p (λ _. 0) w.order t ok.legal (is ∙ sym (ok.counts t.client)) some;
      counts = λ c. ap (λ (f : ℕ → ℕ). f c) (counts-more (λ _. 0) w.order t) ∙ ap (λ (f : ℕ → ℕ). put f t.client (suc t.index) c) (λ i n. ok.counts n i);
      below = each_snoc (λ u. suc u.index ≤ put w.booked t.client (suc t.index) u.client) w.order t (each_map below2 w.order ok.below) (subst (λ n. suc t.index ≤ n) (sym (put_here w.booked t.client (suc t.index))) (omega arith));
      block_records = each_snoc (λ u. IsBlockRecord p u (page2 u)) w.order t (each_both (λ u n k. subst (IsBlockRecord p u) (sym (page2_there u n)) k) w.order fresh ok.block_records)
          (subst (IsBlockRecord p t) (sym (put_at_here w.block_record t fresh_record)) refl);
      begins = each_snoc (λ u. Begins page2 u.client u.index (page2 u).entry) w.order t
          (each_both (λ (u : Ticket) (n : same t u ≡ false) (k : (suc u.index ≤ w.booked u.client) × Begins w.block_record u.client u.index (w.block_record u).entry).
          begins_old u.client u.index (w.block_record u).entry (page2 u).entry (sym (ap (λ (g : BlockRecord). g.entry) (page2_there u n))) k.0 k.1) w.order fresh (each_both (λ u b k. (b, k)) w.order ok.below ok.begins))
          (subst (λ a. Begins page2 t.client t.index a) (sym (ap (λ (g : BlockRecord). g.entry) (put_at_here w.block_record t fresh_record))) (begins_new t.client t.index refl refl begins));
      services = λ h. service_same p (declared_states p h) (w.order ++ t ∷ []) h _ _ _ _ _ (parts2 h) (λ u d. d) (service2 h (reserves p t h) refl);
    }
