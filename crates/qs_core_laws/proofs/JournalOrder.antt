-- The journal of each object goes on along the order of reservations: each ticket's part is what its trace says of the
-- object, but for the commands that are on their way. Isolation of the optimised machine needs this (`goes`). The proof
-- is an induction along the order, through the tickets that were served, the one that is, and those to come; the room
-- suffices, as no part is longer than its block's load.
use Rattle.std.proofs.Common.{◌≡◌, ◌+◌, ◌≤◌, arith, ℕ, Bool, true, false, true≢false, if◌then◌else◌, List, [], ◌∷◌, ◌++◌, map, filter, length, refl, sym, ap, ◌∙◌, subst, inl, inr, append_assoc, append-nil, rules}
use Rattle.qs_played.proofs.Names.{AllByRecursion, length-append, HeldState, replay, without_tickets, IsHonest, command_event, stamp, Entry, Event, Ticket, Request, command_is, reserves, block_tree, ProgramShape, text_of, IsSound, each_map, each_both, each_unfiltered, Among, Flow, ObjectCourse, NoQuery, OnlyCommands, done_of, parts_of, unstamp_all, requests_within, fresh_held, room_of}
use Rattle.qs_core_laws.proofs.Names.{IsCommand, commands_in, Handler, free, serves, spares, gives, away, closed, serving, all_left, cost, leads_within, order_fits, total, total_less, Core, on_way}
use Rattle.qs_chunk.specs.LaneViews.{AllCommands, Extends, gone, ClientLane, HandlerLane, object_of}
use Rattle.qs_core_laws.proofs.protocol.LaneWholes.{chunk_of, match_over, match_whole, waits_are}
use Rattle.qs_core_laws.proofs.protocol.ObjectViews.{stance, as_list, HandlerLog, PastOf, ahead}
use Rattle.qs_core_laws.proofs.protocol.GrownJournals.{grown, grown_room, stamped_honest, stamped_replay}
use Rattle.qs_core_laws.proofs.CoreInvariant.{LaneHistory, post, TicketOk, CoreInvariant}
use Rattle.qs_core_laws.proofs.CoreObjects.{object_now}
use Rattle.qs_core_laws.proofs.CommandsInTransit.{IsMine, IsLater, later, mine_ahead, mine_past, part_out, waits_ahead, waits_out, waits_past}

pub no_queries : (rs : List Request) → AllCommands rs → AllByRecursion NoQuery rs
no_queries rs c = each_map {Q = NoQuery} (λ (r : Request) (k : IsCommand r.op). command_is r.op k) rs c

-- of the first ticket that is to be served: what was run, from the object that it found, and the commands that wait
pub record FirstPart (t : Ticket) (found : HeldState) (es : List Event) (ws : List Request) (now : HeldState) : Type 0 where
  pub ran : List Event
  pub parts : es ≡ ran ++ map command_event ws
  pub extends : Extends t found ran now
  pub commands : AllByRecursion NoQuery ws

module _ (program : ProgramShape) (sound : IsSound program) (s : Core) (y : LaneHistory) (g : ℕ → HandlerLog) (k : CoreInvariant program s y g) (h : ℕ) where
  abbrev parts : Ticket → List Event
  parts = parts_of y.block_record h

  abbrev waits : Ticket → List Request
  waits = on_way s h

  abbrev Busy : Type 0
  Busy = ahead (post s h) ≡ [] → ⊥

  abbrev pub now : HeldState
  now = object_now y h (s.handler h) (g h).lent (g h).way

  abbrev pub line_of : ObjectCourse
  line_of = record { may = λ t. reserves program t h; parts = parts; done = done_of y.block_record; waits = waits; busy = Busy; present = now.object }

  -- the tickets that are to be served
  abbrev Tail : List Ticket → HeldState → Type 0
  Tail [] found = found ≡ now
  Tail (t ∷ us) found = Busy × FirstPart t found (parts t) (waits t) now × AllByRecursion (λ u. OnlyCommands (parts u) (waits u)) us

  among_later : (us : List Ticket) → AllByRecursion (λ u. Among u us) us
  among_later [] = tt
  among_later (u ∷ us) = (inl refl, each_map (λ v (a : Among v us). inr a) us (among_later us))

  -- of a ticket of which nothing was run
  only_waits : (u : Ticket) → IsLater program sound s y g k h u → Among u (ahead (post s h)) → OnlyCommands (parts u) (waits u)
  only_waits u l a = search (rules, waits_are, waits_ahead, no_queries, chunk_of)

  later_waits : AllByRecursion (λ u. OnlyCommands (parts u) (waits u)) (s.tickets h)
  later_waits =
      each_both {P = IsLater program sound s y g k h} (λ u l a. only_waits u l a) (s.tickets h) (later program sound s y g k h)
      (each_map (λ u a. among_back (serving (s.handler h)) (s.tickets h) u a) (s.tickets h) (among_later (s.tickets h)))
    where
      among_back : (xs ys : List Ticket) (u : Ticket) → Among u ys → Among u (xs ++ ys)
      among_back [] ys u a = a
      among_back (x ∷ xs) ys u a = inr (among_back xs ys u a)

  -- the handler serves a ticket
  tail_serving : (t : Ticket) → serving (s.handler h) ≡ t ∷ [] → now ≡ object_of (stance (s.handler h) (g h).lent) (y.stands t h) ((g h).way t) → Tail (ahead (post s h)) (g h).found
  tail_serving t one is =
      let o = k.objects h in
      let here : ahead (post s h) ≡ t ∷ s.tickets h = ap (λ q. q ++ s.tickets h) one in
      let m = (subst (AllByRecursion (IsMine program sound s y g k h)) here (mine_ahead program sound s y g k h)).0 in
      let sent = (subst (AllByRecursion (λ t. y.sent t h ≡ (g h).received t ++ (g h).way t)) here o.sent).0 in
      let lane = (subst (AllByRecursion (λ t. HandlerLane t false (g h).found ((g h).received t) ((g h).gave t) (stance (s.handler h) (g h).lent))) one o.lane).0 in
      let gots = (subst (AllByRecursion (λ (t : Ticket). (g h).gave t ≡ y.got t h ++ as_list (s.up t.client h))) one o.gots).0 in
      let w = match_whole t (g h).found ((g h).received t) ((g h).way t) (y.got t h) ((g h).gave t) (parts t) (y.stands t h) (stance (s.handler h) (g h).lent)
      (subst (λ p. ClientLane t false p (y.got t h) (parts t) (y.stands t h)) sent (m.2.lane h)) lane (as_list (s.up t.client h), sym gots) in
      let ws = waits_ahead program sound s y g k h t (subst (Among t) (sym here) (inl refl)) m in
      subst (λ q. Tail q (g h).found) (sym here) (
        (λ none. cc (here, none)),
        record {
          ran = w.ran;
          parts = w.part ∙ ap (λ rs. w.ran ++ map command_event rs) (sym ws);
          extends = subst (Extends t (g h).found w.ran) (sym is) w.extends;
          commands = subst (AllByRecursion NoQuery) (sym ws) (no_queries (commands_in ((g h).way t) ++ chunk_of (y.stands t h)) w.commands);
        },
        later_waits,
      )

  -- it serves none
  tail_free : serving (s.handler h) ≡ [] → (g h).found ≡ now → Tail (ahead (post s h)) (g h).found
  tail_free none is = search (rules, later_waits)

  tail_by : (v : Handler) → s.handler h ≡ v → Tail (ahead (post s h)) (g h).found
  tail_by (free x) e = tail_free (ap serving e) (sym ((k.objects h).free x e) ∙ sym (ap (λ v. object_now y h v (g h).lent (g h).way) e))
  tail_by (serves t x) e = tail_serving t (ap serving e) (ap (λ v. object_now y h v (g h).lent (g h).way) e ∙ sym (ap (λ v. object_of (stance v (g h).lent) (y.stands t h) ((g h).way t)) e))
  tail_by (spares t x n) e = tail_serving t (ap serving e) (ap (λ v. object_now y h v (g h).lent (g h).way) e ∙ sym (ap (λ v. object_of (stance v (g h).lent) (y.stands t h) ((g h).way t)) e))
  tail_by (gives t x) e = tail_serving t (ap serving e) (ap (λ v. object_now y h v (g h).lent (g h).way) e ∙ sym (ap (λ v. object_of (stance v (g h).lent) (y.stands t h) ((g h).way t)) e))
  tail_by (away t) e = tail_serving t (ap serving e) (ap (λ v. object_now y h v (g h).lent (g h).way) e ∙ sym (ap (λ v. object_of (stance v (g h).lent) (y.stands t h) ((g h).way t)) e))
  tail_by (closed x) e = absurd ((k.objects h).opened x e)

  -- what the journal got from here on, and where it leads
  abbrev JournalLeads : HeldState → List Ticket → Type 0
  JournalLeads x ts = (j : List Entry) × (now.journal ≡ x.journal ++ j) × Flow line_of x.object j ts × IsHonest x.object (without_tickets j) × (replay x.object (without_tickets j) ≡ now.object)

  abbrev size_of : List Ticket → ℕ
  size_of ts = total (λ t. length (parts t)) ts

  flow_pass : (t : Ticket) (ts : List Ticket) (x : HeldState) → TicketOk program y t → reserves program t h ≡ false → JournalLeads x ts → JournalLeads x (t ∷ ts)
  flow_pass t ts x tickets_ok out r = (
    r.0,
    r.1,
    (
      record {
        ran = [];
        later = r.0;
        journal_is = refl;
        part_is = part_out program sound s y g k h t tickets_ok out ∙ sym (ap (map command_event) (waits_out program sound s y g k h t tickets_ok out));
        honest = tt;
        commands = subst (AllByRecursion NoQuery) (sym (waits_out program sound s y g k h t tickets_ok out)) tt;
      },
      inl ((λ m. absurd (true≢false (sym m ∙ out))), waits_out program sound s y g k h t tickets_ok out, r.2),
    ),
    r.3,
    r.4,
  )

  flow_over : (t : Ticket) (ts : List Ticket) (x z : HeldState) → TicketOk program y t → waits t ≡ [] → Extends t x (parts t) z → y.stands t h ≡ gone
      → length x.journal + (length (parts t) + size_of ts) ≤ x.room → (length z.journal + size_of ts ≤ z.room → JournalLeads z ts) → JournalLeads x (t ∷ ts)
  flow_over t ts x z tickets_ok none extends left le next =
      let e = grown t x (parts t) z extends (omega (arith, le)) in
      let r = next (grown_room t x z (parts t) (size_of ts) e le) in (
        map (stamp t) (parts t) ++ r.0,
        r.1 ∙ (ap (λ j. j ++ r.0) e.journal ∙ append_assoc x.journal (map (stamp t) (parts t)) r.0),
        (
          record {
            ran = parts t;
            later = r.0;
            journal_is = refl;
            part_is = sym (ap (λ ws. parts t ++ map command_event ws) none ∙ append-nil (parts t));
            honest = e.honest;
            commands = subst (AllByRecursion NoQuery) (sym none) tt;
          },
          inl ((λ m. tickets_ok.gone h left), none, subst (λ o. Flow line_of o r.0 ts) e.state r.2),
        ),
        stamped_honest t x z (parts t) r.0 e r.3,
        stamped_replay t x z (parts t) r.0 e ∙ r.4,
      )

  flow_first : (t : Ticket) (ts us : List Ticket) (x : HeldState) → Busy → FirstPart t x (parts t) (waits t) now → filter (λ t. reserves program t h) ts ≡ us
      → AllByRecursion (λ u. OnlyCommands (parts u) (waits u)) us → AllByRecursion (TicketOk program y) ts → length x.journal + (length (parts t) + size_of ts) ≤ x.room → JournalLeads x (t ∷ ts)
  flow_first t ts us x busy f is all tickets_ok le =
      let short : length (parts t) ≡ length f.ran + length (map command_event (waits t)) = ap length f.parts ∙ length-append f.ran (map command_event (waits t)) in
      let e = grown t x f.ran now f.extends (omega (arith, le, short)) in (
        map (stamp t) f.ran,
        e.journal,
        (
          record { ran = f.ran; later = []; journal_is = sym (append-nil (map (stamp t) f.ran)); part_is = f.parts; honest = e.honest; commands = f.commands },
          inr (
            busy,
            refl,
            each_unfiltered (λ u. OnlyCommands (parts u) (waits u)) (λ u. reserves program u h) ts (subst (AllByRecursion (λ u. OnlyCommands (parts u) (waits u))) (sym is) all)
                (each_map {Q = λ u. reserves program u h ≡ false → OnlyCommands (parts u) (waits u)} (λ u (ok : TicketOk program y u) out. (
                  part_out program sound s y g k h u ok out ∙ sym (ap (map command_event) (waits_out program sound s y g k h u ok out)),
                  subst (AllByRecursion NoQuery) (sym (waits_out program sound s y g k h u ok out)) tt,
                )) ts tickets_ok),
          ),
        ),
        subst (IsHonest x.object) (sym (unstamp_all t f.ran)) e.honest,
        ap (replay x.object) (unstamp_all t f.ran) ∙ sym e.state,
      )

  abbrev Past : List Ticket → HeldState → HeldState → Type 0
  Past past x found = PastOf (λ t. y.sent t h) (λ t. y.got t h) x past found × AllByRecursion (IsMine program sound s y g k h) past × AllByRecursion (λ t. waits t ≡ []) past

  goes_along : (ts past q : List Ticket) (x found : HeldState) → filter (λ t. reserves program t h) ts ≡ past ++ q → Past past x found → Tail q found → AllByRecursion (TicketOk program y) ts
      → length x.journal + size_of ts ≤ x.room → JournalLeads x ts
  goes_along [] [] [] x found e p tail tickets_ok le = search (rules, now, append-nil)
  goes_along (t ∷ ts) past q x found e p tail tickets_ok le = by_case (reserves program t h) refl past q e p tail (λ past q x e p tail le. goes_along ts past q x found e p tail tickets_ok.1 le)
    where
      by_case : (b : Bool) → reserves program t h ≡ b → (past q : List Ticket) → (if b then t ∷ filter (λ t. reserves program t h) ts else filter (λ t. reserves program t h) ts) ≡ past ++ q
          → Past past x found → Tail q found
          → ((past q : List Ticket) (x : HeldState) → filter (λ t. reserves program t h) ts ≡ past ++ q → Past past x found → Tail q found → length x.journal + size_of ts ≤ x.room → JournalLeads x ts)
          → JournalLeads x (t ∷ ts)
      by_case false out past q e p tail ih = flow_pass t ts x tickets_ok.0 out (ih past q x e p tail (omega (arith, le)))
      by_case true own [] [] e p tail ih = absurd (cc)
      by_case true own [] (u ∷ us) e p tail ih =
          let is : t ≡ u = cc in
          let more : filter (λ t. reserves program t h) ts ≡ us = cc in
          flow_first t ts us x tail.0 (subst (λ u. FirstPart u x (parts u) (waits u) now) (sym is) (subst (λ f. FirstPart u f (parts u) (waits u) now) (sym p.0) tail.1)) more tail.2 tickets_ok.1 le
      by_case true own (u ∷ past) q e p tail ih =
          let is : t ≡ u = cc in
          let more : filter (λ t. reserves program t h) ts ≡ past ++ q = cc in
          let z = p.0.0 in
          let o = match_over u x z (y.sent u h) (y.got u h) p.0.1 (parts u) (y.stands u h) (p.1.0.2.lane h) p.0.2 p.0.3 in
          flow_over t ts x z tickets_ok.0 (subst (λ u. waits u ≡ []) (sym is) p.2.0) (subst (λ u. Extends u x (parts u) z) (sym is) o.0) (subst (λ u. y.stands u h ≡ gone) (sym is) o.1) le
          (ih past q z more (p.0.4, p.1.1, p.2.1) tail)
  goes_along [] _ _ x found e p tail tickets_ok le = absurd (cc)

  within_load : (t : Ticket) → TicketOk program y t → length (parts t) ≤ cost program h t
  within_load t tickets_ok = leads_within h (block_tree program t (y.block_record t).entry) (y.block_record t).trace (y.block_record t).rest (cost program h t) tickets_ok.block_record.path (requests_within (text_of program t).body (y.block_record t).entry h)

  -- the room of the journal is never used up
  pub parts_fit : size_of s.order ≤ room_of program h
  parts_fit =
      let short = total_less (λ t. length (parts t)) (cost program h) s.order (each_map within_load s.order k.tickets_ok) in
      let whole = order_fits program h (λ _. 0) s.order k.legal in
      let room = all_left program h in
      omega (arith, short, whole, room)

  pub goes : JournalLeads (fresh_held program h) s.order
  goes =
      goes_along s.order (g h).past (ahead (post s h)) (fresh_held program h) (g h).found (k.objects h).split
      ((k.objects h).served, mine_past program sound s y g k h, waits_past program sound s y g k h)
      (tail_by (s.handler h) refl) k.tickets_ok (let fit = parts_fit in omega (arith, fit))
