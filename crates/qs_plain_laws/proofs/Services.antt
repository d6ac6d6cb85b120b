-- Each move of a served run keeps what is known of an object's service (`IsService`): its tickets, what waits for each,
-- its journal and its state. The lemmas on whole served runs (`ServedRunMoves`) stand on this. Only a ticket that isn't
-- over gets a further event, so the parts of those that are over stay; the queue is gone through by induction.
use Rattle.std.proofs.Common.{◌≡◌, ◌≢◌, ℕ, Bool, true, false, if◌then◌else◌, List, [], ◌∷◌, ◌++◌, map, filter, flat_map, sym, ap, ap₂, ◌∙◌, subst, ⊎_elim, append_assoc, append-nil, true≢false, rules}
use Rattle.qs_played.proofs.Names.{AllByRecursion, map-append, filter-append, State, command_event, same, stamp, Event, Ticket, Request, ticket_cases, same_self, never_answers, replay-append, IsHonest-append, reserves, ProgramShape, event, each_map, each_both, each_snoc, each_front, each_back, each_kept, flat_map_same, Apart, NoQuery}
use Rattle.std.proofs.lemmas.List.Concat.{flat_map-append}
use Rattle.qs_objects.specs.audit.Journals.{after, answer, replay, without_tickets, IsHonest}
use Rattle.qs_played.proofs.FunctionUpdate.{put_at, put_at_here, put_at_there, put_at_holds}
use Rattle.qs_plain_laws.proofs.ServedRuns.{Service, service_log, service_answer, service_run, service_leave, service_reserve, Front, entries_shown, IsService}

shown_none : (ts : List Ticket) → entries_shown ts [] ≡ []
shown_none v = search rules

module _ (p : ProgramShape) (start : State) (order : List Ticket) (h : ℕ) where
  -- another way to say what the parts are
  pub service_same : (parts parts' : Ticket → List Event) (done done' : Ticket → Type 0) (l : Service) → ((t : Ticket) → parts t ≡ parts' t) → ((t : Ticket) → done t → done' t) → IsService p start order h parts done l → IsService p start order h parts' done' l
  service_same parts parts' done done' l e d ok = search (rules, each_map)

  -- an entry more
  honest_more : (l : Service) (parts : Ticket → List Event) (done : Ticket → Type 0) (t : Ticket) (r : Request) → IsService p start order h parts done l
      → IsHonest start (without_tickets (l.journal ++ stamp t (event r (answer l.state r)) ∷ []))
      × (replay start (without_tickets (l.journal ++ stamp t (event r (answer l.state r)) ∷ [])) ≡ after l.state r)
  honest_more l parts done t r ok = search (rules, map-append, IsHonest-append, ok, replay-append)

  module _ (parts : Ticket → List Event) (done : Ticket → Type 0) where
    -- the parts of tickets that are over stay as they are, where a ticket that isn't over gets one more event
    past_same : (t : Ticket) (es : List Event) → (done t → ⊥) → (ts : List Ticket) → AllByRecursion done ts
        → flat_map (λ u. map (stamp u) (parts u)) ts ≡ flat_map (λ u. map (stamp u) (put_at parts t es u)) ts
    past_same t es open' ts over = search (rules, flat_map_same, each_map, put_at_there, ticket_cases)

    pub service_log_ok : (done' : Ticket → Type 0) (l : Service) (t : Ticket) (r : Request) → ((u : Ticket) → done u → done' u) → (done t → ⊥) → NoQuery r
        → IsService p start order h parts done l → IsService p start order h (put_at parts t (parts t ++ command_event r ∷ [])) done' (service_log l t r)
    service_log_ok done' l t r d open' command ok = record {
      mine = ok.mine;
      apart = ok.apart;
      over = each_map d l.past ok.over;
      front = front l.queue ok.front;
      entries = ok.entries ∙ ap (λ es. es ++ entries_shown l.queue l.now) (past_same t _ open' l.past ok.over);
      commands = put_at_holds (AllByRecursion NoQuery) l.wait t (l.wait t ++ r ∷ []) (each_snoc NoQuery (l.wait t) r (ok.commands t) command) ok.commands;
      honest = ok.honest;
      state = ok.state;
    }
      where
        parts' : Ticket → List Event
        parts' = put_at parts t (parts t ++ command_event r ∷ [])

        wait' : Ticket → List Request
        wait' = put_at l.wait t (l.wait t ++ r ∷ [])

        each : (now : List Event) (u : Ticket) → parts u ≡ now ++ map command_event (l.wait u) → parts' u ≡ now ++ map command_event (wait' u)
        each now u e = search (rules, parts', wait', put_at_here, append_assoc, map-append, put_at_there, ticket_cases)

        front : (q : List Ticket) → Front parts l.now l.wait q → Front parts' l.now wait' q
        front [] f = f
        front (v ∷ vs) f = (each l.now v f.0, each_map (each []) vs f.1)

    pub service_answer_ok : (done' : Ticket → Type 0) (l : Service) (t : Ticket) (ts : List Ticket) (r : Request) → ((u : Ticket) → done u → done' u) → (done t → ⊥)
        → l.queue ≡ t ∷ ts → l.wait t ≡ []
        → IsService p start order h parts done l → IsService p start order h (put_at parts t (parts t ++ event r (answer l.state r) ∷ [])) done' (service_answer l t r)
    service_answer_ok done' l t ts r d open' q w ok =
        let e = event r (answer l.state r) in
        let parts' = put_at parts t (parts t ++ e ∷ []) in
        let f = subst (Front parts l.now l.wait) q ok.front in
        let a = subst Apart q ok.apart in
        let more = honest_more l parts done t r ok in
        let head : parts t ≡ l.now = f.0 ∙ (ap (λ rs. l.now ++ map command_event rs) w ∙ append-nil l.now) in
        record {
          mine = ok.mine;
          apart = ok.apart;
          over = each_map d l.past ok.over;
          front = subst (Front parts' (l.now ++ e ∷ []) l.wait) (sym q) (
            put_at_here parts t _ ∙ (ap (λ es. es ++ e ∷ []) head ∙ sym (ap (λ rs. (l.now ++ e ∷ []) ++ map command_event rs) w ∙ append-nil (l.now ++ e ∷ []))),
            each_both (λ u n g.
                ⊎_elim
                (λ (is : t ≡ u). absurd (n is))
                (λ (other : same t u ≡ false). put_at_there parts t _ u other ∙ g)
                (ticket_cases t u)) ts a.0 f.1,
          );
          entries =
              ap (λ es. es ++ stamp t e ∷ []) (ok.entries ∙ ap₂ (λ es q. es ++ entries_shown q l.now) (past_same t _ open' l.past ok.over) q)
              ∙ (append_assoc (flat_map (λ u. map (stamp u) (parts' u)) l.past) (map (stamp t) l.now) (stamp t e ∷ [])
              ∙ ap (λ es. flat_map (λ u. map (stamp u) (parts' u)) l.past ++ es) (sym (map-append (stamp t) l.now (e ∷ [])) ∙ ap (λ q. entries_shown q (l.now ++ e ∷ [])) (sym q)));
          commands = ok.commands;
          honest = more.0;
          state = more.1;
        }

    pub service_run_ok : (l : Service) (t : Ticket) (ts : List Ticket) (r : Request) (rs : List Request)
        → l.queue ≡ t ∷ ts → l.wait t ≡ r ∷ rs
        → IsService p start order h parts done l → IsService p start order h parts done (service_run l t r rs)
    service_run_ok l t ts r rs q w ok =
        let e = event r (answer l.state r) in
        let f = subst (Front parts l.now l.wait) q ok.front in
        let a = subst Apart q ok.apart in
        let more = honest_more l parts done t r ok in
        let commands = subst (AllByRecursion NoQuery) w (ok.commands t) in
        let wait' = put_at l.wait t rs in
        let is : stamp t e ≡ stamp t (command_event r) = ap (λ v. stamp t (event r v)) (never_answers r.op commands.0 l.state r.args) in
        record {
          mine = ok.mine;
          apart = ok.apart;
          over = ok.over;
          front = subst (Front parts (l.now ++ command_event r ∷ []) wait') (sym q) (
            f.0 ∙ (ap (λ rs. l.now ++ map command_event rs) w ∙ (sym (append_assoc l.now (command_event r ∷ []) (map command_event rs)) ∙ ap (λ rs. (l.now ++ command_event r ∷ []) ++ map command_event rs) (sym (put_at_here l.wait t rs)))),
            each_both (λ u n g.
                ⊎_elim
                (λ (is : t ≡ u). absurd (n is))
                (λ (other : same t u ≡ false). g ∙ ap (map command_event) (sym (put_at_there l.wait t rs u other)))
                (ticket_cases t u)) ts a.0 f.1,
          );
          entries =
              ap₂ (λ es x. es ++ x ∷ []) (ok.entries ∙ ap (λ q. flat_map (λ u. map (stamp u) (parts u)) l.past ++ entries_shown q l.now) q) is
              ∙ (append_assoc (flat_map (λ u. map (stamp u) (parts u)) l.past) (map (stamp t) l.now) (stamp t (command_event r) ∷ [])
              ∙ ap (λ es. flat_map (λ u. map (stamp u) (parts u)) l.past ++ es) (sym (map-append (stamp t) l.now (command_event r ∷ [])) ∙ ap (λ q. entries_shown q (l.now ++ command_event r ∷ [])) (sym q)));
          commands = put_at_holds (AllByRecursion NoQuery) l.wait t rs commands.1 ok.commands;
          honest = more.0;
          state = more.1;
        }

    pub service_leave_ok : (l : Service) (t : Ticket) (ts : List Ticket)
        → l.queue ≡ t ∷ ts → l.wait t ≡ [] → done t
        → IsService p start order h parts done l → IsService p start order h parts done (service_leave l t ts)
    service_leave_ok l t ts q w d ok = search (rules, append-nil, append_assoc, each_snoc, entries_shown, flat_map-append, shown_none)

    -- a new ticket, for an object that it reserves and for one that it doesn't
    module _ (done' : Ticket → Type 0) (l : Service) (t : Ticket) (d : (u : Ticket) → same t u ≡ false → done u → done' u) (fresh : AllByRecursion (λ u. same t u ≡ false) order) (ok : IsService p start order h parts done l) where
      abbrev new_parts : Ticket → List Event
      new_parts = put_at parts t []

      both_fresh : AllByRecursion (λ u. same t u ≡ false) (l.past ++ l.queue)
      both_fresh = subst (AllByRecursion (λ u. same t u ≡ false)) ok.mine (each_kept (λ u. same t u ≡ false) (λ u. reserves p u h) order fresh)

      past_fresh : AllByRecursion (λ u. same t u ≡ false) l.past
      past_fresh = each_front _ l.past l.queue both_fresh

      queue_fresh : AllByRecursion (λ u. same t u ≡ false) l.queue
      queue_fresh = each_back _ l.past l.queue both_fresh

      past_over : AllByRecursion done' l.past
      past_over = each_both (λ u e k. d u e k) l.past past_fresh ok.over

      blocks_same : flat_map (λ u. map (stamp u) (parts u)) l.past ≡ flat_map (λ u. map (stamp u) (new_parts u)) l.past
      blocks_same = flat_map_same _ _ l.past (each_map (λ u e. ap (map (stamp u)) (sym (put_at_there parts t [] u e))) l.past past_fresh)

      mine_after : (b : Bool) → reserves p t h ≡ b → filter (λ u. reserves p u h) (order ++ t ∷ []) ≡ (l.past ++ l.queue) ++ (if b then t ∷ [] else [])
      mine_after b e = filter-append (λ u. reserves p u h) order (t ∷ []) ∙ ap₂ (λ (a : List Ticket) (b : Bool). a ++ (if b then t ∷ [] else [])) ok.mine e

      pub service_pass_ok : reserves p t h ≡ false → IsService p start (order ++ t ∷ []) h new_parts done' l
      service_pass_ok e = record {
        mine = mine_after false e ∙ append-nil (l.past ++ l.queue);
        apart = ok.apart;
        over = past_over;
        front = front l.queue queue_fresh ok.front;
        entries = ok.entries ∙ ap (λ es. es ++ entries_shown l.queue l.now) blocks_same;
        commands = ok.commands;
        honest = ok.honest;
        state = ok.state;
      }
        where
          front : (q : List Ticket) → AllByRecursion (λ u. same t u ≡ false) q → Front parts l.now l.wait q → Front (put_at parts t []) l.now l.wait q
          front w n f = search (rules, put_at_there, each_both)

      pub service_reserve_ok : reserves p t h ≡ true → IsService p start (order ++ t ∷ []) h new_parts done' (service_reserve l t)
      service_reserve_ok e = record {
        mine = mine_after true e ∙ append_assoc l.past l.queue (t ∷ []);
        apart = apart l.queue queue_fresh ok.apart;
        over = past_over;
        front = front l.queue queue_fresh ok.front;
        entries = ok.entries ∙ ap₂ (λ a b. a ++ b) blocks_same (seen l.queue ok.front);
        commands = put_at_holds (AllByRecursion NoQuery) l.wait t [] tt ok.commands;
        honest = ok.honest;
        state = ok.state;
      }
        where
          apart : (q : List Ticket) → AllByRecursion (λ u. same t u ≡ false) q → Apart q → Apart (q ++ t ∷ [])
          apart [] n a = (tt, tt)
          apart (v ∷ vs) n a = (each_snoc (λ u. v ≢ u) vs t a.0 (λ is. true≢false (sym (subst (λ u. same t u ≡ true) (sym is) (same_self t)) ∙ n.0)), apart vs n.1 a.1)

          seen : (q : List Ticket) → Front parts l.now l.wait q → entries_shown q l.now ≡ entries_shown (q ++ t ∷ []) l.now
          seen w f = search (rules, map)

          front : (q : List Ticket) → AllByRecursion (λ u. same t u ≡ false) q → Front parts l.now l.wait q → Front (put_at parts t []) l.now (put_at l.wait t []) (q ++ t ∷ [])
          front [] n f = (put_at_here parts t [] ∙ ap₂ (λ es rs. es ++ map command_event rs) (sym f) (sym (put_at_here l.wait t [])), tt)
          front (v ∷ vs) n f = (
            put_at_there parts t [] v n.0 ∙ (f.0 ∙ ap (λ rs. l.now ++ map command_event rs) (sym (put_at_there l.wait t [] v n.0))),
            each_snoc (λ u. put_at parts t [] u ≡ map command_event (put_at l.wait t [] u)) vs t
                (each_both (λ u e g. put_at_there parts t [] u e ∙ (g ∙ ap (map command_event) (sym (put_at_there l.wait t [] u e)))) vs n.1 f.1)
                (put_at_here parts t [] ∙ ap (map command_event) (sym (put_at_here l.wait t []))),
          )
