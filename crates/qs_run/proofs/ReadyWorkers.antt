-- A worker that is made of the parts of a run is ready, and all workers together are. `make_workers` promises so of
-- what it makes, and the threads are started with no more than that. Each worker has its own row of the ends of lanes;
-- as there is a new lane wherever a block of a client reserves a handler, each worker has the lanes that its thread
-- will ask for, and the two ends of each lane are in two workers.
use Rattle.std.proofs.Common.{◌≡◌, ℕ, true, List, [], Option, length, get_or, sym, ap, ◌∙◌, subst, arith, rules}
use Rattle.qs_run.proofs.Names.{AreNewEnds, AreOneLane, AreReady, ClientWorker, HandlerWorker, InView, IsClientOf, IsCodeOf, IsHandlerOf, IsListOf, IsMindAtStart, IsNewIn, IsNewOut, IsSound}
use Rattle.qs_run.proofs.Names.{Mode, OutView, ProgramShape, ShareView, ever_reserves, fresh_held, in_at, mind_of, out_at, reserves}
use Rattle.qs_client.specs.audit.ClientModel as minds
use Rattle.qs_run.specs.client.ClientThreads as running
use Rattle.qs_run.specs.handler.HandlerThreads as handling
use Rattle.qs_desk.specs.Tickets.{ticket}
use Rattle.qs_run.proofs.EverReserved.{client_within, ever}

module _ {D : Type 0} where
  -- a handler with its row, its object and its queue of which nothing is taken
  pub handler_of : (p : ProgramShape) (ins : List (List (Option InView))) (h : ℕ) (w : HandlerWorker D) → IsSound p
      → ((c k : ℕ) → IsNewIn (ever_reserves p c k) (in_at ins c k)) → w.held ≡ fresh_held p h → w.tickets ≡ record { handler = h; taken = [] }
      → w.lanes ≡ get_or ins h [] → IsHandlerOf p ins h w
  handler_of p ins h w sound made held tickets row = grind (arith, w, client_within, ever)

  -- a client with its row, its mind and its share of which nothing is booked
  pub client_of : (p : ProgramShape) (mode : Mode) (size : ℕ) (outs : List (List (Option OutView))) (c : ℕ) (w : ClientWorker D) → IsSound p
      → ((k h : ℕ) → IsNewOut size (ever_reserves p k h) (out_at outs k h)) → IsMindAtStart p mode size c w.mind
      → w.share ≡ record { client = c; count = 0 } → w.lanes ≡ get_or outs c [] → IsClientOf p mode size outs c w
  client_of p mode size outs c w sound made mind share row =
      let at : w.share.client ≡ c = ap (λ (v : ShareView). v.client) share in
      let size_is : (mind_of w.mind).size ≡ size = ap (λ (m : minds.ClientModel). m.size) mind.begins in
      let at_row : (h : ℕ) → IsNewOut size (ever_reserves p c h) (running.out_lane_at w.lanes h) = λ h. subst (λ r. IsNewOut size (ever_reserves p c h) (running.out_lane_at r h)) (sym row) (made c h) in
      record {
        own = record { number = at; mind = mind };
        row = row;
        ready = record {
          sound = sound;
          code = (mode, subst (λ n. IsCodeOf p mode n (mind_of w.mind).code) (sym at) mind.code);
          begins = mind.begins ∙ ap (λ n. minds.fresh_mind (mind_of w.mind).code n) (sym size_is);
          unbooked = ap (λ (v : ShareView). v.count) share;
          fresh = λ h. subst (λ n. running.IsFresh n (running.out_lane_at w.lanes h)) (sym size_is) (at_row h).fresh;
          reached = λ k h less is.
              let here : reserves p (ticket c k) h ≡ true = subst (λ n. reserves p (ticket n k) h ≡ true) at is in
              (at_row h).there ∙ ever p (ticket c k) h here;
        };
      }

  -- all workers together, whose ends of lanes were made in pairs
  pub all_ready : (p : ProgramShape) (mode : Mode) (size : ℕ) (outs : List (List (Option OutView))) (ins : List (List (Option InView)))
      (handlers : List (HandlerWorker D)) (clients : List (ClientWorker D))
      → IsListOf (length p.objects) (IsHandlerOf p ins) handlers → IsListOf (length p.clients) (IsClientOf p mode size outs) clients
      → ((c h : ℕ) → AreNewEnds size (ever_reserves p c h) (out_at outs c h) (in_at ins c h)) → AreReady p mode size handlers clients
  all_ready p mode size outs ins handlers clients hs cs made = record {
    all_handlers = record { many = hs.many; each = λ h w at. ((hs.each h w at).own, (hs.each h w at).ready) };
    all_clients = record { many = cs.many; each = λ c w at. ((cs.each c w at).own, (cs.each c w at).ready) };
    lanes = λ c h w r at_c at_h.
        subst (λ o. AreOneLane (running.out_lane_at o h) (handling.in_lane_at r.lanes c)) (sym (cs.each c w at_c).row)
        (subst (λ i. AreOneLane (out_at outs c h) (handling.in_lane_at i c)) (sym (hs.each h r at_h).row) (made c h).one);
  }
