-- The lists that `new` builds are the plain rules before their first step, and what the code keeps holds of them. The
-- contract of `new` promises both. Each client and each handler is a fresh one by its number, so two lists that have
-- the same element at each place are equal, by induction; and the blocks to come are all blocks of the program.
use Rattle.std.proofs.Common.{◌≡◌, ◌<◌, ℕ, suc, ◌+◌, List, [], ◌∷◌, map, length, get_or, sum_by, refl, ap, ◌∙◌, arith, rules}
use Rattle.qs_played.proofs.Names.{range_with_len, sum_by-cons, Ticket, ProgramShape, ClientShape, no_client}
use Rattle.qs_plain_laws.specs.audit.Plain.{begin, fresh_client, fresh_handler}
use Rattle.qs_plain_laws.specs.audit.Plain as plain
use Rattle.qs_plain.specs.client.FreshClients.{AreFresh}
use Rattle.qs_plain.proofs.Names.{ClientState, IsFresh, client_of_state, absent, client_state_at, nobody, RulesState, IsRules, plain_of, to_come, HandlerState, handler_of_state}
use Rattle.qs_plain.specs.handler.Beginning.{AreIdle}

-- a list whose elements are given by their numbers
listed : {X Y : Type 0} (f : X → Y) (g : ℕ → Y) (xs : List X) (d : X) (a : ℕ) → ((i : ℕ) → i < length xs → f (get_or xs i d) ≡ g (a + i)) → map f xs ≡ map g (range_with_len a (length xs))
listed f g [] d a each = refl
listed f g (x ∷ xs) d a each =
    let here : a + 0 ≡ a = omega arith in
    let first : f x ≡ g a = each 0 (omega arith) ∙ ap g here in
    let others = listed f g xs d (a + 1) (λ i less. let place : a + suc i ≡ (a + 1) + i = omega arith in each (suc i) (omega arith) ∙ ap g place) in
    λ k. first k ∷ others k

fresh_is : (p : ProgramShape) (c : ℕ) (d : ClientState) → IsFresh p c d → client_of_state d ≡ fresh_client c
fresh_is p c d f = search (rules, map, plain.out)

to_come_is : (cs : List ClientState) (ds : List ClientShape) → length cs ≡ length ds → ((i : ℕ) → i < length ds → length (get_or cs i absent).prepared ≡ length (get_or ds i no_client).blocks)
    → to_come cs ≡ sum_by (λ (d : ClientShape). length d.blocks) ds
to_come_is [] [] same each = refl
to_come_is (c ∷ cs) (d ∷ ds) same each =
    rw (sum_by-cons (λ (x : ClientState). length x.prepared) c cs, sum_by-cons (λ (x : ClientShape). length x.blocks) d ds)
    (omega (arith, each 0 (omega arith), to_come_is cs ds (omega arith) (λ i less. each (suc i) (omega arith))))
to_come_is _ _ same each = absurd (omega arith)

module _ (p : ProgramShape) (room : ℕ) (cs : List ClientState) (hs : List HandlerState) (fresh : AreFresh p cs) (still : AreIdle p room hs) where
  abbrev pub fresh_rules : List Ticket → RulesState
  fresh_rules order = record { program = p; order = order; clients = cs; handlers = hs }

  pub fresh_to_come : to_come cs ≡ sum_by (λ (d : ClientShape). length d.blocks) p.clients
  fresh_to_come = to_come_is cs p.clients fresh.many (λ i less. (fresh.each i less).prepared)

  pub fresh_kept : (order : List Ticket) → room ≡ sum_by (λ (d : ClientShape). length d.blocks) p.clients → IsRules (fresh_rules order)
  fresh_kept order enough = grind (arith, fresh, still, fresh_to_come)

  pub fresh_plain : plain_of (fresh_rules []) ≡ begin p
  fresh_plain =
      let clients = listed client_of_state fresh_client cs absent 0 (λ i less. fresh_is p i (client_state_at cs i) (fresh.each i (rw fresh.many at less)) ∙ (let place : i ≡ 0 + i = omega arith in ap fresh_client place)) in
      let handlers = listed handler_of_state (fresh_handler p) hs nobody 0 (λ h less. ap handler_of_state (still.each h (rw still.many at less)) ∙ (let place : h ≡ 0 + h = omega arith in ap (fresh_handler p) place)) in
      λ k. record {
        order = [];
        clients = (clients ∙ ap (λ n. map fresh_client (range_with_len 0 n)) fresh.many) k;
        handlers = (handlers ∙ ap (λ n. map (fresh_handler p) (range_with_len 0 n)) still.many) k;
      }
