-- A walk that ends within n nodes says the same with any larger limit, and each kind of node adds its own part to what
-- the rest of the walk says. The proofs on whole walks, on coalescing and on a client in its block build on these
-- steps. They go by induction on the limit, or by cases on one move.
use Rattle.std.proofs.Common.{◌≡◌, ℕ, zero, suc, ◌<◌, ◌≤◌, ℤ, List, length, refl, ap, ◌∙◌, arith}
use Rattle.qs_graph.proofs.Common.{fun_ext, Locals}
use Rattle.qs_objects.specs.declared.Request.{Request}
use Rattle.qs_graph.specs.audit.Nodes.{GraphNode, place_at}
use Rattle.qs_graph.specs.audit.Synced.{Synced, Done, Call, Sync, Query}
use Rattle.qs_graph.specs.audit.Walk.{Spot, Move, Ends, Goes, Calls, Syncs, Queries, move, move_at, tree_of_move, walk}
use Rattle.qs_graph.specs.Walk.{EachNext, Within}

pub next_up : (P Q : Spot → Type 0) → ((s : Spot) → P s → Q s) → (m : Move) → EachNext P m → EachNext Q m
next_up P Q h Ends w = tt
next_up P Q h (Goes s) w = h s w
next_up P Q h (Calls r s) w = h s w
next_up P Q h (Syncs o s) w = h s w
next_up P Q h (Queries r s) w = λ v. h (s v) (w v)

pub said_same : (P : Spot → Type 0) (f k : Spot → Synced) → ((s : Spot) → P s → f s ≡ k s)
    → (l : Locals) (m : Move) → EachNext P m → tree_of_move f l m ≡ tree_of_move k l m
said_same P f k h l Ends w = refl
said_same P f k h l (Goes s) w = h s w
said_same P f k h l (Calls r s) w = ap (Call r) (h s w)
said_same P f k h l (Syncs o s) w = ap (Sync o) (h s w)
said_same P f k h l (Queries r s) w = ap (Query r) (fun_ext (λ v. h (s v) (w v)))

pub within_up : (g : List GraphNode) (n m : ℕ) (s : Spot) → n ≤ m → Within g n s → Within g m s
within_up g zero m s h w = absurd w
within_up g (suc n) zero s h w = absurd (omega arith)
within_up g (suc n) (suc m) s h w = (w.0, next_up (Within g n) (Within g m) (λ t. within_up g n m t (omega arith)) (move g s) w.1)

pub walk_up : (g : List GraphNode) (n m : ℕ) (s : Spot) → n ≤ m → Within g n s → walk g m s ≡ walk g n s
walk_up g zero m s h w = absurd w
walk_up g (suc n) zero s h w = absurd (omega arith)
walk_up g (suc n) (suc m) s h w = said_same (Within g n) (walk g m) (walk g n) (λ t. walk_up g n m t (omega arith)) s.locals (move g s) w.1

-- within n nodes the walk is at Exit and says the tree
pub record Says (g : List GraphNode) (n : ℕ) (s : Spot) (p : Synced) : Type 0 where
  pub ends : Within g n s
  pub says : walk g n s ≡ p

pub says_up : (g : List GraphNode) (n m : ℕ) (s : Spot) (p : Synced) → n ≤ m → Says g n s p → Says g m s p
says_up g n m s p h w = record { ends = within_up g n m s h w.ends; says = walk_up g n m s h w.ends ∙ w.says }

pub move_is : (g : List GraphNode) (n : ℕ) (l : Locals) (c : List ℕ) (p : GraphNode) → place_at g n ≡ p
    → move g (record { node = n; locals = l; counts = c }) ≡ move_at p (record { node = n; locals = l; counts = c })
unfolding move
move_is g n l c p e = ap (λ q. move_at q (record { node = n; locals = l; counts = c })) e

module _ (g : List GraphNode) (n : ℕ) (s : Spot) (inside : s.node < length g) where
  pub says_done : move g s ≡ Ends → Says g (suc n) s (Done s.locals)
  says_done e = record { ends = (inside, rw e tt); says = rw e refl }

  pub says_next : (t : Spot) (p : Synced) → move g s ≡ Goes t → Says g n t p → Says g (suc n) s p
  says_next t p e w = record { ends = (inside, rw e w.ends); says = rw e w.says }

  pub says_call : (r : Request) (t : Spot) (p : Synced) → move g s ≡ Calls r t → Says g n t p → Says g (suc n) s (Call r p)
  says_call r t p e w = record { ends = (inside, rw e w.ends); says = rw e (ap (Call r) w.says) }

  pub says_sync : (h : ℕ) (t : Spot) (p : Synced) → move g s ≡ Syncs h t → Says g n t p → Says g (suc n) s (Sync h p)
  says_sync h t p e w = record { ends = (inside, rw e w.ends); says = rw e (ap (Sync h) w.says) }

  pub says_query : (r : Request) (t : ℤ → Spot) (p : ℤ → Synced) → move g s ≡ Queries r t
      → ((v : ℤ) → Says g n (t v) (p v)) → Says g (suc n) s (Query r p)
  says_query r t p e w = record { ends = (inside, rw e (λ v. (w v).ends)); says = rw e (ap (Query r) (fun_ext (λ v. (w v).says))) }
