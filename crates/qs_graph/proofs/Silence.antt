-- Within the limit, a walk says what its node says and then what the next spots say, and each silent move leaves fewer
-- silent moves before the next act. The law `WalksUnfold` is proved here, with which a walk can be followed step by
-- step. It goes by induction on the limit, since the walk is the same for each limit within which it ends.
use Rattle.std.proofs.Common.{◌≡◌, ℕ, zero, suc, ◌<◌, ◌≤◌, List, refl, sym, ap, arith, subst}
use Rattle.qs_graph.specs.audit.Nodes.{GraphNode}
use Rattle.qs_graph.specs.audit.Walk.{Spot, Move, Goes, move, tree_of_move, walk}
use Rattle.qs_graph.specs.Walk.{EachNext, Within, silent_by, silent}
use Rattle.qs_graph.specs.audit.Steps.{limit}
use Rattle.qs_graph.specs.WalkLaws.{WalksUnfold}
use Rattle.qs_graph.proofs.Saying.{next_up, said_same, within_up, walk_up}

pub next_within : (g : List GraphNode) (n : ℕ) (s : Spot) → Within g n s → EachNext (Within g n) (move g s)
next_within g zero s w = absurd w
next_within g (suc n) s w = next_up (Within g n) (Within g (suc n)) (λ t. within_up g n (suc n) t (omega arith)) (move g s) w.1

pub walk_unfolds : (g : List GraphNode) (n : ℕ) (s : Spot) → Within g n s → walk g n s ≡ tree_of_move (walk g n) s.locals (move g s)
walk_unfolds g zero s w = absurd w
walk_unfolds g (suc n) s w =
    sym (said_same (Within g n) (walk g (suc n)) (walk g n) (λ t. walk_up g n (suc n) t (omega arith)) s.locals (move g s) w.1)

silent_by_same : (P : Spot → Type 0) (f k : Spot → ℕ) → ((s : Spot) → P s → f s ≡ k s)
    → (m : Move) → EachNext P m → silent_by f m ≡ silent_by k m
silent_by_same P f k h (Goes s) w = ap suc (h s w)
silent_by_same P f k h _ w = refl

pub silent_up : (g : List GraphNode) (n m : ℕ) (s : Spot) → n ≤ m → Within g n s → silent g m s ≡ silent g n s
silent_up g zero m s h w = absurd w
silent_up g (suc n) zero s h w = absurd (omega arith)
silent_up g (suc n) (suc m) s h w =
    silent_by_same (Within g n) (silent g m) (silent g n) (λ t. silent_up g n m t (omega arith)) (move g s) w.1

pub silence_falls : (g : List GraphNode) (s t : Spot) → move g s ≡ Goes t → (n : ℕ) → Within g n s → silent g n t < silent g n s
silence_falls g s t goes zero w = absurd w
silence_falls g s t goes (suc n) w =
    let more : silent g (suc n) s ≡ suc (silent g n t) = ap (silent_by (silent g n)) goes in
    omega (arith, more, silent_up g n (suc n) t (omega arith) (subst (EachNext (Within g n)) goes w.1))

pub walks_unfold : WalksUnfold
walks_unfold g s w = record {
  next = next_within g limit s w;
  here = walk_unfolds g limit s w;
  falls = λ t goes. silence_falls g s t goes limit w;
}
