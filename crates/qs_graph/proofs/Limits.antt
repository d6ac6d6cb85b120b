-- Each walk through a block of a sound program ends within one fixed limit of nodes and says the block's tree. The
-- proofs on a client's code need this, since they use that limit for all blocks. A block weighs at most as much as the
-- whole program, and a walk takes at most three nodes for each unit of weight.
use Rattle.std.proofs.Common.{◌≡◌, ℕ, zero, suc, ◌+◌, ◌*◌, ◌≤◌, List, [], ◌∷◌, get_or, arith, sum_by, refl}
use Rattle.std.proofs.lemmas.List.Sums.{sum_by-cons}
use Rattle.qs_graph.proofs.Common.{block_at, BlockShape, client_at, ClientShape, Locals, most_steps, no_block, no_client, ProgramShape, Statements, weight_of, whole_weight}
use Rattle.qs_graph.specs.audit.Graphs.{block_graph}
use Rattle.qs_graph.specs.Synced.{synced_of}
use Rattle.qs_graph.specs.audit.Walk.{entry}
use Rattle.qs_graph.specs.audit.Steps.{limit}
use Rattle.qs_graph.specs.Steps.{steps, whole_steps}
use Rattle.qs_graph.specs.WalkLaws.{FollowsBlock, WalksFollowBlocks, WalksWithinLimit}
use Rattle.qs_graph.proofs.Saying.{Says, says_up}
use Rattle.qs_graph.proofs.Following.{block_says}
use Rattle.qs_graph.proofs.Alone.{alone_is_solo}
use Rattle.qs_graph.proofs.Weights.{steps_within_weight}

-- a number of a list, or one of nothing past its end, is at most the sum
at_most_sum : {X : Type 0} (f : X → ℕ) (xs : List X) (i : ℕ) (d : X) → f d ≡ 0 → f (get_or xs i d) ≤ sum_by f xs
at_most_sum f [] i d none = omega arith
at_most_sum f (x ∷ xs) zero d none = rw sum_by-cons (omega arith)
at_most_sum f (x ∷ xs) (suc i) d none = rw sum_by-cons (omega (arith, at_most_sum f xs i d none))

block_weight : (p : ProgramShape) (c k : ℕ) → weight_of (block_at p c k).body ≤ whole_weight p
block_weight p c k =
    omega (
      arith,
      at_most_sum (λ (b : BlockShape). weight_of b.body) (client_at p c).blocks k no_block refl,
      at_most_sum (λ (d : ClientShape). sum_by (λ (b : BlockShape). weight_of b.body) d.blocks) p.clients c no_client refl,
    )

follows_from : (n : ℕ) (b : Statements) (l : Locals) (counts : List ℕ)
    → Says (block_graph b) n (entry l counts) (synced_of b l) → FollowsBlock n b l counts
follows_from n b l counts w = record {
  ends = w.ends;
  tree = w.says;
  alone = λ st. alone_is_solo (block_graph b) n (entry l counts) st b l w.says;
}

pub walks_follow_blocks : WalksFollowBlocks
walks_follow_blocks b l counts room = follows_from (whole_steps b) b l counts (block_says b l counts room)

small : (n w : ℕ) → n ≤ 3 * w → w ≤ most_steps → 2 + n ≤ limit
unfolding limit
small n w h k = omega arith

pub walks_within_limit : WalksWithinLimit
walks_within_limit p c k l counts sound room =
    let b = (block_at p c k).body in
    let light : weight_of b ≤ most_steps = omega (arith, block_weight p c k, sound.weight) in
    let up = small (steps b) (weight_of b) (steps_within_weight b) light in
    follows_from limit b l counts
    (says_up (block_graph b) (whole_steps b) limit (entry l counts) (synced_of b l) up (block_says b l counts room))
