-- A walk through statements takes at most three nodes for each unit of their weight. The limit for all walks of a
-- checked program stands on it. It goes by induction on the statements, together with a second bound for the body of a
-- repeat, which takes one node more and weighs at least 1.
use Rattle.std.proofs.Common.{◌≡◌, ℕ, zero, suc, ◌+◌, ◌*◌, ◌≤◌, max, arith}
use Rattle.qs_graph.proofs.Common.{again, assign, choose, command, end, leave, query, Statements, weight_of}
use Rattle.qs_graph.specs.Steps.{steps}
use Rattle.qs_graph.specs.WalkLaws.{StepsWithinWeight}

pub product : (n x : ℕ) → suc n * x ≡ n * x + x
product n x = omega arith

scaled : (n a w : ℕ) → a ≤ 3 * w → n * a ≤ 3 * (n * w)
scaled zero a w h = omega arith
scaled (suc n) a w h = omega (arith, product n a, product n w, scaled n a w h)

bounds : (b : Statements) → (steps b ≤ 3 * weight_of b) × (steps b + 1 ≤ 3 * max 1 (weight_of b))
bounds end = (omega arith, omega arith)
bounds (command c rest) = let r = bounds rest in (omega (arith, r.0), omega (arith, r.0))
bounds (query x c rest) = let r = bounds rest in (omega (arith, r.0), omega (arith, r.0))
bounds (assign x e rest) = let r = bounds rest in (omega (arith, r.0), omega (arith, r.0))
bounds (choose t b first other rest) =
    let r = bounds rest in let a = bounds first in let b = bounds other in (omega (arith, r.0, a.0, b.0), omega (arith, r.0, a.0, b.0))
bounds (again n body rest) =
    let r = bounds rest in let a = bounds body in
    let s = scaled n (1 + steps body) (max 1 (weight_of body)) (omega (arith, a.1)) in
    (omega (arith, r.0, s), omega (arith, r.0, s))
bounds (leave rest) = let r = bounds rest in (omega (arith, r.0), omega (arith, r.0))

pub steps_within_weight : StepsWithinWeight
steps_within_weight b = (bounds b).0
