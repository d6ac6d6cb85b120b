-- Sets of clients as bytes: what two of them have in common, and who leads on that is in a share. A begun block of a
-- client changes the share by what it counts for.
use Rattle.qs_levels.proofs.Common.{◌≡◌, ◌<◌, ◌+◌, ◌%◌, ◌==◌, ◌&&◌, ℕ, List, min, bit_and, slice_index_or, ap, ap₂, ◌∙◌, arith, configuration_in, in_byte, IsSound, most_clients, nat_tests}
use Rattle.qs_levels.proofs.Common.{ProgramShape, StandingShape, AreMasks, AreTaken, IsGoing, mark_of, weight, Going, rules}
use Rattle.std.proofs.Math.Nat.{mod-add-mod}
use Rattle.std.proofs.lemmas.Nat.Bits.{bit_at-lt, bit_at_and}
use Rattle.std.specs.Int.{bit_at}

in_both : (a b c : ℕ) → in_byte (bit_and a b) c ≡ (in_byte a c && in_byte b c)
in_both a b c = search (rules, bit_at-lt, bit_at_and)

pub are_taken : (p : ProgramShape) → IsSound p → (number count : ℕ) (s : StandingShape) (g : Going) (masks : List ℕ) → 0 < count → IsGoing p count s g → AreMasks number count masks
    → AreTaken p number count s (bit_and g.clients (slice_index_or masks g.share 0))
are_taken p sound number count s g masks some going are c less =
    let mark = mark_of p (configuration_in s).begun in
    let within : g.share < count = (let e = going.share in let m : mark % count < count = omega (arith, some) in omega (arith, e, m)) in
    let few : c < most_clients = (let n = sound.clients in omega (arith, less, n)) in
    in_both g.clients (slice_index_or masks g.share 0) c
    ∙ ap₂ (λ x y. x && y) (λ i. going.clients i c)
    (are.each g.share c within few ∙ ap (λ n. n == number) (ap (λ r. (r + weight c) % count) going.share ∙ mod-add-mod mark count (weight c)))
