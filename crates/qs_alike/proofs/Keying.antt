-- Two standings have one key exactly where the one becomes the other by a change of alike clients: what both become with
-- the places of each class in order is one and the same.
use Rattle.std.proofs.Common.{◌≡◌, ap, refl, sym, ◌∙◌}
use Rattle.qs_alike.proofs.Common.{Configuration, configuration_in, IsStanding, no_state, ProgramShape, row_of, RowShape, StandingShape, zeros}
use Rattle.qs_program.specs.Sound.{IsSound}
use Rattle.qs_standings.proofs.Lists.{same_list}
use Rattle.qs_standings.proofs.RowTells.{same_row, standings_tell}
use Rattle.qs_alike.specs.Changes.{AreAlone, Becomes, Classes}
use Rattle.qs_alike.specs.Keys.{IsKey, IsPlaced}
use Rattle.qs_alike.proofs.Composing.{arranged_alone, becomes_across, becomes_back, becomes_itself, becomes_same, becomes_then, one_arranged}

-- what two become with their places in order has one row
pub same_placed_row : (p : ProgramShape) (k : Classes) (s t : StandingShape) → IsPlaced p k s → IsPlaced p k t
    → Becomes k (configuration_in s) (configuration_in t) → row_of p s ≡ row_of p t
same_placed_row p k s t a b becomes =
    let there : configuration_in t ≡ configuration_in s =
    one_arranged k (configuration_in s) (configuration_in s) (configuration_in t) (becomes_itself k (configuration_in s)) becomes a.arranged b.arranged in
    same_row p s t
    (same_list 0 s.begun t.begun (a.standing.begun ∙ sym b.standing.begun) (λ i. sym (ap (λ (g : Configuration). g.begun i) there)))
    (same_list zeros s.locals t.locals (a.standing.locals ∙ sym b.standing.locals) (λ i. sym (ap (λ (g : Configuration). g.locals i) there)))
    (same_list no_state s.states t.states (a.standing.states ∙ sym b.standing.states) (λ i. sym (ap (λ (g : Configuration). g.states i) there)))

-- a key is that of whatever a standing becomes
pub key_kept : (p : ProgramShape) (k : Classes) (s t : StandingShape) (r : RowShape)
    → Becomes k (configuration_in s) (configuration_in t) → IsKey p k s r → IsKey p k t r
key_kept p k s t r becomes key = record {
  placed = key.placed;
  placing = record {
    placed = key.placing.placed;
    becomes = becomes_across k (configuration_in s) (configuration_in t) (configuration_in key.placed) becomes key.placing.becomes;
  };
  row = key.row;
}

-- one that two standings have tells that the one becomes the other
pub key_tells : (p : ProgramShape) (k : Classes) → IsSound p → (s t : StandingShape) (r : RowShape) → IsKey p k s r → IsKey p k t r
    → Becomes k (configuration_in s) (configuration_in t)
key_tells p k sound s t r one other =
    let same : configuration_in one.placed ≡ configuration_in other.placed =
    standings_tell p sound one.placed.order other.placed.order one.placed other.placed one.placing.placed.standing other.placing.placed.standing
    (one.row ∙ sym other.row) in
    becomes_then k (configuration_in s) (configuration_in one.placed) (configuration_in t) one.placing.becomes
    (becomes_then k (configuration_in one.placed) (configuration_in other.placed) (configuration_in t)
    (becomes_same k (configuration_in one.placed) (configuration_in other.placed) (sym same))
    (becomes_back k (configuration_in t) (configuration_in other.placed) other.placing.becomes))

-- and where the one becomes the other they have one
pub one_key : (p : ProgramShape) (k : Classes) (s t : StandingShape) (r q : RowShape) → Becomes k (configuration_in s) (configuration_in t)
    → IsKey p k s r → IsKey p k t q → r ≡ q
one_key p k s t r q becomes one other =
    sym one.row
    ∙ (same_placed_row p k one.placed other.placed one.placing.placed other.placing.placed
    (becomes_across k (configuration_in t) (configuration_in one.placed) (configuration_in other.placed)
    (becomes_across k (configuration_in s) (configuration_in t) (configuration_in one.placed) becomes one.placing.becomes) other.placing.becomes)
    ∙ other.row)

-- where all are alone, the row of a standing is its key
pub key_alone : (p : ProgramShape) (k : Classes) → AreAlone k → (s : StandingShape) → IsStanding p s.order s → IsKey p k s (row_of p s)
key_alone p k alone s is = record {
  placed = s;
  placing = record {
    placed = record { standing = is; arranged = arranged_alone k alone (configuration_in s) };
    becomes = becomes_itself k (configuration_in s);
  };
  row = refl;
}
