use Rattle.std.proofs.Common.{◌≡◌, subst, replicate}
use Rattle.qs_standings.proofs.Stands.{stands_first}
use Rattle.qs_standings.proofs.standing.Standing.first.Goals as goal

pub returns : goal.returns
returns c = record {
  first = stands_first _ _ c.new.ensures.items (subst (λ n. c.in_ok-vec.field-0.items ≡ replicate n 0) c.clients-clients.ensures.value
      (c.in_ok-vec.ensures.items_if_clones_equal (λ y same. same))) c.in_ok-zeros.ensures.zeros c.in_ok-declared_objects.ensures.count
      c.in_ok-declared_objects.ensures.values;
}
