use Rattle.std.proofs.Common.{◌≡◌, suc, get_or, arith, add-one, ◌∙◌, ap, refl, Vec, Global}
use Rattle.qs_objects.specs.audit.Act.{State}
use Rattle.qs_standings.specs.Standings.{StandingShape}
use Rattle.qs_standings.proofs.Stands.{read_at, same_longer, same_set}
use Rattle.qs_standings.proofs.standing.Standing.put_next.Goals as goal

pub returns : goal.returns
returns c =
    let begun : c.index-index.result.now ≡ get_or c.args.self.now.begun c.args.client 0 =
    read_at c.self.inside.begun.items c.args.self.now.begun c.args.client c.from-place.result c.index-index.result.now 0
    c.index-index.ensures c.from-place.ensures (ap (λ (s : StandingShape). s.begun) c.self.view_is) (let n = c.requires.standing.begun in let l = c.requires.client in omega (arith, n, l)) in
    let orders = c.in_ok-put_longer.ensures.longer ∙ same_longer c.args.client (c.as_slice.ensures.value ∙ ap (λ (s : StandingShape). s.order) c.self.view_is) begun in
    let counts = c.in_ok-put_counts.ensures.set ∙ same_set (c.as_slice-2.ensures.value ∙ ap (λ (s : StandingShape). s.begun) c.self.view_is) c.from-place.ensures (add-one c.index-index.result.now ∙ ap suc begun) in
    let variables = c.in_ok-put_changed.ensures.set ∙ same_set (ap (λ (s : StandingShape). s.locals) c.self.view_is) c.from-place.ensures refl in
    let objects = ap (λ (v : Vec State Global). v.items) c.swap.ensures.x_after in
    record { next = λ i. record { order = orders i; begun = counts i; locals = variables i; states = objects i } }
