use Rattle.std.proofs.Common.{sym, ◌∙◌}
use Rattle.qs_outcomes.proofs.Common.{alone_goes, classes_in, configuration_in, goes_alone}
use Rattle.qs_standings.proofs.going.GoingSets.{in_shifted}
use Rattle.qs_outcomes.proofs.search.Search.follows.Goals as goal

pub returns-then-self : goal.returns-then-self
returns-then-self c =
    let p = c.args.self.now.program.now in
    let k = classes_in c.args.self.now.classes.now in
    let g = configuration_in c.args.standing.now in
    let alone = c.requires.prepared.none c.if-self.true in
    let going = c.requires.going.0 c.if-self.true in
    record {
      follows = (
        λ is. goes_alone p k alone g c.args.client (sym (λ i. going i c.args.client) ∙ (sym (in_shifted c.args.goes c.args.client) ∙ is)),
        λ goes. in_shifted c.args.goes c.args.client ∙ ((λ i. going i c.args.client) ∙ alone_goes p k alone g c.args.client goes),
      );
    }
