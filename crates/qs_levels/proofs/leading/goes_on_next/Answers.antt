use Rattle.qs_levels.proofs.Common.{ap, sym, ◌∙◌, Configuration, configuration_in, goes_left, goes_on, rules}
use Rattle.qs_levels.proofs.GoingAgain.{goes_on_again}
use Rattle.qs_levels.proofs.leading.goes_on_next.Goals as goal

pub reserves_again-requires-clause-left : goal.reserves_again-requires-clause-left
reserves_again-requires-clause-left c = search (rules, goes_left)

pub returns-then-reserves_again : goal.returns-then-reserves_again
returns-then-reserves_again c = record {
  going = c.requires.going
      ∙ (sym (goes_on_again c.args.search.now.program.now (configuration_in c.args.source.now.standing.now).begun c.args.client (c.reserves_again.ensures.again c.if-reserves_again.true))
      ∙ ap (λ (g : Configuration). goes_on c.args.search.now.program.now g.begun) (sym c.requires.next.next));
}
