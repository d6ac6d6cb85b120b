use Rattle.std.proofs.Common.{◌≡◌, ◌++◌, ◌∷◌, [], suc}
use Rattle.qs_steps.proofs.Names.{HasGoneOn, Stands, put, rules_view}
use Rattle.qs_plain_laws.proofs.orders.AloneSteps.{left_of}
use Rattle.qs_plain.proofs.Names.{blocks_begun, plain_of}
use Rattle.qs_steps.proofs.rules_orders.put_block.Given as goal

abbrev pub invariant-turns : goal.invariant-turns
invariant-turns l = record {
  program : l.rules.program ≡ l.fn.rules.program;
  stands : Stands l.fn.rules.program (l.fn.rules.order ++ record { client = l.client; index = blocks_begun l.fn.rules l.client } ∷ [])
      (put (blocks_begun l.fn.rules) l.client (suc (blocks_begun l.fn.rules l.client)))
      (record { client = l.client; index = blocks_begun l.fn.rules l.client }) (plain_of l.fn.rules) (plain_of l.rules);
  told : HasGoneOn rules_view l.program l.fn.lines l.fn.rules l.lines l.rules;
}

abbrev pub decreases-turns : goal.decreases-turns
decreases-turns l = left_of (record { client = l.client; index = blocks_begun l.fn.rules l.client }) (plain_of l.rules)
