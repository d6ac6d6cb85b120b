use Rattle.std.proofs.Common.{List, refl, ap, ◌∙◌, arith}
use Rattle.qs_objects.specs.declared.held.Ticket.{Ticket}
use Rattle.qs_plain_laws.proofs.Names.{empty_of, Plain}
use Rattle.qs_plain.specs.Rules.{plain_of}
use Rattle.qs_plain.proofs.RulesFresh.{fresh_to_come, fresh_kept, fresh_plain}
use Rattle.qs_plain.proofs.machine.Machine.new.Goals as goal

pub invariant_of-result : goal.invariant_of-result
invariant_of-result c =
    let enough = fresh_to_come c.args.program.now c.blocks-blocks.result c.in_ok-clients.clients.items c.in_ok-handlers.handlers.items
    c.in_ok-clients.ensures.fresh c.in_ok-handlers.ensures.idle in (
      fresh_kept c.args.program.now c.blocks-blocks.result c.in_ok-clients.clients.items c.in_ok-handlers.handlers.items
          c.in_ok-clients.ensures.fresh c.in_ok-handlers.ensures.idle c.in_ok-order.order.items c.blocks-blocks.ensures.value,
      omega (arith, enough, c.in_ok-order.ensures.len, c.in_ok-order.ensures.exact, c.blocks-blocks.ensures.value),
    )

pub returns : goal.returns
returns c =
    let fresh = fresh_plain c.args.program.now c.blocks-blocks.result c.in_ok-clients.clients.items c.in_ok-handlers.handlers.items
    c.in_ok-clients.ensures.fresh c.in_ok-handlers.ensures.idle in
    let before : List Ticket → Plain = λ order.
    plain_of (record { program = c.args.program.now; order = order; clients = c.in_ok-clients.clients.items; handlers = c.in_ok-handlers.handlers.items }) in
    record { fresh = (refl, ap before (empty_of c.in_ok-order.order.items (omega (arith, c.in_ok-order.ensures.len))) ∙ fresh) }
