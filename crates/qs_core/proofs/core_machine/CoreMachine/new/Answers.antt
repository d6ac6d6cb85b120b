use Rattle.std.proofs.Common.{◌≡◌, List, [], refl, sym, subst, ◌∙◌, arith}
use Rattle.qs_objects.specs.declared.held.Ticket.{Ticket}
use Rattle.qs_core.specs.state.CoreState.{CoreState, IsCoreState, IsFreshCore}
use Rattle.qs_core.proofs.state.CoreFresh.{begins, blocks_listed, codes_are, kept}
use Rattle.qs_core.proofs.core_machine.CoreMachine.new.Goals as goal

pub invariant_of-result : goal.invariant_of-result
invariant_of-result c =
    let blocks = c.blocks-blocks.ensures.value ∙ blocks_listed c.args.program.now in
    let none : c.in_ok-order.order.items ≡ [] = c.in_ok-order.ensures.items in
    let made : List Ticket → CoreState = λ order. record { program = c.args.program.now; size = c.args.size; order = order; clients = c.in_ok-clients.clients.items; handlers = c.in_ok-handlers.handlers.items } in (
      subst (λ ts. IsCoreState (made ts)) (sym none) (kept c.args.program.now c.args.mode c.args.size c.blocks-blocks.result c.in_ok-clients.clients.items c.in_ok-handlers.handlers.items
          c.in_ok-clients.ensures.fresh c.in_ok-handlers.ensures.fresh c.keeps_sound.ensures.sound blocks),
      omega (arith, blocks, c.in_ok-order.ensures.capacity),
    )

pub returns : goal.returns
returns c =
    let none : c.in_ok-order.order.items ≡ [] = c.in_ok-order.ensures.items in
    let made : List Ticket → CoreState = λ order. record { program = c.args.program.now; size = c.args.size; order = order; clients = c.in_ok-clients.clients.items; handlers = c.in_ok-handlers.handlers.items } in
    record {
      fresh = subst (λ ts. IsFreshCore c.args.program.now c.args.mode c.args.size (made ts)) (sym none) (record {
        program = refl;
        size = refl;
        begins = begins c.args.program.now c.args.mode c.args.size c.blocks-blocks.result c.in_ok-clients.clients.items c.in_ok-handlers.handlers.items c.in_ok-clients.ensures.fresh c.in_ok-handlers.ensures.fresh c.keeps_sound.ensures.sound;
        codes = codes_are c.args.program.now c.args.mode c.args.size c.blocks-blocks.result c.in_ok-clients.clients.items c.in_ok-handlers.handlers.items c.in_ok-clients.ensures.fresh c.in_ok-handlers.ensures.fresh c.keeps_sound.ensures.sound;
      });
    }
