use Rattle.std.proofs.Common.{◌≡◌, ap, sym, subst, ◌∙◌, arith}
use Rattle.qs_played.proofs.Names.{Ticket, BlockShape, block_at, ticket}
use Rattle.qs_core.specs.parts.CoreClients.{CoreClientState, whole_of}
use Rattle.qs_core.proofs.Names.{CanEnterAll, CoreState}
use Rattle.qs_core.proofs.CoreFieldLemmas.{enters, in_blocks, made_kept, made_steps, order_roomy, formed_is}
use Rattle.qs_core.proofs.core_machine.CoreMachine.reserve.Goals as goal

pub push_reserved-requires : goal.push_reserved-requires
push_reserved-requires c =
    let r : CoreState = record { program = c.self.inside.program.now; size = c.self.inside.size; order = c.self.inside.order.items; clients = c.self.inside.clients.items; handlers = c.self.inside.handlers.items } in
    let d = c.index-client.result.now in
    let same = formed_is r c.args.self.now c.self.view_is c.self.invariant.0 c.requires.keeps c.args.number c.from.result c.from.ensures c.requires.number d c.index-client.ensures c.has_next_act.ensures.formed c.has_next_act.ensures.mind in
    let asked = ap (λ (x : CoreClientState). x.act) (sym same) ∙ c.requires.asked d in
    let room = order_roomy r c.args.self.now c.self.view_is c.self.invariant.0 c.requires.keeps c.args.number c.from.result c.from.ensures c.requires.number d c.index-client.ensures c.has_next_act.ensures.formed c.has_next_act.ensures.mind
    c.keeps_sound.ensures.sound c.requires.on asked in
    omega (arith, room, c.self.invariant.1, c.self.inside.order.ok)

pub block-block-requires-clause-block : goal.block-block-requires-clause-block
block-block-requires-clause-block c =
    let r : CoreState = record { program = c.self.inside.program.now; size = c.self.inside.size; order = c.self.inside.order.items; clients = c.self.inside.clients.items; handlers = c.self.inside.handlers.items } in
    let d = c.index-client.result.now in
    let same = formed_is r c.args.self.now c.self.view_is c.self.invariant.0 c.requires.keeps c.args.number c.from.result c.from.ensures c.requires.number d c.index-client.ensures c.has_next_act.ensures.formed c.has_next_act.ensures.mind in
    let asked = ap (λ (x : CoreClientState). x.act) (sym same) ∙ c.requires.asked d in
    let less = in_blocks r c.args.self.now c.self.view_is c.self.invariant.0 c.requires.keeps c.args.number c.from.result c.from.ensures c.requires.number d c.index-client.ensures c.has_next_act.ensures.formed c.has_next_act.ensures.mind
    c.keeps_sound.ensures.sound c.requires.on asked in
    omega (arith, less, c.begun.ensures.value)

pub enter_all-requires : goal.enter_all-requires
enter_all-requires c =
    let r : CoreState = record { program = c.self.inside.program.now; size = c.self.inside.size; order = c.self.inside.order.items; clients = c.self.inside.clients.items; handlers = c.self.inside.handlers.items } in
    let d = c.index-client.result.now in
    let same = formed_is r c.args.self.now c.self.view_is c.self.invariant.0 c.requires.keeps c.args.number c.from.result c.from.ensures c.requires.number d c.index-client.ensures c.has_next_act.ensures.formed c.has_next_act.ensures.mind in
    let asked = ap (λ (x : CoreClientState). x.act) (sym same) ∙ c.requires.asked d in
    let u : Ticket = record { client = c.args.number; index = c.begun.result } in
    let u_is : u ≡ ticket c.args.number (whole_of d).client.begun = λ k. record { client = c.args.number; index = c.begun.ensures.value k } in
    let xs_are : c.reserved.result.now ≡ (block_at r.program c.args.number (whole_of d).client.begun).reserved =
    c.reserved.ensures.value ∙ ap (λ (b : BlockShape). b.reserved) c.block-block.ensures.value ∙ ap (λ n. (block_at r.program c.args.number n).reserved) c.begun.ensures.value in
    let can = enters r c.args.self.now c.self.view_is c.self.invariant.0 c.requires.keeps c.args.number c.from.result c.from.ensures c.requires.number d c.index-client.ensures c.has_next_act.ensures.formed c.has_next_act.ensures.mind
    c.keeps_sound.ensures.sound c.requires.on asked in
    subst (λ t. CanEnterAll t r.handlers c.reserved.result.now) (sym u_is) (subst (CanEnterAll (ticket c.args.number (whole_of d).client.begun) r.handlers) (sym xs_are) can)

pub invariant_of-self : goal.invariant_of-self
invariant_of-self c =
    let r : CoreState = record { program = c.self.inside.program.now; size = c.self.inside.size; order = c.self.inside.order.items; clients = c.self.inside.clients.items; handlers = c.self.inside.handlers.items } in
    let d = c.index-client.result.now in
    let same = formed_is r c.args.self.now c.self.view_is c.self.invariant.0 c.requires.keeps c.args.number c.from.result c.from.ensures c.requires.number d c.index-client.ensures c.has_next_act.ensures.formed c.has_next_act.ensures.mind in
    let asked = ap (λ (x : CoreClientState). x.act) (sym same) ∙ c.requires.asked d in
    let u : Ticket = record { client = c.args.number; index = c.begun.result } in
    let u_is : u ≡ ticket c.args.number (whole_of d).client.begun = λ k. record { client = c.args.number; index = c.begun.ensures.value k } in
    let xs_are : c.reserved.result.now ≡ (block_at r.program c.args.number (whole_of d).client.begun).reserved =
    c.reserved.ensures.value ∙ ap (λ (b : BlockShape). b.reserved) c.block-block.ensures.value ∙ ap (λ n. (block_at r.program c.args.number n).reserved) c.begun.ensures.value in (
      made_kept r c.args.self.now c.self.view_is c.self.invariant.0 c.requires.keeps c.args.number c.from.result c.from.ensures c.requires.number d c.index-client.ensures c.has_next_act.ensures.formed c.has_next_act.ensures.mind
          c.keeps_sound.ensures.sound c.requires.on asked c.from-2.result c.from-2.ensures c.index_mut-client.result.now c.index_mut-client.ensures.value u u_is c.reserved.result.now xs_are c.book.new.self c.book.ensures.booked c.book.ensures.formed c.book.ensures.lanes
          c.push_reserved.new.self.items c.push_reserved.ensures.items c.enter_all.new.handlers.items c.enter_all.ensures.entered,
      omega (arith, c.self.invariant.1, c.push_reserved.ensures.capacity),
    )

pub returns : goal.returns
returns c =
    let r : CoreState = record { program = c.self.inside.program.now; size = c.self.inside.size; order = c.self.inside.order.items; clients = c.self.inside.clients.items; handlers = c.self.inside.handlers.items } in
    let d = c.index-client.result.now in
    let same = formed_is r c.args.self.now c.self.view_is c.self.invariant.0 c.requires.keeps c.args.number c.from.result c.from.ensures c.requires.number d c.index-client.ensures c.has_next_act.ensures.formed c.has_next_act.ensures.mind in
    let asked = ap (λ (x : CoreClientState). x.act) (sym same) ∙ c.requires.asked d in
    let u : Ticket = record { client = c.args.number; index = c.begun.result } in
    let u_is : u ≡ ticket c.args.number (whole_of d).client.begun = λ k. record { client = c.args.number; index = c.begun.ensures.value k } in
    let xs_are : c.reserved.result.now ≡ (block_at r.program c.args.number (whole_of d).client.begun).reserved =
    c.reserved.ensures.value ∙ ap (λ (b : BlockShape). b.reserved) c.block-block.ensures.value ∙ ap (λ n. (block_at r.program c.args.number n).reserved) c.begun.ensures.value in
    record {
      steps = made_steps r c.args.self.now c.self.view_is c.self.invariant.0 c.requires.keeps c.args.number c.from.result c.from.ensures c.requires.number d c.index-client.ensures c.has_next_act.ensures.formed c.has_next_act.ensures.mind
          c.keeps_sound.ensures.sound c.requires.on asked c.from-2.result c.from-2.ensures c.index_mut-client.result.now c.index_mut-client.ensures.value u u_is c.reserved.result.now xs_are c.book.new.self c.book.ensures.booked c.book.ensures.formed c.book.ensures.lanes
          c.push_reserved.new.self.items c.push_reserved.ensures.items c.enter_all.new.handlers.items c.enter_all.ensures.entered;
    }
