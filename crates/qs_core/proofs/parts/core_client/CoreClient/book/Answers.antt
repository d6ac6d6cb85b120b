use Rattle.std.proofs.Common.{ap, ◌∙◌}
use Rattle.qs_client.specs.audit.ClientModel.{mind_after_begin}
use Rattle.qs_core.specs.parts.CoreClients.{CoreClientState, whole_of}
use Rattle.qs_core.proofs.parts.ClientModels.{booked_formed}
use Rattle.qs_core.proofs.parts.core_client.CoreClient.book.Goals as goal

pub invariant_of-self : goal.invariant_of-self
invariant_of-self c =
    let s : CoreClientState = record { mind = c.self.inside.mind; act = c.self.inside.act; lanes = c.self.inside.lanes.items } in
    let t : CoreClientState = record { mind = c.next_into.new.self; act = c.next_into.new.act; lanes = c.self.inside.lanes.items } in
    (booked_formed s c.self.invariant t c.args.ticket c.booked.new.self (ap (λ (x : CoreClientState). x.act) c.self.view_is ∙ c.requires.asked) c.booked.ensures.begun c.next_into.ensures.act c.next_into.ensures.rest).formed

pub returns-clause-booked : goal.returns-clause-booked
returns-clause-booked c =
    let s : CoreClientState = record { mind = c.self.inside.mind; act = c.self.inside.act; lanes = c.self.inside.lanes.items } in
    let t : CoreClientState = record { mind = c.next_into.new.self; act = c.next_into.new.act; lanes = c.self.inside.lanes.items } in
    (booked_formed s c.self.invariant t c.args.ticket c.booked.new.self (ap (λ (x : CoreClientState). x.act) c.self.view_is ∙ c.requires.asked) c.booked.ensures.begun c.next_into.ensures.act c.next_into.ensures.rest).whole_is
    ∙ ap (λ (x : CoreClientState). mind_after_begin (whole_of x) c.args.ticket) c.self.view_is

pub returns-clause-formed : goal.returns-clause-formed
returns-clause-formed c =
    let s : CoreClientState = record { mind = c.self.inside.mind; act = c.self.inside.act; lanes = c.self.inside.lanes.items } in
    let t : CoreClientState = record { mind = c.next_into.new.self; act = c.next_into.new.act; lanes = c.self.inside.lanes.items } in
    (booked_formed s c.self.invariant t c.args.ticket c.booked.new.self (ap (λ (x : CoreClientState). x.act) c.self.view_is ∙ c.requires.asked) c.booked.ensures.begun c.next_into.ensures.act c.next_into.ensures.rest).formed
