use Rattle.qs_syncset.proofs.held.Transfer.{has_bit}
use Rattle.qs_syncset.proofs.held.sets.Sets.holds.Goals as goal

pub returns : goal.returns
returns c =
    let inside = rw (← c.self.view_is) at c.requires.node in
    rw (← c.self.view_is, c.deref.ensures) (record { value = has_bit c.self.inside.bytes.items c.args.node c.args.handler inside c.requires.handler })
