use Rattle.qs_syncset.proofs.held.laws.unreached_nodes_hold_all.Goals as goal

pub returns : goal.returns
returns c = record { all = λ g sets a n h inside below none. (a.exact n h inside below).1 (λ before path. absurd (none before path)) }
