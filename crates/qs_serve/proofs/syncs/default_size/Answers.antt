use Rattle.std.proofs.Common.{◌≡◌, Bool, arith, false, subst, true}
use Rattle.std.specs.Prelude.{IsSome}
use Rattle.qs_serve.proofs.syncs.default_size.Goals as goal

pub unreachable-requires : goal.unreachable-requires
unreachable-requires c =
    let some : false ≡ true = subst IsSome c.in-None.is (c.new.ensures.within.1 (omega arith, omega arith)) in absurd (cc some)
