use Rattle.std.proofs.Common.{◌≡◌, [], refl, subst, sym, arith, length}
use Rattle.qs_played.proofs.Names.{nil_from_length, statements_of}
use Rattle.qs_plain.specs.client.Opening.{IsAside}
use Rattle.qs_plain.proofs.client.FrameMoves.{nothing_aside}
use Rattle.qs_plain.proofs.client.frames.Frames.set_aside.Goals as goal

pub returns-else-not-is_empty-clause-aside : goal.returns-else-not-is_empty-clause-aside
returns-else-not-is_empty-clause-aside c =
    let none : length c.args.rest.now ≡ 0 = grind (arith, c.is_empty.ensures, c.if-not-is_empty.false) in
    let empty : c.args.rest.now ≡ [] = nil_from_length c.args.rest.now none in
    subst (λ xs. IsAside c.args.self.now.frames c.args.self.now.frames (statements_of xs)) (sym empty) (nothing_aside c.args.self.now.frames c.args.self.now.frames refl)
