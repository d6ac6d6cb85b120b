use Rattle.std.proofs.Common.{◌≡◌, ◌&&◌, Bool, true, false, refl, sym}
use Rattle.std.proofs.lemmas.List.Folds.{list_any_at}
use Rattle.clap.specs.Words.{found_of, rows_of}
use Rattle.qs_line.specs.audit.Apart.{both_stand_at}
use Rattle.qs_line.proofs.line.has_pair.Goals as goal

both : (a b : Bool) → true ≡ a → true ≡ b → (a && b) ≡ true
both true true e f = refl
both true false e f = absurd (cc f)
both false b e f = absurd (cc e)

pub returns-then-stands-2 : goal.returns-then-stands-2
returns-then-stands-2 c = record {
  pair = sym (list_any_at (both_stand_at (rows_of (found_of c.args.found.now))) c.args.pairs.now c.loop-one.one-index _ c.loop-one-test.true
      (both _ _ c.if-stands.ensures.stands c.if-stands-2.ensures.stands));
}
