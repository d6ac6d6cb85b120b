use Rattle.std.proofs.Common.{rules, arith, ◌++◌, take, drop, sym, ap, ◌∙◌, subst}
use Rattle.std.specs.Io.KnownBytes.{Consumes}
use Rattle.std.proofs.KnownBytes.{Consumes-trans}
use lib.Seq.{take-add}
use Rattle.qs_serve.proofs.input.fill.Goals as goal

pub loop-turn-preserved : goal.loop-turn-preserved
loop-turn-preserved g c =
    let f = c.loop-turn.filled in
    let n = c.in-Some.n in
    let joined = ap (λ l. l ++ take n (drop f c.read.new.buf)) (sym c.in-Some.ensures.front) ∙ sym (take-add f n c.read.new.buf) in
    record {
      room = search rules;
      within = search rules;
      turns = search rules;
      reads = omega arith;
      bytes = subst (Consumes _ _) joined (Consumes-trans _ _ _ _ _ c.loop-turn.invariant.bytes c.in-Some.ensures.bytes);
      same = search rules;
    }
