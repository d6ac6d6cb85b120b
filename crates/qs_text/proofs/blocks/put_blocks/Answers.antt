use Rattle.std.proofs.Common.{◌≡◌, arith, length, subst}
use Rattle.qs_text.specs.Blocks.{AreBlocksOf, IsBlockBy}
use Rattle.qs_text.specs.Texts.{AreTextsUpTo, IsAdded}
use Rattle.qs_text.proofs.Added.{one_added_more}
use Rattle.qs_text.proofs.blocks.put_blocks.Goals as goal

pub loop-client-preserved : goal.loop-client-preserved
loop-client-preserved g c =
    let p = c.args.program.now in
    let w = c.args.writer.now in
    one_added_more (AreBlocksOf p (IsBlockBy p (g.W.BlockWriter.head w p) (g.W.BlockWriter.nodes w p))) c.loop-client.client _ _ _
    c.loop-client.invariant c.in_ok-put_blocks_of.ensures.ok

pub returns : goal.returns
returns g c =
    let p = c.args.program.now in
    let w = c.args.writer.now in
    let all : c.loop-client.client ≡ length p.clients = omega arith in
    record {
      ok = subst (λ n. IsAdded (AreTextsUpTo n (AreBlocksOf p (IsBlockBy p (g.W.BlockWriter.head w p) (g.W.BlockWriter.nodes w p)))) c.args.out.now.items c.loop-client.out.items)
          all c.loop-client.invariant;
    }
