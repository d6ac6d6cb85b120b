use Rattle.std.proofs.Common.{◌≡◌, ℕ, ◌+◌, ◌∷◌, [], length, get_or, sym, ap, ◌∙◌, subst, arith, below_more}
use Rattle.std.proofs.lemmas.List.{get_or_append_left, get_or_push, length_push}
use Rattle.qs_program.specs.audit.Program.{binding_of, block_at}
use Rattle.qs_graph.specs.audit.Names.{graph_of}
use Rattle.qs_syncset.specs.audit.Codes.{BlockCode, IsBlockCode, no_code}
use Rattle.qs_syncset.specs.audit.Modes.{is_static}
use Rattle.qs_syncset.proofs.code.compile.Goals as goal

pub loop-block-preserved : goal.loop-block-preserved
loop-block-preserved c =
    let p = c.args.program.now in
    let is : ℕ → BlockCode → Type 0 =
    λ k code. IsBlockCode (is_static c.args.mode) (block_at p c.args.client k) (graph_of p c.args.client k) (binding_of p c.args.client) code in
    let before = c.loop-block.blocks.items in
    let n = c.loop-block.block in
    let last = c.in_ok-block_code.field-0 in
    let now = c.push_reserved.ensures.items in
    let long : length before ≡ n = c.loop-block.invariant.count in
    record {
      count = ap length now ∙ (length_push before last ∙ ap (λ k. k + 1) long);
      room = omega (arith, c.loop-block.invariant.room, c.push_reserved.ensures.capacity);
      done = below_more (λ k. is k (get_or c.push_reserved.new.self.items k no_code)) n
          (λ k below. subst (is k) (sym (ap (λ xs. get_or xs k no_code) now ∙ get_or_append_left before (last ∷ []) no_code k (omega (arith, below, long))))
          (c.loop-block.invariant.done k below))
          (subst (is n) (sym (ap (λ xs. get_or xs n no_code) now ∙ get_or_push before last no_code n long)) c.in_ok-block_code.ensures.code);
    }
