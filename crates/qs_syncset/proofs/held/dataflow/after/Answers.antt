use Rattle.std.proofs.Common.{◌≡◌, false, sym, ◌∙◌}
use Rattle.qs_syncset.proofs.held.Bits.{with_handler, without_handler}
use Rattle.qs_syncset.proofs.held.dataflow.after.Goals as goal

pub returns-in-Sync : goal.returns-in-Sync
returns-in-Sync c = record {
  value = λ k small.
      let range = rw c.in-Sync.is at c.requires.in_range in
      rw c.in-Sync.is (with_handler c.args.set c.in-Sync.handler k range);
}

pub returns-in-Call : goal.returns-in-Call
returns-in-Call c = record {
  value = λ k small.
      let none : c.args.graph.now.aliases ≡ false = sym c.has_aliases.ensures.value ∙ c.if-not-has_aliases.true in
      let range = rw c.in-Call.is at c.requires.in_range in
      rw (c.in-Call.is, none) (without_handler c.args.set c.in-Call.call.object k range.0 small);
}
