use Rattle.qs_dot.proofs.Common.{◌∙◌, ap, drop, sym, single, size_at, anchor_count, rules}
use Rattle.qs_dot.proofs.node_lines.Counts.{after_repeat}
use Rattle.qs_dot.proofs.node_lines.skipping.+skipped.Goals as goal

pub skip_body-skip_stmt-rest-requires : goal.skip_body-skip_stmt-rest-requires
skip_body-skip_stmt-rest-requires t c = search (rules, size_at)

pub skip_stmt-returns-in-Repeat : goal.skip_stmt-returns-in-Repeat
skip_stmt-returns-in-Repeat t c = record {
  rest = c.skip_body-in-Repeat.ensures.rest
      ∙ ap (λ es. drop (anchor_count c.in-Repeat.body) es) c.skip-in-Repeat.ensures.rest
      ∙ after_repeat c.in-Repeat.field-0 c.in-Repeat.body c.args.entries.now
      ∙ ap (λ s. drop (anchor_count (single s)) c.args.entries.now) (sym c.in-Repeat.is);
}
