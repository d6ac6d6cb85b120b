use Rattle.std.proofs.Common.{◌≡◌, refl, ap, ◌∙◌}
use Rattle.qs_outcomes.proofs.Common.{rows_in, standing_with_block}
use Rattle.qs_outcomes.proofs.Steps.{key_seen, one_on, row_key}
use Rattle.qs_outcomes.proofs.search.Search.lead_alone.Goals as goal

pub returns-then-was_seen-clause-led : goal.returns-then-was_seen-clause-led
returns-then-was_seen-clause-led c = (
  standing_with_block c.args.standing.now c.args.client c.args.scratch.now.values c.args.scratch.now.left.items,
  one_on c.requires.standing c.requires.client c.requires.left c.requires.ran refl,
  key_seen (row_key c.requires.standing c.requires.client c.requires.left c.requires.ran refl c.requires.alone c.in_ok-write_next_row.ensures.row)
      (rows_in c.args.seen.now.keys) (c.was_seen.ensures.seen c.if-was_seen.true),
)

pub returns-clause-led : goal.returns-clause-led
returns-clause-led c =
    let s = c.args.standing.now in
    let client = c.args.client in
    let there : c.put_next.new.next ≡ standing_with_block s client c.args.scratch.now.values c.args.scratch.now.left.items =
    c.in_ok-put_next.ensures.next
    ∙ (ap (λ v. standing_with_block s client v c.write_next_row.new.scratch.left.items) c.write_next_row.ensures.values
    ∙ ap (λ xs. standing_with_block s client c.args.scratch.now.values xs) (ap (λ (l : _). l.items) c.write_next_row.ensures.left)) in (
      one_on c.requires.standing c.requires.client c.requires.left c.requires.ran there,
      row_key c.requires.standing c.requires.client c.requires.left c.requires.ran there c.requires.alone c.in_ok-write_next_row.ensures.row,
    )
