use Rattle.std.proofs.Common.{ap, ◌∙◌}
use Rattle.qs_played.proofs.Names.{BlockShape, ticket_at, entry_of}
use Rattle.qs_played.proofs.twin.TextParts.{bodies_decided, bodies_from, lists_decided, texts_from}
use Rattle.qs_played.proofs.twin.twins.are_same_texts.Goals as goal

pub returns-then-are_same_lists : goal.returns-then-are_same_lists
returns-then-are_same_lists c =
    let here = c.args.here.now in
    let there = c.args.there.now in
    let p = here.program.now in
    let q = there.program.now in
    let t = ticket_at here.played.now here.place in
    let u = ticket_at there.played.now there.place in
    let l = entry_of here.played.now here.place in
    let k = entry_of there.played.now there.place in
    let lists = lists_decided p q t u l k c.are_same_lists.result c.reserved.result.now c.reserved-2.result.now
    (c.reserved.ensures.value ∙ ap (λ (b : BlockShape). b.reserved) c.text-block.ensures.value)
    (c.reserved-2.ensures.value ∙ ap (λ (b : BlockShape). b.reserved) c.text-other.ensures.value) c.are_same_lists.ensures.same in
    let bodies = bodies_decided p q t u l k c.is_same_body.result c.variables.result.now c.variables-2.result.now c.entry.result.now c.entry-2.result.now
    c.body.result.now c.body-then-are_same_lists.result.now c.variables.ensures.value c.variables-2.ensures.value c.entry.ensures.value c.entry-2.ensures.value
    (c.body.ensures.value ∙ ap (λ (b : BlockShape). b.body) c.text-block.ensures.value)
    (c.body-then-are_same_lists.ensures.value ∙ ap (λ (b : BlockShape). b.body) c.text-other.ensures.value) c.is_same_body.ensures.same in
    record {
      same = (
        λ e. texts_from p q t u l k (lists.0 c.if-are_same_lists.true) (bodies.0 e),
        λ both. bodies.1 (bodies_from p q t u l k both.0 both.1),
      );
    }
