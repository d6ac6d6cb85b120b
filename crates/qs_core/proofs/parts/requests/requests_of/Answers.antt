use Rattle.std.proofs.Common.{◌≡◌, ◌<◌, ◌∷◌, [], ◌++◌, length, ap, refl, sym, ◌∙◌, arith}
use Rattle.qs_played.proofs.Names.{length-append, Request}
use Rattle.qs_chunk.specs.audit.Batch.{Batch}
use Rattle.qs_core.proofs.parts.TurnedChunks.{as_many, none_copied, once_ok, one_more}
use Rattle.qs_core.proofs.parts.requests.requests_of.Goals as goal

pub loop-turn-init : goal.loop-turn-init
loop-turn-init c =
    let whole = c.args.chunk.now.items in
    let none = c.in_ok-requests.ensures.items in
    record { turned = (whole, none_copied whole c.in_ok-requests.requests.items none); many = ap length none; size = refl }

pub loop-turn-preserved : goal.loop-turn-preserved
loop-turn-preserved c =
    let whole = c.args.chunk.now.items in
    let before = c.loop-turn.chunk in
    let copied = c.loop-turn.requests.items in
    let rest = c.take_front.new.self.items in
    let item = c.in-Some.request in
    let first : before.items ≡ item ∷ rest = ap (λ (b : Batch Request). b.items) c.in-Some.ensures.some in
    let turned = c.loop-turn.invariant.turned in
    let few : length copied < length whole = omega (arith, c.loop-turn.invariant.many, c.loop-turn-test.true, c.loop-turn.auto._turn-end, c.len-count.ensures.count) in
    let held : before.capacity ≡ c.take_front.new.self.capacity = ap (λ (b : Batch Request). b.capacity) c.in-Some.ensures.some in
    let fits : length rest < c.take_front.new.self.capacity =
    omega (arith, as_many whole before.items copied turned.0 turned.1, ap length first, held, c.loop-turn.invariant.size, c.len-count.ensures.count, c.len-count.ensures.within) in
    let pushed = once_ok c.push-full.result (c.push-full.ensures.fits.1 fits) c.push-full.ensures.ok in
    let next = one_more whole before.items copied turned.0 rest item c.copied.result turned.1 few first c.copied.ensures.same in
    let behind = c.push_reserved.ensures.items in
    record {
      turned = (
        next.0,
        (
          ap (λ (b : Batch Request). b.items) pushed ∙ next.1.0 ∙ ap (λ xs. next.0 ++ xs) (sym behind),
          next.1.1 ∙ ap (λ xs. xs ++ next.0) (sym behind),
        ),
      );
      many = omega (arith, ap length behind, length-append copied (c.copied.result ∷ []), c.loop-turn.invariant.many);
      size = ap (λ (b : Batch Request). b.capacity) pushed ∙ sym held ∙ c.loop-turn.invariant.size;
    }
