use Rattle.std.proofs.Common.{arith, refl, true≢false, sym, ◌∙◌}
use Rattle.qs_alike.specs.Texts.{classes_in}
use Rattle.qs_alike.proofs.Following.{goes_up_to, like_none, none_more}
use Rattle.qs_alike.proofs.followed.goes_on_up_to.Goals as goal

pub loop-place-preserved : goal.loop-place-preserved
loop-place-preserved c =
    none_more (classes_in c.args.classes.now) c.args.standing.now c.args.placed.now c.args.goes c.args.client c.loop-place.place c.loop-place.invariant
    (λ like. true≢false (sym (c.is_like.ensures.like.1 like) ∙ c.if-is_like.false))

pub returns-then-is_like : goal.returns-then-is_like
returns-then-is_like c = record {
  goes = (
    λ _. goes_up_to _ _ _ _ _ _ _ c.requires.placed c.requires.goes (c.is_like.ensures.like.0 c.if-is_like.true),
    λ _. refl,
  );
}

pub returns : goal.returns
returns c = record {
  goes = (
    λ e. absurd (true≢false (sym e)),
    λ on. absurd (like_none c.args.program.now (classes_in c.args.classes.now) c.args.standing.now c.args.placed.now c.args.goes c.args.client c.loop-place.place
        c.requires.placed c.requires.goes (let past = c.loop-place-test.false in let e = c.clients-place-end.ensures.value in omega (arith, past, e)) c.loop-place.invariant on),
  );
}
