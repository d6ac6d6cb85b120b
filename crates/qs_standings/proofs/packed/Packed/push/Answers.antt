-- What was there lies where it lay, whether memory was refused or not, and the standing is the last.
use Rattle.std.proofs.Common.{◌∷◌, ◌++◌, [], ap, map, subst, sym, ◌∙◌, Err, Ok, OnErr, Result}
use Rattle.std.specs.List.{AllByRecursion}
use Rattle.qs_standings.specs.Packed.{IsPlaced, standing_at}
use Rattle.qs_standings.proofs.Packing.{same_standings, standings_with, still, still_with}
use Rattle.qs_standings.proofs.packed.Packed.push.Goals as goal

on_err : {T E P : Type 0} (r : Result T E) → P → OnErr r P
on_err (Ok v) p = tt
on_err (Err e) p = p

pub returns-in_err-place-clause-stay : goal.returns-in_err-place-clause-stay
returns-in_err-place-clause-stay c = on_err _ (same_standings _ _ _ c.add.ensures.grown c.self.invariant ∙ c.self.view_is)

pub invariant_of-self-in_err-push : goal.invariant_of-self-in_err-push
invariant_of-self-in_err-push c =
    subst (AllByRecursion (IsPlaced c.add.new.self)) (sym c.in_err-push.ensures.items)
    (still c.self.inside.pieces c.add.new.self c.self.inside.places.items c.add.ensures.grown c.self.invariant)

pub returns-in_err-push-clause-stay : goal.returns-in_err-push-clause-stay
returns-in_err-push-clause-stay c =
    on_err _ (ap (map (standing_at c.add.new.self)) c.in_err-push.ensures.items ∙ (same_standings _ _ _ c.add.ensures.grown c.self.invariant ∙ c.self.view_is))

pub invariant_of-self-2 : goal.invariant_of-self-2
invariant_of-self-2 c =
    subst (AllByRecursion (IsPlaced c.add.new.self)) (sym c.in_ok-push.ensures.items)
    (still_with c.self.inside.pieces c.add.new.self c.self.inside.places.items c.in_ok-place.place c.add.ensures.grown c.self.invariant c.in_ok-place.ensures.kept.placed)

pub returns-clause-pushed : goal.returns-clause-pushed
returns-clause-pushed c = ap (map (standing_at c.add.new.self)) c.in_ok-push.ensures.items
    ∙ (standings_with c.self.inside.pieces c.add.new.self c.self.inside.places.items c.in_ok-place.place c.args.standing.now c.add.ensures.grown c.self.invariant c.in_ok-place.ensures.kept
    ∙ ap (λ ss. ss ++ c.args.standing.now ∷ []) c.self.view_is)
