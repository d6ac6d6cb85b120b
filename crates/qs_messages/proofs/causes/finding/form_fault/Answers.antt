use Rattle.std.proofs.Common.{Some, None, subst}
use Rattle.qs_script.specs.grammar.FormPlaces.{IsFormPlaceOf}
use Rattle.qs_messages.proofs.causes.finding.form_fault.Goals as goal

pub returns-in_ok-ends-in-Some : goal.returns-in_ok-ends-in-Some
returns-in_ok-ends-in-Some c =
    let listed = subst (λ us. IsFormPlaceOf us c.in_ok-place.field-0) c.as_slice.ensures.value c.in_ok-place.ensures.exact in
    let found : IsFormPlaceOf c.args.tokens.items (Some c.in-Some.place) = subst (IsFormPlaceOf c.args.tokens.items) c.in-Some.is listed in
    record { exact = (found.0, found.1, c.in_ok-ends-in-Some.ensures.exact) }

pub returns-in-None : goal.returns-in-None
returns-in-None c =
    let listed = subst (λ us. IsFormPlaceOf us c.in_ok-place.field-0) c.as_slice.ensures.value c.in_ok-place.ensures.exact in
    let found : IsFormPlaceOf c.args.tokens.items None = subst (IsFormPlaceOf c.args.tokens.items) c.in-None.is listed in
    record { exact = found }
