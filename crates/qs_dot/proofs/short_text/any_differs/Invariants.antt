-- None of the places before this one differs.
use Rattle.qs_dot.proofs.Common.{◌≡◌, drop, list_any, differs}
use Rattle.qs_dot.proofs.short_text.any_differs.Given as goal

abbrev pub invariant-loop-standing : goal.invariant-loop-standing
invariant-loop-standing l =
    list_any (differs l.program l.objects l.clients) (drop l.standing-index l.places)
    ≡ list_any (differs l.program l.objects l.clients) l.places
