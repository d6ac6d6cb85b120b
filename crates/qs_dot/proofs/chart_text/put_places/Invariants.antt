-- The places before this one are there.
use Rattle.qs_dot.proofs.Common.{◌≡◌, ◌++◌, texts_up_to, place_line}
use Rattle.qs_dot.proofs.chart_text.put_places.Given as goal

abbrev pub invariant-loop-place : goal.invariant-loop-place
invariant-loop-place l = l.out.items ≡ l.initial.out.items ++ texts_up_to l.place (place_line l.program l.found l.chart)
