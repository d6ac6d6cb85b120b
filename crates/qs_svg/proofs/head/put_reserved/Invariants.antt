-- The names before this place are there.
use Rattle.qs_svg.proofs.Common.{take, Puts, reserved_words}
use Rattle.qs_svg.proofs.head.put_reserved.Given as goal

abbrev pub invariant-loop-place : goal.invariant-loop-place
invariant-loop-place l = Puts (reserved_words l.program (take l.place l.objects)) l.initial.out.items l.out.items
