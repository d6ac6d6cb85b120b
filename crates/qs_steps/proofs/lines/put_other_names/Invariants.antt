-- The names before this one are there, each after what stands between two.
use Rattle.std.proofs.Common.{◌≡◌, ◌++◌, flat_map, take}
use Rattle.qs_steps.proofs.Names.{between, name_in, object_at}
use Rattle.qs_steps.proofs.lines.put_other_names.Given as goal

abbrev pub invariant-loop-object : goal.invariant-loop-object
invariant-loop-object l = l.out.items ≡ l.initial.out.items ++ flat_map (λ h. between l.form ++ name_in l.form (object_at l.program h).name) (take l.object-index l.objects)
