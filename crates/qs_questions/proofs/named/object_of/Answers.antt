use Rattle.std.proofs.Common.{◌≡◌, ◌<◌, true, length, sym, arith}
use Rattle.qs_questions.proofs.Common.{no_object, object_at, same_name}
use Rattle.qs_program.specs.declared.program.Declared.{Declared}
use Rattle.qs_questions.proofs.Firsts.{first_at, first_none}
use Rattle.qs_questions.proofs.named.object_of.Goals as goal

pub returns-then-eq-clause-object : goal.returns-then-eq-clause-object
returns-then-eq-clause-object c =
    let p = c.args.program.now in
    let i = c.loop-object.object in
    let count = c.objects-object-end.ensures.value in
    let inside : i < length p.objects = omega (arith, count) in
    let here : same_name c.args.name.now (object_at p i).name ≡ true = cc in
    sym (first_at (λ (o : Declared). same_name c.args.name.now o.name) no_object p.objects i inside here
    c.loop-object.invariant)

pub returns-clause-object : goal.returns-clause-object
returns-clause-object c =
    let p = c.args.program.now in
    let count = c.objects-object-end.ensures.value in
    sym (first_none (λ (o : Declared). same_name c.args.name.now o.name) no_object p.objects
    (λ k h. c.loop-object.invariant k (omega (arith, count))))
