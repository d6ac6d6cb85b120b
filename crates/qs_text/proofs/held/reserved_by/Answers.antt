use Rattle.std.proofs.Common.{◌<◌, sym, ap, ◌∙◌, subst, arith}
use Rattle.std.specs.List.{AllByRecursion}
use Rattle.qs_program.specs.audit.Limits.{most_handlers}
use Rattle.qs_program.specs.audit.Program.{BlockShape, own_block}
use Rattle.qs_meaning.proofs.Each.{each_map}
use Rattle.qs_graph.proofs.Ranges.{sound_own}
use Rattle.qs_text.proofs.held.reserved_by.Goals as goal

pub returns : goal.returns
returns c =
    let own = own_block c.args.program.now c.args.client c.args.block in
    let text = sound_own c.args.program.now c.args.client c.args.block c.keeps_sound.ensures.sound in
    let below : AllByRecursion (λ h. h < most_handlers) own.reserved = each_map (λ h l. omega (arith, l, text.few)) own.reserved text.text.known in
    let value = c.reserved.ensures.value ∙ ap (λ (b : BlockShape). b.reserved) c.own_block.ensures.value in
    record { value = value; handlers = subst (AllByRecursion (λ h. h < most_handlers)) (sym value) below }
