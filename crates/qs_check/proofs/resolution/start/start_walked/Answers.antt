use Rattle.std.proofs.Common.{◌∙◌, ◌≤◌, List, length, map, Some, ap, sym, subst}
use Rattle.std.specs.List.{AllByRecursion}
use Rattle.qs_script.specs.audit.tree.Limits.{most_levels}
use Rattle.qs_program.specs.audit.Binding.{bound_block}
use Rattle.qs_program.specs.audit.Limits.{most_objects, most_variables}
use Rattle.qs_program.specs.audit.Numbering.{Name, found_at}
use Rattle.qs_program.specs.audit.Program.{BlockShape}
use Rattle.qs_program.specs.Sound.{levels_of}
use Rattle.qs_check.specs.audit.resolution.Resolve.{block_shape, declared_formals}
use Rattle.qs_check.proofs.resolution.TemplateSearch.{formed_levels}
use Rattle.qs_check.proofs.resolution.TemplateFormals.{text_known}
use Rattle.qs_check.proofs.resolution.start.start_walked.Goals as goal

pub invariant_of-numbering : goal.invariant_of-numbering
invariant_of-numbering c =
    let known = text_known c.args.template.now c.args.inner.now c.requires.walked in
    let P : List Name → Type 0 = λ ns. length ns ≤ most_objects in
    let Q : List Name → Type 0 = λ ns. length ns ≤ most_variables in
    record { few_objects = subst P (sym c.objects.ensures.value) known.few_objects; few_variables = subst Q (sym c.variables.ensures.value) known.few_variables }

pub bind_blocks-requires : goal.bind_blocks-requires
bind_blocks-requires c =
    let P : List BlockShape → Type 0 = λ bs. AllByRecursion (λ (b : BlockShape). levels_of b.body ≤ most_levels) bs in
    let own = c.in_ok-own.ensures.blocks ∙ ap (map (block_shape c.objects.result.now c.kinds.result.now c.variables.result.now)) c.as_slice.ensures.same in
    record { levels = subst P (sym (c.as_slice-5.ensures.value ∙ own)) (formed_levels c.objects.result.now c.kinds.result.now c.variables.result.now c.args.template.now.blocks c.requires.formed) }

pub returns : goal.returns
returns c =
    let known = text_known c.args.template.now c.args.inner.now c.requires.walked in
    let objects = c.objects.ensures.value ∙ known.objects in
    let kinds = c.kinds.ensures.value ∙ known.kinds in
    let variables = c.variables.ensures.value ∙ known.variables in
    let own = c.in_ok-own.ensures.blocks ∙ (λ i. map (block_shape (objects i) (kinds i) (variables i)) (c.as_slice.ensures.same i)) in
    let binding = c.in_ok-binding.ensures.list ∙ ap (map (found_at c.args.objects.now)) c.as_slice-3.ensures.same in
    let formals = c.in_ok-formals.ensures.formals ∙ ap declared_formals c.as_slice-2.ensures.same in
    let blocks = c.in_ok-blocks.ensures.blocks ∙ (λ i. map (bound_block ((c.as_slice-4.ensures.value ∙ binding) i)) ((c.as_slice-5.ensures.value ∙ own) i)) in
    let start = c.new.ensures.value ∙ (λ i. record { formals = formals i; binding = binding i; blocks = own i }) in
    record {
      client = c.started.ensures.value ∙ (λ i. record { name = c.copied.ensures.same i; variables = (c.end_client.ensures.variables ∙ known.variables) i; blocks = blocks i; start = Some (start i) });
    }
