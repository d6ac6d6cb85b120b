use Rattle.std.proofs.Common.{[], ◌∷◌, ◌++◌, ap₂, sym, ◌∙◌, arith}
use Rattle.std.proofs.lemmas.List.FromFn.{map-range_with_len_more}
use Rattle.qs_text.specs.audit.fates.Fates.{fates_of}
use Rattle.qs_text.proofs.fates.journals.journal_fates.Goals as goal

pub loop-object-preserved : goal.loop-object-preserved
loop-object-preserved c =
    c.in_ok-push.ensures.items
    ∙ (ap₂ (λ xs x. xs ++ x ∷ []) c.loop-object.invariant c.in_ok-object_fates.ensures.fates
    ∙ sym (map-range_with_len_more (fates_of c.args.program.now c.args.played.now) 0 c.loop-object.object c.loop-object.object (omega arith)))
