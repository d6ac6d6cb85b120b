use Rattle.std.proofs.Common.{◌≡◌, true, false, drop, ap, subst, sym, ◌∙◌, add-one}
use Rattle.qs_objects.specs.audit.Parts.{same}
use Rattle.qs_objects.specs.declared.held.Entry.{Entry}
use Rattle.qs_text.specs.fates.Picked.{picked_from}
use Rattle.qs_text.proofs.fates.FatesAlong.{picked_here, picked_later}
use Rattle.qs_text.proofs.fates.traces.next_fate.Goals as goal

pub returns-then-eq-clause-rest : goal.returns-then-eq-clause-rest
returns-then-eq-clause-rest c =
    ap (λ n. picked_from c.args.ticket c.args.journal.now c.args.fates.now n) (add-one c.loop-place.place)
    ∙ ((picked_here c.args.ticket c.args.journal.now c.args.fates.now c.loop-place.place c.index-journal-place.result c.loop-place-test.true
    c.index-journal-place.is
    (subst (λ (e : Entry). same c.args.ticket e.ticket ≡ true) (sym c.index-journal-place.is) (sym c.eq.ensures ∙ c.if-eq.true))).1
    ∙ ap (λ l. drop 1 l) c.loop-place.invariant)

pub loop-place-preserved : goal.loop-place-preserved
loop-place-preserved c =
    ap (λ n. picked_from c.args.ticket c.args.journal.now c.args.fates.now n) (add-one c.loop-place.place)
    ∙ (picked_later c.args.ticket c.args.journal.now c.args.fates.now c.loop-place.place c.index-journal-place.result c.loop-place-test.true
    c.index-journal-place.is
    (subst (λ (e : Entry). same c.args.ticket e.ticket ≡ false) (sym c.index-journal-place.is) (sym c.eq.ensures ∙ c.if-eq.false))
    ∙ c.loop-place.invariant)
