use Rattle.std.proofs.Common.{◌≡◌, length, min, take, sym, subst, ◌∙◌}
use Rattle.qs_played.proofs.Names.{SameTrace, trace_of, Agreement, TextsAlike, shorter}
use Rattle.qs_played.proofs.twin.FirstEntries.{reserved_at}
use Rattle.qs_played.proofs.twin.AgreedFronts.{agreed_fronts}
use Rattle.qs_played.proofs.twin.twins.twin.Goals as goal

pub are_same_texts-requires-clause-here : goal.are_same_texts-requires-clause-here
are_same_texts-requires-clause-here c = reserved_at c.args.program.now c.args.played.now c.args.place c.requires.fits c.requires.legal c.requires.place

pub are_same_texts-requires-clause-there : goal.are_same_texts-requires-clause-there
are_same_texts-requires-clause-there c =
    reserved_at c.args.other.now c.args.other_played.now c.args.other_place c.requires.other_fits c.requires.other_legal c.requires.other_place

pub are_starts_alike-requires-clause-here : goal.are_starts_alike-requires-clause-here
are_starts_alike-requires-clause-here c = reserved_at c.args.program.now c.args.played.now c.args.place c.requires.fits c.requires.legal c.requires.place

pub are_starts_alike-requires-clause-there : goal.are_starts_alike-requires-clause-there
are_starts_alike-requires-clause-there c =
    reserved_at c.args.other.now c.args.other_played.now c.args.other_place c.requires.other_fits c.requires.other_legal c.requires.other_place

pub returns : goal.returns
returns c =
    let p = c.args.program.now in
    let q = c.args.other.now in
    let r = c.args.played.now in
    let s = c.args.other_played.now in
    let texts : TextsAlike p r c.args.place q s c.args.other_place = c.are_same_texts.ensures.same.0 c.if-not-are_same_texts.false in
    let agree : Agreement p r c.args.place q s c.args.other_place =
    record { text = texts.0; values = texts.1; starts = c.in_ok-are_starts_alike.ensures.alike.0 c.if-not-branch.false } in
    let count : c.min.result ≡ shorter p r c.args.place q s c.args.other_place =
    c.min.ensures ∙ (λ i. min (length (c.trace-count.ensures.value i)) (length (c.trace.ensures.value i))) in
    record {
      tells = (
        agree,
        count,
        λ waits later iso iso'.
            subst (λ n. SameTrace p q (take n (trace_of r c.args.place)) (take n (trace_of s c.args.other_place))) (sym count)
            (agreed_fronts p q c.keeps_sound.ensures.sound c.keeps_sound-2.ensures.sound r s c.args.place c.args.other_place c.requires.place
            c.requires.other_place agree waits later iso iso'),
      );
      memory = λ _. texts;
    }
