use Rattle.std.proofs.Common.{ap, sym, ◌∙◌}
use Rattle.qs_standings.specs.going.Going.{begun_counts, in_byte}
use Rattle.qs_standings.proofs.going.GoingSets.{first_of, same_groups}
use Rattle.qs_standings.proofs.going.going.grown_from.Goals as goal

pub returns-then-first-last : goal.returns-then-first-last
returns-then-first-last c =
    let first = first_of c.args.program.now c.args.begun.now c.args.rows.now c.args.client c.from.result c.keeps_sound.ensures.sound c.requires.client c.requires.rows c.from.ensures in
    record {
      grown = c.requires.last;
      set = sym (c.requires.last c.args.client c.requires.client (first ∙ ap in_byte c.if-first-last.true));
    }

pub returns : goal.returns
returns c =
    let first = first_of c.args.program.now c.args.begun.now c.args.rows.now c.args.client c.from.result c.keeps_sound.ensures.sound c.requires.client c.requires.rows c.from.ensures in
    record {
      grown = λ d within same.
          same_groups c.args.program.now (begun_counts c.args.begun.now) d c.args.client within (same ∙ sym first) ∙ sym c.group.ensures.group;
      set = c.group.ensures.group;
    }
