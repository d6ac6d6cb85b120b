use Rattle.std.proofs.Common.{◌≡◌, ◌++◌, suc, get_or, length, arith, add-one, ◌∙◌, ap, flat_map, take}
use Rattle.qs_program.specs.audit.Program.{client_at}
use Rattle.qs_standings.specs.Rows.{named_before, overwritten}
use Rattle.qs_standings.specs.Standings.{RowShape, StandingShape, state_row}
use Rattle.qs_standings.proofs.NextRows.{next_counts, next_numbers, stem_within}
use Rattle.qs_standings.proofs.Stands.{read_at, same_set}
use Rattle.qs_standings.proofs.standing.Standing.write_next_row.Goals as goal

pub put_stem-requires : goal.put_stem-requires
put_stem-requires c = record {
  client = c.requires.client;
  starts = c.requires.starts;
  base = (let e = ap (λ (r : RowShape). length r.numbers) c.requires.base in let v = ap length c.as_slice-numbers.ensures.value in let within = stem_within c.args.program.now c.args.front.now c.keeps_sound.ensures.sound c.args.self.now c.requires.standing in omega (arith, e, v, within));
}

pub returns-clause-row : goal.returns-clause-row
returns-clause-row c =
    let p = c.args.program.now in
    let s = c.args.self.now in
    let left = c.args.scratch.now.left.items in
    let begun : c.index.result.now ≡ get_or s.begun c.args.client 0 =
    read_at c.self.inside.begun.items s.begun c.args.client c.from-place.result c.index.result.now 0
    c.index.ensures c.from-place.ensures (ap (λ (t : StandingShape). t.begun) c.self.view_is) (let n = c.requires.standing.begun in let l = c.requires.client in omega (arith, n, l)) in
    let counts =
    same_set (ap (λ (r : RowShape). r.begun) c.requires.base) c.from-place.ensures (add-one c.index.result.now ∙ ap suc begun)
    ∙ next_counts p c.args.front.now c.keeps_sound.ensures.sound s c.requires.standing c.args.client (suc (get_or s.begun c.args.client 0)) c.requires.client in
    let base = c.as_slice-numbers.ensures.value ∙ ap (λ (r : RowShape). r.numbers) c.requires.base in
    let numbers =
    c.in_ok-add_objects.ensures.added
    ∙ (ap (λ xs. c.put_stem.new.row.items ++ flat_map state_row xs) c.as_slice.ensures.value
    ∙ (ap (λ r. r ++ flat_map state_row left) (c.in_ok-put_stem.ensures.put
    ∙ ap (λ b. overwritten (take (named_before p 0 (length p.clients)) b) (named_before p 0 c.args.client) (take (length (client_at p c.args.client).variables) c.args.scratch.now.values)) base)
    ∙ next_numbers p c.args.front.now c.keeps_sound.ensures.sound s c.requires.standing c.args.client c.args.scratch.now.values left c.requires.client c.told-scratch)) in
    λ i. record { begun = counts i; numbers = numbers i }
