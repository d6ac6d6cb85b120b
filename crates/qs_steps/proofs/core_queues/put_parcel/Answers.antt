use Rattle.std.proofs.Common.{◌++◌, ap, arith, get_or, length, sym, ◌∙◌}
use Rattle.qs_steps.proofs.Names.{core_of, parcel_in}
use Rattle.qs_steps.proofs.CoreQueuesText.{chunk_is, parcel_is}
use Rattle.qs_steps.proofs.Queues.{on_ok}
use Rattle.qs_steps.proofs.core_queues.put_parcel.Goals as goal

pub parcel-requires : goal.parcel-requires
parcel-requires c = omega (arith, c.requires.place, ap length c.lane_of.ensures.lane.down)

pub returns-in-Work-clause-ok : goal.returns-in-Work-clause-ok
returns-in-Work-clause-ok c =
    let down = (core_of c.args.core.now).down c.args.client c.args.handler in
    let x = c.parcel.result.now in
    let is = c.parcel.ensures.value ∙ ap (λ ps. get_or ps c.args.place x) c.lane_of.ensures.lane.down in
    on_ok c.put_chunk_at.result c.put_chunk_at.ensures.ok (λ text d. text ∙ ap (λ ys. c.args.out.now.items ++ ys) (chunk_is c.args.form c.args.program.now down c.args.place c.requires.place x is _ c.in-Work.is d))

pub returns-in-Sync-clause-ok : goal.returns-in-Sync-clause-ok
returns-in-Sync-clause-ok c =
    let p = c.args.program.now in
    let down = (core_of c.args.core.now).down c.args.client c.args.handler in
    let x = c.parcel.result.now in
    let is = c.parcel.ensures.value ∙ ap (λ ps. get_or ps c.args.place x) c.lane_of.ensures.lane.down in
    on_ok c.put_parcel_word.result c.put_parcel_word.ensures.ok (λ text d. text ∙ ap (λ ys. c.args.out.now.items ++ ys) (ap (parcel_in c.args.form p) (sym c.in-Sync.is) ∙ parcel_is c.args.form p down c.args.place c.requires.place x is d))

pub returns-in-Home-clause-ok : goal.returns-in-Home-clause-ok
returns-in-Home-clause-ok c =
    let p = c.args.program.now in
    let down = (core_of c.args.core.now).down c.args.client c.args.handler in
    let x = c.parcel.result.now in
    let is = c.parcel.ensures.value ∙ ap (λ ps. get_or ps c.args.place x) c.lane_of.ensures.lane.down in
    on_ok c.put_parcel_word-in-Home.result c.put_parcel_word-in-Home.ensures.ok (λ text d. text ∙ ap (λ ys. c.args.out.now.items ++ ys) (ap (parcel_in c.args.form p) (sym c.in-Home.is) ∙ parcel_is c.args.form p down c.args.place c.requires.place x is d))

pub returns-in-End-clause-ok : goal.returns-in-End-clause-ok
returns-in-End-clause-ok c =
    let p = c.args.program.now in
    let down = (core_of c.args.core.now).down c.args.client c.args.handler in
    let x = c.parcel.result.now in
    let is = c.parcel.ensures.value ∙ ap (λ ps. get_or ps c.args.place x) c.lane_of.ensures.lane.down in
    on_ok c.put_parcel_word-in-End.result c.put_parcel_word-in-End.ensures.ok (λ text d. text ∙ ap (λ ys. c.args.out.now.items ++ ys) (ap (parcel_in c.args.form p) (sym c.in-End.is) ∙ parcel_is c.args.form p down c.args.place c.requires.place x is d))
