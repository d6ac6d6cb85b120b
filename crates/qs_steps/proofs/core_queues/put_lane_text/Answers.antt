use Rattle.std.proofs.Common.{◌++◌, ap, append-nil, codes, length, nat_eq, sym, ◌∙◌}
use Rattle.qs_steps.proofs.Names.{client_at, core_of, parcels_in}
use Rattle.qs_steps.specs.declared.wanted.Form.TheVariants as form
use Rattle.qs_steps.proofs.CoreQueuesText.{no_lane, some_lane}
use Rattle.qs_steps.proofs.Queues.{joined, on_ok}
use Rattle.qs_steps.proofs.core_queues.put_lane_text.Goals as goal

pub returns-then-is_empty-clause-ok : goal.returns-then-is_empty-clause-ok
returns-then-is_empty-clause-ok c =
    let out = c.args.out.now.items in
    let down = (core_of c.args.core.now).down c.args.client c.args.handler in
    let value = c.is_empty.ensures.value ∙ ap (λ ps. nat_eq (length ps) 0) c.lane_of.ensures.lane.down in
    sym (ap (λ ys. out ++ ys) (no_lane c.args.program.now c.args.client down c.is_empty.result value c.if-is_empty.true) ∙ append-nil out)

pub returns-clause-ok : goal.returns-clause-ok
returns-clause-ok c =
    let p = c.args.program.now in
    let n = c.args.client in
    let out = c.args.out.now.items in
    let down = (core_of c.args.core.now).down n c.args.handler in
    let value = c.is_empty.ensures.value ∙ ap (λ ps. nat_eq (length ps) 0) c.lane_of.ensures.lane.down in
    let head = codes "lane " ++ (client_at p n).name in
    let lines = parcels_in form.Text p down in
    on_ok c.put.result c.put.ensures.ok (λ last. joined out _ _ (head ++ lines) (codes "\n") (joined out _ _ head lines c.in_ok-put_client.ensures.ok c.in_ok-put_parcels.ensures.ok) last
    ∙ ap (λ ys. out ++ ys) (sym (some_lane p n down c.is_empty.result value c.if-is_empty.false)))
