use Rattle.std.proofs.Common.{◌∙◌, ◌<◌, sym, ap, subst, slice_index_or, None}
use Rattle.std.proofs.lemmas.List.{get_or_default}
use Rattle.qs_run.proofs.client.client_lanes.send.Goals as goal

pub send_and_wake_handler-requires : goal.send_and_wake_handler-requires
send_and_wake_handler-requires g c =
    let inside = subst (λ n. c.args.handler < n) (sym c.told-lanes) c.requires.handler in
    record {
      follows = c.requires.follows c.in-Some.lane
          (get_or_default c.args.lanes.now c.args.handler None c.index-lanes-from.result inside
          ∙ ap (λ h. slice_index_or c.args.lanes.now h c.index-lanes-from.result) (sym c.from.ensures) ∙ c.in-Some.is);
    }
