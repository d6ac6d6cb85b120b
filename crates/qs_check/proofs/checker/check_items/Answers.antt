use Rattle.std.proofs.Common.{ap, ◌∙◌, sym, ◌∷◌, [], ◌++◌, append-nil, refl, drop, ◌+◌}
use Rattle.std.proofs.lemmas.Result.{err_from_is_err_and}
use Rattle.qs_check.specs.audit.fault_places.Variables.{variables_of}
use Rattle.qs_check.proofs.Items.{item_fails, item_walked, lists_walked, forget}
use Rattle.qs_check.proofs.checker.check_items.Goals as goal
use Rattle.qs_check.proofs.checker.check_items.Goals.{in-Object+in_ok-check_object-in-Object, in-Client+in_ok-check_client-in-Client+in_ok-add_variables-in-Client, in-Template+in_ok-check_template-in-Template, in-Started+in_ok-check_started-in-Started}

pub returns-in_err-check_client-in-Client-clause-meets : goal.returns-in_err-check_client-in-Client-clause-meets
returns-in_err-check_client-in-Client-clause-meets c =
    let r = c.from_residual-in_err-check_client-in-Client in
    let p = err_from_is_err_and r.result r.ensures.1 in
    item_fails c.args.items.now c.loop-item.item-index c.item-item.result _ c.loop-item-test.true c.item-item.is c.in-Client.is c.args.scope.now c.loop-item.scope c.loop-item.invariant.walk
    r.result p.0 c.in_err-check_client-in-Client.field-0.0 _ p.1 p.2 c.in_err-check_client-in-Client.ensures.meets

pub returns-in_err-check_started-in-Started-clause-meets : goal.returns-in_err-check_started-in-Started-clause-meets
returns-in_err-check_started-in-Started-clause-meets c =
    let r = c.from_residual-in_err-check_started-in-Started in
    let p = err_from_is_err_and r.result r.ensures.1 in
    item_fails c.args.items.now c.loop-item.item-index c.item-item.result _ c.loop-item-test.true c.item-item.is c.in-Started.is c.args.scope.now c.loop-item.scope c.loop-item.invariant.walk
    r.result p.0 c.in_err-check_started-in-Started.field-0.0 _ p.1 p.2 c.in_err-check_started-in-Started.ensures.meets

pub loop-item-preserved : goal.loop-item-preserved
loop-item-preserved c =
    let xs = c.args.items.now in
    let i = c.loop-item.item-index in
    let item = c.item-item.result in
    let inside = c.loop-item-test.true in
    let here = c.item-item.is in
    let so_far = c.loop-item.invariant in
    let vs = c.loop-item.variables.items in
    elim c.match-item.branch [
      | in-Object+in_ok-check_object-in-Object w ↦ record {
        walk = rw w.scope-is (item_walked xs i item _ inside here w.in-Object.is c.args.scope.now c.loop-item.scope so_far.walk w.check_object.new.scope w.in_ok-check_object-in-Object.ensures.meets);
        lists = lists_walked xs i item _ inside here w.in-Object.is c.args.variables.now.items vs [] c.match-item.variables.items so_far.lists refl (ap (λ v. v.items) w.variables-is ∙ sym (append-nil vs));
      }
      | in-Client+in_ok-check_client-in-Client+in_ok-add_variables-in-Client w ↦
          let u = w.check_client.new.scope in
          let own = variables_of w.in-Client.client in
          let added = ap (λ v. v.items) w.variables-is ∙ w.in_ok-add_variables-in-Client.ensures.added ∙ ap (λ v. vs ++ v ∷ []) (w.end_client.ensures.variables ∙ w.in_ok-check_client-in-Client.ensures.variables) in
          record {
            walk = rw (w.scope-is, w.end_client.ensures.rest) (item_walked xs i item _ inside here w.in-Client.is c.args.scope.now c.loop-item.scope so_far.walk u w.in_ok-check_client-in-Client.ensures.meets ∙ forget (drop (i + 1) xs) u);
            lists = lists_walked xs i item _ inside here w.in-Client.is c.args.variables.now.items vs (own ∷ []) c.match-item.variables.items so_far.lists refl added;
          }
      | in-Template+in_ok-check_template-in-Template w ↦ record {
        walk = rw w.scope-is (item_walked xs i item _ inside here w.in-Template.is c.args.scope.now c.loop-item.scope so_far.walk w.check_template.new.scope w.in_ok-check_template-in-Template.ensures.meets);
        lists = lists_walked xs i item _ inside here w.in-Template.is c.args.variables.now.items vs [] c.match-item.variables.items so_far.lists refl (ap (λ v. v.items) w.variables-is ∙ sym (append-nil vs));
      }
      | in-Started+in_ok-check_started-in-Started w ↦ record {
        walk = rw w.scope-is (item_walked xs i item _ inside here w.in-Started.is c.args.scope.now c.loop-item.scope so_far.walk w.check_started.new.scope w.in_ok-check_started-in-Started.ensures.meets);
        lists = lists_walked xs i item _ inside here w.in-Started.is c.args.variables.now.items vs [] c.match-item.variables.items so_far.lists refl (ap (λ v. v.items) w.variables-is ∙ sym (append-nil vs));
      }
    ]
