use Rattle.qs_levels.proofs.Common.{rules, sendable, GivesFor, IfOk-at_ok}
use Rattle.qs_levels.proofs.Jobs.{accepts_parts, given_parts}
use Rattle.qs_levels.proofs.threads.+jobs.Goals as goal

pub join-done-requires-after_bounds : goal.join-done-requires-after_bounds
join-done-requires-after_bounds g t c κs within =
    let cut = c.in_ok-others.ensures in
    let both = accepts_parts g.F.Fn c.args.f.now _ _ _ 1 cut.items cut.tail c.requires.accepts in
    let low = both.0 in let high = both.1 in (
      (search rules, (λ a m. m, (λ a m. m, (λ a m. m, (λ a m. m, ((search sendable depth 20, search sendable depth 20, search sendable depth 20, search sendable depth 20, low), (search sendable depth 20, search sendable depth 20, search sendable depth 20, search sendable depth 20))))))),
      (search rules, (λ a m. m, (λ a m. m, (λ a m. m, (λ a m. m, ((search sendable depth 20, search sendable depth 20, search sendable depth 20, search sendable depth 20, high), (search sendable depth 20, search sendable depth 20, search sendable depth 20, search sendable depth 20))))))),
    )

pub returns : goal.returns
returns g t c =
    let f = c.args.f.now in let cut = c.in_ok-others.ensures in
    record {
      given = given_parts g.F.Fn f _ _ _ 1 _ _ _ cut.items cut.tail c.in_ok-append.ensures.items
          (IfOk-at_ok (λ v. GivesFor g.F.Fn f _ v.items) c.in_ok-all.was c.join-done.ensures.first)
          (IfOk-at_ok (λ v. GivesFor g.F.Fn f _ v.items) c.in_ok-rest.was c.join-done.ensures.second);
    }
