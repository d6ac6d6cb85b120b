-- With the worker of a scope: the workers before it have worked, and so has it; or all of them are as they were. The
-- starter was asked for it first, and then for the others.
use Rattle.std.proofs.Common.{◌≡◌, ◌+◌, None, vec_len, vec_capacity, arith, rules}
use Rattle.std.specs.Prelude.{IfErr, IsErr}
use Rattle.qs_run.proofs.Names.{inside_of, HasFollowed}
use Rattle.qs_run.proofs.StartAnswers.{asked_one_more, refused_here}
use Rattle.qs_run.proofs.StartedGroups.{none_ran, one_more}
use Rattle.qs_run.proofs.start.group.+fn-start_group-scope+start_group.Goals as goal

pub scope-returns-in-Ok : goal.scope-returns-in-Ok
scope-returns-in-Ok g t c =
    let ready = c.captures.ready in
    let end = c.join.result in
    let followed : HasFollowed g.V.Becomes.becomes (g.T.Decided.go end.1) c.captures.worker end.0 = search rules in
    let rest = c.start_group-rest.ensures in
    let more = one_more g.V.Becomes.becomes ready.items c.captures.worker _ (vec_len ready) (vec_capacity c.captures.room) (vec_capacity ready) c.start_group-rest.result end.0 c.with_worker.result c.with_worker.ensures.with followed rest.worked rest.kept in
    let asked = asked_one_more g.S.Starter.answers c.captures.number (vec_len ready) (vec_len ready + 1) _ _ _ _ _ (omega arith) c.if-not-may_start.false c.may_start.ensures.answered rest.inside.2 in
    record { worked = more.0; kept = more.1; inside = (rest.inside.0, rest.inside.1, asked, rw more.2 rest.inside.3) }

pub scope-returns-in-Err-spawn_with : goal.scope-returns-in-Err-spawn_with
scope-returns-in-Err-spawn_with g t c =
    let ready = c.captures.ready in
    let end = c.spawn_with-in-Err-spawn_with.result in
    let followed : HasFollowed g.V.Becomes.becomes (g.T.Decided.go end.1) c.captures.worker end.0 = search rules in
    let rest = c.group_of-in-Err-spawn_with in
    let none : IsErr (inside_of rest.result) = search rules in
    let same : IfErr rest.result (λ r. (r.workers.items ≡ ready.items) × (vec_capacity r.workers ≡ vec_capacity ready)) = search rules in
    let more = one_more g.V.Becomes.becomes ready.items c.captures.worker _ (vec_len ready) (vec_capacity c.captures.room) (vec_capacity ready) rest.result end.0 c.with_worker-in-Err-spawn_with.result c.with_worker-in-Err-spawn_with.ensures.with followed (none_ran _ rest.result none) same in
    let refused = refused_here g.S.Starter.answers c.captures.number (vec_len ready + 1) _ _ _ c.may_start.ensures.answered (omega arith) in
    record { worked = more.0; kept = more.1; inside = (_, None, refused, rw more.2 rw rest.ensures.inside c.inside-in-Err-spawn_with.ensures) }
