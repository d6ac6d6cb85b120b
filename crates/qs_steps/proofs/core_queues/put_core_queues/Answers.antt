use Rattle.std.proofs.Common.{ap, sym, ◌∙◌}
use Rattle.qs_steps.proofs.Names.{client_of, codes_of, core_of, handler_in, is_finished, is_silent, queues_by}
use Rattle.qs_steps.proofs.Queues.{on_ok, text_if_silent, text_if_told}
use Rattle.qs_steps.proofs.core_queues.put_core_queues.Goals as goal

pub returns-then-says_nothing-clause-ok : goal.returns-then-says_nothing-clause-ok
returns-then-says_nothing-clause-ok c =
    let f = c.args.form in
    let p = c.args.program.now in
    let s = c.args.core.now in
    let told = c.says_nothing.ensures.silent ∙ ap (is_silent f) (c.is_finished.ensures.value ∙ ap (λ q. is_finished q (core_of s)) c.requires.own) in
    text_if_silent (is_silent f (is_finished p (core_of s))) (queues_by f p (handler_in f p (core_of s)) (client_of f p (codes_of s) s.size (core_of s))) c.args.out.now.items
    (sym told ∙ c.if-says_nothing.true)

pub returns-clause-ok : goal.returns-clause-ok
returns-clause-ok c =
    let f = c.args.form in
    let p = c.args.program.now in
    let s = c.args.core.now in
    let told = c.says_nothing.ensures.silent ∙ ap (is_silent f) (c.is_finished.ensures.value ∙ ap (λ q. is_finished q (core_of s)) c.requires.own) in
    on_ok c.put_all_queues.result c.put_all_queues.ensures.ok (λ last. text_if_told (is_silent f (is_finished p (core_of s)))
    (queues_by f p (handler_in f p (core_of s)) (client_of f p (codes_of s) s.size (core_of s))) c.args.out.now.items _ (sym told ∙ c.if-says_nothing.false) last)
