use Rattle.std.proofs.Common.{◌++◌, ap, codes, length, ◌∙◌}
use Rattle.qs_steps.proofs.Names.{CoreState, client_of, codes_of, core_of, handler_in, numbered, only_json}
use Rattle.qs_steps.proofs.Queues.{joined, on_ok}
use Rattle.qs_steps.proofs.core_queues.put_all_queues.Goals as goal

pub put_clients-requires : goal.put_clients-requires
put_clients-requires c = record { own = ap (λ (x : CoreState). x.program) c.in_ok-put_handlers.ensures.same ∙ c.requires.own }

pub returns-clause-ok : goal.returns-clause-ok
returns-clause-ok c =
    let f = c.args.form in
    let p = c.args.program.now in
    let s = c.args.core.now in
    let out = c.args.out.now.items in
    let begin = only_json f (codes "{\"queues\":[") in
    let handlers = numbered f (handler_in f p (core_of s)) (length p.objects) in
    let middle = only_json f (codes "],\"clients\":[") in
    let clients = numbered f (client_of f p (codes_of s) s.size (core_of s)) (length p.clients) in
    let own = c.in_ok-put_clients.ensures.ok
    ∙ ap (λ (x : CoreState). c.put_json-2.new.out.items ++ numbered f (client_of f p (codes_of x) x.size (core_of x)) (length p.clients)) c.in_ok-put_handlers.ensures.same in
    let first = joined out _ _ begin handlers c.in_ok-put_json.ensures.ok c.in_ok-put_handlers.ensures.ok in
    let second = joined out _ _ (begin ++ handlers) middle first c.in_ok-put_json-2.ensures.ok in
    let third = joined out _ _ (begin ++ handlers ++ middle) clients second own in
    on_ok c.put_json-3.result c.put_json-3.ensures.ok (λ last. joined out _ _ (begin ++ handlers ++ middle ++ clients) (only_json f (codes "]}\n")) third last)
