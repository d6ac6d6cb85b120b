use Rattle.std.proofs.Common.{◌≡◌, ◌∙◌, ◌++◌, [], List, ap, refl, subst, sym, map, length, ℕ, ◌+◌, arith, rules}
use Rattle.qs_played.proofs.Names.{append-nil, range_with_len, ProgramShape, or_parts, HasStep, or_stay}
use Rattle.qs_played.specs.declared.schedule.actor.Actor.{Actor}
use Rattle.qs_played.specs.declared.schedule.actor.Actor.TheVariants as actors
use Rattle.qs_plain_laws.proofs.Names.{step, plays}
use Rattle.qs_played.proofs.Playing.{row_more}
use Rattle.qs_plain.specs.Rules.{RulesState, plain_of}
use Rattle.qs_plain.proofs.Playing.{has_stepped, plays-append, plays-more, stepped}
use Rattle.qs_plain.proofs.machine.Machine.round.Goals as goal

one_more : (start old new : RulesState) (f : ℕ → Actor) (n : ℕ) → old.program ≡ start.program
    → plain_of old ≡ plays start.program (map f (range_with_len 0 n)) (plain_of start)
    → plain_of new ≡ or_stay (plain_of old) (step old.program (plain_of old) (f n))
    → plain_of new ≡ plays start.program (map f (range_with_len 0 (n + 1))) (plain_of start)
one_more start old new f n same before moved = search (rules, plays-more)

-- the first clients, and handlers
abbrev clients_to : ℕ → List Actor
clients_to n = map actors.Client (range_with_len 0 n)

abbrev handlers_to : ℕ → List Actor
handlers_to n = map actors.Handler (range_with_len 0 n)

pub loop-client-preserved : goal.loop-client-preserved
loop-client-preserved c =
    let it = c.step-stepped in
    let next = stepped c.loop-client.self (actors.Client c.loop-client.client) it.result it.new.self it.ensures.steps it.ensures.none it.ensures.unchanged in
    record {
      program = next.1 ∙ c.loop-client.invariant.program;
      value = one_more c.args.self.now c.loop-client.self it.new.self (λ n. actors.Client n) c.loop-client.client c.loop-client.invariant.program c.loop-client.invariant.value next.0;
      moved = λ so. subst (λ xs. HasStep (step c.args.self.now.program) xs (plain_of c.args.self.now)) (sym (row_more [] (λ n. actors.Client n) c.loop-client.client))
          (has_stepped c.args.self.now.program (clients_to c.loop-client.client) (actors.Client c.loop-client.client) c.args.self.now c.loop-client.self it.new.self c.loop-client.stepped it.result
          c.loop-client.invariant.program c.loop-client.invariant.value it.ensures.steps c.loop-client.invariant.moved so);
      still = λ none. it.ensures.unchanged (or_parts c.loop-client.stepped it.result none).1 ∙ c.loop-client.invariant.still (or_parts c.loop-client.stepped it.result none).0;
    }

pub loop-handler-init : goal.loop-handler-init
loop-handler-init c =
    let s = c.args.self.now in
    let all : c.loop-client.client ≡ length s.program.clients =
    omega (arith, c.loop-client.auto.client-end, c.loop-client-test.false, c.clients-client-end.ensures.value, ap (λ (r : RulesState). length r.program.clients) c.self.view_is) in
    let same : clients_to c.loop-client.client ≡ clients_to (length s.program.clients) ++ [] = ap clients_to all ∙ sym (append-nil (clients_to (length s.program.clients))) in
    record {
      program = refl;
      value = refl;
      moved = λ so. subst (λ xs. HasStep (step s.program) xs (plain_of s)) same (c.loop-client.invariant.moved so);
      still = c.loop-client.invariant.still;
    }

pub loop-handler-preserved : goal.loop-handler-preserved
loop-handler-preserved c =
    let it = c.step-stepped-in-loop-handler in
    let next = stepped c.loop-handler.self (actors.Handler c.loop-handler.handler) it.result it.new.self it.ensures.steps it.ensures.none it.ensures.unchanged in
    record {
      program = next.1 ∙ c.loop-handler.invariant.program;
      value = one_more c.loop-client.self c.loop-handler.self it.new.self (λ n. actors.Handler n) c.loop-handler.handler c.loop-handler.invariant.program c.loop-handler.invariant.value next.0;
      moved = λ so.
          let s = c.args.self.now in
          let clients = clients_to (length s.program.clients) in
          let handlers = handlers_to c.loop-handler.handler in
          let all : c.loop-client.client ≡ length s.program.clients =
          omega (arith, c.loop-client.auto.client-end, c.loop-client-test.false, c.clients-client-end.ensures.value, ap (λ (r : RulesState). length r.program.clients) c.self.view_is) in
          let first : plain_of c.loop-client.self ≡ plays s.program clients (plain_of s) = c.loop-client.invariant.value ∙ ap (λ n. plays s.program (clients_to n) (plain_of s)) all in
          let there : plain_of c.loop-handler.self ≡ plays s.program (clients ++ handlers) (plain_of s) =
          c.loop-handler.invariant.value ∙ (λ k. plays (c.loop-client.invariant.program k) handlers (first k)) ∙ sym (plays-append s.program clients handlers (plain_of s)) in
          subst (λ xs. HasStep (step s.program) xs (plain_of s)) (sym (row_more clients (λ n. actors.Handler n) c.loop-handler.handler))
          (has_stepped s.program (clients ++ handlers) (actors.Handler c.loop-handler.handler) s c.loop-handler.self it.new.self c.loop-handler.stepped it.result
          (c.loop-handler.invariant.program ∙ c.loop-client.invariant.program) there it.ensures.steps c.loop-handler.invariant.moved so);
      still = λ none. it.ensures.unchanged (or_parts c.loop-handler.stepped it.result none).1 ∙ c.loop-handler.invariant.still (or_parts c.loop-handler.stepped it.result none).0;
    }

pub returns-clause-round : goal.returns-clause-round
returns-clause-round c =
    let p = c.args.self.now.program in
    let clients : c.loop-client.client ≡ length p.clients =
    omega (arith, c.loop-client.auto.client-end, c.loop-client-test.false, c.clients-client-end.ensures.value, ap (λ (r : RulesState). length r.program.clients) c.self.view_is) in
    let handlers : c.loop-handler.handler ≡ length p.objects =
    omega (arith, c.loop-handler.auto.handler-end, c.loop-handler-test.false, c.objects-handler-end.ensures.value, ap (λ (r : RulesState). length r.program.objects) c.self-2.view_is, ap (λ (q : ProgramShape). length q.objects) c.loop-client.invariant.program) in
    c.loop-handler.invariant.value
    ∙ (λ k. plays (c.loop-client.invariant.program k) (map (λ n. actors.Handler n) (range_with_len 0 (handlers k))) (c.loop-client.invariant.value k))
    ∙ ap (λ n. plays p (map (λ n. actors.Handler n) (range_with_len 0 (length p.objects))) (plays p (map (λ n. actors.Client n) (range_with_len 0 n)) (plain_of c.args.self.now))) clients
    ∙ sym (plays-append p (map (λ n. actors.Client n) (range_with_len 0 (length p.clients))) (map (λ n. actors.Handler n) (range_with_len 0 (length p.objects))) (plain_of c.args.self.now))

pub returns-clause-stepped : goal.returns-clause-stepped
returns-clause-stepped c = λ so.
    let s = c.args.self.now in
    let handlers : c.loop-handler.handler ≡ length s.program.objects =
    omega (arith, c.loop-handler.auto.handler-end, c.loop-handler-test.false, c.objects-handler-end.ensures.value, ap (λ (r : RulesState). length r.program.objects) c.self-2.view_is, ap (λ (q : ProgramShape). length q.objects) c.loop-client.invariant.program) in
    subst (λ n. HasStep (step s.program) (clients_to (length s.program.clients) ++ handlers_to n) (plain_of s)) handlers (c.loop-handler.invariant.moved so)
