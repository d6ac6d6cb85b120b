use Rattle.std.proofs.Common.{◌≡◌, ◌++◌, ◌∷◌, [], ℕ, List, true, false, ap, refl, sym, subst, ◌∙◌, length, map, arith}
use Rattle.qs_played.proofs.Names.{append-nil, range_with_len, ProgramShape, HasStep}
use Rattle.qs_played.specs.declared.schedule.actor.Actor.{Actor}
use Rattle.qs_played.specs.declared.schedule.actor.Actor.TheVariants as actors
use Rattle.qs_core_laws.proofs.Names.{row_more, step_in_front, core_step}
use Rattle.qs_core.specs.state.CoreState.{CoreState, codes_of, core_of}
use Rattle.qs_core.specs.CoreOrders.{CoreGoes}
use Rattle.qs_core.proofs.CoreGoing.{goes_more, goes_none, has_stepped}
use Rattle.qs_core.proofs.optimised.Core.round.Goals.{then-step_client, else-step_client, then-step_handler, else-step_handler}
use Rattle.qs_core.proofs.optimised.Core.round.Goals as goal

-- some actors have a step, from the state in which a round begins
abbrev HasOne : CoreState → List Actor → Type 0
HasOne s xs = HasStep (core_step (codes_of s) s.size) xs (core_of s)

-- the first clients, and handlers
abbrev clients_to : ℕ → List Actor
clients_to n = map actors.Client (range_with_len 0 n)

abbrev handlers_to : ℕ → List Actor
handlers_to n = map actors.Handler (range_with_len 0 n)

pub loop-client-init : goal.loop-client-init
loop-client-init c = record { goes = goes_none c.args.self.now; moved = λ so. cc; still = λ no. refl }

pub step_client-requires : goal.step_client-requires
step_client-requires c =
    omega (
      arith,
      c.loop-client-test.true,
      c.clients-clients.ensures.value,
      ap (λ (q : ProgramShape). length q.clients) c.program-program.ensures.value,
      ap (λ (s : CoreState). length s.program.clients) c.self.view_is,
      ap (λ (q : ProgramShape). length q.clients) c.loop-client.invariant.goes.program,
    )

pub step_handler-requires : goal.step_handler-requires
step_handler-requires c =
    omega (
      arith,
      c.loop-handler-test.true,
      c.objects-handlers.ensures.value,
      ap (λ (q : ProgramShape). length q.objects) c.program-program.ensures.value,
      ap (λ (s : CoreState). length s.program.objects) c.self.view_is,
      ap (λ (q : ProgramShape). length q.objects) c.loop-handler.invariant.goes.program,
    )

pub loop-client-preserved : goal.loop-client-preserved
loop-client-preserved c =
    let s = c.args.self.now in
    let it = c.step_client in
    let n = c.loop-client.client in
    let a = actors.Client n in
    let more = sym (row_more [] (λ n. actors.Client n) n) in
    let so_far = c.loop-client.invariant in
    record {
      goes = subst (λ xs. CoreGoes s xs it.new.self) more
          (goes_more s c.loop-client.self it.new.self (clients_to n) a it.result so_far.goes it.ensures.steps it.ensures.none it.ensures.unchanged);
      moved = λ so. subst (HasOne s) more (elim c.if-step_client.branch [
        | then-step_client w ↦ has_stepped s c.loop-client.self it.new.self (clients_to n) a it.result so_far.goes it.ensures.steps w.if-step_client.true
        | else-step_client w ↦ step_in_front (core_step (codes_of s) s.size) (clients_to n) (a ∷ []) (core_of s) (so_far.moved (sym w.stepped-is ∙ so))
      ]);
      still = λ none. elim c.if-step_client.branch [
        | then-step_client w ↦ (let e : true ≡ false = sym w.stepped-is ∙ none in cc)
        | else-step_client w ↦ it.ensures.unchanged w.if-step_client.false ∙ so_far.still (sym w.stepped-is ∙ none)
      ];
    }

pub loop-handler-init : goal.loop-handler-init
loop-handler-init c =
    let s = c.args.self.now in
    let all : c.loop-client.client ≡ length s.program.clients =
    omega (arith, c.loop-client.auto.client-end, c.loop-client-test.false, c.clients-clients.ensures.value, ap (λ (q : ProgramShape). length q.clients) c.program-program.ensures.value, ap (λ (s : CoreState). length s.program.clients) c.self.view_is) in
    let same : clients_to c.loop-client.client ≡ clients_to (length s.program.clients) ++ [] = ap clients_to all ∙ sym (append-nil (clients_to (length s.program.clients))) in
    record {
      goes = subst (λ xs. CoreGoes s xs c.loop-client.self) same c.loop-client.invariant.goes;
      moved = λ so. subst (HasOne s) same (c.loop-client.invariant.moved so);
      still = c.loop-client.invariant.still;
    }

pub loop-handler-preserved : goal.loop-handler-preserved
loop-handler-preserved c =
    let s = c.args.self.now in
    let it = c.step_handler in
    let n = c.loop-handler.handler in
    let a = actors.Handler n in
    let clients = clients_to (length s.program.clients) in
    let more = sym (row_more clients (λ n. actors.Handler n) n) in
    let so_far = c.loop-handler.invariant in
    record {
      goes = subst (λ xs. CoreGoes s xs it.new.self) more
          (goes_more s c.loop-handler.self it.new.self (clients ++ handlers_to n) a it.result so_far.goes it.ensures.steps it.ensures.none it.ensures.unchanged);
      moved = λ so. subst (HasOne s) more (elim c.if-step_handler.branch [
        | then-step_handler w ↦ has_stepped s c.loop-handler.self it.new.self (clients ++ handlers_to n) a it.result so_far.goes it.ensures.steps w.if-step_handler.true
        | else-step_handler w ↦ step_in_front (core_step (codes_of s) s.size) (clients ++ handlers_to n) (a ∷ []) (core_of s) (so_far.moved (sym w.stepped-is ∙ so))
      ]);
      still = λ none. elim c.if-step_handler.branch [
        | then-step_handler w ↦ (let e : true ≡ false = sym w.stepped-is ∙ none in cc)
        | else-step_handler w ↦ it.ensures.unchanged w.if-step_handler.false ∙ so_far.still (sym w.stepped-is ∙ none)
      ];
    }

pub returns : goal.returns
returns c =
    let s = c.args.self.now in
    let handlers : c.loop-handler.handler ≡ length s.program.objects =
    omega (arith, c.loop-handler.auto.handler-end, c.loop-handler-test.false, c.objects-handlers.ensures.value, ap (λ (q : ProgramShape). length q.objects) c.program-program.ensures.value, ap (λ (s : CoreState). length s.program.objects) c.self.view_is) in
    let same = ap (λ n. clients_to (length s.program.clients) ++ handlers_to n) handlers in
    record {
      goes = subst (λ xs. CoreGoes s xs c.loop-handler.self) same c.loop-handler.invariant.goes;
      stepped = λ so. subst (HasOne s) same (c.loop-handler.invariant.moved so);
      unchanged = c.loop-handler.invariant.still;
    }
