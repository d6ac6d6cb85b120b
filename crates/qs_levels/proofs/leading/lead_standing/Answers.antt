use Rattle.qs_levels.proofs.Common.{◌≡◌, ◌<◌, ◌+◌, ◌≤◌, Err, ap, arith, length, subst, suc, sym, true, false, true≢false, ◌∙◌, drafted, err_from_is_err_and, in_set, Limit, out_of_set, AreEven, rules}
use Rattle.qs_levels.proofs.Common.{AreKnown, IsLedOn, IsLedUpTo, tabled, is_taken}
use Rattle.qs_levels.proofs.NextLevels.{taken_goes}
use Rattle.qs_levels.proofs.leading.lead_standing.Goals as goal
use Rattle.qs_levels.proofs.leading.lead_standing.Goals.{then-source-client-eq1+in_ok-lead_client, else-source-client-eq1}

pub lead_client-requires-clause-goes : goal.lead_client-requires-clause-goes
lead_client-requires-clause-goes c = search (rules, in_set, taken_goes)

pub returns-in_err-lead_client-clause-limit : goal.returns-in_err-lead_client-clause-limit
returns-in_err-lead_client-clause-limit c = λ is.
    let p = err_from_is_err_and c.from_residual-in_err-lead_client.result c.from_residual-in_err-lead_client.ensures.1 in
    let more = c.in_err-lead_client.ensures.limit (cc (p.1, p.2)) in
    let taken : is_taken c.args.step.now.search.program.now c.args.share.number c.args.share.count c.args.source.now.standing.now c.loop-client.client ≡ true = sym (c.requires.taken c.loop-client.client (let e = c.clients-client-end.ensures.value in let l = c.loop-client-test.true in omega (arith, e, l))) ∙ in_set c.args.source.now.taken c.loop-client.client c.if-source-client-eq1.true in
    (suc c.loop-client.client, more.0, (tabled c.loop-client.table, c.loop-client.invariant.led, (λ e. more.1), (λ off. absurd (true≢false (sym taken ∙ off)))), more.2)

pub loop-client-preserved : goal.loop-client-preserved
loop-client-preserved c =
    let p = c.args.step.now.search.program.now in
    let number = c.args.share.number in
    let count = c.args.share.count in
    let less : c.loop-client.client < length p.clients = (let e = c.clients-client-end.ensures.value in let l = c.loop-client-test.true in omega (arith, e, l)) in
    let now : suc c.loop-client.client ≡ c.loop-client.client + 1 = omega arith in
    elim c.if-source-client-eq1.branch [
      | then-source-client-eq1+in_ok-lead_client w ↦
          let taken : is_taken p number count c.args.source.now.standing.now c.loop-client.client ≡ true = sym (c.requires.taken c.loop-client.client less) ∙ in_set c.args.source.now.taken c.loop-client.client w.if-source-client-eq1.true in
          record {
            led = subst (λ k. IsLedUpTo p c.args.step.now.search.front.now number count c.args.source.now.standing.now c.args.source.now.place k (tabled c.args.table.now) (tabled c.if-source-client-eq1.table)) now (
              tabled c.loop-client.table,
              c.loop-client.invariant.led,
              (λ e. subst (IsLedOn p c.args.step.now.search.front.now c.args.source.now.standing.now (record { source = c.args.source.now.place; client = c.loop-client.client }) (tabled c.loop-client.table)) (ap tabled (sym w.table-is)) w.in_ok-lead_client.ensures.led),
              (λ off. absurd (true≢false (sym taken ∙ off))),
            );
            base = ap (λ s. drafted s.base) w.scratch-is ∙ ap drafted w.lead_client.ensures.base ∙ c.loop-client.invariant.base;
            small = subst (λ t. length (tabled t).rows ≤ c.args.step.now.room) (sym w.table-is) w.in_ok-lead_client.ensures.small;
            known = subst (λ t. AreKnown p (tabled t).found) (sym w.table-is) w.in_ok-lead_client.ensures.known;
            even = subst AreEven (sym w.table-is) w.in_ok-lead_client.ensures.even;
          }
      | else-source-client-eq1 w ↦
          let stays : is_taken p number count c.args.source.now.standing.now c.loop-client.client ≡ false = sym (c.requires.taken c.loop-client.client less) ∙ out_of_set c.args.source.now.taken c.loop-client.client w.if-source-client-eq1.false in
          record {
            led = subst (λ k. IsLedUpTo p c.args.step.now.search.front.now number count c.args.source.now.standing.now c.args.source.now.place k (tabled c.args.table.now) (tabled c.if-source-client-eq1.table)) now (
              tabled c.loop-client.table,
              c.loop-client.invariant.led,
              (λ on. absurd (true≢false (sym on ∙ stays))),
              (λ e. ap tabled w.table-is),
            );
            base = ap (λ s. drafted s.base) w.scratch-is ∙ c.loop-client.invariant.base;
            small = subst (λ t. length (tabled t).rows ≤ c.args.step.now.room) (sym w.table-is) c.loop-client.invariant.small;
            known = subst (λ t. AreKnown p (tabled t).found) (sym w.table-is) c.loop-client.invariant.known;
            even = subst AreEven (sym w.table-is) c.loop-client.invariant.even;
          }
    ]
