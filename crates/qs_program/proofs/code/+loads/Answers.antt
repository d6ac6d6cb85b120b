use Rattle.std.proofs.Common.{◌≡◌, ◌+◌, ◌*◌, ◌∙◌, ap, sym, drop, min, slice_index_or, arith}
use Rattle.qs_program.specs.audit.Limits.{most_requests}
use Rattle.qs_program.specs.audit.Loads.{load_of, weight_of}
use Rattle.qs_program.specs.Views.{single, size_of, statements_of}
use Rattle.qs_program.proofs.Loads.{load_of_drop, weight_of_drop, add_capped, min_add, times_again}
use Rattle.qs_program.proofs.StatementLists.{size_at}
use Rattle.qs_program.proofs.code.+loads.Goals as goal

pub Body::add_loads-add_loads-requires : goal.Body::add_loads-add_loads-requires
Body::add_loads-add_loads-requires t c =
    let xs = c.deref-stmt-items.result.now in (
      omega (
        arith,
        size_at xs c.loop-stmt.stmt-index c.stmt-item.result c.loop-stmt-test.true,
        ap (λ s. size_of (single s)) c.stmt-item.is,
        ap (λ ys. size_of (statements_of ys)) c.deref-stmt-items.ensures.value,
        ap size_of c.self.view_is,
        c.decreases,
      ),
      (c.requires.turns, c.loop-stmt.invariant.small),
    )

pub Body::add_loads-loop-stmt-preserved : goal.Body::add_loads-loop-stmt-preserved
Body::add_loads-loop-stmt-preserved t c =
    let xs = c.deref-stmt-items.result.now in
    let i = c.loop-stmt.stmt-index in
    record {
      small = c.add_loads.ensures.small;
      light = omega (arith, c.min-weight.ensures);
      weights =
          omega (
            arith,
            c.min-weight.ensures,
            c.add_loads.ensures.weight,
            weight_of_drop xs i c.stmt-item.result c.loop-stmt-test.true,
            ap (λ s. weight_of (single s)) c.stmt-item.is,
            c.loop-stmt.invariant.weights,
          );
      whole = λ h within.
          let parts = load_of_drop xs i h c.stmt-item.result c.loop-stmt-test.true ∙ ap (λ s. load_of (single s) h + load_of (statements_of (drop (i + 1) xs)) h) (sym c.stmt-item.is) in
          ap (λ n. min (n + c.args.turns * load_of (statements_of (drop (i + 1) xs)) h) (most_requests + 1)) (c.add_loads.ensures.added h within)
          ∙ add_capped (slice_index_or c.loop-stmt.loads h 0) c.args.turns (load_of (single c.stmt-item.result) h) (load_of (statements_of (drop (i + 1) xs)) h) (load_of (statements_of (drop i xs)) h) (most_requests + 1) parts
          ∙ c.loop-stmt.invariant.whole h within;
    }

pub Stmt::add_loads-returns-in-Repeat-clause-added :
    goal.Stmt::add_loads-returns-in-Repeat-clause-added
Stmt::add_loads-returns-in-Repeat-clause-added t c h within =
    let top = most_requests + 1 in
    let old = slice_index_or c.args.loads.now h 0 in
    let inner = load_of c.in-Repeat.body h in
    let turns : c.min-all.result ≡ min (c.args.turns * c.in-Repeat.count) top = omega (arith, c.saturating_mul.ensures, c.min-all.ensures) in
    c.add_loads-weight.ensures.added h within
    ∙ ap (λ n. min (old + n * inner) top) turns
    ∙ min_add old (c.args.turns * c.in-Repeat.count) inner top
    ∙ ap (λ n. min (old + n) top) (times_again c.args.turns c.in-Repeat.count inner)
    ∙ ap (λ s. min (old + c.args.turns * load_of (single s) h) top) (sym c.in-Repeat.is)
