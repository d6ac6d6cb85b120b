-- Whatever the replies are, a block makes at most as many requests on an object as its load says. The proofs that
-- traces, queues and journals have enough room stand on it, since their rooms are made from the loads. It goes by
-- induction on the statements, and for a repeat by induction on its turns.
use Rattle.std.proofs.Common.{ℕ, zero, suc, ◌+◌, ◌*◌, ◌-◌, ◌≤◌, max, Bool, true, false, if◌then◌else◌, slice_set, arith}
use Rattle.qs_meaning.proofs.Common.{again, assign, choose, command, end, expr_value, leave, load_of, Locals, query, request_of, Statements, test_value}
use Rattle.qs_meaning.specs.audit.Interaction.{Interaction, Done, Call, Query, Next, meaning, tree_of}
use Rattle.qs_meaning.specs.Interaction.{turns}
use Rattle.qs_meaning.specs.Paths.{counts, Within, RequestsWithinLoad}

more : (h : ℕ) (t : Interaction) (n m : ℕ) → Within h t n → n ≤ m → Within h t m
more h (Done l) n m w le = tt
more h (Call r next) n m w le = (omega (arith, w.0), more h next (n - counts h r) (m - counts h r) w.1 (omega arith))
more h (Query r next) n m w le = (omega (arith, w.0), λ v. more h (next v) (n - counts h r) (m - counts h r) (w.1 v) (omega arith))

either : (h n : ℕ) (b : Bool) (t u : Interaction) → Within h t n → Within h u n → Within h (if b then t else u) n
either h n true t u w v = w
either h n false t u w v = v

module _ (h : ℕ) where
  turns_within : (k load n : ℕ) (body : Next → Next) (next : Next) → ((m : ℕ) (f : Next) → n ≤ m → ((l : Locals) → Within h (f l) m) → (l : Locals) → Within h (body f l) (load + m)) → ((l : Locals) → Within h (next l) n) → (l : Locals) → Within h (turns k body next l) (k * load + n)
  turns_within zero load n body next one later l = more h (next l) n (zero * load + n) (later l) (omega arith)
  turns_within (suc k) load n body next one later l =
      more h (body (turns k body next) l) (load + (k * load + n)) (suc k * load + n)
      (one (k * load + n) (turns k body next) (omega arith) (turns_within k load n body next one later) l)
      (omega arith)

  -- before what comes next, and what comes after the innermost repeat
  meaning_within : (body : Statements) (n : ℕ) (next leaves : Next) → ((l : Locals) → Within h (next l) n) → ((l : Locals) → Within h (leaves l) n) → (l : Locals) → Within h (meaning body next leaves l) (load_of body h + n)
  meaning_within end n next leaves a b l = more h (next l) n (0 + n) (a l) (omega arith)
  meaning_within (command c rest) n next leaves a b l =
      let w = meaning_within rest n next leaves a b l in
      (omega arith, more h (meaning rest next leaves l) (load_of rest h + n) ((counts h (request_of l c) + load_of rest h + n) - counts h (request_of l c)) w (omega arith))
  meaning_within (query x c rest) n next leaves a b l =
      (omega arith, λ v. more h (meaning rest next leaves (slice_set l x v)) (load_of rest h + n) ((counts h (request_of l c) + load_of rest h + n) - counts h (request_of l c)) (meaning_within rest n next leaves a b (slice_set l x v)) (omega arith))
  meaning_within (assign x e rest) n next leaves a b l = meaning_within rest n next leaves a b (slice_set l x (expr_value l e))
  meaning_within (choose t has_else first other rest) n next leaves a b l =
      let later : Next = meaning rest next leaves in
      let m : ℕ = load_of rest h + n in
      let after : (l : Locals) → Within h (later l) m = meaning_within rest n next leaves a b in
      let out : (l : Locals) → Within h (leaves l) m = λ l. more h (leaves l) n m (b l) (omega arith) in
      let whole : ℕ = max (load_of first h) (load_of other h) + load_of rest h + n in
      either h whole (test_value l t) (meaning first later leaves l) (meaning other later leaves l)
      (more h (meaning first later leaves l) (load_of first h + m) whole (meaning_within first m later leaves after out l) (omega arith))
      (more h (meaning other later leaves l) (load_of other h + m) whole (meaning_within other m later leaves after out l) (omega arith))
  meaning_within (again k body rest) n next leaves a b l =
      let later : Next = meaning rest next leaves in
      let m : ℕ = load_of rest h + n in
      let after : (l : Locals) → Within h (later l) m = meaning_within rest n next leaves a b in
      more h (turns k (λ turn. meaning body turn later) later l) (k * load_of body h + m) (k * load_of body h + load_of rest h + n)
      (turns_within k (load_of body h) m (λ turn. meaning body turn later) later
      (λ p f le w. meaning_within body p f later w (λ l. more h (later l) m p (after l) le))
      after l)
      (omega arith)
  meaning_within (leave rest) n next leaves a b l = more h (leaves l) n (load_of rest h + n) (b l) (omega arith)

pub requests_within : RequestsWithinLoad
requests_within body l h = more h (tree_of body l) (load_of body h + 0) (load_of body h) (meaning_within h body 0 Done Done (λ l. tt) (λ l. tt) l) (omega arith)
