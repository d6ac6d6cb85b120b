-- A block that is run alone by its statements makes the trace, the variables and the states that its interaction tree
-- makes. The serial run is defined by statements and the machines follow trees, so isolation stands on `trees_agree`.
-- It goes by induction on the statements, with one tree for what comes next and one for what follows a leave.
use Rattle.std.proofs.Common.{◌≡◌, ℕ, zero, suc, Bool, true, false, if◌then◌else◌, List, [], ◌∷◌, ◌++◌, refl, sym, ap, ◌∙◌, None, append_assoc, inl, inr}
use Rattle.qs_meaning.proofs.Common.{again, answer, append-nil, assign, cases_Bool, choose, command, end, Event, leave, Locals, query, request_of, Statements, test_value}
use Rattle.qs_meaning.specs.audit.Solo.{States, BlockResult, Ending, Runs, states_after, event, with_trace, then_run, left_none, turns_run, exec}
use Rattle.qs_meaning.specs.audit.Interaction.{Next, Done, meaning}
use Rattle.qs_meaning.specs.Interaction.{turns, after_event, run, TreesAgree}

noted_all : List Event → BlockResult → BlockResult
noted_all es o = record { trace = es ++ o.trace; locals = o.locals; states = o.states }

-- what follows an ending
finish : Ending → Next → Next → BlockResult
unfolding noted_all
finish o next leaves = noted_all o.trace (run (if o.left then leaves o.locals else next o.locals) o.states)

abbrev Means : Next → Runs → Next → Next → Type 0
Means tree runs next leaves = (l : Locals) (st : States) → run (tree l) st ≡ finish (runs l st) next leaves

noted_twice : (xs ys : List Event) (o : BlockResult) → noted_all (xs ++ ys) o ≡ noted_all xs (noted_all ys o)
unfolding noted_all
noted_twice xs ys o = λ i. record { trace = append_assoc xs ys o.trace i; locals = o.locals; states = o.states }

finish_more : (es : List Event) (o : Ending) (next leaves : Next) → finish (with_trace es o) next leaves ≡ noted_all es (finish o next leaves)
unfolding finish
finish_more es o next leaves = noted_twice es o.trace (run (if o.left then leaves o.locals else next o.locals) o.states)

-- one list after another
then_means : (o : Ending) (runs : Runs) (later next leaves : Next) → Means later runs next leaves
    → finish o later leaves ≡ finish (then_run o runs) next leaves
unfolding finish
then_means o runs later next leaves m = elim (cases_Bool o.left) [
  | inl e ↦ rw e refl
  | inr e ↦ rw e (ap (noted_all o.trace) (m o.locals o.states) ∙ sym (finish_more o.trace (runs o.locals o.states) next leaves))
]

-- one turn and the others
turn_case : (o : Ending) (n : ℕ) (runs : Runs) (tree later : Next) → Means tree (turns_run n runs) later later → (b : Bool) → o.left ≡ b
    → finish o tree later ≡ finish (if o.left then left_none o else with_trace o.trace (turns_run n runs o.locals o.states)) later later
unfolding finish
turn_case o n runs tree later m true e = rw e
turn_case o n runs tree later m false e =
    rw e (ap (noted_all o.trace) (m o.locals o.states) ∙ sym (finish_more o.trace (turns_run n runs o.locals o.states) later later))

turns_mean : (n : ℕ) (body : Next → Next) (runs : Runs) (later : Next) → ((turn : Next) → Means (body turn) runs turn later)
    → Means (turns n body later) (turns_run n runs) later later
unfolding finish noted_all
turns_mean zero body runs later m l st = refl
turns_mean (suc n) body runs later m l st =
    m (turns n body later) l st ∙ turn_case (runs l st) n runs (turns n body later) later (turns_mean n body runs later m) (runs l st).left refl

-- a repeat's ending is never a `leave`
not_left_case : (o : Ending) (n : ℕ) (runs : Runs) → ((l : Locals) (st : States) → (turns_run n runs l st).left ≡ false) → (b : Bool) → o.left ≡ b
    → (if o.left then left_none o else with_trace o.trace (turns_run n runs o.locals o.states)).left ≡ false
not_left_case o n runs h true e = rw e
not_left_case o n runs h false e = rw e (h o.locals o.states)

never_left : (n : ℕ) (runs : Runs) (l : Locals) (st : States) → (turns_run n runs l st).left ≡ false
never_left zero runs l st = refl
never_left (suc n) runs l st = not_left_case (runs l st) n runs (never_left n runs) (runs l st).left refl

not_left_any : (o : Ending) (next leaves other : Next) → o.left ≡ false → finish o next leaves ≡ finish o next other
unfolding finish
not_left_any o next leaves other e = rw e

if_case : (b : Bool) (tree1 tree2 : Next) (runs1 runs2 runs : Runs) (later next leaves : Next) (l : Locals) (st : States)
    → Means tree1 runs1 later leaves → Means tree2 runs2 later leaves → Means later runs next leaves
    → run (if b then tree1 l else tree2 l) st ≡ finish (then_run (if b then runs1 l st else runs2 l st) runs) next leaves
if_case true tree1 tree2 runs1 runs2 runs later next leaves l st m1 m2 m = m1 l st ∙ then_means (runs1 l st) runs later next leaves m
if_case false tree1 tree2 runs1 runs2 runs later next leaves l st m1 m2 m = m2 l st ∙ then_means (runs2 l st) runs later next leaves m

means : (b : Statements) (next leaves : Next) → Means (meaning b next leaves) (exec b) next leaves
unfolding finish noted_all
means end next leaves l st = refl
means (command c rest) next leaves l st =
    let r = request_of l c in
    ap (after_event (event r None)) (means rest next leaves l (states_after st r))
    ∙ sym (finish_more (event r None ∷ []) (exec rest l (states_after st r)) next leaves)
means (query x c rest) next leaves l st =
    let r = request_of l c in let v = answer (st r.object) r in
    ap (after_event (event r v)) (means rest next leaves _ (states_after st r))
    ∙ sym (finish_more (event r v ∷ []) (exec rest _ (states_after st r)) next leaves)
means (assign x e rest) next leaves l st = means rest next leaves _ st
means (choose t has_else first other rest) next leaves l st =
    let later = meaning rest next leaves in
    if_case (test_value l t) (meaning first later leaves) (meaning other later leaves) (exec first) (exec other) (exec rest) later next leaves l st
    (means first later leaves) (means other later leaves) (means rest next leaves)
means (again n body rest) next leaves l st =
    let later = meaning rest next leaves in let o = turns_run n (exec body) l st in
    turns_mean n (λ turn. meaning body turn later) (exec body) later (λ turn. means body turn later) l st
    ∙ (not_left_any o later later leaves (never_left n (exec body) l st) ∙ then_means o (exec rest) later next leaves (means rest next leaves))
means (leave rest) next leaves l st = refl

pub trees_agree : TreesAgree
unfolding finish noted_all
trees_agree b l st = sym (means b Done Done l st ∙ by_case (exec b l st) (exec b l st).left refl)
  where
    by_case : (o : Ending) (b : Bool) → o.left ≡ b → finish o Done Done ≡ record { trace = o.trace; locals = o.locals; states = o.states }
    by_case o true e = rw e (λ i. record { trace = append-nil o.trace i; locals = o.locals; states = o.states })
    by_case o false e = rw e (λ i. record { trace = append-nil o.trace i; locals = o.locals; states = o.states })
