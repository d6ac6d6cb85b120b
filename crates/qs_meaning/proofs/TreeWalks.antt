-- A trace whose replies are the objects' own is a beginning of what the block does alone, and an object that a block
-- may not reach is in neither its trace nor its changes. The proofs on histories, isolation and both machines use these
-- facts about traces. They go by induction on the trace and on the tree along which it leads.
use Rattle.std.proofs.Common.{◌≡◌, ℕ, Bool, true, false, arith, ◌==◌, List, [], ◌∷◌, ◌++◌, refl, ⊎_elim, sym, ap, ◌∙◌, subst, Option, ℤ, append-nil, if◌then◌else◌}
use Rattle.qs_meaning.proofs.Common.{after, answer, command_event, eqb_self, Event, filter-append, IsHonest, nat_tests, num_cases, part, replay, Request}
use Rattle.qs_meaning.specs.audit.Interaction.{Interaction, Done, Call, Query}
use Rattle.qs_meaning.specs.Interaction.{run, after_event}
use Rattle.qs_meaning.specs.Following.{Leads, changed_all, noted_all, HonestTracesRun, AsksOnly}
use Rattle.qs_meaning.specs.audit.Solo.{States, states_after, put, event, value_of}

pub put_here : {A : Type 0} (f : ℕ → A) (n : ℕ) (a : A) → put f n a n ≡ a
put_here f n a = rw (eqb_self n)

pub put_there : {A : Type 0} (f : ℕ → A) (n : ℕ) (a : A) (m : ℕ) → (n == m) ≡ false → put f n a m ≡ f m
put_there f n a m e = rw e

-- the states after a trace, one by one
pub changed_all_at : (st : States) (es : List Event) (h : ℕ) → changed_all st es h ≡ replay (st h) (part h es)
changed_all_at st [] h = refl
changed_all_at st (e ∷ es) h =
    ⊎_elim
    (λ (is : e.request.object ≡ h).
    subst (λ n. changed_all st (e ∷ es) n ≡ replay (st n) (part n (e ∷ es))) is
    (rw (eqb_self e.request.object)
    (changed_all_at (states_after st e.request) es e.request.object
    ∙ ap (λ s. replay s (part e.request.object es)) (put_here st e.request.object (after (st e.request.object) e.request)))))
    (λ (no : (e.request.object == h) ≡ false).
    rw no (changed_all_at (states_after st e.request) es h ∙ ap (λ s. replay s (part h es)) (put_there st e.request.object (after (st e.request.object) e.request) h no)))
    (num_cases e.request.object h)

-- the rest of a trace whose replies are honest is honest after the first request
honest_rest : (st : States) (e : Event) (es : List Event) → ((h : ℕ) → IsHonest (st h) (part h (e ∷ es))) → (h : ℕ) → IsHonest (states_after st e.request h) (part h es)
honest_rest st e es ok h =
    ⊎_elim
    (λ (is : e.request.object ≡ h).
    let here : IsHonest (st e.request.object) (e ∷ part e.request.object es) = rw (eqb_self e.request.object) at (ok e.request.object) in
    subst (λ n. IsHonest (states_after st e.request n) (part n es)) is
    (subst (λ s. IsHonest s (part e.request.object es)) (sym (put_here st e.request.object (after (st e.request.object) e.request))) here.1))
    (λ (no : (e.request.object == h) ≡ false).
    let there : IsHonest (st h) (part h es) = rw no at (ok h) in
    subst (λ s. IsHonest s (part h es)) (sym (put_there st e.request.object (after (st e.request.object) e.request) h no)) there)
    (num_cases e.request.object h)

-- and its first reply is the object's
honest_first : (st : States) (e : Event) (es : List Event) → ((h : ℕ) → IsHonest (st h) (part h (e ∷ es))) → e.reply ≡ answer (st e.request.object) e.request
honest_first st e es ok =
    let here : IsHonest (st e.request.object) (e ∷ part e.request.object es) = rw (eqb_self e.request.object) at (ok e.request.object) in here.0

pub honest_traces_run : HonestTracesRun
honest_traces_run t [] rest st path ok = ap (λ t. run t st) path
honest_traces_run (Done l) (e ∷ es) rest st path ok = absurd path
honest_traces_run (Call r next) (e ∷ es) rest st path ok =
    let ih = honest_traces_run next es rest (states_after st e.request) path.1 (honest_rest st e es ok) in
    let is : e.request ≡ r = ap (λ e. e.request) path.0 in
    subst (λ d. after_event d (run next (states_after st r)) ≡ noted_all (e ∷ es) (run rest (changed_all (states_after st e.request) es))) path.0 (rw (← is) (ap (after_event e) ih))
honest_traces_run (Query r next) (e ∷ es) rest st path ok =
    let ih = honest_traces_run (next (value_of e.reply)) es rest (states_after st e.request) path.1 (honest_rest st e es ok) in
    let first = honest_first st e es ok in
    let P : Request → Option ℤ → Type 0 = λ r v. after_event (event r v) (run (next (value_of v)) (states_after st r)) ≡ noted_all (e ∷ es) (run rest (changed_all (states_after st e.request) es)) in
    subst (λ r. P r (answer (st r.object) r)) path.0 (subst (P e.request) first (ap (after_event e) ih))

-- a block does not touch what it may not reach
put_outside : {A : Type 0} (may : ℕ → Bool) (f : ℕ → A) (n : ℕ) (a : A) (h : ℕ) → may n ≡ true → may h ≡ false → put f n a h ≡ f h
put_outside may f n a h is not = grind (arith, nat_tests)

pub untouched : (may : ℕ → Bool) (t : Interaction) (st : States) (h : ℕ) → AsksOnly may t → may h ≡ false → (run t st).states h ≡ st h
untouched may (Done l) st h f e = refl
untouched may (Call r next) st h f e = untouched may next (states_after st r) h f.2 e ∙ put_outside may st r.object (after (st r.object) r) h f.1 e
untouched may (Query r next) st h f e =
    untouched may (next (value_of (answer (st r.object) r))) (states_after st r) h (f.2 _) e ∙ put_outside may st r.object (after (st r.object) r) h f.1 e

-- nor does its trace name it
part_outside : (may : ℕ → Bool) (d : Event) (es : List Event) (h n : ℕ) → d.request.object ≡ n → may n ≡ true → may h ≡ false → part h (d ∷ es) ≡ part h es
part_outside may d es h n at is not = grind (arith, nat_tests)

pub unnamed : (may : ℕ → Bool) (t : Interaction) (es : List Event) (rest : Interaction) (h : ℕ) → AsksOnly may t → Leads t es rest → may h ≡ false → part h es ≡ []
unnamed may t [] rest h f p e = refl
unnamed may (Done l) (d ∷ es) rest h f p e = absurd p
unnamed may (Call r next) (d ∷ es) rest h f p e = part_outside may d es h r.object (ap (λ d. d.request.object) p.0) f.1 e ∙ unnamed may next es rest h f.2 p.1 e
unnamed may (Query r next) (d ∷ es) rest h f p e =
    part_outside may d es h r.object (ap (λ r. r.object) p.0) f.1 e ∙ unnamed may (next (value_of d.reply)) es rest h (f.2 _) p.1 e

-- the trace of a whole run leads to its end
pub run_leads : (t : Interaction) (st : States) → Leads t (run t st).trace (Done (run t st).locals)
run_leads (Done l) st = refl
run_leads (Call r next) st = (refl, run_leads next (states_after st r))
run_leads (Query r next) st = (refl, run_leads (next (value_of (answer (st r.object) r))) (states_after st r))

-- what is left makes requests on the same objects alone
pub asks_rest : (may : ℕ → Bool) (t : Interaction) (es : List Event) (rest : Interaction) → AsksOnly may t → Leads t es rest → AsksOnly may rest
asks_rest may t [] rest f p = subst (AsksOnly may) p f
asks_rest may (Done l) (d ∷ es) rest f p = absurd p
asks_rest may (Call r next) (d ∷ es) rest f p = asks_rest may next es rest f.2 p.1
asks_rest may (Query r next) (d ∷ es) rest f p = asks_rest may (next (value_of d.reply)) es rest (f.2 _) p.1

pub leads_call : (t : Interaction) (es : List Event) (r : Request) (next : Interaction) → Leads t es (Call r next) → Leads t (es ++ command_event r ∷ []) next
leads_call t [] r next p = subst (λ t. Leads t (command_event r ∷ []) next) (sym p) (refl, refl)
leads_call (Done l) (e ∷ es) r next p = absurd p
leads_call (Call q then_on) (e ∷ es) r next p = (p.0, leads_call then_on es r next p.1)
leads_call (Query q then_on) (e ∷ es) r next p = (p.0, leads_call (then_on (value_of e.reply)) es r next p.1)

pub leads_query : (t : Interaction) (es : List Event) (e : Event) (next : ℤ → Interaction) → Leads t es (Query e.request next) → Leads t (es ++ e ∷ []) (next (value_of e.reply))
leads_query t [] e next p = subst (λ t. Leads t (e ∷ []) (next (value_of e.reply))) (sym p) (refl, refl)
leads_query (Done l) (d ∷ es) e next p = absurd p
leads_query (Call q then_on) (d ∷ es) e next p = (p.0, leads_query then_on es e next p.1)
leads_query (Query q then_on) (d ∷ es) e next p = (p.0, leads_query (then_on (value_of d.reply)) es e next p.1)

pub part_snoc_here : (h : ℕ) (es : List Event) (e : Event) → e.request.object ≡ h → part h (es ++ e ∷ []) ≡ part h es ++ e ∷ []
part_snoc_here h es e is = filter-append (λ (e : Event). e.request.object == h) es (e ∷ []) ∙ ap (λ ys. part h es ++ ys) (rw (← is) (rw (eqb_self e.request.object)))

pub part_snoc_there : (h : ℕ) (es : List Event) (e : Event) → (e.request.object == h) ≡ false → part h (es ++ e ∷ []) ≡ part h es
part_snoc_there h es e other = filter-append (λ (e : Event). e.request.object == h) es (e ∷ []) ∙ (ap (λ (b : Bool). part h es ++ (if b then e ∷ [] else [])) other ∙ append-nil (part h es))
