-- In a block's tree each synchronisation stands directly before a query of its object, so the Syncs sent along a trace
-- are its queries, or its runs of queries where the client tests what it holds. The counts of all modes begin from
-- this. It goes by induction on the statements for the form of the tree, and on the tree along the trace for the
-- counts.
use Rattle.std.proofs.Common.{◌≡◌, ◌≤◌, ◌+◌, arith, ℕ, zero, suc, ℤ, Bool, true, false, if◌then◌else◌, ◌==◌, ◌&&◌, List, [], ◌∷◌, filter, length, slice_set, refl, sym, ap, ◌∙◌, subst}
use Rattle.qs_objects.specs.audit.Operations.{is_query}
use Rattle.qs_objects.specs.audit.Parts.{part}
use Rattle.qs_objects.specs.declared.Request.{Request}
use Rattle.qs_objects.specs.declared.held.Event.{Event}
use Rattle.qs_meaning.specs.Following.{AsksOnly, Leads}
use Rattle.qs_meaning.specs.audit.Interaction.{Interaction}
use Rattle.qs_meaning.specs.audit.Solo.{put, value_of}
use Rattle.qs_program.specs.audit.Statements.{Statements, end, command, query, assign, choose, again, leave}
use Rattle.qs_program.specs.audit.Values.{Locals, expr_value, test_value}
use Rattle.qs_graph.specs.audit.Synced.{Synced, Done, Call, Sync, Query}
use Rattle.qs_graph.specs.Synced.{Next, turns, meaning, synced_of, without_syncs}
use Rattle.qs_syncset.specs.held.Flow.{Holding}
use Rattle.qs_syncset.specs.SoundSynced.{IsSoundSynced}
use Rattle.qs_syncset.specs.SyncCounts.{asks, first_queries, queries, syncs_along}

abbrev pub IsQueryOf : ℕ → Synced → Type 0
IsQueryOf h (Query r next) = h ≡ r.object
IsQueryOf h _ = ⊥

-- each synchronisation stands directly before a query of its object
abbrev pub IsAsking : Synced → Type 0
IsAsking (Done l) = Unit {0}
IsAsking (Call r next) = IsAsking next
IsAsking (Sync h next) = IsQueryOf h next × IsAsking next
IsAsking (Query r next) = (v : ℤ) → IsAsking (next v)

-- each query stands directly after a synchronisation; `just` where one came directly before
abbrev pub AreAllSynced : Bool → Synced → Type 0
AreAllSynced just (Done l) = Unit {0}
AreAllSynced just (Call r next) = AreAllSynced false next
AreAllSynced just (Sync h next) = AreAllSynced true next
AreAllSynced just (Query r next) = (just ≡ true) × ((v : ℤ) → AreAllSynced false (next v))

-- ---- the tree of a block

abbrev Asks : Next → Type 0
Asks next = (l : Locals) → IsAsking (next l) × AreAllSynced false (next l)

asks_if : (b : Bool) (p q : Synced) → IsAsking p × AreAllSynced false p → IsAsking q × AreAllSynced false q
    → IsAsking (if b then p else q) × AreAllSynced false (if b then p else q)
asks_if true p q one other = one
asks_if false p q one other = other

asks_turns : (n : ℕ) (body : Next → Next) (next : Next) → ((turn : Next) → Asks turn → Asks (body turn)) → Asks next → Asks (turns n body next)
asks_turns zero body next each later = later
asks_turns (suc n) body next each later = each (turns n body next) (asks_turns n body next each later)

meaning_asks : (b : Statements) (next leaves : Next) → Asks next → Asks leaves → Asks (meaning b next leaves)
meaning_asks end next leaves later out l = later l
meaning_asks (command c rest) next leaves later out l = meaning_asks rest next leaves later out l
meaning_asks (query x c rest) next leaves later out l =
    let each = λ (v : ℤ). meaning_asks rest next leaves later out (slice_set l x v) in
    ((refl, λ v. (each v).0), (refl, λ v. (each v).1))
meaning_asks (assign x e rest) next leaves later out l = meaning_asks rest next leaves later out (slice_set l x (expr_value l e))
meaning_asks (choose t b first other rest) next leaves later out l =
    let after = meaning rest next leaves in
    let after_ok : Asks after = meaning_asks rest next leaves later out in
    asks_if (test_value l t) (meaning first after leaves l) (meaning other after leaves l)
    (meaning_asks first after leaves after_ok out l) (meaning_asks other after leaves after_ok out l)
meaning_asks (again n body rest) next leaves later out l =
    let after = meaning rest next leaves in
    let after_ok : Asks after = meaning_asks rest next leaves later out in
    asks_turns n (λ turn. meaning body turn after) after (λ turn ok. meaning_asks body turn after ok after_ok) after_ok l
meaning_asks (leave rest) next leaves later out l = out l

-- of a block's tree none is removed
pub block_asks : (b : Statements) (l : Locals) → IsAsking (synced_of b l) × AreAllSynced false (synced_of b l)
block_asks b l = meaning_asks b Done Done (λ _. (tt, tt)) (λ _. (tt, tt)) l

-- ---- events on h, one by one

module _ (h : ℕ) where
  abbrev counted : Bool → List Event → ℕ
  counted asked es = first_queries asked (part h es)

  pub command_asks_none : (e : Event) (es : List Event) → asks e ≡ false → queries h (e ∷ es) ≡ queries h es
  command_asks_none e es silent = by_case (e.request.object == h)
    where
      by_case : (b : Bool) → length (filter asks (if b then e ∷ part h es else part h es)) ≡ queries h es
      by_case true = rw silent refl
      by_case false = refl

  pub query_counts : (e : Event) (es : List Event) → asks e ≡ true → queries h (e ∷ es) ≡ (if e.request.object == h then 1 else 0) + queries h es
  query_counts e es asked_here = by_case (e.request.object == h)
    where
      by_case : (b : Bool) → length (filter asks (if b then e ∷ part h es else part h es)) ≡ (if b then 1 else 0) + queries h es
      by_case true = rw asked_here (omega arith)
      by_case false = omega arith

  command_parts : (asked : Bool) (e : Event) (es : List Event) → asks e ≡ false
      → counted asked (e ∷ es) ≡ counted (if e.request.object == h then false else asked) es
  command_parts asked e es silent = by_case (e.request.object == h)
    where
      by_case : (b : Bool) → first_queries asked (if b then e ∷ part h es else part h es) ≡ counted (if b then false else asked) es
      by_case true = rw silent refl
      by_case false = refl

  query_joins : (asked : Bool) (e : Event) (es : List Event) → asks e ≡ true
      → counted asked (e ∷ es) ≡ (if e.request.object == h then (if asked then 0 else 1) + counted true es else counted asked es)
  query_joins asked e es asked_here = by_case (e.request.object == h)
    where
      by_case : (b : Bool) → first_queries asked (if b then e ∷ part h es else part h es) ≡
          (if b then (if asked then 0 else 1) + counted true es else counted asked es)
      by_case true = rw asked_here refl
      by_case false = refl

  -- ---- trees

  module _ (may : ℕ → Bool) where
    asked_one : (r : Request) (e : Event) (b : Bool) → e.request ≡ r → is_query r.op ≡ b → asks e ≡ b
    asked_one r e b same op = ap (λ (r : Request). is_query r.op) same ∙ op

    on_h : (r : Request) (e : Event) → e.request ≡ r → (e.request.object == h) ≡ (r.object == h)
    on_h r e same = ap (λ (r : Request). r.object == h) same

    -- where none is removed, without the test: one for each query
    pub plain_is : (tree : Synced) (es : List Event) (held : Bool) (rest : Interaction) → IsAsking tree → AreAllSynced false tree
        → AsksOnly may (without_syncs tree) → Leads (without_syncs tree) es rest → syncs_along false h held tree es ≡ queries h es
    plain_is (Done l) (e ∷ es) held rest a s o p = absurd p
    plain_is (Call r next) (e ∷ es) held rest a s o p =
        plain_is next es (if r.object == h then false else held) rest a s o.2 p.1
        ∙ sym (command_asks_none e es (asked_one r e false (ap (λ (e : Event). e.request) p.0) o.0))
    plain_is (Sync g (Query r next)) (e ∷ es) held rest a s o p =
        let v = value_of e.reply in
        by_case (g == h) (ap (λ k. k == h) a.0 ∙ sym (on_h r e p.0))
        (λ held. plain_is (next v) es held rest (a.1 v) (s.1 v) (o.2 v) p.1)
        ∙ sym (query_counts e es (asked_one r e true p.0 o.0))
      where
        by_case : (b : Bool) → b ≡ (e.request.object == h)
            → ((held : Bool) → syncs_along false h held (next (value_of e.reply)) es ≡ queries h es)
            → (if b then 1 + syncs_along false h true (next (value_of e.reply)) es else syncs_along false h held (next (value_of e.reply)) es)
            ≡ (if e.request.object == h then 1 else 0) + queries h es
        by_case true is ih = rw (← is) (let i = ih true in omega (arith, i))
        by_case false is ih = rw (← is) (let i = ih held in omega (arith, i))
    plain_is (Sync g (Done l)) es held rest a s o p = absurd a.0
    plain_is (Sync g (Call r next)) es held rest a s o p = absurd a.0
    plain_is (Sync g (Sync k next)) es held rest a s o p = absurd a.0
    plain_is (Query r next) es held rest a s o p = absurd (let never : false ≡ true = s.0 in cc)
    plain_is _ [] held rest a s o p = refl

    -- with the test: one for each query that comes first or after a command
    pub runs_is : (tree : Synced) (es : List Event) (held : Holding) (asked : Bool) (rest : Interaction) → (held h ≡ true → asked ≡ true)
        → IsAsking tree → IsSoundSynced held tree → AsksOnly may (without_syncs tree) → Leads (without_syncs tree) es rest
        → syncs_along true h asked tree es ≡ first_queries asked (part h es)
    runs_is (Done l) (e ∷ es) held asked rest less a s o p = absurd p
    runs_is (Call r next) (e ∷ es) held asked rest less a s o p =
        let same : e.request ≡ r = ap (λ (e : Event). e.request) p.0 in
        runs_is next es (put held r.object false) (if r.object == h then false else asked) rest (by_case (r.object == h)) a s o.2 p.1
        ∙ (ap (λ b. first_queries (if b then false else asked) (part h es)) (sym (on_h r e same))
        ∙ sym (command_parts asked e es (asked_one r e false same o.0)))
      where
        by_case : (b : Bool) → (if b then false else held h) ≡ true → (if b then false else asked) ≡ true
        by_case true i = i
        by_case false i = less i
    runs_is (Sync g (Query r next)) (e ∷ es) held asked rest less a s o p =
        let v = value_of e.reply in
        by_case (g == h) refl (ap (λ k. k == h) a.0 ∙ sym (on_h r e p.0)) asked less
        (λ now less. runs_is (next v) es (put held g true) now rest less (a.1 v) (s.1 v) (o.2 v) p.1)
        ∙ sym (query_joins asked e es (asked_one r e true p.0 o.0))
      where
        by_case : (b : Bool) → (g == h) ≡ b → b ≡ (e.request.object == h) → (now : Bool) → (held h ≡ true → now ≡ true)
            → ((now : Bool) → (put held g true h ≡ true → now ≡ true) → syncs_along true h now (next (value_of e.reply)) es ≡ first_queries now (part h es))
            → (if b then (if now then 0 else 1) + syncs_along true h true (next (value_of e.reply)) es else syncs_along true h now (next (value_of e.reply)) es)
            ≡ (if e.request.object == h then (if now then 0 else 1) + first_queries true (part h es) else first_queries now (part h es))
        by_case true here is now less ih = rw (← is) (ap (λ n. (if now then 0 else 1) + n) (ih true (λ _. refl)))
        by_case false here is now less ih =
            rw (← is) (ih now (λ q. less (sym (ap (λ b. if b then true else held h) here) ∙ q)))
    runs_is (Sync g (Done l)) es held asked rest less a s o p = absurd a.0
    runs_is (Sync g (Call r next)) es held asked rest less a s o p = absurd a.0
    runs_is (Sync g (Sync k next)) es held asked rest less a s o p = absurd a.0
    runs_is (Query r next) (e ∷ es) held asked rest less a s o p =
        let v = value_of e.reply in
        runs_is (next v) es held asked rest less (a v) (s.1 v) (o.2 v) p.1
        ∙ (by_case (e.request.object == h) refl ∙ sym (query_joins asked e es (asked_one r e true p.0 o.0)))
      where
        by_case : (b : Bool) → (e.request.object == h) ≡ b
            → first_queries asked (part h es) ≡ (if b then (if asked then 0 else 1) + first_queries true (part h es) else first_queries asked (part h es))
        by_case true here =
            let same : e.request.object ≡ h = grind (arith, here) in
            let on : asked ≡ true = less (subst (λ k. held k ≡ true) (sym (ap (λ (r : Request). r.object) p.0) ∙ same) s.0) in
            rw on (omega arith)
        by_case false here = refl
    runs_is _ [] held asked rest less a s o p = refl

    -- without the test, whatever was removed: at most one for each query
    pub most_is : (tree : Synced) (es : List Event) (held : Bool) (rest : Interaction) → IsAsking tree → AsksOnly may (without_syncs tree)
        → Leads (without_syncs tree) es rest → syncs_along false h held tree es ≤ queries h es
    most_is (Call r next) (e ∷ es) held rest a o p =
        let same = command_asks_none e es (asked_one r e false (ap (λ (e : Event). e.request) p.0) o.0) in
        omega (arith, most_is next es (if r.object == h then false else held) rest a o.2 p.1, same)
    most_is (Sync g (Query r next)) (e ∷ es) held rest a o p =
        let v = value_of e.reply in
        let here = by_case (g == h) (ap (λ k. k == h) a.0 ∙ sym (on_h r e p.0)) (λ held. most_is (next v) es held rest (a.1 v) (o.2 v) p.1) in
        omega (arith, here, query_counts e es (asked_one r e true p.0 o.0))
      where
        by_case : (b : Bool) → b ≡ (e.request.object == h)
            → ((held : Bool) → syncs_along false h held (next (value_of e.reply)) es ≤ queries h es)
            → (if b then 1 + syncs_along false h true (next (value_of e.reply)) es else syncs_along false h held (next (value_of e.reply)) es)
            ≤ (if e.request.object == h then 1 else 0) + queries h es
        by_case true is ih = rw (← is) (let i = ih true in omega (arith, i))
        by_case false is ih = rw (← is) (let i = ih held in omega (arith, i))
    most_is (Sync g (Done l)) es held rest a o p = absurd a.0
    most_is (Sync g (Call r next)) es held rest a o p = absurd a.0
    most_is (Sync g (Sync k next)) es held rest a o p = absurd a.0
    most_is (Query r next) (e ∷ es) held rest a o p =
        let more = most_is (next (value_of e.reply)) es held rest (a (value_of e.reply)) (o.2 (value_of e.reply)) p.1 in
        omega (arith, more, query_counts e es (asked_one r e true p.0 o.0))
    most_is _ _ held rest a o p = omega arith

  -- the test saves Syncs
  pub fewer_is : (tree : Synced) (es : List Event) (b c : Bool) → syncs_along true h b tree es ≤ syncs_along false h c tree es
  fewer_is (Call r next) (e ∷ es) b c = fewer_is next es (if r.object == h then false else b) (if r.object == h then false else c)
  fewer_is (Sync g next) (e ∷ es) b c = by_case (g == h) b (fewer_is next (e ∷ es) true true) (fewer_is next (e ∷ es) b c)
    where
      by_case : (x b : Bool) → syncs_along true h true next (e ∷ es) ≤ syncs_along false h true next (e ∷ es)
          → syncs_along true h b next (e ∷ es) ≤ syncs_along false h c next (e ∷ es)
          → (if x then (if true && b then 0 else 1) + syncs_along true h true next (e ∷ es) else syncs_along true h b next (e ∷ es))
          ≤ (if x then 1 + syncs_along false h true next (e ∷ es) else syncs_along false h c next (e ∷ es))
      by_case true true i j = omega (arith, i)
      by_case true false i j = omega (arith, i)
      by_case false b i j = j
  fewer_is (Query r next) (e ∷ es) b c = fewer_is (next (value_of e.reply)) es b c
  fewer_is _ _ b c = omega arith
