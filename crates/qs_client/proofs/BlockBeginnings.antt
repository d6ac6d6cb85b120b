-- A block begins: `Mind::begin` does what the model says, and what holds of every mind holds again. The hard part is
-- that the run may go through the new block: its walk ends, no query comes without its object, and its trace has room
-- for all requests, since on each path the requests on an object are at most the block's load on it, and the room is
-- the sum of the loads.
use Rattle.std.proofs.Common.{◌≡◌, ℕ, zero, suc, ◌+◌, ◌-◌, ◌*◌, ◌<◌, ◌≤◌, Bool, true, false, ◌==◌, if◌then◌else◌, inl, inr, List, [], ◌∷◌, ◌++◌, is_some, length, length-append, replicate, refl, sym, ap, ◌∙◌, subst, arith, ⊎_elim}
use Rattle.std.proofs.lemmas.Bool.{cases_lt}
use Rattle.std.proofs.lemmas.List.{length-replicate}
use Rattle.std.proofs.Math.ListN.{get_or-eq_default}
use Rattle.qs_objects.specs.declared.held.Ticket.{Ticket}
use Rattle.qs_objects.specs.declared.Request.{Request}
use Rattle.qs_objects.proofs.Choices.{eqb_self, apart_eqb, num_cases}
use Rattle.qs_program.specs.audit.Loads.{load_of}
use Rattle.qs_program.specs.audit.Program.{block_at, blocks_of}
use Rattle.qs_program.specs.audit.Sound.{is_in}
use Rattle.qs_program.specs.audit.Values.{Locals}
use Rattle.qs_meaning.specs.audit.Interaction.{Interaction}
use Rattle.qs_meaning.specs.Paths.{counts}
use Rattle.qs_meaning.specs.audit.Solo.{put}
use Rattle.qs_meaning.proofs.RequestPaths.{requests_within}
use Rattle.qs_meaning.specs.Paths as paths
use Rattle.qs_graph.specs.audit.Steps.{limit}
use Rattle.qs_graph.specs.audit.Synced.{Synced, Done, Call, Sync, Query}
use Rattle.qs_graph.specs.Synced.{without_syncs}
use Rattle.qs_graph.specs.audit.Walk.{entry, walk}
use Rattle.qs_graph.specs.Walk.{Within}
use Rattle.qs_syncset.specs.audit.Codes.{BlockCode, ClientCode, IsBlockCode, code_at, load_at}
use Rattle.qs_syncset.specs.Codes.{IsCode}
use Rattle.qs_syncset.specs.CodeLaws.{IsSoundWalk}
use Rattle.qs_syncset.specs.held.Flow.{nothing}
use Rattle.qs_syncset.specs.SoundSynced.{IsOnReserved, IsSoundSynced}
use Rattle.qs_syncset.proofs.CodeWalks.{walks_are_sound}
use Rattle.qs_client.specs.run.Beginning.{at_beginning}
use Rattle.qs_client.specs.audit.rules.Client.{Settlement, between, begin, settle}
use Rattle.qs_client.specs.run.Holdings.{chunk_at, holding_at}
use Rattle.qs_client.specs.run.BlockSizes.{room_for, sum_below}
use Rattle.qs_client.specs.run.ClientOfRun.{HasSettled, items_of, progress_after, stage_by}
use Rattle.qs_client.specs.run.Running.{MakesAtMost, IsRunning}
use Rattle.qs_client.specs.run.BetweenActs.{HasCome, IsStanding}
use Rattle.qs_objects.specs.Traces.{AreEmptyAfter, TraceState, trace_at, trace_state}
use Rattle.qs_program.specs.audit.Limits.{most_handlers, most_objects}
use Rattle.qs_client.specs.run.RunState.{RunState}
use Rattle.qs_client.proofs.ReservedLists.{reserved_below_eight}
use Rattle.qs_client.proofs.run.CodeBounds.{longest_covers}
use Rattle.qs_client.proofs.run.ArrivalRefinement.{reserves_here}
use Rattle.qs_client.proofs.run.StepRefinement.{standing_of}
use Rattle.qs_client.specs.declared.rules.act.Act.TheVariants as acts
use Rattle.qs_client.specs.declared.run.stage.Stage.TheVariants as stages
use Rattle.qs_client.specs.SoundMind.{IsSoundMind}
use Rattle.qs_client.specs.audit.ClientModel.{mind_after_begin, mind_after_begin_with, locals_at, tree_at}
use Rattle.qs_client.specs.ClientModel.{Asks}
use Rattle.qs_client.specs.MindState.{MindState, block_of, client_in, mind_of, settings_in}
use Rattle.qs_client.proofs.MindRefinement.{IsSteady, asks_nothing, come_sound, comes_mind, hands_over, nothing_left, wants_of}

-- a sum falls by one where one of its numbers does
module _ (f : ℕ → ℕ) (o : ℕ) where
  abbrev pub less : ℕ → ℕ
  less h = f h - (if o == h then 1 else 0)

  less_there : (h : ℕ) → less h ≤ f h
  less_there h = by_test (o == h)
    where
      by_test : (b : Bool) → f h - (if b then 1 else 0) ≤ f h
      by_test true = omega arith
      by_test false = omega arith

  less_here : less o ≡ f o - 1
  less_here = ap (λ (b : Bool). f o - (if b then 1 else 0)) (eqb_self o)

  sum_no_more : (m : ℕ) → sum_below m less ≤ sum_below m f
  sum_no_more zero = omega arith
  sum_no_more (suc m) = omega (arith, less_there m, sum_no_more m)

  pub sum_falls : (m : ℕ) → o < m → 1 ≤ f o → sum_below m less + 1 ≤ sum_below m f
  sum_falls zero inside some = absurd (omega (arith, inside))
  sum_falls (suc m) inside some =
      ⊎_elim
      (λ (is : o ≡ m).
      let here : less m + 1 ≤ f m = subst (λ h. less h + 1 ≤ f h) is (omega (arith, less_here, some)) in
      omega (arith, here, sum_no_more m))
      (λ (other : (o == m) ≡ false). omega (arith, less_there m, sum_falls m (omega (arith, inside, apart_eqb o m other)) some))
      (num_cases o m)

  pub sum_some : (m : ℕ) → o < m → f o ≤ sum_below m f
  sum_some zero inside = absurd (omega (arith, inside))
  sum_some (suc m) inside =
      ⊎_elim
      (λ (is : o ≡ m). let same : f o ≡ f m = ap f is in omega (arith, same))
      (λ (other : (o == m) ≡ false). omega (arith, sum_some m (omega (arith, inside, apart_eqb o m other))))
      (num_cases o m)

one_counted : (h : ℕ) (r : Request) → r.object ≡ h → counts h r ≡ 1
one_counted h r e = subst (λ m. ◌≡◌ {A = ℕ} (if r.object == m then 1 else 0) 1) e (ap (λ (b : Bool). if b then 1 else 0) (eqb_self r.object))

-- a tree whose requests are within these loads fits into their sum
pub fits_within : (t : Synced) (f : ℕ → ℕ) (n : ℕ) (reserved : List ℕ) → ((h : ℕ) → is_in reserved h ≡ true → h < most_handlers) → IsOnReserved reserved t
    → ((h : ℕ) → h < most_objects → paths.Within h (without_syncs t) (f h)) → sum_below most_objects f ≤ n → MakesAtMost n t
fits_within (Done l) f n reserved eight on within few = tt
fits_within (Sync h next) f n reserved eight on within few = fits_within next f n reserved eight on.1 within few
fits_within (Call r next) f n reserved eight on within few =
    let o = r.object in
    let inside : o < most_handlers = eight o on.0 in
    let some : 1 ≤ f o = omega (arith, (within o inside).0, one_counted o r refl) in (
      omega (arith, some, sum_some f o 8 inside, few),
      fits_within next (less f o) (n - 1) reserved eight on.1 (λ h below. (within h below).1) (omega (arith, sum_falls f o 8 inside some, few)),
    )
fits_within (Query r next) f n reserved eight on within few =
    let o = r.object in
    let inside : o < most_handlers = eight o on.0 in
    let some : 1 ≤ f o = omega (arith, (within o inside).0, one_counted o r refl) in (
      omega (arith, some, sum_some f o 8 inside, few),
      λ v. fits_within (next v) (less f o) (n - 1) reserved eight (on.1 v) (λ h below. (within h below).1 v) (omega (arith, sum_falls f o 8 inside some, few)),
    )

within_load : (h : ℕ) (t : Interaction) (a b : ℕ) → a ≡ b → paths.Within h t a → paths.Within h t b
within_load h t a b e w = subst (paths.Within h t) e w

-- more may be held
pub held_more : (f g : ℕ → Bool) (t : Synced) → ((h : ℕ) → f h ≡ true → g h ≡ true) → IsSoundSynced f t → IsSoundSynced g t
held_more f g (Done l) more w = tt
held_more f g (Call r next) more w = held_more (put f r.object false) (put g r.object false) next (λ h. put_more (r.object == h) h) w
  where
    put_more : (b : Bool) (h : ℕ) → (if b then false else f h) ≡ true → (if b then false else g h) ≡ true
    put_more true h e = e
    put_more false h e = more h e
held_more f g (Sync o next) more w = held_more (put f o true) (put g o true) next (λ h. put_more (o == h) h) w
  where
    put_more : (b : Bool) (h : ℕ) → (if b then true else f h) ≡ true → (if b then true else g h) ≡ true
    put_more true h e = e
    put_more false h e = more h e
held_more f g (Query r next) more w = (more r.object w.0, λ v. held_more f g (next v) more (w.1 v))

-- what holds of a block's walk from its beginning
pub record Begins (b : BlockCode) (l : Locals) (counts : List ℕ) : Type 0 where
  pub ends : Within b.graph limit (entry l counts)
  pub sound : (held : ℕ → Bool) → IsSoundSynced held (walk b.graph limit (entry l counts))
  pub fits : MakesAtMost (room_for b) (walk b.graph limit (entry l counts))

pub begins : (code : ClientCode) (k : ℕ) (l : Locals) (counts : List ℕ) → IsCode code → k < length code.blocks
    → length (code_at code k).graph ≤ length counts → Begins (code_at code k) l counts
begins code k l counts w inside long =
    let p = w.program in
    let here : k < blocks_of p w.client = omega (arith, inside, w.of.count) in
    let b = block_at p w.client k in
    let is : IsBlockCode _ b _ _ (code_at code k) = w.of.blocks k here in
    let s : IsSoundWalk b (code_at code k).graph l counts = walks_are_sound p w.mode w.client code w.sound w.of k l counts here long in
    let t = walk (code_at code k).graph limit (entry l counts) in
    record {
      ends = s.ends;
      sound = λ held. held_more nothing held t (λ h e. absurd (cc)) s.sound;
      fits = fits_within t (load_at (code_at code k)) (room_for (code_at code k)) b.reserved
          (reserved_below_eight p w.client k w.sound here) s.reserved
          (λ h below. within_load h (without_syncs t) (load_of b.body h) (load_at (code_at code k) h) (sym (is.loads h below))
          (subst (λ x. paths.Within h x (load_of b.body h)) (sym s.tree) (requests_within b.body l h)))
          (omega arith);
    }

-- where the blocks after one have no events, later traces have none
empty_after : (ts : List TraceState) (n k : ℕ) → length ts ≡ n → ((j : ℕ) → k < j → j < n → (trace_at ts j).events ≡ []) → AreEmptyAfter ts k
empty_after ts n k same none j after = elim (cases_lt j n) [
  | inl below ↦ none j after below
  | inr beyond ↦ ap (λ (x : TraceState). x.events) (get_or-eq_default ts (trace_state [] 0) {n = j} (omega (arith, beyond, same)))
]

-- the data of a mind as its next block begins
abbrev pub state_at_begin : MindState → Ticket → MindState
state_at_begin m t = record m {
  ticket = t;
  run = at_beginning m.run;
  entries = m.entries ++ m.run.position.locals ∷ [];
}

pub reserves : (m : MindState) (w : IsSoundMind m) → Asks (mind_of m) acts.Reserve → (m.run.stage ≡ stages.Between) × (length m.entries < length m.code.blocks)
reserves m w asked =
    reserves_here (block_of m) (settings_in m) m.ticket (length m.code.blocks) (length m.entries) w.left m.run (wants_of m w acts.Reserve asked)

pub next_ticket : (m : MindState) (t : Ticket) → t.index ≡ (mind_of m).client.begun → t.index ≡ length m.entries
unfolding mind_of
next_ticket m t e = e

length_at_begin : (m : MindState) (t : Ticket) → length (state_at_begin m t).entries ≡ length m.entries + 1
length_at_begin m t = length-append m.entries (m.run.position.locals ∷ [])

module _ (m : MindState) (w : IsSoundMind m) (t : Ticket) (asked : Asks (mind_of m) acts.Reserve) (is : t.index ≡ length m.entries) where
  inside : t.index < length m.code.blocks
  inside = omega (arith, is, (reserves m w asked).1)

  pub begin_steady : IsSteady (state_at_begin m t)
  begin_steady = record {
    code = w.code;
    size = w.size;
    blocks = omega (arith, length_at_begin m t, (reserves m w asked).1);
    rows = w.rows;
    counts = length-replicate {A = ℕ} (length m.run.position.counts) 0 ∙ w.counts;
    ticket = omega (arith, length_at_begin m t, is);
    later = λ k past below. w.later k (omega (arith, past, length_at_begin m t)) below;
    tallies = w.tallies;
    few_each = w.few_each;
  }

  pub begin_running : IsRunning (code_at m.code t.index).graph m.size t.index limit (at_beginning m.run)
  begin_running =
      let over = subst (IsStanding (block_of m) m.size m.ticket.index w.left m.run) (reserves m w asked).0 w.standing in
      let counts : List ℕ = replicate (length m.run.position.counts) 0 in
      let long : length (code_at m.code t.index).graph ≤ length counts =
      omega (arith, longest_covers m.code.blocks t.index, w.counts, length-replicate {A = ℕ} (length m.run.position.counts) 0) in
      let b = begins m.code t.index m.run.position.locals counts w.code inside long in
      record {
        few = omega arith;
        within = b.ends;
        counted = long;
        sound = b.sound (λ h. is_some (holding_at m.run.holdings h));
        fits = subst (λ (x : TraceState). MakesAtMost x.room (walk (code_at m.code t.index).graph limit (entry m.run.position.locals counts)))
            (sym (w.later t.index (omega (arith, is)) inside)) b.fits;
        row = omega (arith, w.rows, inside);
        last = empty_after m.run.traces (length m.code.blocks) t.index w.rows
            (λ j after below. ap (λ (x : TraceState). x.events) (w.later j (omega (arith, after, is)) below));
        held = over.held;
        chunks = over.chunks;
        opened = over.opened;
      }

  -- all that the client does to its own values up to its next act
  abbrev pub its_beginning : Settlement
  its_beginning = begin (settings_in m) t (code_at m.code t.index).reserved (client_in m) (tree_at m.code t.index m.run.position.locals)

  pub begin_comes : (new : RunState)
      → HasSettled (code_at m.code t.index).graph (settings_in m) t (code_at m.code t.index).reserved (length (state_at_begin m t).entries) (between m.run.position.locals) limit
      (at_beginning m.run) new
      → HasCome (code_at m.code t.index) (settings_in m) t (length (state_at_begin m t).entries) limit its_beginning (at_beginning m.run) new
  begin_comes new done = record {
    standing = standing_of (code_at m.code t.index) m.size t.index limit limit new new.stage (omega arith) done.stopped;
    rows = done.rows;
    counts = done.counts;
    same =
        let b = code_at m.code t.index in
        let tr = (trace_at m.run.traces t.index).events in
        let begun : suc (length m.entries) ≡ length (state_at_begin m t).entries = omega (arith, length_at_begin m t) in
        let stands = (reserves m w asked).0 in
        (λ i. progress_after tr (settle (settings_in m) t b.reserved (walk b.graph limit (entry m.run.position.locals (replicate (sym w.counts i) 0)))
        (record {
          begun = begun i;
          stage = stage_by (stands i) (block_of m).reserved (walk (block_of m).graph limit m.run.position) m.run.position.locals;
          held = holding_at m.run.holdings;
          chunk = λ h. items_of (chunk_at m.run.holdings h);
        })))
        ∙ done.same;
  }

  few_at_begin : m.syncs + limit ≤ length (state_at_begin m t).entries * limit
  unfolding limit
  few_at_begin = omega (arith, w.few, length_at_begin m t)

  pub begin_sound : (new : RunState) → HasCome (code_at m.code t.index) (settings_in m) t (length (state_at_begin m t).entries) limit its_beginning (at_beginning m.run) new
      → IsSoundMind (hands_over (state_at_begin m t) new m.outgoing)
  begin_sound new come =
      subst IsSoundMind (nothing_left (state_at_begin m t) new (asks_nothing m acts.Reserve asked))
      (come_sound (state_at_begin m t) its_beginning limit new begin_steady come few_at_begin)

  pub begin_is : (new : RunState) → HasCome (code_at m.code t.index) (settings_in m) t (length (state_at_begin m t).entries) limit its_beginning (at_beginning m.run) new
      → mind_of (hands_over (state_at_begin m t) new m.outgoing) ≡ mind_after_begin (mind_of m) t
  unfolding mind_of
  begin_is new come =
      ap mind_of (sym (nothing_left (state_at_begin m t) new (asks_nothing m acts.Reserve asked)))
      ∙ comes_mind (state_at_begin m t) its_beginning limit new come
      ∙ (λ i. mind_after_begin_with (mind_of m) t
      (locals_at (stage_by (sym (reserves m w asked).0 i) (block_of m).reserved (walk (block_of m).graph limit m.run.position) m.run.position.locals)))
