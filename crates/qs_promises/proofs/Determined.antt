-- Two runs by the same picks and rounds show the same. By the plain rules the steps are a function. The optimised
-- machine runs a client's code, and two codes of one program differ at most in what no step asks for: each step is
-- decided by whether the client tests what it holds, by how many blocks there are, and by their lists and trees.
use Rattle.std.proofs.Common.{◌≡◌, ◌∙◌, ◌<◌, ◌≤◌, ◌-◌, ◌⊎◌, ◌++◌, if◌then◌else◌, inl, inr, ℕ, zero, suc, Bool, true, false, List, [], ◌∷◌, length, refl, sym, ap, subst, arith, slice_index_or, Option, Some, None}
use Rattle.std.proofs.lemmas.Bool.{and_parts, cases_lt, ltb-true}
use Rattle.std.proofs.lemmas.List.{get_or_past}
use Rattle.qs_graph.specs.audit.Bound.{bound_nodes}
use Rattle.qs_graph.specs.audit.Nodes.{ControlGraph, GraphNode}
use Rattle.qs_graph.specs.audit.Synced.{Synced}
use Rattle.qs_meaning.specs.audit.Solo.{put}
use Rattle.qs_objects.specs.audit.Journals.{HeldState}
use Rattle.qs_played.specs.audit.Played.{ticket}
use Rattle.qs_program.specs.audit.Program.{ProgramShape, blocks_of}
use Rattle.qs_program.specs.audit.Sound.{is_in}
use Rattle.qs_program.specs.audit.Values.{Locals}
use Rattle.qs_syncset.proofs.CoalescedWalks.{coalescing_is_unique}
use Rattle.qs_syncset.specs.audit.Codes.{AreCodes, BlockCode, ClientCode, IsBoundGraphOf, IsCodeOf, code_at, no_code}
use Rattle.qs_syncset.specs.audit.Modes.{is_static}
use Rattle.qs_syncset.specs.declared.mode.Mode.{Mode}
use Rattle.qs_client.specs.audit.ClientModel.{tree_at}
use Rattle.qs_client.specs.audit.run.BlockSizes.{longest}
use Rattle.qs_client.specs.audit.rules.Client.{ClientStage, act_of, awaits, begin, between, full, leaves, runs}
use Rattle.qs_client.specs.declared.rules.act.Act.{Act}
use Rattle.qs_client.specs.declared.rules.act.Act.TheVariants.{Await, Finished, NeedChunk, Reserve, Send}
use Rattle.qs_core_laws.specs.audit.Core.{Core, client_step, core_begin, core_step, gets, put_ticket, reserves_from, takes_chunk}
use Rattle.qs_core_laws.specs.audit.CoreSchedule.{core_played, core_plays}
use Rattle.qs_played.specs.audit.Schedule.{all_named, names_actor, or_stay, schedule}
use Rattle.qs_played.specs.declared.schedule.actor.Actor.{Actor}
use Rattle.qs_played.specs.declared.schedule.actor.Actor.TheVariants as actor
use Rattle.qs_promises.specs.Determined.{RunsAreDetermined}
use Rattle.qs_promises.specs.audit.Runs.{by_rules, on_machine, on_threads}
use Rattle.qs_promises.proofs.Rounds.{schedule_named}

-- ---- what a step asks of a client's code

record SaysSame (one other : ClientCode) : Type 0 where
  tests : one.dynamic ≡ other.dynamic
  count : length one.blocks ≡ length other.blocks
  lists : (k : ℕ) → (code_at one k).reserved ≡ (code_at other k).reserved
  trees : (k : ℕ) (l : Locals) → tree_at one k l ≡ tree_at other k l

module _ (one other : ℕ → ClientCode) (size : ℕ) (s : Core) (c : ℕ) (same : SaysSame (one c) (other c)) where
  -- the machine once the client's next block was reserved, by what its code says of that block
  abbrev booked : Locals → Bool → List ℕ → Synced → Option Core
  booked l dynamic names tree =
      let t = ticket c (s.client c).begun in
      let r = begin (record { dynamic = dynamic; size = size }) t names (s.client c) tree in
      Some (record s {
        order = s.order ++ t ∷ [];
        client = put s.client c r.client;
        tickets = λ h. if is_in names h then s.tickets h ++ t ∷ [] else s.tickets h;
        entry = put_ticket s.entry t l;
        trace = put_ticket s.trace t r.events;
      })

  same_reserve : (stage : ClientStage) → reserves_from one size s c stage ≡ reserves_from other size s c stage
  same_reserve (between l) =
      let k = (s.client c).begun in
      ap (λ d. booked l d (code_at (one c) k).reserved (tree_at (one c) k l)) same.tests
      ∙ ap (λ names. booked l (other c).dynamic names (tree_at (one c) k l)) (same.lists k)
      ∙ ap (λ tree. booked l (other c).dynamic (code_at (other c) k).reserved tree) (same.trees k l)
  same_reserve (runs rest) = refl
  same_reserve (full h rest) = refl
  same_reserve (awaits h rest) = refl
  same_reserve (leaves h hs l) = refl

  same_get : (h : ℕ) (x : Option HeldState) → gets one size s c h x ≡ gets other size s c h x
  same_get h None = refl
  same_get h (Some x) = cc (same.tests, same.lists ((s.client c).begun - 1))

  same_chunk : (h n : ℕ) → takes_chunk one size s c h n ≡ takes_chunk other size s c h n
  same_chunk h zero = refl
  same_chunk h (suc n) = cc (same.tests, same.lists ((s.client c).begun - 1))

  same_act : (act : Act) → client_step one size s c act ≡ client_step other size s c act
  same_act Reserve = same_reserve (s.client c).stage
  same_act (Send h parcel) = cc (same.tests, same.lists ((s.client c).begun - 1))
  same_act (Await h) = same_get h (s.up c h)
  same_act (NeedChunk h) = same_chunk h (s.spare c h)
  same_act Finished = refl

  same_step : core_step one size s (actor.Client c) ≡ core_step other size s (actor.Client c)
  same_step =
      same_act (act_of (record { dynamic = (one c).dynamic; size = size }) (length (one c).blocks) (s.client c))
      ∙ ap (client_step other size s c) (cc (same.tests, same.count))

-- ---- two codes of one program say the same

longest_same : (bs cs : List BlockCode) → length bs ≡ length cs
    → ((k : ℕ) → (slice_index_or bs k no_code).graph ≡ (slice_index_or cs k no_code).graph) → longest bs ≡ longest cs
longest_same [] [] e same = refl
longest_same [] (c ∷ cs) e same = absurd (omega (arith, e))
longest_same (b ∷ bs) [] e same = absurd (omega (arith, e))
longest_same (b ∷ bs) (c ∷ cs) e same =
    cc (same 0, longest_same bs cs (omega (arith, e)) (λ k. same (suc k)))

bound : (static : Bool) (g : ControlGraph) (binding : List ℕ) (one other : List GraphNode) → IsBoundGraphOf static g binding one
    → IsBoundGraphOf static g binding other → one ≡ other
bound false g binding one other (ns, is, e) (ms, are, f) = e ∙ ap (bound_nodes binding) (is ∙ sym are) ∙ sym f
bound true g binding one other (ns, is, e) (ms, are, f) =
    e ∙ ap (bound_nodes binding) (coalescing_is_unique g ns ms is are) ∙ sym f

module _ (p : ProgramShape) (mode : Mode) (c : ℕ) (one other : ClientCode) (a : IsCodeOf p mode c one) (b : IsCodeOf p mode c other) where
  same_count : length one.blocks ≡ length other.blocks
  same_count = a.count ∙ sym b.count

  -- a block of the program has one list and one graph, as a graph has one coalesced form; past the blocks there is none
  same_block : (k : ℕ) → (k < blocks_of p c) ⊎ (blocks_of p c ≤ k)
      → ((code_at one k).reserved ≡ (code_at other k).reserved) × ((code_at one k).graph ≡ (code_at other k).graph)
  same_block k (inl less) =
      let its = a.blocks k less in
      let others = b.blocks k less in
      (its.reserved ∙ sym others.reserved, bound (is_static mode) _ _ _ _ its.graph others.graph)
  same_block k (inr past) =
      let its : code_at one k ≡ no_code = get_or_past one.blocks k no_code (subst (λ n. n ≤ k) (sym a.count) past) in
      let others : code_at other k ≡ no_code = get_or_past other.blocks k no_code (subst (λ n. n ≤ k) (sym b.count) past) in
      (ap (λ (code : BlockCode). code.reserved) (its ∙ sym others), ap (λ (code : BlockCode). code.graph) (its ∙ sym others))

  says_same : SaysSame one other
  says_same = record {
    tests = a.dynamic ∙ sym b.dynamic;
    count = same_count;
    lists = λ k. (same_block k (cases_lt k (blocks_of p c))).0;
    trees = λ k l.
        let all = longest_same one.blocks other.blocks same_count (λ k. (same_block k (cases_lt k (blocks_of p c))).1) in
        cc ((same_block k (cases_lt k (blocks_of p c))).1, all);
  }

-- ---- two runs

module _ (p : ProgramShape) (mode : Mode) (one other : ℕ → ClientCode) (a : AreCodes p mode one) (b : AreCodes p mode other) (size : ℕ) where
  same_actor : (s : Core) (x : Actor) → names_actor p x ≡ true → core_step one size s x ≡ core_step other size s x
  same_actor s (actor.Client c) named =
      let less = ltb-true c (length p.clients) named in
      same_step one other size s c (says_same p mode c (one c) (other c) (a.own c less) (b.own c less))
  same_actor s (actor.Handler h) named = refl

  same_plays : (actors : List Actor) (s : Core) → all_named p actors ≡ true → core_plays one size actors s ≡ core_plays other size actors s
  same_plays [] s named = refl
  same_plays (x ∷ xs) s named =
      let both = and_parts (names_actor p x) (all_named p xs) named in
      ap (λ o. core_plays one size xs (or_stay s o)) (same_actor s x both.0) ∙ same_plays xs (or_stay s (core_step other size s x)) both.1

pub determined : RunsAreDetermined
determined p (by_rules picks rounds) one other by a b = a.2 ∙ sym b.2
determined p (on_machine mode size picks rounds) one other by a b =
    let its = a.2 in
    let others = b.2 in
    its.2
    ∙ ap (core_played p)
    (same_plays p mode its.0 others.0 its.1 others.1 size (schedule p picks rounds) (core_begin p)
    (schedule_named p picks rounds a.1))
    ∙ sym others.2
determined p (on_threads mode size) one other by is are = absurd by
