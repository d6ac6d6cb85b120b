-- What `Run::take_object` and `Run::take_chunk` do is what the model does as an object or an empty chunk comes
-- (`HasGot`, `HasTaken`), and the client then stood where it may come. The code finds the stage or the node in its
-- data, while the caller knows only the client's next act; so it is shown first that an act that sends nothing names
-- the stage: who awaits an object is at the stage `Awaits`, who needs a chunk is at a command, and who reserves is
-- between blocks.
use Rattle.std.proofs.Common.{◌≡◌, ℕ, zero, suc, ◌<◌, ◌≤◌, Bool, true, false, nat_lt, if◌then◌else◌, Option, Some, None, List, [], length, length-set, get_or, refl, sym, ap, ◌∙◌, subst, arith}
use Rattle.std.proofs.lemmas.Bool.{ltb-true}
use Rattle.qs_objects.specs.audit.Journals.{HeldState}
use Rattle.qs_objects.specs.declared.held.Ticket.{Ticket}
use Rattle.qs_objects.specs.declared.Request.{Request}
use Rattle.qs_program.specs.audit.Values.{request_of}
use Rattle.qs_program.specs.declared.code.Call as calls
use Rattle.qs_meaning.specs.audit.Solo.{put}
use Rattle.qs_graph.specs.audit.Steps.{limit}
use Rattle.qs_graph.specs.audit.Synced.{Synced}
use Rattle.qs_graph.specs.declared.node.Node.{Node}
use Rattle.qs_graph.specs.audit.Walk.{Spot, Move, Calls, Syncs, at_node, move, move_by, tree_of_move, walk}
use Rattle.qs_graph.specs.Walk.{Within}
use Rattle.qs_graph.specs.WellFormed.{IsGraph}
use Rattle.qs_graph.proofs.Saying.{walk_up}
use Rattle.qs_graph.specs.audit.Nodes as places
use Rattle.qs_graph.specs.declared.node.Node.TheVariants as nodes
use Rattle.qs_syncset.specs.audit.Codes.{BlockCode}
use Rattle.qs_syncset.specs.SoundSynced.{IsSoundSynced}
use Rattle.qs_chunk.specs.audit.Batch.{batch}
use Rattle.qs_chunk.specs.declared.parcel.Parcel.TheVariants as parcels
use Rattle.qs_client.specs.run.NextActs.{Wants, with_holdings, SendsNothing}
use Rattle.qs_client.specs.audit.rules.Client.{Client, Settings, act_at, act_of, call_act, clear, take_object, rest_act, take_chunk, settle}
use Rattle.qs_client.specs.run.Holdings.{holding_at, holding, chunk_at, with_held, with_chunk}
use Rattle.qs_objects.specs.Traces.{trace_at}
use Rattle.qs_program.specs.audit.Limits.{most_handlers, most_objects}
use Rattle.qs_client.specs.run.ClientOfRun.{HasSettled, client_of_run, items_of, progress_after, stage_by, stage_of}
use Rattle.qs_client.specs.run.Running.{IsAwaiting, IsOpen, IsRunning, IsLoud}
use Rattle.qs_client.specs.run.BetweenActs.{HasGot, HasTaken, IsStanding}
use Rattle.qs_client.specs.audit.rules.Outgoings.{outgoing_of}
use Rattle.qs_client.specs.declared.rules.act.Act.{Act}
use Rattle.qs_client.specs.run.RunState.{RunState}
use Rattle.qs_client.specs.declared.run.stage.Stage.{Stage}
use Rattle.qs_client.proofs.run.StepRefinement.{IsAmongEight, among_eight, standing_of}
use Rattle.qs_client.proofs.run.StepAtNode.{moves}
use Rattle.qs_client.proofs.run.HoldingsAsFunctions.{chunk_each, held_put, holding_put, items_put}
use Rattle.qs_client.proofs.run.InBlock.{held_in_block}
use Rattle.qs_client.specs.declared.rules.act.Act.TheVariants as acts
use Rattle.qs_client.specs.declared.rules.outgoing.Outgoing.TheVariants as outgoings
use Rattle.qs_client.specs.declared.run.stage.Stage.TheVariants as stages

clears_other : (settings : Settings) (h : ℕ) (x : Option HeldState) (c : Option (List Request)) (other given : Act) → SendsNothing given
    → clear settings h x c other ≡ given → other ≡ given
clears_other settings h None None other given quiet e = e
clears_other settings h _ _ other given quiet e = absurd (subst SendsNothing (sym e) quiet)

call_other : (settings : Settings) (h : ℕ) (x : Option HeldState) (c : Option (List Request)) (given : Act) → SendsNothing given
    → call_act settings h x c ≡ given → acts.NeedChunk h ≡ given
call_other settings h None None given quiet e = e
call_other settings h _ _ given quiet e = absurd (subst SendsNothing (sym e) quiet)

-- between blocks a client reserves or has ended
abbrev between_act : Bool → Act
between_act t = if t then acts.Reserve else acts.Finished

between_waits : (t : Bool) (g : ℕ) → between_act t ≡ acts.Await g → ⊥
between_waits true g e = cc
between_waits false g e = cc

between_needs : (t : Bool) (g : ℕ) → between_act t ≡ acts.NeedChunk g → ⊥
between_needs true g e = cc
between_needs false g e = cc

between_reserves : (t : Bool) → between_act t ≡ acts.Reserve → t ≡ true
between_reserves true e = refl
between_reserves false e = cc

between_leaves : (t : Bool) → outgoing_of (between_act t) ≡ outgoings.Nothing
between_leaves true = refl
between_leaves false = refl

-- a client that wants a chunk for h stands at a call
pub record IsAtCall (g : List places.GraphNode) (s : RunState) (h : ℕ) : Type 0 where
  pub stands : s.stage ≡ stages.Runs
  pub request : Request
  pub to : Spot
  pub is : move g s.position ≡ Calls request to
  pub same : request.object ≡ h

pub node_inside : (g : List places.GraphNode) (n : ℕ) (s : Spot) → Within g n s → s.node < length g
node_inside g zero s w = absurd w
node_inside g (suc n) s w = w.0

-- a call's request is the node's
pub call_here : (g : List places.GraphNode) (s : RunState) (h : ℕ) (call : calls.Call) → (places.place_at g s.position.node).node ≡ nodes.Call call → IsAtCall g s h
    → call.object ≡ h
call_here g s h call is w =
    let same : Calls (request_of s.position.locals call) (at_node s.position (places.first_target (places.place_at g s.position.node))) ≡ Calls w.request w.to =
    sym (moves g s.position (nodes.Call call) is) ∙ w.is in
    let request : request_of s.position.locals call ≡ w.request = cc in
    ap (λ (r : Request). r.object) request ∙ w.same

pub eight_here : (g : List places.GraphNode) (n : ℕ) (s : RunState) (call : calls.Call) → IsGraph g → Within g n s.position
    → (places.place_at g s.position.node).node ≡ nodes.Call call → call.object < most_objects
eight_here g n s call ok within is = subst IsAmongEight (moves g s.position (nodes.Call call) is) (among_eight g s.position ok (node_inside g n s.position within))

no_call : (v : Node) (s t : Spot) (a b : ℕ) (r : Request) → move_by v s a b ≡ Calls r t → ((x : calls.Call) → v ≡ nodes.Call x → ⊥) → ⊥
no_call (nodes.Call d) s t a b r e other = other d refl
no_call _ s t a b r e other = cc

-- a client stands at a call where its node is one
pub is_call : (g : List places.GraphNode) (s : RunState) (h : ℕ) → IsAtCall g s h → ((x : calls.Call) → (places.place_at g s.position.node).node ≡ nodes.Call x → ⊥) → ⊥
is_call g s h w other =
    let p = places.place_at g s.position.node in
    no_call p.node s.position w.to (places.first_target p) (places.second_target p) w.request (sym (moves g s.position p.node refl) ∙ w.is) other

module _ (b : BlockCode) (settings : Settings) (ticket : Ticket) (blocks begun most : ℕ) (s : RunState) where
  abbrev c : Client
  c = client_of_run b.graph b.reserved begun s

  -- at its node a client that sends nothing needs a chunk
  quiet_by : (n : ℕ) (m : Move) (given : Act) → SendsNothing given → s.stage ≡ stages.Runs → move b.graph s.position ≡ m → IsLoud m
      → rest_act settings c (tree_of_move (walk b.graph n) s.position.locals m) ≡ given → (h : ℕ) × (given ≡ acts.NeedChunk h) × IsAtCall b.graph s h
  quiet_by n (Calls r t) given quiet stands is loud e = (
    r.object,
    sym (call_other settings r.object (holding_at s.holdings r.object) (items_of (chunk_at s.holdings r.object)) given quiet e),
    record { stands = stands; request = r; to = t; is = is; same = refl },
  )
  quiet_by n (Syncs g t) given quiet stands is loud e =
      absurd
      (subst SendsNothing
      (sym (clears_other settings g (holding_at s.holdings g) (items_of (chunk_at s.holdings g)) (acts.Send g parcels.Sync) given quiet e)) quiet)
  quiet_by n _ given quiet stands is loud e = absurd loud

  quiet_running : (n : ℕ) (given : Act) → SendsNothing given → s.stage ≡ stages.Runs → IsRunning b.graph settings.size ticket.index n s → IsLoud (move b.graph s.position)
      → rest_act settings c (walk b.graph limit s.position) ≡ given → (h : ℕ) × (given ≡ acts.NeedChunk h) × IsAtCall b.graph s h
  quiet_running zero given quiet stands w loud e = absurd w.within
  quiet_running (suc n) given quiet stands w loud e =
      quiet_by n (move b.graph s.position) given quiet stands refl loud
      (ap (rest_act settings c) (sym (walk_up b.graph (suc n) limit s.position w.few w.within)) ∙ e)

  -- where a client stands that sends nothing
  abbrev pub IsQuietAt : Act → Stage → Type 0
  IsQuietAt given stages.Between = between_act (nat_lt begun blocks) ≡ given
  IsQuietAt given stages.Runs = (h : ℕ) × (given ≡ acts.NeedChunk h) × IsAtCall b.graph s h
  IsQuietAt given (stages.Full g) = acts.Finished ≡ given
  IsQuietAt given (stages.Awaits g) = acts.Await g ≡ given
  IsQuietAt given (stages.Leaves i) = ⊥

  quiet_at : (given : Act) (stage : Stage) → SendsNothing given → s.stage ≡ stage → IsStanding b settings.size ticket.index most s stage
      → act_at settings blocks c (stage_by stage b.reserved (walk b.graph limit s.position) s.position.locals) ≡ given → IsQuietAt given stage
  quiet_at given stages.Runs quiet stands w e = quiet_running w.0 given quiet stands w.2 w.3 e
  quiet_at given (stages.Full g) quiet stands w e = clears_other settings g None (items_of (chunk_at s.holdings g)) acts.Finished given quiet e
  quiet_at given (stages.Leaves i) quiet stands w e =
      let g = get_or b.reserved i 0 in
      subst SendsNothing
      (sym (clears_other settings g (holding_at s.holdings g) (items_of (chunk_at s.holdings g)) (acts.Send g parcels.End) given quiet e)) quiet
  quiet_at given _ quiet stands w e = e

  waits_at : (h : ℕ) (stage : Stage) → IsQuietAt (acts.Await h) stage → stage ≡ stages.Awaits h
  waits_at h stages.Between w = absurd (between_waits (nat_lt begun blocks) h w)
  waits_at h stages.Runs w = let no : acts.Await h ≡ acts.NeedChunk w.0 = w.1 in cc
  waits_at h (stages.Leaves i) w = absurd w
  waits_at h _ w = cc

  needs_at : (h : ℕ) (stage : Stage) → IsQuietAt (acts.NeedChunk h) stage → IsAtCall b.graph s h
  needs_at h stages.Between w = absurd (between_needs (nat_lt begun blocks) h w)
  needs_at h stages.Runs w = subst (IsAtCall b.graph s) (let same : acts.NeedChunk h ≡ acts.NeedChunk w.0 = w.1 in cc) w.2
  needs_at h (stages.Leaves i) w = absurd w
  needs_at h _ w = absurd (cc)

  reserves_at : (stage : Stage) → IsQuietAt acts.Reserve stage → (stage ≡ stages.Between) × (nat_lt begun blocks ≡ true)
  reserves_at stages.Between w = (refl, between_reserves (nat_lt begun blocks) w)
  reserves_at stages.Runs w = absurd (let no : acts.Reserve ≡ acts.NeedChunk w.0 = w.1 in cc)
  reserves_at (stages.Leaves i) w = absurd w
  reserves_at _ w = absurd (cc)

  pub awaits_here : (h : ℕ) → Wants b settings blocks ticket.index begun most s (acts.Await h) → s.stage ≡ stages.Awaits h
  awaits_here h w = waits_at h s.stage (quiet_at (acts.Await h) s.stage tt refl w.standing w.act)

  pub at_call : (h : ℕ) → Wants b settings blocks ticket.index begun most s (acts.NeedChunk h) → IsAtCall b.graph s h
  at_call h w = needs_at h s.stage (quiet_at (acts.NeedChunk h) s.stage tt refl w.standing w.act)

  pub reserves_here : Wants b settings blocks ticket.index begun most s acts.Reserve → (s.stage ≡ stages.Between) × (begun < blocks)
  reserves_here w =
      let at = reserves_at s.stage (quiet_at acts.Reserve s.stage tt refl w.standing w.act) in (at.0, ltb-true begun blocks at.1)

  -- between blocks nothing is outgoing
  pub nothing_between : (given : Act) → s.stage ≡ stages.Between → given ≡ act_of settings blocks c → outgoing_of given ≡ outgoings.Nothing
  nothing_between given stands e =
      ap outgoing_of e
      ∙ (λ i. outgoing_of (act_at settings blocks c (stage_by (stands i) b.reserved (walk b.graph limit s.position) s.position.locals)))
      ∙ between_leaves (nat_lt begun blocks)

  -- with the object that came
  pub object_running : (n h : ℕ) (x : HeldState) → IsAwaiting b.graph settings.size ticket.index n h s
      → IsRunning b.graph settings.size ticket.index n (with_holdings s (with_held s.holdings h (Some x)))
  object_running n h x w =
      let room : h < length s.holdings.held = omega (arith, w.handler, w.in_block.held) in
      let new = with_held s.holdings h (Some x) in
      held_in_block b.graph ticket.index (put (holding s.holdings) h true) (holding new) (λ h c. IsOpen settings.size c) (λ h c. IsOpen settings.size c) s s.stage n new w.in_block
      (subst (λ f. IsSoundSynced f (walk b.graph n s.position)) (sym (holding_put s.holdings h (Some x) room)) w.in_block.sound)
      (length-set s.holdings.held h (Some x) ∙ w.in_block.held) w.in_block.chunks w.in_block.opened

  pub object_comes : (n h : ℕ) (x : HeldState) (new : RunState) → s.stage ≡ stages.Awaits h → n ≤ most → IsAwaiting b.graph settings.size ticket.index n h s
      → HasSettled b.graph settings ticket b.reserved begun (stage_of b.graph b.reserved s) n (with_holdings s (with_held s.holdings h (Some x))) new
      → HasGot b settings ticket begun most x s new
  object_comes n h x new stands few w done = record {
    standing = standing_of b settings.size ticket.index n most new new.stage few done.stopped;
    rows = done.rows;
    counts = done.counts;
    same =
        let tr = (trace_at s.traces ticket.index).events in
        let rest = walk b.graph limit s.position in
        let goes = λ (tree : Synced) (held : ℕ → Option HeldState). progress_after tr (settle settings ticket b.reserved tree
        (record { begun = begun; stage = stage_of b.graph b.reserved s; held = held; chunk = λ j. items_of (chunk_at s.holdings j) })) in
        (λ i. progress_after tr (take_object settings ticket b.reserved c x (stage_by (stands i) b.reserved rest s.position.locals)))
        ∙ ap (λ (tree : Synced). goes tree (put (holding_at s.holdings) h (Some x))) (walk_up b.graph n limit s.position w.in_block.few w.in_block.within)
        ∙ ap (goes (walk b.graph n s.position)) (sym (held_put s.holdings h (Some x) (omega (arith, w.handler, w.in_block.held))))
        ∙ done.same;
  }

  -- with the empty chunk that came
  pub chunk_running : (n h : ℕ) → h < most_handlers → 0 < settings.size → IsRunning b.graph settings.size ticket.index n s
      → IsRunning b.graph settings.size ticket.index n (with_holdings s (with_chunk s.holdings h (Some (batch [] settings.size))))
  chunk_running n h eight some w =
      let chunk = Some (batch [] settings.size) in
      held_in_block b.graph ticket.index (holding s.holdings) (holding s.holdings) (λ h c. IsOpen settings.size c) (λ h c. IsOpen settings.size c) s s.stage n (with_chunk s.holdings h chunk) w
      w.sound w.held (length-set s.holdings.chunks h chunk ∙ w.chunks)
      (chunk_each (λ j x. IsOpen settings.size x) s.holdings h chunk (omega (arith, eight, w.chunks)) (refl, omega (arith, some)) (λ j other. w.opened j))

  pub chunk_comes : (n h : ℕ) (new : RunState) → s.stage ≡ stages.Runs → n ≤ most → h < most_handlers → IsRunning b.graph settings.size ticket.index n s
      → HasSettled b.graph settings ticket b.reserved begun (stage_of b.graph b.reserved s) n
      (with_holdings s (with_chunk s.holdings h (Some (batch [] settings.size)))) new
      → HasTaken b settings ticket begun most h s new
  chunk_comes n h new stands few eight w done = record {
    standing = standing_of b settings.size ticket.index n most new new.stage few done.stopped;
    rows = done.rows;
    counts = done.counts;
    same =
        let tr = (trace_at s.traces ticket.index).events in
        let rest = walk b.graph limit s.position in
        let goes = λ (tree : Synced) (chunk : ℕ → Option (List Request)). progress_after tr (settle settings ticket b.reserved tree
        (record { begun = begun; stage = stage_of b.graph b.reserved s; held = holding_at s.holdings; chunk = chunk })) in
        (λ i. progress_after tr (take_chunk settings ticket b.reserved c h (stage_by (stands i) b.reserved rest s.position.locals)))
        ∙ ap (λ (tree : Synced). goes tree (put (λ j. items_of (chunk_at s.holdings j)) h (Some []))) (walk_up b.graph n limit s.position w.few w.within)
        ∙ ap (goes (walk b.graph n s.position)) (sym (items_put s.holdings h (Some (batch [] settings.size)) (omega (arith, eight, w.chunks))))
        ∙ done.same;
  }
