-- What `Mind::new` makes is the model's `fresh_mind`, and what holds of every mind holds of it. The idea: nothing was
-- begun, so each fact about blocks that were begun is empty, and the counts and traces are as fresh as their
-- constructors say.
use Rattle.std.proofs.Common.{◌≡◌, ℕ, zero, suc, ◌+◌, ◌*◌, ◌≤◌, List, [], ◌∷◌, Option, None, length, map, replicate, get_or, refl, sym, ap, ◌∙◌, subst, arith}
use Rattle.std.proofs.Math.Path.{fun_ext}
use Rattle.std.proofs.lemmas.List.{get_or-map, length-map, length-replicate}
use Rattle.qs_objects.specs.audit.Journals.{HeldState}
use Rattle.qs_objects.specs.declared.held.Event.{Event}
use Rattle.qs_objects.specs.declared.Request.{Request}
use Rattle.qs_program.specs.audit.Values.{Locals}
use Rattle.qs_meaning.specs.audit.Serial.{zeros}
use Rattle.qs_graph.specs.audit.Steps.{limit}
use Rattle.qs_sync_counts.specs.audit.SyncRows.{fresh_rows, no_syncs}
use Rattle.qs_sync_counts.specs.SyncRows.{AreFew, CountsState, counts_state}
use Rattle.qs_sync_counts.proofs.CountRows.{few_none}
use Rattle.qs_syncset.specs.audit.Codes.{BlockCode, ClientCode, no_code}
use Rattle.qs_syncset.specs.Codes.{IsCode}
use Rattle.qs_chunk.specs.audit.Batch.{Batch}
use Rattle.qs_client.specs.run.Beginning.{fresh_run}
use Rattle.qs_client.specs.audit.rules.Client.{between}
use Rattle.qs_client.specs.audit.run.BlockSizes.{longest}
use Rattle.qs_client.specs.run.BlockSizes.{empty_rows, room_for}
use Rattle.qs_client.specs.run.ClientOfRun.{items_of}
use Rattle.qs_client.specs.run.Running.{IsOpen}
use Rattle.qs_objects.specs.Traces.{empty_trace, events_of, trace_state}
use Rattle.qs_chunk.specs.Limits.{largest_chunk}
use Rattle.qs_client.specs.run.RunState.{RunState}
use Rattle.qs_client.specs.declared.rules.outgoing.Outgoing.TheVariants as outgoings
use Rattle.qs_client.specs.SoundMind.{IsSoundMind}
use Rattle.qs_client.specs.audit.ClientModel.{lists_of_code, fresh_mind}
use Rattle.qs_client.specs.MindState.{MindState, mind_of}

none_at : {X : Type 0} (n i : ℕ) (d : X) → get_or (replicate n d) i d ≡ d
none_at (suc n) (suc i) d = none_at n i d
none_at _ _ d = refl

no_events : (blocks : List BlockCode) → events_of (empty_rows blocks) ≡ replicate (length blocks) []
no_events [] = refl
no_events (b ∷ bs) = ap (λ (es : List (List Event)). [] ∷ es) (no_events bs)

-- the data of a mind before its first block, with this run and these entries
abbrev pub fresh_with : ClientCode → ℕ → RunState → List Locals → CountsState → MindState
fresh_with code size run entries counts = record {
  code = code;
  size = size;
  ticket = record { client = 0; index = 0 };
  run = run;
  entries = entries;
  syncs = 0;
  counts = counts;
  outgoing = outgoings.Nothing;
}

abbrev pub fresh_state : ClientCode → ℕ → ℕ → MindState
fresh_state code size room = fresh_with code size (fresh_run code.blocks) [] (counts_state (fresh_rows (lists_of_code code.blocks)) room)

none_sent : (lists : List (List ℕ)) (k : ℕ) → AreFew 1 (get_or (fresh_rows lists) k [])
none_sent [] k = tt
none_sent (hs ∷ lists) zero = few_none 0 hs
none_sent (hs ∷ lists) (suc k) = none_sent lists k

no_nodes : 0 + 0 ≤ 0 * limit
unfolding limit
no_nodes = omega arith

pub fresh_sound : (code : ClientCode) (size room : ℕ) → IsCode code → (1 ≤ size) × (size ≤ largest_chunk) → IsSoundMind (fresh_state code size room)
fresh_sound code size room ok sized = record {
  code = ok;
  size = sized;
  blocks = omega arith;
  rows = length-map (map room_for code.blocks) empty_trace ∙ length-map code.blocks room_for;
  counts = length-replicate {A = ℕ} (longest code.blocks) 0;
  ticket = λ some. absurd (omega (arith, some));
  first = λ none. (refl, refl);
  left = 0;
  few = no_nodes;
  tallies = length-map (lists_of_code code.blocks) no_syncs ∙ length-map code.blocks (λ (b : BlockCode). b.reserved);
  few_each = none_sent (lists_of_code code.blocks);
  standing = record { held = refl; chunks = refl; opened = λ h. subst (IsOpen size) (sym (none_at {X = Option (Batch Request)} 8 h None)) tt };
  gone = tt;
  later = λ k past inside.
      get_or-map empty_trace (map room_for code.blocks) k 0 (trace_state [] 0) (omega (arith, inside, length-map code.blocks room_for))
      ∙ ap empty_trace (get_or-map room_for code.blocks k no_code 0 inside);
}

pub fresh_is : (code : ClientCode) (size room : ℕ) → mind_of (fresh_state code size room) ≡ fresh_mind code size
unfolding mind_of
fresh_is code size room = λ i. record {
  code = code;
  size = size;
  ticket = record { client = 0; index = 0 };
  client = record {
    begun = 0;
    stage = between zeros;
    held = fun_ext (λ h. none_at {X = Option HeldState} 8 h None) i;
    chunk = fun_ext (λ h. ap items_of (none_at {X = Option (Batch Request)} 8 h None)) i;
  };
  entries = [];
  traces = no_events code.blocks i;
  syncs = 0;
  counts = fresh_rows (lists_of_code code.blocks);
  outgoing = outgoings.Nothing;
}
