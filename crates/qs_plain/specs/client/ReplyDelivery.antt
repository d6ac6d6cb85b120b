-- A reply that reaches its client.
use Rattle.std.specs.Prelude.{◌≡◌, ℕ, List, Option, ℤ, slice_set}
use Rattle.qs_objects.specs.declared.Request.{Request}
use Rattle.qs_plain.specs.client.ClientMoves.{Replies}
use Rattle.qs_plain.specs.client.Clients.{ClientState, IsClient, client_state_at}

pub record Hears (cs : List ClientState) (c : ℕ) (r : Request) (v : Option ℤ) (later : List ClientState) : Type 0 where
  pub client : ClientState
  pub was : IsClient (client_state_at cs c)
  pub replies : Replies (client_state_at cs c) r v client
  pub changed : later ≡ slice_set cs c client
