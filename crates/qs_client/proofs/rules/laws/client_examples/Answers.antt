use Rattle.std.proofs.Common.{refl}
use Rattle.qs_client.proofs.rules.laws.client_examples.Goals as goal

pub returns : goal.returns
returns c = record {
  examples = record {
    command = record { first = refl; second = refl; third = refl; fourth = refl; fifth = refl; trace = refl };
    full_chunk = record { full = refl; next = refl };
    query = λ x. record { sync = refl; await = refl; home = refl; again = refl; kept = refl; end = refl };
  };
}
