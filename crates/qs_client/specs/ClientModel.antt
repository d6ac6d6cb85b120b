-- Beside what the headline reaches (`audit/ClientModel.antt`): what else contracts and proofs use.
use Rattle.std.specs.Prelude.{◌≡◌, ℕ, ◌-◌, if◌then◌else◌}
use Rattle.qs_client.specs.audit.rules.Client.{Client}
use Rattle.qs_client.specs.rules.ClientLaws.{with_act}
use Rattle.qs_client.specs.declared.rules.act.Act.{Act}
use Rattle.qs_client.specs.declared.rules.outgoing.Outgoing.TheVariants as outgoings
use Rattle.qs_client.specs.audit.ClientModel.{ClientModel, act_due, is_between}

-- with what the act carries again
abbrev pub with_act_again : ClientModel → Act → ClientModel
with_act_again m act = record m { client = with_act m.client act; outgoing = outgoings.Nothing }

-- the last act, of which nothing is outgoing, asks for something to come
abbrev pub Asks : ClientModel → Act → Type 0
Asks m act = (m.outgoing ≡ outgoings.Nothing) × (act_due m ≡ act)

-- how many blocks have ended: the last End of each was sent
abbrev pub blocks_ended : Client → ℕ
blocks_ended m = if is_between m.stage then m.begun else m.begun - 1
