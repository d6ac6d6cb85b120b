use Rattle.std.proofs.Common.{ap, codes, decimal}
use Rattle.std.proofs.lemmas.Result.{on_ok_weaker}
use Rattle.qs_json.specs.audit.Pieces.{field}
use Rattle.qs_text.proofs.Parts.{named, then}
use Rattle.qs_json.proofs.graphs.BlockJsonBlockWriter.put_head.Goals as goal

pub returns : goal.returns
returns c = record { ok = on_ok_weaker c.put_count.result (λ e. (then c.in_ok-put_client_name.ensures.ok (named (ap (λ n. field (codes "block") (decimal n)) c.from.ensures) e)).is) c.put_count.ensures.ok }
