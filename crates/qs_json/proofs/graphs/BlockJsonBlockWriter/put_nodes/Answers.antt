use Rattle.std.proofs.lemmas.Result.{on_ok_weaker}
use Rattle.qs_text.proofs.Parts.{then}
use Rattle.qs_json.proofs.graphs.BlockJsonBlockWriter.put_nodes.Goals as goal

pub returns : goal.returns
returns c = record { ok = on_ok_weaker c.put_word-3.result (λ e. (then (then (then c.in_ok-put_word.ensures.ok c.in_ok-put_all_nodes.ensures.ok) c.in_ok-put_word-2.ensures.ok) e).is) c.put_word-3.ensures.ok }
