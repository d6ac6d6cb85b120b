use Rattle.std.proofs.lemmas.Result.{on_ok_weaker}
use Rattle.qs_text.proofs.Parts.{then}
use Rattle.qs_svg.proofs.words.put_spaced_args.Goals as goal

pub returns : goal.returns
returns c = record { ok = on_ok_weaker c.put_args.result (λ e. then (rw c.gap.ensures.gap at c.in_ok-put_word.ensures.ok) (record { is = e })) c.put_args.ensures.ok }
