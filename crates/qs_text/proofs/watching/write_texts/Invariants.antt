-- The texts before this one are written, and nothing new has failed.
use Rattle.std.proofs.Common.{◌≡◌, flat_map, take}
use Rattle.std.specs.Io.KnownBytes.{Appends}
use Rattle.qs_text.proofs.watching.write_texts.Given as goal

abbrev pub invariant-loop-text : goal.invariant-loop-text
invariant-loop-text g l = record {
  written : Appends (g.W.Write.contents l.initial.out) (g.W.Write.contents l.out) (flat_map (λ text. text.now) (take l.text-index l.texts));
  same : l.watch.has_failed ≡ l.initial.watch.has_failed;
}
