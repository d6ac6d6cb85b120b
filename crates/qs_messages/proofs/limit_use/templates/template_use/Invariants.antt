-- What the items before this one use: no more templates than items.
use Rattle.std.proofs.Common.{◌≡◌, ◌≤◌, fold, take}
use Rattle.qs_messages.specs.Templates.{no_template, with_item}
use Rattle.qs_messages.proofs.limit_use.templates.template_use.Given as goal

abbrev pub invariant-loop-item : goal.invariant-loop-item
invariant-loop-item l = record {
  few : l.used.count ≤ l.item-index;
  so_far : l.used ≡ fold with_item no_template (take l.item-index l.items);
}
