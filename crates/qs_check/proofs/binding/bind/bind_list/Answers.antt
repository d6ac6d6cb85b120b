use Rattle.std.proofs.Common.{◌∙◌, map, ap, sym}
use Rattle.std.proofs.lemmas.List.{drop_all}
use Rattle.qs_program.specs.audit.Binding.{bound}
use Rattle.qs_check.proofs.binding.Binds.{first_more, firsts_are, with_firsts}
use Rattle.qs_check.proofs.binding.bind.bind_list.Goals as goal

pub loop-name-preserved : goal.loop-name-preserved
loop-name-preserved c =
    c.loop-name.invariant
    ∙ first_more c.args.binding.now c.args.names.now c.loop-name.name-index c.loop-name-test.true c.loop-name.reserved.items c.add_first.new.reserved.items c.bound.result c.bound.ensures.value c.in_ok-add_first.ensures.added

pub returns : goal.returns
returns c = record {
  list =
      sym (
      sym (firsts_are (map (bound c.args.binding.now) c.args.names.now))
      ∙ c.loop-name.invariant
      ∙ ap (λ ns. with_firsts c.loop-name.reserved.items (map (bound c.args.binding.now) ns)) (drop_all c.loop-name.name-index c.args.names.now c.loop-name-test.false)
      );
}
