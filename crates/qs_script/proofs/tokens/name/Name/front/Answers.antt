use Rattle.std.proofs.Common.{take, ◌∙◌, ap, take-take}
use Rattle.qs_script.proofs.tokens.name.Name.front.Goals as goal

pub returns-in-Some : goal.returns-in-Some
returns-in-Some c = record {
  same = ap (take c.args.end) c.in-Some.ensures.cases.same ∙ take-take c.args.end 16 c.args.text.now c.requires.short;
}
