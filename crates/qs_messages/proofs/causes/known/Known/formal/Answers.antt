use Rattle.std.proofs.Common.{◌≡◌, ◌∙◌, refl, rules, tests, Option, Some, None, option_map}
use Rattle.std.proofs.lemmas.Iterator.{YieldsList-from_slice}
use Rattle.std.proofs.lemmas.Iterator.Consumers.{nth_from_yields_List, YieldsList-from_copied, YieldsList-from_filter}
use Rattle.qs_messages.specs.Knowns.{is_of}
use Rattle.qs_messages.proofs.causes.known.Known.formal.Goals as goal

same : {A : Type 0} (r : Option A) → r ≡ option_map (λ x. x) r
same None = refl
same (Some x) = refl

pub returns : goal.returns
returns c = record {
  exact = same c.nth.result ∙ nth_from_yields_List c.nth.result c.nth.new.self c.args.place c.nth.ensures.ran
      (YieldsList-from_filter _ (is_of c.args.template) (YieldsList-from_copied (YieldsList-from_slice c.args.self.now.formals.items (cc))) c.filter.ensures.closure (λ x r q k. search (rules, tests)));
}
