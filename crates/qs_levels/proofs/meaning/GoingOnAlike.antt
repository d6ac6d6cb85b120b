-- Orders that lead to one configuration go on alike: what comes after an order is legal, complete and comes to what it
-- comes to by the configuration alone to which the order leads.
use Rattle.std.proofs.Common.{◌≡◌, ◌∙◌, List, ◌++◌, rules, sym, ap, subst}
use Rattle.qs_levels.proofs.Common.{complete_orders_leave_none, Configuration, configuration-append, configuration_after, configuration_from, configurations_follow_orders, first_configuration, IsComplete, IsLegal, legal-join, legal-rest, LegalFrom, outcome_in, ProgramShape, Ticket}
use Rattle.qs_levels.specs.meaning.Joining.{EqualConfigurationsGoOnAlike}

there_alike : (p : ProgramShape) (one other rest : List Ticket) → configuration_after p one ≡ configuration_after p other
    → configuration_after p (one ++ rest) ≡ configuration_after p (other ++ rest)
there_alike p one other rest same = search (rules, configuration-append)

pub equal_configurations_go_on_alike : EqualConfigurationsGoOnAlike
equal_configurations_go_on_alike p one other legal_one legal_other same rest =
    let there = there_alike p one other rest same in
    let legal : IsLegal p (one ++ rest) → IsLegal p (other ++ rest) = λ whole. legal-join p (first_configuration p) other rest legal_other
    (subst (λ (g : Configuration). LegalFrom p g.begun rest) same (legal-rest p (first_configuration p) one rest whole)) in
    record {
      legal = legal;
      there = there;
      complete = λ whole. (complete_orders_leave_none p (other ++ rest) (legal whole.legal)).1
          (λ c. ap (λ (g : Configuration). g.begun c) (sym there) ∙ (complete_orders_leave_none p (one ++ rest) whole.legal).0 whole c);
      end = λ whole. sym (configurations_follow_orders p (one ++ rest) whole.legal)
          ∙ (ap outcome_in there ∙ configurations_follow_orders p (other ++ rest) (legal whole.legal));
    }
