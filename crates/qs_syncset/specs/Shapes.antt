-- How a proof tells codes apart.
use Rattle.std.specs.Prelude.{ℕ, Bool, List, refl}
use Rattle.std.specs.Coded.{Coded, code_by, coded×, coded_list, coded_ℕ, coded_bool}
use Rattle.qs_graph.specs.audit.Nodes.{GraphNode}
use Rattle.qs_graph.specs.Shapes.{place_code}
use Rattle.qs_syncset.specs.audit.Codes.{BlockCode, ClientCode}

abbrev pub coded_block : Coded BlockCode
coded_block = code_by (List ℕ × (List GraphNode × List ℕ))
    (coded× (coded_list coded_ℕ) (coded× (coded_list place_code) (coded_list coded_ℕ)))
    (λ b. (b.reserved, (b.graph, b.loads))) (λ p. record { reserved = p.0; graph = p.1.0; loads = p.1.1 }) (λ _. refl)

abbrev pub coded_client : Coded ClientCode
coded_client = code_by (Bool × List BlockCode) (coded× coded_bool (coded_list coded_block))
    (λ c. (c.dynamic, c.blocks)) (λ p. record { dynamic = p.0; blocks = p.1 }) (λ _. refl)
